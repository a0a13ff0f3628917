-- The tree of `const a = 1;` with the numbers that 01 prints ("Cases"), and what it says: the answers that views give of its words.
use Rattle.std.specs.Prelude.{◌≡◌, refl, List, [], ◌∷◌, ℕ}
use Rattle.std.proofs.Math.Option as Option
use Rattle.words.specs.Node
use Rattle.chart.specs.Tree.{flags, name, number}
use Rattle.looking.specs.View.{Seen, is, none}
use Rattle.expr.specs.Expr.{asked}
use Rattle.viewed.specs.Numbered.{Label, Place, place, empty, from, wanted, wanted_from, ith, peeled, peeled_first}
use Rattle.viewed.specs.Query.{Query, told, on_tree, answer}
use Rattle.viewed.specs.Query as Query
use Rattle.viewed.specs.Questions.{nth_of, count_of, name_of, type_of, value_of}

abbrev labelled : ℕ → ℕ → ℕ → ℕ → Label
labelled n first end source = record { number = n; first = first; end = end; source = source }

abbrev one : Place
one = place (labelled 3 6 7 0) Node.NumLiteral (number 1) empty empty

abbrev constant : Place
constant = place (labelled 1 0 8 0) Node.ConstDecl (flags 0) (from (place (labelled 2 2 3 2) Node.Identifier (name (97 ∷ [])) empty (from one))) empty

abbrev file : Place
file = place (labelled 0 0 8 0) Node.File (flags 0) (from constant) empty

abbrev answers : List (Seen ℕ)
answers =
    answer Query.node (on_tree (nth_of Node.File Node.File Node.File Node.Error 0) file) ∷
    answer Query.node (on_tree (nth_of Node.File Node.File Node.File Node.Error 1) file) ∷
    answer Query.number (on_tree (count_of Node.File Node.File Node.File Node.Error) file) ∷
    answer Query.number (on_tree (name_of Node.ConstDecl Node.ConstDecl 0) constant) ∷
    answer Query.node (on_tree (type_of Node.ConstDecl) constant) ∷
    answer Query.node (on_tree (value_of Node.ConstDecl) constant) ∷
    answer Query.number (on_tree (name_of Node.ConstDecl Node.ConstDecl 0) file) ∷ []

pub example : answers ≡ is 1 ∷ none ∷ is 1 ∷ is 2 ∷ none ∷ is 3 ∷ none ∷ []
unfolding answer told wanted wanted_from ith peeled peeled_first asked Option.bind
example = refl
