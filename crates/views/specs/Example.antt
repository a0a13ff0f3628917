-- The nodes of `const a = 1;` as 01 prints them ("Cases"), and what views tell of them.
use Rattle.std.specs.Prelude.{◌≡◌, refl, List, [], ◌∷◌, ℕ}
use Rattle.words.specs.Refusal
use Rattle.words.specs.Words.{high, low}
use Rattle.looking.specs.View.{Seen, is, none, refused, and_then, look, sound, of, nth, counted}
use Rattle.expr.specs.Expr.{peel, asked, whole}
use Rattle.views.specs.Declarations.{file_def, file_def_count, const_decl_name, const_decl_type, const_decl_assign}

-- head, first token, end token, next sibling, first child, parent
abbrev nodes : List ℕ
nodes =
    0 ∷ 0 ∷ 8 ∷ 0 ∷ 1 ∷ 0 ∷
    67108864 ∷ 0 ∷ 8 ∷ 0 ∷ 2 ∷ 0 ∷
    2415919106 ∷ 2 ∷ 3 ∷ 3 ∷ 0 ∷ 1 ∷
    2214592512 ∷ 6 ∷ 7 ∷ 0 ∷ 0 ∷ 1 ∷ []

abbrev answers : List (Seen ℕ)
answers =
    file_def 0 nodes 0 ∷ file_def 1 nodes 0 ∷ file_def_count nodes 0 ∷
    const_decl_name nodes 1 ∷ const_decl_type nodes 1 ∷ const_decl_assign nodes 1 ∷
    const_decl_name nodes 0 ∷ const_decl_name nodes 4 ∷ []

abbrev expected : List (Seen ℕ)
expected = is 1 ∷ none ∷ is 1 ∷ is 2 ∷ none ∷ is 3 ∷ none ∷ refused Refusal.AlteredNodes 4 ∷ []

pub example : answers ≡ expected
unfolding and_then look sound of nth counted peel asked whole high low
example = refl
