-- The parts of the readers of a group, and what they answer as the definition has it.
use Rattle.std.specs.Prelude.{◌≡◌, ℕ, ◌+◌, eqb, Option, Some, None}
use Rattle.std.proofs.Math.Option as Math
use Rattle.words.specs.Token
use Rattle.words.specs.Report
use Rattle.literals.specs.declared.Span.{Span}
use Rattle.definition.specs.declared.Unfinished.{Unfinished}
use Rattle.definition.specs.Prog.{Prog, Act, give, ◌>>=◌, ◌>>◌, loop, when, before, emit}
use Rattle.definition.specs.Tokens.{check, if_eat◌then◌else◌}
use Rattle.definition.specs.Nodes.{push_child, expect_ident}
use Rattle.definition.specs.Declarations.{Group, path_turn, parse_import_group_item, group_item}
use Rattle.reading.specs.declared.parser.Parser.{Parser}
use Rattle.reading.specs.Does.{Does}

abbrev pub group_of : Unfinished → ℕ → Group
group_of node count = record { node = node; count = count }

-- A group of n items after one more was looked for.
abbrev pub grown : Option Unfinished → ℕ → Math.Option Group
grown (Some node) n = Math.some (group_of node (n + 1))
grown None n = Math.none

-- What is done to a group, however many items it has.
pub record Grows (g : Unfinished) (p : Parser) (it : Option Unfinished) (p' : Parser) : Type 0 where
  pub is : (n : ℕ) → Does (group_item (group_of g n)) p (grown it n) p'

module _ {g : Unfinished} {p p' : Parser} {it : Option Unfinished} (n : ℕ) (h : Grows g p it p') where
  pub item-found : {u : Unfinished} → it ≡ Some u → Does (group_item (group_of g n)) p (Math.some (group_of u (n + 1))) p'
  item-found e = rw e at (h.is n)

  pub item-missing : it ≡ None → Does (group_item (group_of g n)) p Math.none p'
  item-missing e = rw e at (h.is n)

abbrev pub path_in_group : Span → Act
path_in_group place = do
  path ← check Token.DoubleColon
  when path do
    loop tt path_turn
    emit Report.PathInGroup 0 place

abbrev pub with_alias : Unfinished → Prog Unfinished
with_alias item =
    if_eat Token.As then (do
      alias ← expect_ident
      push_child item alias)
    else give item

abbrev pub star_in_group : Act
star_in_group = do
  place ← before
  emit Report.StarInGroup 0 place

abbrev pub with_item : Unfinished → Prog Unfinished
with_item g = do
  item ← parse_import_group_item
  push_child g item

abbrev pub tell_count : ℕ → Span → Act
tell_count count brace = do
  when (eqb count 0) (emit Report.EmptyGroup 0 brace)
  when (eqb count 1) (emit Report.NeedlessBraces 0 brace)
