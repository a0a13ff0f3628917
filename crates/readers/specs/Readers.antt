-- What the readers' contracts say beside the definition's programs.
use Rattle.std.specs.Prelude.{cond, ℕ}
use Rattle.std.proofs.Math.Option.{Option}
use Rattle.words.specs.Token
use Rattle.definition.specs.declared.Mode.TheVariants.{AllowAll}
use Rattle.definition.specs.declared.Unfinished.{Unfinished}
use Rattle.definition.specs.Prog.{Turn, Prog, ◌>>=◌, ◌>>◌, position}
use Rattle.definition.specs.Tokens.{if_eat◌then◌else◌, if_check◌then◌else◌, expect}
use Rattle.definition.specs.Nodes.{push_child}
use Rattle.definition.specs.Expressions.{parse_expr, block_here, ElseIfs, fallback_arm, keyed_arm, Members, field_turn, no_member_turn}
use Rattle.reading.specs.declared.parser.Parser.{Parser}
use Rattle.words.specs.declared.refusal.Refusal.TheVariants.{TooDeep}
use Rattle.reading.specs.Standing.{is_refused, refused_at}
use Rattle.answers.specs.declared.Longer.{Longer}
use Rattle.answers.specs.Steps.{end_arm, arm_turn}

-- A refusal, unless there was one before.
abbrev pub too_deep : Parser → Parser
too_deep p = cond (is_refused p) p (refused_at p TooDeep)

-- What follows an expression that no `{` goes on from: its block.
abbrev pub tail_of : Unfinished → ℕ → Prog Unfinished
tail_of u test = do
  u ← push_child u test
  body ← block_here
  push_child u body

abbrev pub else_ifs : Unfinished → Option ℕ → ElseIfs
else_ifs list else_body = record { list = list; else_body = else_body }

-- A member that is no method.
abbrev pub field_or_none : Members → Prog (Turn Members)
field_or_none s = if_check Token.Identifier then field_turn s else no_member_turn s

-- An arm up to its `=>`, and an arm with what tells whether the loop goes on.
abbrev pub arm_head : ℕ → Prog Unfinished
arm_head start = if_eat Token.Else then fallback_arm start else keyed_arm

abbrev pub arm_rest : Unfinished → Prog (Turn Unfinished)
arm_rest arms = do
  start ← position
  arm ← arm_head start
  expect Token.FatArrow
  body ← parse_expr AllowAll
  end_arm arm body arms

abbrev pub arm_turn_of : Longer → Turn Unfinished
arm_turn_of a = arm_turn a.on a.it
