-- `boolean` meets its contract.
use mathlib.Core.Path.{sym, ◌∙◌}
use Rattle.answers.specs.Rules.{or_some, or-none}
use Rattle.parts.proofs.boolean.Goals as goal

pub returns-then-is_some : goal.returns-then-is_some
returns-then-is_some c = or_some c.eat_as-yes.result (sym c.is_some.ensures ∙ c.if-is_some.true) c.eat_as-yes.ensures

pub returns : goal.returns
returns c = or-none c.eat_as-yes.result (sym c.is_some.ensures ∙ c.if-is_some.false) c.eat_as-yes.ensures c.eat_as.ensures
