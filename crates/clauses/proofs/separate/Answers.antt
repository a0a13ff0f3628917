-- `separate` meets its contract.
use mathlib.Core.Path.{sym, ◌∙◌}
use Rattle.reading.specs.Does.{then, gives, when_true, when_false}
use Rattle.clauses.proofs.separate.Goals as goal

pub returns-then-not-contains : goal.returns-then-not-contains
returns-then-not-contains c = then c.peek.ensures (when_false (sym c.contains.ensures ∙ c.if-not-contains.true) (then c.expect_check_recovery.ensures gives))

pub returns-else-not-contains : goal.returns-else-not-contains
returns-else-not-contains c = then c.peek.ensures (when_true (sym c.contains.ensures ∙ c.if-not-contains.false) gives)
