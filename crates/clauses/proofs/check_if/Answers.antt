-- `check_if` meets its contract.
use Rattle.reading.specs.Does.{gives, when_true, when_false}
use Rattle.clauses.proofs.check_if.Goals as goal

pub returns-then-tried : goal.returns-then-tried
returns-then-tried c = when_true c.if-tried.true c.check.ensures

pub returns-else-tried : goal.returns-else-tried
returns-else-tried c = when_false c.if-tried.false (rw c.if-tried.false gives)
