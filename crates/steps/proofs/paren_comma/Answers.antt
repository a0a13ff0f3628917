-- `paren_comma` meets its contract.
use Rattle.reading.specs.Does.{then, gives, when_true, when_false}
use Rattle.steps.proofs.paren_comma.Goals as goal

pub returns-then-on : goal.returns-then-on
returns-then-on c = then c.push_child-it.ensures (then c.eat-on.ensures (then (when_true c.if-on.true c.update_kind.ensures) gives))

pub returns-else-on : goal.returns-else-on
returns-else-on c = then c.push_child-it.ensures (then c.eat-on.ensures (then (when_false c.if-on.false gives) gives))
