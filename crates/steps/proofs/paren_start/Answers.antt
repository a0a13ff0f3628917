-- `paren_start` meets its contract.
use Rattle.reading.specs.Does.{then, gives, when_true, when_false}
use Rattle.steps.proofs.paren_start.Goals as goal

pub returns-then-eat : goal.returns-then-eat
returns-then-eat c = then c.eat.ensures (when_true c.if-eat.true (then c.open_from-u.ensures (then c.close_node.ensures gives)))

pub returns : goal.returns
returns c = then c.eat.ensures (when_false c.if-eat.false (then c.open_from.ensures gives))
