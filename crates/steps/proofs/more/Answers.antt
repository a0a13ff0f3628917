-- `more` meets its contract.
use Rattle.reading.specs.Does.{then, gives}
use Rattle.steps.proofs.more.Goals as goal

pub returns : goal.returns
returns c = then c.push_child-it.ensures (then c.eat-on.ensures gives)
