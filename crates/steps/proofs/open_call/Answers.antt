-- `open_call` meets its contract.
use Rattle.reading.specs.Does.{then, gives}
use Rattle.steps.proofs.open_call.Goals as goal

pub returns : goal.returns
returns c = then c.open_from-u.ensures (then c.push_child-u.ensures (then c.expect.ensures gives))
