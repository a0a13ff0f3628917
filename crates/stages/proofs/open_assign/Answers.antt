-- `open_assign` meets its contract.
use Rattle.reading.specs.Does.{then}
use Rattle.stages.proofs.open_assign.Goals as goal

pub returns : goal.returns
returns c = then c.open_from-u.ensures c.push_child.ensures
