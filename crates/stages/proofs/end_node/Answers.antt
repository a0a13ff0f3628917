-- `end_node` meets its contract.
use Rattle.reading.specs.Does.{then}
use Rattle.stages.proofs.end_node.Goals as goal

pub returns : goal.returns
returns c = then c.expect.ensures c.close_node.ensures
