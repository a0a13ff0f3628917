-- `end_let` meets its contract.
use Rattle.reading.specs.Does.{then}
use Rattle.stages.proofs.end_let.Goals as goal

pub returns : goal.returns
returns c = then c.push_child-u.ensures c.end_node.ensures
