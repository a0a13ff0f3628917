-- `push_close` meets its contract.
use Rattle.reading.specs.Does.{then}
use Rattle.parts.proofs.push_close.Goals as goal

pub returns : goal.returns
returns c = then c.push_child-u.ensures c.close_node.ensures
