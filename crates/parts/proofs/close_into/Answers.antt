-- `close_into` meets its contract.
use Rattle.reading.specs.Does.{then}
use Rattle.parts.proofs.close_into.Goals as goal

pub returns : goal.returns
returns c = then c.close_node-list.ensures c.push_close.ensures
