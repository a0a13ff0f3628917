-- `end_list` meets its contract.
use Rattle.reading.specs.Does.{then}
use Rattle.steps.proofs.end_list.Goals as goal

pub returns : goal.returns
returns c = then c.expect.ensures (then c.close_node-n.ensures c.push_child.ensures)
