-- `close_block` meets its contract.
use Rattle.reading.specs.Does.{then}
use Rattle.parts.proofs.close_block.Goals as goal

pub returns : goal.returns
returns c = then c.close_node-list.ensures (then c.push_child-parent.ensures (then c.push_closing-parent.ensures (then c.expect.ensures c.close_node.ensures)))
