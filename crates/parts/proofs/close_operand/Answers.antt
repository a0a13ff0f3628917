-- `close_operand` meets its contract.
use Rattle.reading.specs.Does.{then}
use Rattle.parts.proofs.close_operand.Goals as goal

pub returns : goal.returns
returns c = then c.unwrap_or_error-child.ensures (then c.push_child-u.ensures c.close_node.ensures)
