-- `alloc_last_token_as_node` meets its contract.
use Rattle.reading.specs.Does.{then}
use Rattle.definition.specs.Nodes.{alloc_last_token_as_node}
use Rattle.cst.specs.Laws.{position-is}
use Rattle.cst.proofs.alloc_last_token_as_node.Goals as goal

pub returns : goal.returns
unfolding alloc_last_token_as_node
returns c = then position-is (then (rw c.previous-start.ensures at c.open_from-made.ensures) c.close_node.ensures)
