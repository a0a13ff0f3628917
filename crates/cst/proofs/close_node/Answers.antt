-- `close_node` meets its contract.
use Rattle.definition.specs.Nodes.{close_node}
use Rattle.cst.specs.Laws.{steps}
use Rattle.cst.proofs.close_node.Goals as goal

pub returns : goal.returns
unfolding close_node
returns c = search steps
