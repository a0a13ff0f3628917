-- `close_node_at` meets its contract.
use Rattle.definition.specs.Nodes.{close_node_at}
use Rattle.cst.specs.Laws.{steps}
use Rattle.cst.proofs.close_node_at.Goals as goal

pub returns : goal.returns
unfolding close_node_at
returns c = search steps
