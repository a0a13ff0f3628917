-- `error_node` meets its contract.
use Rattle.definition.specs.Nodes.{error_node}
use Rattle.cst.specs.Laws.{steps}
use Rattle.cst.proofs.error_node.Goals as goal

pub returns : goal.returns
unfolding error_node
returns c = search steps
