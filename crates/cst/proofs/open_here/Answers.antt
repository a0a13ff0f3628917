-- `open_here` meets its contract.
use Rattle.definition.specs.Nodes.{alloc_node}
use Rattle.cst.specs.Laws.{steps}
use Rattle.cst.proofs.open_here.Goals as goal

pub returns : goal.returns
unfolding alloc_node
returns c = search steps
