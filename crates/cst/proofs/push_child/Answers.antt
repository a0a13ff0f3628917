-- `push_child` meets its contract.
use Rattle.definition.specs.Nodes.{push_child}
use Rattle.cst.specs.Laws.{steps}
use Rattle.cst.proofs.push_child.Goals as goal

pub returns : goal.returns
unfolding push_child
returns c = search steps
