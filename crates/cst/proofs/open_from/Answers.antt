-- `open_from` meets its contract.
use Rattle.definition.specs.Nodes.{alloc_node_from}
use Rattle.cst.specs.Laws.{steps}
use Rattle.cst.proofs.open_from.Goals as goal

pub returns : goal.returns
unfolding alloc_node_from
returns c = search steps
