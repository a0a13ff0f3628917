-- `update_kind` meets its contract.
use Rattle.definition.specs.Nodes.{update_kind}
use Rattle.cst.proofs.update_kind.Goals as goal

pub returns : goal.returns
unfolding update_kind
returns c = search
