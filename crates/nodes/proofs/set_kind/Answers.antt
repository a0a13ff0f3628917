-- `set_kind` meets its contract.
use Rattle.nodes.specs.Laws.{set_kind-is}
use Rattle.nodes.proofs.set_kind.Goals as goal

pub returns : goal.returns
returns c = set_kind-is _ _ _ _ _ c.node_head-head.ensures c.store.ensures
