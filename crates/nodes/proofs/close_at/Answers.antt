-- `close_at` meets its contract.
use Rattle.nodes.specs.Laws.{close_at-is}
use Rattle.nodes.proofs.close_at.Goals as goal

pub returns : goal.returns
returns c = close_at-is _ _ _ c.store.ensures
