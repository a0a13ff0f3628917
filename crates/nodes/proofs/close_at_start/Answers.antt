-- `close_at_start` meets its contract.
use Rattle.nodes.specs.Laws.{close_at_start-is}
use Rattle.nodes.proofs.close_at_start.Goals as goal

pub returns : goal.returns
returns c = close_at_start-is _ _ _ _ c.word_of-start.ensures c.store.ensures
