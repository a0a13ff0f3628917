-- `store` meets its contract.
use Rattle.nodes.specs.Laws.{stored-none, stored-out, stored_there}
use Rattle.nodes.proofs.store.Goals as goal

pub returns-then-state-n : goal.returns-then-state-n
returns-then-state-n c = stored-none _ _ _ _ _ c.if-state-n.true

pub returns-then-nodes-at : goal.returns-then-nodes-at
returns-then-nodes-at c = stored-out _ _ _ _ _ c.if-state-n.false c.if-nodes-at.true

pub returns : goal.returns
returns c = stored_there _ _ _ _ _ c.if-state-n.false
