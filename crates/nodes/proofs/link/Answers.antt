-- `link` meets its contract.
use Rattle.nodes.specs.Laws.{link-first, link-next}
use Rattle.nodes.proofs.link.Goals as goal
use Rattle.nodes.proofs.link.Goals.{then-last-eq0, else-last-eq0}

pub returns : goal.returns
returns c =
    elim c.if-last-eq0.branch [
      | then-last-eq0 w ↦ link-first _ _ _ _ _ w.if-last-eq0.true (rw (w.from-is, w.word-is) at c.store.ensures) c.store-2.ensures
      | else-last-eq0 w ↦ link-next _ _ _ _ _ w.if-last-eq0.false (rw (w.from-is, w.word-is) at c.store.ensures) c.store-2.ensures
    ]
