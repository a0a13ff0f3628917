-- `escaped` meets its contract, by case.
use Rattle.decoder.specs.Pieces.{told, cut-end, cut-escape, cut-unknown}
use Rattle.decoder.proofs.escaped.Goals as goal

pub returns-then-w-j : goal.returns-then-w-j
returns-then-w-j c = told _ _ _ c.reported.result.event _ _ _ (cut-end _ _ _ c.requires.1 c.if-w-j.true) c.reported.ensures

pub returns-in-Some : goal.returns-in-Some
returns-in-Some c = cut-escape _ _ _ c.requires.1 _ _ c.char_at-c.ensures _ (rw c.in-Some.is at c.escape.ensures.0) (rw c.in-Some.is at c.escape.ensures.1)

pub returns-else-code-eq120 : goal.returns-else-code-eq120
returns-else-code-eq120 c = told _ _ _ c.reported-in-None.result.event _ _ _ (cut-unknown _ _ _ c.requires.1 _ _ c.char_at-c.ensures (rw c.in-None.is at c.escape.ensures.0) c.if-code-eq120.false) c.reported-in-None.ensures
