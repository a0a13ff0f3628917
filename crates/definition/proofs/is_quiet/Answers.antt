-- `is_quiet` meets its contract.
use borrow.Author.Tests.{eq-eqb, ne_eqb}
use Rattle.definition.specs.Quiet.{is_quiet}
use Rattle.definition.proofs.is_quiet.Goals as goal

-- `is_quiet` meets its contract.
pub returns-then-kind-eq-WHITESPACE : goal.returns-then-kind-eq-WHITESPACE
unfolding is_quiet
returns-then-kind-eq-WHITESPACE c = rw (eq-eqb _ _ c.if-kind-eq-WHITESPACE.true)

pub returns-then-kind-eq-LINE_COMMENT : goal.returns-then-kind-eq-LINE_COMMENT
unfolding is_quiet
returns-then-kind-eq-LINE_COMMENT c = rw (ne_eqb _ _ c.if-kind-eq-WHITESPACE.false, eq-eqb _ _ c.if-kind-eq-LINE_COMMENT.true)

pub returns : goal.returns
unfolding is_quiet
returns c = rw (ne_eqb _ _ c.if-kind-eq-WHITESPACE.false, ne_eqb _ _ c.if-kind-eq-LINE_COMMENT.false)
