-- `turn` meets its contract, by case.
use mathlib.Core.Path.{sym, ◌∙◌}
use Rattle.interner.specs.Hash.{turn-label, turn_byte}
use Rattle.interner.proofs.trees.turn.Goals as goal

pub returns-then-k-lt-LABEL_BITS : goal.returns-then-k-lt-LABEL_BITS
returns-then-k-lt-LABEL_BITS c = (c.bit.ensures.0 ∙ sym (turn-label _ _ _ c.if-k-lt-LABEL_BITS.true), c.bit.ensures.1)

pub returns : goal.returns
returns c = (c.bit-2.ensures.0 ∙ (rw (c.byte.ensures.0, c.saturating_sub.ensures) (sym (turn_byte _ _ _ c.if-k-lt-LABEL_BITS.false))), c.bit-2.ensures.1)
