-- `pair` meets its contract, by case.
use mathlib.Core.Path.{refl, ◌∙◌}
use Rattle.decoder.specs.Hex.{turn_odd, turn-pair}
use Rattle.decoder.proofs.pair.Goals as goal
use Rattle.decoder.proofs.pair.Goals.{then-already, else-already}

pub returns-then-w-k : goal.returns-then-w-k
returns-then-w-k c = turn_odd _ _ _ _ _ _ _ _ _ _ _ _ c.hex_digit-c.ensures _ _ c.bad_digit-first.ensures _ _ _ c.if-w-k.true c.step.ensures

pub returns-then-bad : goal.returns-then-bad
returns-then-bad c = turn-pair _ _ _ _ _ _ _ _ _ _ _ _ c.hex_digit-c.ensures _ _ c.bad_digit-first.ensures _ _ (elim c.if-already.branch [ then-already w ↦ rw w.if-already.true (w.bad-is ∙ w.if-already.true) | else-already w ↦ rw w.if-already.false w.bad-is ]) _ _ _ _ c.hex_digit-e.ensures (rw c.if-bad.true refl) _ _ c.bad_digit-second.ensures _ _ c.step-2.ensures

pub returns-else-bad : goal.returns-else-bad
returns-else-bad c = turn-pair _ _ _ _ _ _ _ _ _ _ _ _ c.hex_digit-c.ensures _ _ c.bad_digit-first.ensures _ _ (elim c.if-already.branch [ then-already w ↦ rw w.if-already.true (w.bad-is ∙ w.if-already.true) | else-already w ↦ rw w.if-already.false w.bad-is ]) _ _ _ _ c.hex_digit-e.ensures (rw c.if-bad.false refl) _ _ c.bad_digit-second.ensures _ _ c.step-2.ensures
