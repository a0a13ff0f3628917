-- `leading` meets its contract: the digits that were passed over count nothing.
use mathlib.Core.Path.{refl}
use Rattle.numerals.specs.Hexadecimal.{leading-pass, leading-zero, leading-found}
use Rattle.numerals.proofs.hexadecimal.leading.Goals as goal
use Rattle.numerals.proofs.hexadecimal.leading.Goals.{in-Some+else-digit-ne0, in_default}

pub returns-then-digit-ne0 : goal.returns-then-digit-ne0
returns-then-digit-ne0 c = leading-found _ _ c.loop-i.i c.loop-i.invariant _ refl c.loop-i-test.true _ (rw c.in-Some.is at c.nibble.ensures.0) c.if-digit-ne0.true

pub loop-i-preserved : goal.loop-i-preserved
loop-i-preserved c =
    elim c.match-nibble.branch [
      | in-Some+else-digit-ne0 w ↦ leading-zero _ c.args.prefix c.loop-i.i c.loop-i.invariant _ refl c.loop-i-test.true _ (rw w.in-Some.is at c.nibble.ensures.0) w.if-digit-ne0.false
      | in_default w ↦ leading-pass _ c.args.prefix c.loop-i.i c.loop-i.invariant _ refl c.loop-i-test.true (rw w.in_default.is at c.nibble.ensures.0)
    ]
