-- `limb_before` meets its contract: the digits that are left, and those that are taken, make the number.
use mathlib.Core.Path.{refl}
use Rattle.numerals.specs.Hexadecimal.{digits-first, unit-fits, limb-last, digits-none, digit-fits, digits-next}
use native.Mathlib.Omega.{arith}
use Rattle.numerals.proofs.hexadecimal.limb_before.Goals as goal

pub loop-i-init : goal.loop-i-init
loop-i-init c = digits-first _ _ _ c.requires

pub overflow_mul-value : goal.overflow_mul-value
overflow_mul-value c = omega (arith, digit-fits _ _ _ c.requires _ _ _ c.loop-i.invariant c.if-unit-eq-LIMB_BASE.false c.loop-i-test.true _ refl _ (rw c.in-Some.is at c.nibble.ensures.0) (rw c.in-Some.is at c.nibble.ensures.1), unit-fits _ _ _ c.requires _ _ _ c.loop-i.invariant)

pub overflow_add-value : goal.overflow_add-value
overflow_add-value c = omega (arith, digit-fits _ _ _ c.requires _ _ _ c.loop-i.invariant c.if-unit-eq-LIMB_BASE.false c.loop-i-test.true _ refl _ (rw c.in-Some.is at c.nibble.ensures.0) (rw c.in-Some.is at c.nibble.ensures.1), unit-fits _ _ _ c.requires _ _ _ c.loop-i.invariant, c.loop-i.invariant.fits)

pub overflow_mul-unit : goal.overflow_mul-unit
overflow_mul-unit c = omega (arith, unit-fits _ _ _ c.requires _ _ _ c.loop-i.invariant)

pub loop-i-preserved-in-Some : goal.loop-i-preserved-in-Some
loop-i-preserved-in-Some c = digits-next _ _ _ c.requires _ _ _ c.loop-i.invariant c.if-unit-eq-LIMB_BASE.false c.loop-i-test.true _ refl _ (rw c.in-Some.is at c.nibble.ensures.0) (rw c.in-Some.is at c.nibble.ensures.1)

pub loop-i-preserved : goal.loop-i-preserved
loop-i-preserved c = digits-none _ _ _ c.requires _ _ _ c.loop-i.invariant c.if-unit-eq-LIMB_BASE.false c.loop-i-test.true _ refl (rw c.in_default.is at c.nibble.ensures.0)

pub overflow_cast-result-2 : goal.overflow_cast-result-2
overflow_cast-result-2 c = omega (arith, c.loop-i.invariant.fits, unit-fits _ _ _ c.requires _ _ _ c.loop-i.invariant)

pub returns : goal.returns
returns c = limb-last _ _ _ c.requires _ _ _ c.loop-i.invariant c.loop-i-test.false
