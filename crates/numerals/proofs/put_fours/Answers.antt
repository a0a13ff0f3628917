-- `put_fours` meets its contract: the limbs of the number so far, and the digits that are left, make the whole.
use Rattle.numerals.specs.Put.{digits-first, digits_more, digits-full}
use native.Mathlib.Omega.{arith}
use Rattle.numerals.proofs.put_fours.Goals as goal

pub loop-i-init : goal.loop-i-init
loop-i-init c = digits-first _ _ _ _

pub loop-i-preserved : goal.loop-i-preserved
loop-i-preserved c = (digits_more _ _ _ _ _ _ _ c.loop-i.invariant (omega (arith, c.requires.0)) _ _ _ c.take_four-t.ensures _ c.in-Some.is).1

pub returns-in_default : goal.returns-in_default
returns-in_default c = rw c.in_default.is (digits-full _ _ _ _ _ _ _ c.loop-i.invariant (omega (arith, c.requires.0)) _ _ _ c.take_four-t.ensures c.in_default.is)
