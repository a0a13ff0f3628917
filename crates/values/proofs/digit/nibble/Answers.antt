-- `nibble` meets its contract, by case.
use Rattle.values.specs.Digits.{under-digits, over-letters, worth-some, worth-none}
use native.Mathlib.Omega.{arith}
use Rattle.values.proofs.digit.nibble.Goals as goal
use Rattle.values.proofs.digit.nibble.Goals.{then-c-lt48-via-then-c-lt48, then-c-lt48-via-else-c-lt48+then-c-gt127}

pub returns-then-c-lt48 : goal.returns-then-c-lt48
returns-then-c-lt48 c = elim c.then-c-lt48.branch [ then-c-lt48-via-then-c-lt48 w ↦ (under-digits _ w.if-c-lt48.true, tt) | then-c-lt48-via-else-c-lt48+then-c-gt127 w ↦ (over-letters _ (omega (arith, w.if-c-gt127.true)), tt) ]

pub returns-then-d-gt15 : goal.returns-then-d-gt15
returns-then-d-gt15 c = (worth-none _ _ c.worth-d.ensures (omega arith) (omega arith) c.if-d-gt15.true, tt)

pub returns : goal.returns
returns c = (worth-some _ _ c.worth-d.ensures (omega arith) (omega arith) (omega arith), omega arith)
