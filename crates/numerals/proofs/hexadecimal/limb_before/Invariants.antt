-- `limb_before` meets its contract: the digits that are left, and those that are taken, make the number.
use Rattle.numerals.specs.Hexadecimal.{Digits}
use Rattle.numerals.proofs.hexadecimal.limb_before.Given as goal

abbrev pub invariant-loop-i : goal.invariant-loop-i
invariant-loop-i l = Digits l.source l.prefix l.end l.value l.unit l.i

abbrev pub decreases-loop-i : goal.decreases-loop-i
decreases-loop-i l = l.i
