-- `put_chunks` meets its contract: the limbs of the number so far, and the digits that are left, make the whole.
use Prim.Native.Nat.{◌-◌, ◌≤◌}
use lib.ListN.{length}
use Rattle.numerals.specs.Put.{Digits}
use Rattle.numerals.proofs.put_chunks.Given as goal

abbrev pub invariant-loop-i : goal.invariant-loop-i
invariant-loop-i l = (l.initial.n ≤ l.n) × Digits l.radix l.source l.prefix l.initial.room l.room l.n l.i

abbrev pub decreases-loop-i : goal.decreases-loop-i
decreases-loop-i l = length l.source - l.i
