-- `same` meets its contract: from `i` on the two are alike where they are alike as a whole.
use mathlib.Core.Path.{◌≡◌}
use Prim.Native.Nat.{◌≤◌}
use lib.ListN.{length, drop}
use Rattle.scan.specs.Longest.{same}
use Rattle.tokens.proofs.same.Given as goal

abbrev pub invariant-loop-i : goal.invariant-loop-i
invariant-loop-i l = (same (drop l.i l.a) (drop l.i l.b) ≡ same l.a l.b) × (l.i ≤ length l.a)
