-- `run_end` meets its contract: the run that is left at `i` ends where all of it ends.
use mathlib.Core.Path.{◌≡◌}
use mathlib.Core.Bool.{Bool}
use Prim.Native.Nat.{ℕ, ◌+◌, ◌≤◌, max}
use lib.ListN.{length, drop}
use Rattle.scan.specs.Bytes.{Class}
use Rattle.scan.specs.Lexer.{run}
use Rattle.scan.proofs.run_end.Given as goal

abbrev pub invariant-loop-i : goal.invariant-loop-i
invariant-loop-i g l =
    ((q : Class) → ((b : ℕ) (r : Bool) → goal.F-post g l.goes_on b r → r ≡ q b) → l.i + run q (drop l.i l.text) ≡ l.at + run q (drop l.at l.text))
    × (l.i ≤ max l.at (length l.text))
