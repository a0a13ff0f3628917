-- `walk` meets its contract: what is left of the walk at `i` ends where, and in which state, all of it ends.
use mathlib.Core.Path.{◌≡◌}
use Prim.Native.Nat.{◌-◌, ◌≤◌}
use lib.ListN.{length, drop}
use Rattle.scan.specs.Lexer.{from}
use Rattle.rules.specs.Walk.{walk}
use Rattle.tables.proofs.Tables.walk.Given as goal

abbrev pub invariant-loop-i : goal.invariant-loop-i
invariant-loop-i l = (from l.i (walk l.q (drop l.i l.text)) ≡ from l.at (walk l.state (drop l.at l.text))) × (97 ≤ l.q) × (l.q ≤ 122) × (l.at ≤ l.i)

abbrev pub decreases-loop-i : goal.decreases-loop-i
decreases-loop-i l = length l.text - l.i
