-- `number` meets its contract: what is left of the number at `i` ends it where, and as what, all of it ends.
use mathlib.Core.Path.{◌≡◌}
use Prim.Native.Nat.{◌≤◌, max}
use lib.ListN.{length, drop}
use mathlib.Core.Bool.{false}
use Rattle.scan.specs.Lexer.{from, number}
use Rattle.scan.proofs.number.Given as goal

abbrev pub invariant-loop-i : goal.invariant-loop-i
invariant-loop-i l = (from l.i (number l.kind l.radix l.malformed (drop l.i l.text)) ≡ from l.at (number l.kind l.radix false (drop l.at l.text))) × (l.i ≤ max l.at (length l.text))
