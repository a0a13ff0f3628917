-- `string` meets its contract: what is left of the string at `i` ends it where, and as what, all of it ends.
use mathlib.Core.Path.{◌≡◌}
use Prim.Native.Nat.{◌≤◌, max}
use lib.ListN.{length, drop}
use mathlib.Core.Bool.{false}
use Rattle.scan.specs.Lexer.{from, string}
use Rattle.scan.proofs.string.Given as goal

abbrev pub invariant-loop-i : goal.invariant-loop-i
invariant-loop-i l = (from l.i (string l.kind l.hides l.hidden l.malformed (drop l.i l.text)) ≡ from l.at (string l.kind l.hides false false (drop l.at l.text))) × (l.i ≤ max l.at (length l.text))
