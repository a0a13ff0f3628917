-- `line_comment` meets its contract: what is left of the comment at `i` ends it where all of it ends.
use mathlib.Core.Path.{◌≡◌}
use Prim.Native.Nat.{◌≤◌, max}
use lib.ListN.{length, drop}
use Rattle.scan.specs.Lexer.{from, line_comment}
use Rattle.scan.proofs.line_comment.Given as goal

abbrev pub invariant-loop-i : goal.invariant-loop-i
invariant-loop-i l = (from l.i (line_comment (drop l.i l.text)) ≡ from l.at (line_comment (drop l.at l.text))) × (l.i ≤ max l.at (length l.text))
