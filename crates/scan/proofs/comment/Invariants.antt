-- `comment` meets its contract: what is left where its reader stands ends the comment where all of it ends, and the count keeps its bounds.
use mathlib.Core.Path.{◌≡◌}
use Prim.Native.Nat.{◌-◌, ◌≤◌}
use lib.ListN.{length, drop}
use Rattle.scan.specs.Lexer.{from, block_comment}
use Rattle.scan.specs.Comments.{left, Counted, most_open}
use Rattle.scan.proofs.comment.Given as goal

abbrev pub invariant-loop-nest : goal.invariant-loop-nest
invariant-loop-nest l = (left l.text l.nest ≡ from l.at (block_comment (drop l.at l.text) 1)) × (l.nest.depth ≤ most_open) × Counted l.text l.nest

abbrev pub decreases-loop-nest : goal.decreases-loop-nest
decreases-loop-nest l = length l.text - l.nest.at
