-- `utf8::check` meets its contract. The loop's invariant: what the text from `at` on is found to be is what the whole text is.
use mathlib.Core.Path.{◌≡◌}
use Prim.Native.Nat.{◌-◌, ◌≤◌}
use lib.ListN.{length, drop}
use Rattle.utf8.specs.Utf8.{checked_from, checked}
use Rattle.utf8.proofs.check.Given as goal

-- `utf8::check` meets its contract. The loop's invariant: what the text from `at` on is found to be is what the whole text is.
-- The measure is what is left of the length. Assumes nothing.
abbrev pub invariant-loop-at : goal.invariant-loop-at
invariant-loop-at l = (l.at ≤ length l.text) × (checked_from l.at 0 (drop l.at l.text) ≡ checked l.text)

abbrev pub decreases-loop-at : goal.decreases-loop-at
decreases-loop-at l = length l.text - l.at
