-- The loop's invariant of `counted`: from `at` on, added to `sum`, the answer is that from `first` on.
use Rattle.std.specs.Prelude.{◌≡◌, ℕ, ◌+◌, ◌≤◌}
use Rattle.looking.specs.View.{counted, turns}
use Rattle.looking.proofs.counted.Given as goal

abbrev pub invariant-loop-turn : goal.invariant-loop-turn
invariant-loop-turn l =
    ((t : ℕ) → t + l._turn ≡ turns l.nodes → counted t l.stop l.wanted.from l.wanted.to l.nodes l.at l.sum
    ≡ counted (turns l.nodes) l.stop l.wanted.from l.wanted.to l.nodes l.first 0) × (l.sum ≤ l._turn)
