-- The loop's invariant of `nth`: from `at` on, with the turns that are left, the answer is that from `first` on.
use Rattle.std.specs.Prelude.{◌≡◌, ℕ, ◌+◌}
use Rattle.looking.specs.View.{nth, turns}
use Rattle.looking.proofs.nth.Given as goal

abbrev pub invariant-loop-turn : goal.invariant-loop-turn
invariant-loop-turn l =
    (t : ℕ) → t + l._turn ≡ turns l.nodes → nth t l.stop l.wanted.from l.wanted.to l.nodes l.at l.left
    ≡ nth (turns l.nodes) l.stop l.wanted.from l.wanted.to l.nodes l.first l.i
