-- The loop's invariant of `innermost`: from `at` on, with `outer` and the turns that are left, the answer is that from `first` on.
use Rattle.std.specs.Prelude.{◌≡◌, ℕ, ◌+◌}
use Rattle.looking.specs.View.{turns}
use Rattle.walking.specs.Walks.{innermost}
use Rattle.walking.proofs.innermost.Given as goal

abbrev pub invariant-loop-turn : goal.invariant-loop-turn
invariant-loop-turn l =
    (k : ℕ) → k + l._turn ≡ turns l.nodes → innermost k l.t l.nodes l.outer l.at ≡ innermost (turns l.nodes) l.t l.nodes l.n l.first
