-- The loop's invariant of `enclosing_declaration`: from `at` up, with the turns that are left, the answer is that from `n` up.
use Rattle.std.specs.Prelude.{◌≡◌, ℕ, ◌+◌}
use Rattle.looking.specs.View.{turns}
use Rattle.walking.specs.Walks.{enclosing}
use Rattle.walking.proofs.enclosing_declaration.Given as goal

abbrev pub invariant-loop-turn : goal.invariant-loop-turn
invariant-loop-turn l = (k : ℕ) → k + l._turn ≡ turns l.nodes → enclosing k l.nodes l.at ≡ enclosing (turns l.nodes) l.nodes l.n
