-- The loop's invariant of `peel`: of `at`, with the turns that are left, the answer is that of `n`.
use Rattle.std.specs.Prelude.{◌≡◌, ℕ, ◌+◌}
use Rattle.looking.specs.View.{turns}
use Rattle.expr.specs.Expr.{peel}
use Rattle.expr.proofs.peel.Given as goal

abbrev pub invariant-loop-turn : goal.invariant-loop-turn
invariant-loop-turn l = (t : ℕ) → t + l._turn ≡ turns l.nodes → peel t l.nodes l.at ≡ peel (turns l.nodes) l.nodes l.n
