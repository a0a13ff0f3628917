use Rattle.std.proofs.Common.{◌≤◌}
use Rattle.cases.proofs.lexed.replay.Given as goal

abbrev pub invariant-loop-n : goal.invariant-loop-n
invariant-loop-n g l = goal.F-IsAlwaysCallable g l.turn × (l.differences ≤ l.n)
