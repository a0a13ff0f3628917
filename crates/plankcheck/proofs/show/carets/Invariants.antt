use Rattle.std.proofs.Common.{◌≤◌}
use Rattle.plankcheck.proofs.show.carets.Given as goal

abbrev pub invariant-loop-at : goal.invariant-loop-at
invariant-loop-at g l = l.n ≤ 1311
