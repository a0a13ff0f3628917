use Rattle.std.proofs.Common.{◌-◌}
use Rattle.cases.proofs.trees.are_tries_same.Given as goal

abbrev pub decreases-loop-at : goal.decreases-loop-at
decreases-loop-at l = l.end - l.at
