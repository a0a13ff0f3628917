-- `skip_trivia` meets its contract: what is left to skip comes to what the whole comes to.
use Rattle.stream.specs.Trivia.{Left, left}
use Rattle.stream.proofs.skip_trivia.Given as goal

abbrev pub invariant-loop-p : goal.invariant-loop-p
invariant-loop-p l = Left l.initial.p l.p

abbrev pub decreases-loop-p : goal.decreases-loop-p
decreases-loop-p l = left l.p
