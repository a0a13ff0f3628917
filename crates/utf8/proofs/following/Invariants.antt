-- `utf8::following` meets its contract. The loop's invariant: what is left to hold to ranges gives the whole answer.
use mathlib.Core.Path.{◌≡◌}
use Rattle.utf8.proofs.Follow.{state}
use Rattle.utf8.proofs.following.Given as goal

abbrev pub invariant-loop-n : goal.invariant-loop-n
invariant-loop-n l = state l.text l.at l.whole l.n l.lo l.hi ≡ state l.text l.at l.whole 1 l.low l.high
