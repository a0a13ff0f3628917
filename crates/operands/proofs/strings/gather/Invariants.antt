-- `gather` meets its contract: the tokens so far, and the turns that were taken.
use Rattle.operands.specs.Gathers.{Gathering}
use Rattle.operands.proofs.strings.gather.Given as goal

abbrev pub invariant-loop-turn : goal.invariant-loop-turn
invariant-loop-turn l = Gathering l.initial.p l._turn l.end l.count l.p
