-- `fill` meets its contract: the state of the tokens that were passed.
use Rattle.interner.specs.State.{State}
use Rattle.interner.proofs.trees.fill.Given as goal

abbrev pub invariant-loop-i : goal.invariant-loop-i
invariant-loop-i l = State l.text l.tokens l.source l.links l.i
