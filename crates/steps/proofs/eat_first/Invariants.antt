-- `eat_first` meets its contract: what is left of the list, tried from here on, comes to what the whole comes to.
use Rattle.answers.specs.Laws.{Trying}
use Rattle.steps.proofs.eat_first.Given as goal

abbrev pub invariant-loop-i : goal.invariant-loop-i
invariant-loop-i l = Trying l.list l.initial.p l.i l.p
