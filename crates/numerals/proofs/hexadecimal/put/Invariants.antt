-- `put` meets its contract: the limbs so far, and those of the number that is left, make the whole.
use Rattle.numerals.specs.Hexadecimal.{Limbed}
use Rattle.numerals.proofs.hexadecimal.put.Given as goal

abbrev pub invariant-loop-end : goal.invariant-loop-end
invariant-loop-end l = Limbed l.source l.prefix l.first l.initial.room l.room l.n l.end

abbrev pub decreases-loop-end : goal.decreases-loop-end
decreases-loop-end l = l.end
