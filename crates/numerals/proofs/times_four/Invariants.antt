-- `times_four` meets its contract as `times` does: four multiplications are one by a larger unit.
use Rattle.numerals.specs.Times.{Times}
use Rattle.numerals.specs.Four.{unit, number}
use Rattle.numerals.proofs.times_four.Given as goal

abbrev pub invariant-loop-limb : goal.invariant-loop-limb
invariant-loop-limb l = Times (unit l.units) (number l.units l.initial.carry) l.initial.limbs l.limbs (number l.units l.carry) l.limb-index
