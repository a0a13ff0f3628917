-- `times` meets its contract: what is left to do from limb `limb-index` on, and what is done before it, make the whole.
use Rattle.numerals.specs.Times.{Times}
use Rattle.numerals.proofs.times.Given as goal

abbrev pub invariant-loop-limb : goal.invariant-loop-limb
invariant-loop-limb l = Times l.radix l.digit l.initial.limbs l.limbs l.carry l.limb-index
