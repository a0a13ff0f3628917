-- `times_four` meets its contract as `times` does: four multiplications are one by a larger unit.
use native.Mathlib.Omega.{arith}
use Rattle.numerals.specs.Times.{times-next, times-last}
use Rattle.numerals.specs.Four.{parted-four}
use Rattle.numerals.proofs.times_four.Goals as goal

pub loop-limb-preserved : goal.loop-limb-preserved
loop-limb-preserved c = times-next _ _ _ _ _ _ c.loop-limb.invariant (omega arith) _ _ (parted-four _ _ _ _ _ _ _ _ c.limb_times-a.ensures c.limb_times-b.ensures c.limb_times-c.ensures c.limb_times-d.ensures)

pub returns : goal.returns
returns c = times-last _ _ _ _ _ _ c.loop-limb.invariant (omega arith)
