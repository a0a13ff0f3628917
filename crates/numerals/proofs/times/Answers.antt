-- `times` meets its contract: what is left to do from limb `limb-index` on, and what is done before it, make the whole.
use native.Mathlib.Omega.{arith}
use Rattle.numerals.specs.Times.{times-next, times-last}
use Rattle.numerals.proofs.times.Goals as goal

pub loop-limb-preserved : goal.loop-limb-preserved
loop-limb-preserved c = times-next _ _ _ _ _ _ c.loop-limb.invariant (omega arith) _ _ c.limb_times-p.ensures

pub returns : goal.returns
returns c = times-last _ _ _ _ _ _ c.loop-limb.invariant (omega arith)
