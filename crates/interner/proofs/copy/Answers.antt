-- `copy` meets its contract: the source begins with what is copied.
use mathlib.Core.Path.{refl}
use native.Mathlib.Omega.{arith}
use Rattle.interner.specs.Same.{copied, all-copied}
use Rattle.std.proofs.Common.{rules}
use Rattle.interner.proofs.copy.Goals as goal

pub loop-i-init : goal.loop-i-init
loop-i-init c = (search rules, refl)

pub loop-i-preserved : goal.loop-i-preserved
loop-i-preserved c = (search rules, copied _ _ _ c.loop-i-test.true (search rules) c.loop-i.invariant.1)

pub returns : goal.returns
returns c = all-copied _ _ c.loop-i.i (omega arith) c.loop-i.invariant.1
