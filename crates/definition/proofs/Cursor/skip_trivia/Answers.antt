-- `skip_trivia` meets its contract: what is left to skip ends where all of it ends, and no step goes back.
use mathlib.Core.Path.{refl}
use Rattle.definition.specs.Quiet.{quiet-over, quiet-stop, quiet_next, advanced-falls}
use native.Mathlib.Omega.{arith}
use Rattle.definition.proofs.Cursor.skip_trivia.Goals as goal

pub loop-c-init : goal.loop-c-init
loop-c-init c = (refl, omega arith)

pub loop-c-smaller : goal.loop-c-smaller
loop-c-smaller c = advanced-falls _ _ c.loop-c-test.true c.advance-c.ensures.0

pub loop-c-preserved : goal.loop-c-preserved
loop-c-preserved c = (quiet_next _ _ _ _ _ _ c.loop-c-test.true c.peek.ensures c.is_quiet.ensures c.if-is_quiet.true c.advance-c.ensures.0 c.loop-c.invariant.0, omega (arith, c.loop-c.invariant.1, c.advance-c.ensures.1))

pub returns-else-is_quiet : goal.returns-else-is_quiet
returns-else-is_quiet c = (quiet-stop _ _ _ _ _ c.loop-c-test.true c.peek.ensures c.is_quiet.ensures c.if-is_quiet.false c.loop-c.invariant.0, c.loop-c.invariant.1)

pub returns : goal.returns
returns c = (quiet-over _ _ _ c.loop-c-test.false c.loop-c.invariant.0, c.loop-c.invariant.1)
