-- `comment` meets its contract: what is left where its reader stands ends the comment where all of it ends, and the count keeps its bounds.
use mathlib.Core.Path.{refl, ◌∙◌}
use native.Mathlib.Omega.{arith}
use Rattle.scan.specs.Laws.{block-done, block-over}
use Rattle.scan.specs.Comments.{step_kept}
use Rattle.std.proofs.Common.{rules}
use Rattle.scan.proofs.comment.Goals as goal

pub loop-nest-init : goal.loop-nest-init
loop-nest-init c = (refl, omega arith, omega arith)

pub returns-then-text-nest : goal.returns-then-text-nest
returns-then-text-nest c = search (rules, block-over)

pub loop-nest-smaller : goal.loop-nest-smaller
loop-nest-smaller c = omega (arith, (step_kept _ _ c.loop-nest.invariant.2 (search rules) (search rules) _ c.step-nest.ensures.0).2)

pub loop-nest-preserved : goal.loop-nest-preserved
loop-nest-preserved c = let kept = step_kept _ _ c.loop-nest.invariant.2 (search rules) (search rules) _ c.step-nest.ensures.0 in (kept.0 ∙ c.loop-nest.invariant.0, c.step-nest.ensures.1, kept.1)

pub returns : goal.returns
returns c = search (rules, block-done)
