-- `skip_trivia` meets its contract.
use mathlib.Core.Path.{sym, ◌∙◌}
use Rattle.stream.specs.Trivia.{skips-stop, skips-next, skips-falls}
use Rattle.stream.proofs.skip_trivia.Goals as goal

pub loop-p-smaller : goal.loop-p-smaller
loop-p-smaller c = skips-falls c.loop-p.invariant (sym c.is_refused.ensures ∙ c.loop-p-test.true) _ c.skip_trivia-p.ensures.0 _ c.peek.ensures _ c.is_trivia.ensures c.if-not-is_trivia.false c.advance.ensures c.skip_trivia-p.ensures.1

pub loop-p-preserved : goal.loop-p-preserved
loop-p-preserved c = skips-next c.loop-p.invariant (sym c.is_refused.ensures ∙ c.loop-p-test.true) _ c.skip_trivia-p.ensures.0 _ c.peek.ensures _ c.is_trivia.ensures c.if-not-is_trivia.false c.advance.ensures

pub returns-then-not-is_trivia : goal.returns-then-not-is_trivia
returns-then-not-is_trivia c = skips-stop c.loop-p.invariant (sym c.is_refused.ensures ∙ c.loop-p-test.true) _ c.skip_trivia-p.ensures.0 _ c.peek.ensures _ c.is_trivia.ensures c.if-not-is_trivia.true
