-- `line_comment` meets its contract: what is left of the comment at `i` ends it where all of it ends.
use Rattle.scan.specs.Laws.{line-stop, line-next, line-over}
use Rattle.std.proofs.Common.{◌≡◌, arith}
use Rattle.scan.proofs.line_comment.Goals as goal

pub returns-then-text-i-eq10 : goal.returns-then-text-i-eq10
returns-then-text-i-eq10 c = line-stop _ _ _ c.loop-i-test.true c.if-text-i-eq10.true c.loop-i.invariant.0

pub loop-i-preserved : goal.loop-i-preserved
loop-i-preserved c = (line-next _ _ _ c.loop-i-test.true c.if-text-i-eq10.false c.loop-i.invariant.0, omega arith)

pub returns : goal.returns
returns c = let e : c.max.result ≡ c.loop-i.i = omega arith in rw e (line-over _ _ _ c.loop-i-test.false c.loop-i.invariant.0)
