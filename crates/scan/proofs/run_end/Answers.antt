-- `run_end` meets its contract: the run that is left at `i` ends where all of it ends.
use Rattle.scan.specs.Laws.{run-over, run-stop, run-next}
use Rattle.std.proofs.Common.{◌≡◌, arith}
use Rattle.scan.proofs.run_end.Goals as goal

pub loop-i-preserved : goal.loop-i-preserved
loop-i-preserved g c =
    (λ q h. run-next _ _ q _ _ c.loop-i-test.true (h _ _ c.goes_on.ensures) c.if-not-goes_on.false (c.loop-i.invariant.0 q h), omega arith)

pub returns-then-not-goes_on : goal.returns-then-not-goes_on
returns-then-not-goes_on g c = λ q h. run-stop _ _ q _ _ c.loop-i-test.true (h _ _ c.goes_on.ensures) c.if-not-goes_on.true (c.loop-i.invariant.0 q h)

pub returns : goal.returns
returns g c = λ q h. let e : c.max.result ≡ c.loop-i.i = omega arith in rw e (run-over _ _ q _ c.loop-i-test.false (c.loop-i.invariant.0 q h))
