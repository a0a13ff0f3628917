-- `counted` meets its contract: while a turn goes on, it and those that are left after it are the turns that the invariant speaks of.
use Rattle.std.proofs.Common.{arith}
use Rattle.std.proofs.lemmas.Bool.Decides.{nat_tests}
use Rattle.std.specs.Prelude.{suc, ◌-◌}
use Rattle.looking.specs.View.{counted, and_then, count}
use Rattle.looking.proofs.counted.Goals as goal

pub returns-then-at-eq0 : goal.returns-then-at-eq0
unfolding counted and_then
returns-then-at-eq0 c = let h = c.loop-turn.invariant.0 (suc (count c.args.nodes.now - c.loop-turn._turn)) (omega arith) in grind (arith, nat_tests, h)

pub returns-in_err-node : goal.returns-in_err-node
unfolding counted and_then
returns-in_err-node c = let h = c.loop-turn.invariant.0 (suc (count c.args.nodes.now - c.loop-turn._turn)) (omega arith) in grind (arith, nat_tests, h)

pub returns-then-node-stop : goal.returns-then-node-stop
unfolding counted and_then
returns-then-node-stop c = let h = c.loop-turn.invariant.0 (suc (count c.args.nodes.now - c.loop-turn._turn)) (omega arith) in grind (arith, nat_tests, h)

pub returns-after-loop-turn : goal.returns-after-loop-turn
unfolding counted
returns-after-loop-turn c = let h = c.loop-turn.invariant.0 0 (omega arith) in grind (arith, nat_tests, h)

pub loop-turn-preserved : goal.loop-turn-preserved
unfolding counted and_then
loop-turn-preserved c = (λ t e. let h = c.loop-turn.invariant.0 (suc t) (omega arith) in grind (arith, nat_tests, h), grind arith)
