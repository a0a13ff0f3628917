-- `nth` meets its contract: while a turn goes on, it and those that are left after it are the turns that the invariant speaks of.
use Rattle.std.proofs.Common.{arith}
use Rattle.std.proofs.lemmas.Bool.Decides.{nat_tests}
use Rattle.std.specs.Prelude.{suc, ◌-◌}
use Rattle.looking.specs.View.{nth, and_then, count}
use Rattle.looking.proofs.nth.Goals as goal

pub returns-then-at-eq0 : goal.returns-then-at-eq0
unfolding nth and_then
returns-then-at-eq0 c = let h = c.loop-turn.invariant (suc (count c.args.nodes.now - c.loop-turn._turn)) (omega arith) in grind (arith, nat_tests, h)

pub returns-in_err-node : goal.returns-in_err-node
unfolding nth and_then
returns-in_err-node c = let h = c.loop-turn.invariant (suc (count c.args.nodes.now - c.loop-turn._turn)) (omega arith) in grind (arith, nat_tests, h)

pub returns-then-node-stop : goal.returns-then-node-stop
unfolding nth and_then
returns-then-node-stop c = let h = c.loop-turn.invariant (suc (count c.args.nodes.now - c.loop-turn._turn)) (omega arith) in grind (arith, nat_tests, h)

pub returns-then-left-eq0 : goal.returns-then-left-eq0
unfolding nth and_then
returns-then-left-eq0 c = let h = c.loop-turn.invariant (suc (count c.args.nodes.now - c.loop-turn._turn)) (omega arith) in grind (arith, nat_tests, h)

pub returns : goal.returns
unfolding nth
returns c = let h = c.loop-turn.invariant 0 (omega arith) in grind (arith, nat_tests, h)

pub loop-turn-preserved : goal.loop-turn-preserved
unfolding nth and_then
loop-turn-preserved c = λ t e. let h = c.loop-turn.invariant (suc t) (omega arith) in grind (arith, nat_tests, h)
