-- `peel` meets its contract: while a turn goes on, it and those that are left after it are the turns that the invariant speaks of.
use Rattle.std.proofs.Common.{arith}
use Rattle.std.proofs.lemmas.Bool.Decides.{nat_tests}
use Rattle.std.specs.Prelude.{suc, ◌-◌}
use Rattle.looking.specs.View.{and_then, count}
use Rattle.expr.specs.Expr.{peel}
use Rattle.expr.proofs.peel.Goals as goal

pub returns-in_err-found : goal.returns-in_err-found
unfolding peel and_then
returns-in_err-found c = let h = c.loop-turn.invariant (suc (count c.args.nodes.now - c.loop-turn._turn)) (omega arith) in grind (arith, nat_tests, h)

pub returns-then-found-ne-PAREN_EXPR : goal.returns-then-found-ne-PAREN_EXPR
unfolding peel and_then
returns-then-found-ne-PAREN_EXPR c = let h = c.loop-turn.invariant (suc (count c.args.nodes.now - c.loop-turn._turn)) (omega arith) in grind (arith, nat_tests, h)

pub returns-then-found-eq0 : goal.returns-then-found-eq0
unfolding peel and_then
returns-then-found-eq0 c = let h = c.loop-turn.invariant (suc (count c.args.nodes.now - c.loop-turn._turn)) (omega arith) in grind (arith, nat_tests, h)

pub returns : goal.returns
unfolding peel
returns c = let h = c.loop-turn.invariant 0 (omega arith) in grind (arith, nat_tests, h)

pub loop-turn-preserved : goal.loop-turn-preserved
unfolding peel and_then
loop-turn-preserved c = λ t e. let h = c.loop-turn.invariant (suc t) (omega arith) in grind (arith, nat_tests, h)
