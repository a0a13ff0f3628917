-- `enclosing_declaration` meets its contract: while a turn goes on, it and those that are left after it are the turns that the invariant speaks of.
use Rattle.std.proofs.Common.{arith}
use Rattle.std.proofs.lemmas.Bool.Decides.{nat_tests}
use Rattle.std.specs.Prelude.{suc, ◌-◌}
use Rattle.looking.specs.View.{and_then, count}
use Rattle.walking.specs.Walks.{enclosing}
use Rattle.walking.proofs.enclosing_declaration.Goals as goal

pub returns-in_err-parent : goal.returns-in_err-parent
unfolding enclosing and_then
returns-in_err-parent c = let h = c.loop-turn.invariant (suc (count c.args.nodes.now - c.loop-turn._turn)) (omega arith) in grind (arith, nat_tests, h)

pub returns-in-None : goal.returns-in-None
unfolding enclosing and_then
returns-in-None c = let h = c.loop-turn.invariant (suc (count c.args.nodes.now - c.loop-turn._turn)) (omega arith) in grind (arith, nat_tests, h)

pub returns-in-Some-eq0 : goal.returns-in-Some-eq0
unfolding enclosing and_then
returns-in-Some-eq0 c = let h = c.loop-turn.invariant (suc (count c.args.nodes.now - c.loop-turn._turn)) (omega arith) in grind (arith, nat_tests, h)

pub returns : goal.returns
unfolding enclosing
returns c = let h = c.loop-turn.invariant 0 (omega arith) in grind (arith, nat_tests, h)

pub loop-turn-preserved : goal.loop-turn-preserved
unfolding enclosing and_then
loop-turn-preserved c = λ k e. let h = c.loop-turn.invariant (suc k) (omega arith) in grind (arith, nat_tests, h)
