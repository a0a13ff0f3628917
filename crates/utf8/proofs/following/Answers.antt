-- `utf8::following` meets its contract.
use mathlib.Core.Path.{sym, ◌∙◌}
use native.Mathlib.Omega.{arith}
use Rattle.utf8.proofs.Follow.{all-right, cut, outside, turn}
use Rattle.utf8.proofs.following.Goals as goal

pub returns-then-text-at : goal.returns-then-text-at
returns-then-text-at c = let a = c.args in let l = c.loop-n in sym (cut a.text.now a.at a.whole l.n l.lo l.hi c.loop-n-test.true c.if-text-at.true) ∙ l.invariant

pub returns-then-byte-lo : goal.returns-then-byte-lo
returns-then-byte-lo c = let a = c.args in let l = c.loop-n in sym (outside a.text.now a.at a.whole l.n l.lo l.hi c.loop-n-test.true (omega arith) c.then-byte-lo.either) ∙ l.invariant

pub loop-n-preserved : goal.loop-n-preserved
loop-n-preserved c = let a = c.args in let l = c.loop-n in sym (turn a.text.now a.at a.whole l.n l.lo l.hi c.loop-n-test.true (omega arith) c.if-byte-lo.false c.if-hi-byte.false) ∙ l.invariant

pub returns : goal.returns
returns c = let a = c.args in let l = c.loop-n in sym (all-right a.text.now a.at a.whole l.n l.lo l.hi (omega arith)) ∙ l.invariant
