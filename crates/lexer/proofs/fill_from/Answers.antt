-- `fill_from` meets its contract: the tokens from `at` on, put from `n` on, make the words that all tokens make.
use native.Mathlib.Omega.{arith}
use Rattle.lexer.specs.Walk.{filling-next, filling-last, stepped}
use Rattle.lexer.proofs.fill_from.Goals as goal

pub overflow_cast-end : goal.overflow_cast-end
overflow_cast-end g c = omega (arith, (stepped _ _ _ c.loop-at-test.true (c.requires.tells.right _ _ c.loop-at-test.true c.token_at-t.ensures)).within, c.requires.bounds.0)

pub loop-at-smaller : goal.loop-at-smaller
loop-at-smaller g c = omega (arith, c.loop-at-test.true, (stepped _ _ _ c.loop-at-test.true (c.requires.tells.right _ _ c.loop-at-test.true c.token_at-t.ensures)).on)

pub loop-at-preserved : goal.loop-at-preserved
loop-at-preserved g c = filling-next _ _ _ _ _ _ _ c.loop-at.invariant _ _ _ c.loop-at-test.true (c.requires.tells.right _ _ c.loop-at-test.true c.token_at-t.ensures) c.token_word.ensures c.put.ensures

pub returns : goal.returns
returns g c = filling-last _ _ _ _ _ _ _ c.loop-at.invariant _ _ c.loop-at-test.false c.token_word-2.ensures c.put-2.ensures
