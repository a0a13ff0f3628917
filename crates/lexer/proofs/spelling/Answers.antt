-- `spelling` meets its contract, by case: the bytes of the part, and where it begins.
use mathlib.Core.Path.{refl}
use mathlib.Core.Logic.{⊎_elim}
use Rattle.lexer.specs.Calls.{past_words, falling, past-text, covered, empty}
use native.Mathlib.Omega.{arith}
use Rattle.std.proofs.Common.{rules}
use Rattle.lexer.proofs.spelling.Goals as goal

pub returns-then-tokens-n : goal.returns-then-tokens-n
returns-then-tokens-n c = empty _ _ _ (past_words _ _ _ c.if-tokens-n.true) _ (search rules) _ _ (refl, omega arith)

pub returns-then-end-start : goal.returns-then-end-start
returns-then-end-start c = empty _ _ _ (⊎_elim (falling _ _ _ c.if-tokens-n.false _ _ c.start_of-start.ensures c.token_end-end.ensures) (λ p. past-text _ _ _ c.if-tokens-n.false _ _ c.start_of-start.ensures c.token_end-end.ensures p.0 p.1) c.then-end-start.either) _ (search rules) _ _ (refl, omega arith)

pub returns : goal.returns
returns c = covered _ _ _ c.if-tokens-n.false _ _ c.start_of-start.ensures c.token_end-end.ensures c.if-end-start.false c.if-text-end.false _ _ (refl, omega arith)
