-- `put_mark` meets its contract, with a mark and without one.
use mathlib.Core.Path.{sym, ◌∙◌}
use Rattle.lexer.specs.Walk.{one-mark, no-marks}
use Rattle.lexer.proofs.put_mark.Goals as goal

pub returns-then-has_mark : goal.returns-then-has_mark
returns-then-has_mark c = one-mark _ _ (sym c.has_mark.ensures ∙ c.if-has_mark.true) _ _ c.token_word.ensures c.put.ensures

pub returns : goal.returns
returns c = no-marks _ _ (sym c.has_mark.ensures ∙ c.if-has_mark.false)
