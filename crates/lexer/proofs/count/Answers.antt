-- `count` meets its contract, by case.
use mathlib.Core.Path.{sym, ◌∙◌, ap}
use Rattle.words.specs.Refusal.{number}
use native.Mathlib.Omega.{arith}
use Rattle.utf8.specs.Laws.{bad-offset}
use Rattle.lexer.specs.Calls.{too_long, not-utf8, no_room, room}
use Rattle.lexer.specs.Walk.{tokens-count}
use Rattle.lexer.proofs.count.Goals as goal

pub returns-then-text-gt-LONGEST_TEXT : goal.returns-then-text-gt-LONGEST_TEXT
returns-then-text-gt-LONGEST_TEXT g c = too_long _ _ _ _ c.if-text-gt-LONGEST_TEXT.true (ap number c.at.ensures.0, c.at.ensures.1)

pub overflow_cast-wrong : goal.overflow_cast-wrong
overflow_cast-wrong g c = omega (arith, bad-offset _ _ (sym c.check.ensures ∙ c.in-Err.is), c.if-text-gt-LONGEST_TEXT.false)

pub returns-in-Err : goal.returns-in-Err
returns-in-Err g c = not-utf8 _ _ _ c.if-text-gt-LONGEST_TEXT.false _ _ (sym c.check.ensures ∙ c.in-Err.is) (ap number c.at-in-Err.ensures.0 ∙ c.not_utf8.ensures, c.at-in-Err.ensures.1)

pub overflow_cast-n : goal.overflow_cast-n
overflow_cast-n g c = omega (arith, tokens-count c.args.text.now, c.fill-n.ensures.0, c.if-text-gt-LONGEST_TEXT.false)

pub returns-then-tokens-n : goal.returns-then-tokens-n
returns-then-tokens-n g c = no_room _ _ _ c.if-text-gt-LONGEST_TEXT.false (sym c.check.ensures ∙ c.in_default.is) _ c.fill-n.ensures.0 _ (omega (arith, c.fill-n.auto.words, c.if-tokens-n.true)) (ap number c.at-then-tokens-n.ensures.0, c.at-then-tokens-n.ensures.1)

pub returns : goal.returns
returns g c = room _ _ _ c.if-text-gt-LONGEST_TEXT.false (sym c.check.ensures ∙ c.in_default.is) _ c.fill-n.ensures.0 (omega (arith, c.fill-n.auto.words, c.if-tokens-n.false)) c.fill-n.ensures.1
