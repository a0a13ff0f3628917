-- `lexed_code` meets its contract.
use mathlib.Core.Path.{sym, ◌∙◌, ap}
use Rattle.lexer.specs.Lex.{answer}
use Rattle.codes.specs.Coded.{coded}
use Rattle.exports.proofs.lexed_code.Goals as goal

pub returns-in-Err : goal.returns-in-Err
returns-in-Err c = (rw c.number.ensures at c.refusal_code.ensures) ∙ ap (λ x. coded (answer x)) (sym c.in-Err.is)
