-- `lex_by` meets its contract: what `count` left, cleared behind the tokens or from the start on.
use mathlib.Core.Path.{◌∙◌}
use Rattle.lexer.specs.Calls.{left-words}
use Rattle.lexer.proofs.lex_by.Goals as goal

pub returns : goal.returns
returns g c = (c.count-lexed.ensures.answered, (rw c.unwrap_or.ensures at c.clear.ensures) ∙ left-words _ _ _ c.count-lexed.result c.count-lexed.auto.tokens c.count-lexed.ensures)
