-- `plank_lex` meets its contract: the answer's number is that of the definition's answer.
use mathlib.Core.Path.{◌∙◌, ap}
use Rattle.codes.specs.Coded.{coded}
use Rattle.exports.proofs.plank_lex.Goals as goal

pub returns : goal.returns
returns c = (c.lexed_code.ensures ∙ ap coded c.lex.ensures.0, c.lex.ensures.1)
