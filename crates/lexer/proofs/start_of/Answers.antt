-- `start_of` meets its contract.
use mathlib.Core.Path.{◌∙◌}
use Rattle.lexer.specs.Calls.{start-next}
use Rattle.lexer.proofs.start_of.Goals as goal

pub returns-then-n-eq0 : goal.returns-then-n-eq0
returns-then-n-eq0 c = rw c.if-n-eq0.true

pub returns : goal.returns
returns c = c.token_end.ensures ∙ start-next _ _ c.if-n-eq0.false
