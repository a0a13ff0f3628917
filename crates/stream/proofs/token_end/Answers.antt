-- `token_end` meets its contract.
use mathlib.Core.Path.{◌∙◌}
use Rattle.stream.specs.Skip.{end-inside, end-past}
use Rattle.stream.proofs.token_end.Goals as goal

pub returns-then-at-tokens : goal.returns-then-at-tokens
returns-then-at-tokens c = c.token_end.ensures ∙ end-inside c.args.tokens.now c.args.i c.if-at-tokens.true

pub returns : goal.returns
returns c = end-past c.args.tokens.now c.args.i c.if-at-tokens.false
