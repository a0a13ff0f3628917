-- `kind_if` meets its contract.
use mathlib.Core.Path.{sym, ◌∙◌}
use Rattle.tokens.proofs.kind_if.Goals as goal

pub returns-then-same : goal.returns-then-same
returns-then-same c = rw (sym c.same.ensures ∙ c.if-same.true)

pub returns-else-same : goal.returns-else-same
returns-else-same c = rw (sym c.same.ensures ∙ c.if-same.false)
