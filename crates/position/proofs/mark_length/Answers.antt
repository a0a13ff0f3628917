-- `mark_length` meets its contract.
use mathlib.Core.Path.{sym, ◌∙◌}
use Rattle.scan.specs.Marked.{mark-within}
use Rattle.position.specs.Position.{mark_length}
use Rattle.std.proofs.Common.{rules}
use Rattle.position.proofs.mark_length.Goals as goal

pub returns-then-has_mark : goal.returns-then-has_mark
unfolding mark_length
returns-then-has_mark c = let e = sym c.has_mark.ensures ∙ c.if-has_mark.true in (rw e, mark-within _ e)

pub returns-else-has_mark : goal.returns-else-has_mark
unfolding mark_length
returns-else-has_mark c = let e = sym c.has_mark.ensures ∙ c.if-has_mark.false in (rw e, search rules)
