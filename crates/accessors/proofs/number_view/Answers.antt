-- `number_view` meets its contract: the last group's table is the deepest row.
use mathlib.Core.Path.{◌∙◌}
use Rattle.accessors.specs.Rows.{pick}
use Rattle.accessors.proofs.number_view.Goals as goal

pub returns-in-6 : goal.returns-in-6
unfolding pick
returns-in-6 c = c.view-in-6.ensures ∙ rw c.in-6.is
