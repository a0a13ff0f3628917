-- `head` meets its contract.
use mathlib.Core.Path.{◌∙◌}
use Rattle.values.specs.Kept.{head-cut}
use Rattle.values.proofs.head.Goals as goal

pub returns : goal.returns
returns c = c.value_head.ensures ∙ head-cut _ _
