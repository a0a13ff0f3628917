-- `requires_semi` meets its contract.
use mathlib.Core.Path.{ap}
use mathlib.Core.Bool.{not}
use Rattle.definition.specs.Statements.{requires_semi}
use Rattle.answers.proofs.requires_semi.Goals as goal

pub returns : goal.returns
unfolding requires_semi
returns c = ap not c.contains.ensures
