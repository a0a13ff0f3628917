-- `level` meets its contract.
use mathlib.Core.Path.{refl}
use Rattle.answers.proofs.level.Goals as goal

pub returns : goal.returns
returns c = refl
