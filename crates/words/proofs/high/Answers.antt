-- `words::high` meets its contract. Assumes nothing.
use mathlib.Core.Path.{refl}
use Rattle.words.specs.Words.{high}
use Rattle.words.proofs.high.Goals as goal

pub returns : goal.returns
unfolding high
returns c = refl
