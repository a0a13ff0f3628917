-- `plank_read` meets its contract: the number, the words and the counts are those of the definition's answer.
use mathlib.Core.Path.{refl}
use Rattle.exports.specs.Told.{told}
use Rattle.exports.proofs.plank_read.Goals as goal

pub returns-in-Ok : goal.returns-in-Ok
returns-in-Ok c = told c.read.ensures.0 c.in-Ok.is refl c.put_counts.ensures

pub returns-in-Err : goal.returns-in-Err
returns-in-Err c = told c.read.ensures.0 c.in-Err.is (rw c.number.ensures at c.refusal_code.ensures) refl
