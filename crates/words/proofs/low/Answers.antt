-- `words::low` meets its contract. Assumes nothing.
use Rattle.words.specs.Words.{low}
use Rattle.words.proofs.Shift.{one_shifted}
use Rattle.words.proofs.low.Goals as goal

pub returns : goal.returns
unfolding low
returns c = rw (one_shifted c.args.k c.requires)
