-- `flag` meets its contract.
use Rattle.answers.proofs.flag.Goals as goal

pub returns-then-set : goal.returns-then-set
returns-then-set c = rw c.if-set.true

pub returns : goal.returns
returns c = rw c.if-set.false
