-- `list_ends` meets its contract.
use Rattle.reading.specs.Does.{then, gives}
use Rattle.stream.specs.Delimited.{list_ends}
use Rattle.recovery.proofs.list_ends.Goals as goal

pub returns-then-closed : goal.returns-then-closed
unfolding list_ends
returns-then-closed c = then c.check-closed.ensures (then c.eof-ended.ensures (rw c.if-closed.true gives))

pub returns-else-closed : goal.returns-else-closed
unfolding list_ends
returns-else-closed c = then c.check-closed.ensures (then c.eof-ended.ensures (rw c.if-closed.false gives))
