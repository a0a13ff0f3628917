-- `one_of` meets its contract.
use Rattle.reading.specs.Does.{then, gives}
use Rattle.clauses.proofs.one_of.Goals as goal

pub returns-then-a : goal.returns-then-a
returns-then-a c = then c.check-a.ensures (then c.check-b.ensures (rw c.if-a.true gives))

pub returns-else-a : goal.returns-else-a
returns-else-a c = then c.check-a.ensures (then c.check-b.ensures (rw c.if-a.false gives))
