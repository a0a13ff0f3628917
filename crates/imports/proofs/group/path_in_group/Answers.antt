-- `path_in_group` meets its contract.
use Rattle.reading.specs.Does.{then, gives, when_true, when_false}
use Rattle.reading.specs.Leaves.{emit-does}
use Rattle.imports.proofs.group.path_in_group.Goals as goal

pub returns-then-check : goal.returns-then-check
returns-then-check c = then c.check.ensures (when_true c.if-check.true (then c.skip_path.ensures (emit-does c.emit.ensures.reports)))

pub returns-else-check : goal.returns-else-check
returns-else-check c = then c.check.ensures (when_false c.if-check.false gives)
