-- `star_in_group` meets its contract.
use Rattle.reading.specs.Does.{then}
use Rattle.reading.specs.Leaves.{emit-does}
use Rattle.stream.specs.Commands.{before-is}
use Rattle.imports.proofs.group.star_in_group.Goals as goal

pub returns : goal.returns
returns c = then (before-is c.before_start-start.ensures c.token_start-end.ensures) (emit-does c.emit.ensures.reports)
