-- `emit_here` meets its contract.
use Rattle.reading.specs.Does.{then}
use Rattle.stream.specs.Commands.{here-is}
use Rattle.reading.specs.Leaves.{emit-does}
use Rattle.clauses.proofs.emit_here.Goals as goal

pub returns : goal.returns
returns c = then (here-is c.token_start-start.ensures c.token_end-end.ensures) (emit-does c.emit.ensures.reports)
