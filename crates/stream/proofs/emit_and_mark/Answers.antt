-- `emit_and_mark` meets its contract.
use Rattle.reading.specs.Leaves.{emit-does}
use Rattle.stream.specs.Commands.{mark-emit}
use Rattle.stream.proofs.emit_and_mark.Goals as goal

pub returns : goal.returns
returns c = mark-emit (emit-does c.emit.ensures.reports)
