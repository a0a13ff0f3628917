-- `pass_unexpected` meets its contract.
use mathlib.Core.Path.{ap}
use mathlib.Core.Bool.{not}
use Rattle.reading.specs.Does.{then, gives, when_true, when_false}
use Rattle.stream.specs.Delimited.{pass_unexpected}
use Rattle.recovery.proofs.pass_unexpected.Goals as goal
use Rattle.recovery.proofs.pass_unexpected.Goals.{then-not-emitted, else-not-emitted}

pub returns : goal.returns
unfolding pass_unexpected
returns c =
    elim c.if-not-emitted.branch [
      | then-not-emitted w ↦ then (when_true (ap not w.if-not-emitted.true) w.emit_unexpected.ensures) (rw w.p-is at c.pass.ensures)
      | else-not-emitted w ↦ then (when_false (ap not w.if-not-emitted.false) gives) (rw w.p-is at c.pass.ensures)
    ]
