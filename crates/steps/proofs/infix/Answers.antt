-- `infix` meets its contract.
use Rattle.std.proofs.Common.{lt-ltb, le-ltb}
use Rattle.reading.specs.Does.{then, gives, when_true, when_false}
use Rattle.steps.proofs.infix.Goals as goal

pub returns-in-Some : goal.returns-in-Some
returns-in-Some c = then (rw c.in-Some.is at c.check_binary_op.ensures) (when_false (le-ltb _ _ c.if-min-b.true) (then c.open_binary.ensures gives))

pub returns-in_default : goal.returns-in_default
returns-in_default c = then (rw c.in-Some.is at c.check_binary_op.ensures) (when_true (lt-ltb _ _ c.if-min-b.false) gives)

pub returns-in_default-2 : goal.returns-in_default-2
returns-in_default-2 c = then (rw c.in_default.is at c.check_binary_op.ensures) gives
