-- `check_binary_op` meets its contract.
use Rattle.definition.specs.Expressions.{check_binary_op}
use Rattle.reading.specs.Does.{then, gives}
use Rattle.parts.proofs.check_binary_op.Goals as goal

pub returns : goal.returns
unfolding check_binary_op
returns c = then c.peek.ensures (rw c.binary_of.ensures gives)
