-- `close_unary` meets its contract.
use Rattle.reading.specs.Does.{then, gives}
use Rattle.steps.proofs.close_unary.Goals as goal

pub returns : goal.returns
returns c = then c.close_operand.ensures gives
