-- `check` meets its contract.
use Rattle.definition.specs.Tokens.{check}
use Rattle.reading.specs.Does.{then, gives}
use Rattle.stream.proofs.check.Goals as goal

pub returns : goal.returns
unfolding check
returns c = then c.peek.ensures gives
