-- `let_equals` meets its contract.
use Rattle.reading.specs.Does.{then, gives}
use Rattle.stages.proofs.let_equals.Goals as goal

pub returns : goal.returns
returns c = then c.update_kind.ensures (then c.expect.ensures gives)
