-- `open_body` meets its contract.
use Rattle.reading.specs.Does.{then, gives}
use Rattle.stages.proofs.open_body.Goals as goal

pub returns : goal.returns
returns c = then c.push_option-outer.ensures (then c.open_list-inner.ensures gives)
