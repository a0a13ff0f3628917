-- `open_list` meets its contract.
use Rattle.reading.specs.Does.{then, gives}
use Rattle.stages.proofs.open_list.Goals as goal

pub returns : goal.returns
returns c = then c.open_here-list.ensures (then c.expect.ensures gives)
