-- `open_block` meets its contract.
use Rattle.reading.specs.Does.{then, gives}
use Rattle.stages.proofs.open_block.Goals as goal

pub returns : goal.returns
returns c = then c.open_from-outer.ensures (then c.expect.ensures (then c.open_here-inner.ensures gives))
