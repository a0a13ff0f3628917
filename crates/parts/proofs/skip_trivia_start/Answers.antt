-- `skip_trivia_start` meets its contract.
use Rattle.definition.specs.Nodes.{skip_trivia_start}
use Rattle.reading.specs.Does.{then}
use Rattle.cst.specs.Laws.{position-is}
use Rattle.parts.proofs.skip_trivia_start.Goals as goal

pub returns : goal.returns
unfolding skip_trivia_start
returns c = then c.peek.ensures position-is
