-- `add_element` meets its contract.
use Rattle.reading.specs.Does.{then, gives}
use Rattle.stream.specs.Delimited.{regroup}
use Rattle.parts.proofs.add_element.Goals as goal

pub returns : goal.returns
returns c = regroup (then c.push_close-node.ensures (then c.push_child.ensures gives))
