-- `end_stmt` meets its contract.
use Rattle.reading.specs.Does.{then, gives}
use Rattle.parts.proofs.end_stmt.Goals as goal

pub returns : goal.returns
returns c = then c.push_child-u.ensures (then c.expect.ensures (then c.close_node.ensures gives))
