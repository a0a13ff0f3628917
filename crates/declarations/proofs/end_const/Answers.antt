-- `end_const` meets its contract.
use Rattle.reading.specs.Does.{then}
use Rattle.declarations.proofs.end_const.Goals as goal

pub returns : goal.returns
returns c = then c.push_child-u.ensures (then c.expect_check_recovery.ensures c.close_node.ensures)
