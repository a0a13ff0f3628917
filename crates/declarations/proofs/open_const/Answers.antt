-- `open_const` meets its contract.
use Rattle.reading.specs.Does.{then}
use Rattle.declarations.proofs.open_const.Goals as goal

pub returns : goal.returns
returns c = then c.open_from-u.ensures (then c.expect_ident-name.ensures c.push_child.ensures)
