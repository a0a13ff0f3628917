-- `open_binary` meets its contract.
use Rattle.reading.specs.Does.{then}
use Rattle.parts.proofs.open_binary.Goals as goal

pub returns : goal.returns
returns c = then c.open_here-sign.ensures (then c.pass.ensures (then c.close_node-sign.ensures (then c.open_from-u.ensures (then c.push_child-u2.ensures c.push_child.ensures))))
