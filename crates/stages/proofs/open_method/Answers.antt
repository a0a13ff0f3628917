-- `open_method` meets its contract.
use Rattle.reading.specs.Does.{then}
use Rattle.cst.specs.Laws.{position-is}
use Rattle.stages.proofs.open_method.Goals as goal

pub returns : goal.returns
returns c = then position-is (then c.eat-eager.ensures (then c.expect.ensures (then (rw c.flag-payload.ensures at c.open_from-u.ensures) (then c.expect_ident-name.ensures c.push_child.ensures))))
