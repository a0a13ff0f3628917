-- `error_from` meets its contract.
use Rattle.reading.specs.Does.{then}
use Rattle.clauses.proofs.error_from.Goals as goal

pub returns : goal.returns
returns c = then c.open_from-u.ensures c.close_node.ensures
