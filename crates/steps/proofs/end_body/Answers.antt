-- `end_body` meets its contract.
use Rattle.reading.specs.Does.{then}
use Rattle.steps.proofs.end_body.Goals as goal

pub returns : goal.returns
returns c = then c.expect.ensures c.close_into.ensures
