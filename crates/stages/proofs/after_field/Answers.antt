-- `after_field` meets its contract.
use Rattle.reading.specs.Does.{then}
use Rattle.stages.proofs.after_field.Goals as goal

pub returns : goal.returns
returns c = then c.push_child-body.ensures c.separate.ensures
