-- `unwrap_or_error` meets its contract.
use Rattle.definition.specs.Expressions.{unwrap_or_error}
use Rattle.reading.specs.Does.{then, gives}
use Rattle.parts.proofs.unwrap_or_error.Goals as goal

pub returns-in-Some : goal.returns-in-Some
unfolding unwrap_or_error
returns-in-Some c = rw c.in-Some.is gives

pub returns-in-None : goal.returns-in-None
unfolding unwrap_or_error
returns-in-None c = rw c.in-None.is (then c.emit_unexpected.ensures c.error_node.ensures)
