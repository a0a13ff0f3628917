-- `access_name` meets its contract.
use Rattle.definition.specs.Expressions.{access_name}
use Rattle.reading.specs.Does.{then, gives}
use Rattle.parts.proofs.access_name.Goals as goal

pub returns-in-Some : goal.returns-in-Some
unfolding access_name
returns-in-Some c = then (rw c.in-Some.is at c.try_parse_ident.ensures) gives

pub returns-in-None : goal.returns-in-None
unfolding access_name
returns-in-None c = then (rw c.in-None.is at c.try_parse_ident.ensures) c.no_access_name.ensures
