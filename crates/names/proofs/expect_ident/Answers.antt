-- `expect_ident` meets its contract.
use Rattle.definition.specs.Nodes.{expect_ident}
use Rattle.reading.specs.Does.{then, gives}
use Rattle.names.proofs.expect_ident.Goals as goal

pub returns-in-Some : goal.returns-in-Some
unfolding expect_ident
returns-in-Some c = then (rw c.in-Some.is at c.try_parse_ident.ensures) gives

pub returns-in-None : goal.returns-in-None
unfolding expect_ident
returns-in-None c = then (rw c.in-None.is at c.try_parse_ident.ensures) c.no_ident.ensures
