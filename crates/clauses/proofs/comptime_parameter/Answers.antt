-- `comptime_parameter` meets its contract.
use Rattle.reading.specs.Does.{then, gives}
use Rattle.clauses.proofs.comptime_parameter.Goals as goal

pub returns : goal.returns
returns c = then c.open_from-u.ensures (then c.expect_ident-name.ensures (then c.push_child.ensures gives))
