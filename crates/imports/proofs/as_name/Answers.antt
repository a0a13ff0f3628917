-- `as_name` meets its contract.
use Rattle.reading.specs.Does.{then}
use Rattle.imports.proofs.as_name.Goals as goal

pub returns : goal.returns
returns c = then c.expect.ensures (then c.expect_ident-name.ensures (then c.push_child-named.ensures (then c.expect-2.ensures c.close_node.ensures)))
