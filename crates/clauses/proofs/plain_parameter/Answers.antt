-- `plain_parameter` meets its contract.
use Rattle.words.specs.Node
use Rattle.reading.specs.Does.{then, gives}
use Rattle.cst.specs.Payload.{last-cut}
use Rattle.names.specs.Names.{intern-is}
use Rattle.clauses.proofs.plain_parameter.Goals as goal

pub returns : goal.returns
returns c = then c.open_from-u.ensures (then intern-is (then (last-cut Node.Identifier _ c.intern-ident.ensures c.alloc_last_token_as_node-name.ensures) (then c.push_child.ensures gives)))
