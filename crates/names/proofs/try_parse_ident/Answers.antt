-- `try_parse_ident` meets its contract.
use Rattle.words.specs.Node
use Rattle.definition.specs.Nodes.{try_parse_ident}
use Rattle.reading.specs.Does.{then, gives, when_true, when_false}
use Rattle.cst.specs.Payload.{last-cut}
use Rattle.names.specs.Names.{intern-is}
use Rattle.names.proofs.try_parse_ident.Goals as goal

pub returns-then-not-eat : goal.returns-then-not-eat
unfolding try_parse_ident
returns-then-not-eat c = then c.eat.ensures (when_false c.if-not-eat.true gives)

pub returns : goal.returns
unfolding try_parse_ident
returns c = then c.eat.ensures (when_true c.if-not-eat.false (then intern-is (then (last-cut Node.Identifier _ c.intern-ident.ensures c.alloc_last_token_as_node.ensures) gives)))
