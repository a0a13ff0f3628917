-- `num_literal` meets its contract.
use Rattle.words.specs.Node
use Rattle.definition.specs.Expressions.{num_literal}
use Rattle.reading.specs.Does.{then, gives}
use Rattle.cst.specs.Payload.{cut-last}
use Rattle.operands.proofs.numbers.num_literal.Goals as goal

pub returns : goal.returns
unfolding num_literal
returns c = then (rw c.in-Some.is at c.try_parse_num_literal.ensures) (then (cut-last Node.NumLiteral _ (rw c.payload-payload.ensures at c.alloc_last_token_as_node.ensures)) gives)

pub returns-in_default : goal.returns-in_default
unfolding num_literal
returns-in_default c = then (rw c.in_default.is at c.try_parse_num_literal.ensures) gives
