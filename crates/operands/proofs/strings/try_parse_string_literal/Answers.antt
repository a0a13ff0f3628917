-- `try_parse_string_literal` meets its contract.
use Rattle.operands.specs.Gathers.{literal-none, literal-some}
use Rattle.operands.proofs.strings.try_parse_string_literal.Goals as goal

pub returns : goal.returns
returns c = literal-some _ _ _ c.peek.ensures _ _ _ c.gather-gathered.ensures _ c.in-Some.is _ _ c.string_node.ensures

pub returns-in_default : goal.returns-in_default
returns-in_default c = literal-none _ _ _ c.peek.ensures _ _ _ c.gather-gathered.ensures c.in_default.is
