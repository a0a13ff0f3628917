-- `any_type` meets its contract.
use Rattle.words.specs.Node
use Rattle.definition.specs.Expressions.{any_type}
use Rattle.reading.specs.Does.{then, when_true, when_false}
use Rattle.cst.specs.Laws.{position-is}
use Rattle.cst.specs.Payload.{open-cut}
use Rattle.names.specs.Names.{intern-is}
use Rattle.clauses.proofs.any_type.Goals as goal

pub returns-then-not-expect : goal.returns-then-not-expect
unfolding any_type
returns-then-not-expect c = then position-is (then c.expect.ensures (then c.expect-2.ensures (when_false c.if-not-expect.true c.error_from.ensures)))

pub returns : goal.returns
unfolding any_type
returns c = then position-is (then c.expect.ensures (then c.expect-2.ensures (when_true c.if-not-expect.false (then intern-is (then (open-cut _ Node.ParamAnyType _ c.intern-name.ensures c.open_from-u.ensures) c.close_node.ensures)))))
