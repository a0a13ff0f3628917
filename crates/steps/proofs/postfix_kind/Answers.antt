-- `postfix_kind` meets its contract.
use Rattle.reading.specs.Does.{then, gives, when_true, when_false}
use Rattle.steps.proofs.postfix_kind.Goals as goal

pub returns-then-eat_if : goal.returns-then-eat_if
returns-then-eat_if c = then c.eat_if.ensures (when_true c.if-eat_if.true (then c.member_expr.ensures gives))

pub returns-then-check_if : goal.returns-then-check_if
returns-then-check_if c = then c.eat_if.ensures (when_false c.if-eat_if.false (then c.check_if.ensures (when_true c.if-check_if.true gives)))

pub returns-then-check_if-2 : goal.returns-then-check_if-2
returns-then-check_if-2 c = then c.eat_if.ensures (when_false c.if-eat_if.false (then c.check_if.ensures (when_false c.if-check_if.false (then (rw c.allows_struct_literal-literal.ensures at c.check_if-2.ensures) (when_true c.if-check_if-2.true gives)))))

pub returns : goal.returns
returns c = then c.eat_if.ensures (when_false c.if-eat_if.false (then c.check_if.ensures (when_false c.if-check_if.false (then (rw c.allows_struct_literal-literal.ensures at c.check_if-2.ensures) (when_false c.if-check_if-2.false gives)))))
