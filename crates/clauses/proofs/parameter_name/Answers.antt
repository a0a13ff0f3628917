-- `parameter_name` meets its contract.
use Rattle.definition.specs.Expressions.{parameter_name}
use Rattle.reading.specs.Does.{then, gives, when_true, when_false}
use Rattle.cst.specs.Laws.{position-is}
use Rattle.clauses.proofs.parameter_name.Goals as goal

pub returns-then-eat : goal.returns-then-eat
unfolding parameter_name
returns-then-eat c = then position-is (then c.eat.ensures (when_true c.if-eat.true c.comptime_parameter.ensures))

pub returns-then-eat-2 : goal.returns-then-eat-2
unfolding parameter_name
returns-then-eat-2 c = then position-is (then c.eat.ensures (when_false c.if-eat.false (then c.eat-2.ensures (when_true c.if-eat-2.true c.plain_parameter.ensures))))

pub returns : goal.returns
unfolding parameter_name
returns c = then position-is (then c.eat.ensures (when_false c.if-eat.false (then c.eat-2.ensures (when_false c.if-eat-2.false gives))))
