-- `param_head` meets its contract.
use Rattle.reading.specs.Does.{then, gives, when_true, when_false}
use Rattle.stages.proofs.param_head.Goals as goal

pub returns-in_default : goal.returns-in_default
returns-in_default c = then (rw c.in_default.is at c.parameter_name.ensures) gives

pub returns-then-check : goal.returns-then-check
returns-then-check c = then (rw c.in-Some.is at c.parameter_name.ensures) (then c.expect.ensures (then c.check.ensures (when_true c.if-check.true (then c.any_type.ensures gives))))

pub returns : goal.returns
returns c = then (rw c.in-Some.is at c.parameter_name.ensures) (then c.expect.ensures (then c.check.ensures (when_false c.if-check.false gives)))
