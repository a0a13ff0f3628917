-- `else_kind` meets its contract.
use Rattle.reading.specs.Does.{then, gives, when_true, when_false}
use Rattle.cst.specs.Laws.{position-is}
use Rattle.stages.proofs.else_kind.Goals as goal

pub returns-then-not-check : goal.returns-then-not-check
returns-then-not-check c = then c.check.ensures (when_false c.if-not-check.true gives)

pub returns-then-eat : goal.returns-then-eat
returns-then-eat c = then c.check.ensures (when_true c.if-not-check.false (then position-is (then c.expect.ensures (then c.eat.ensures (when_true c.if-eat.true gives)))))

pub returns : goal.returns
returns c = then c.check.ensures (when_true c.if-not-check.false (then position-is (then c.expect.ensures (then c.eat.ensures (when_false c.if-eat.false gives)))))
