-- `after_expr` meets its contract.
use Rattle.reading.specs.Does.{then, gives, when_true, when_false}
use Rattle.stages.proofs.after_expr.Goals as goal

pub returns-then-eat : goal.returns-then-eat
returns-then-eat c = then c.eat.ensures (when_true c.if-eat.true gives)

pub returns-then-eat-2 : goal.returns-then-eat-2
returns-then-eat-2 c = then c.eat.ensures (when_false c.if-eat.false (then c.eat-2.ensures (when_true c.if-eat-2.true gives)))

pub returns-then-requires_semi : goal.returns-then-requires_semi
returns-then-requires_semi c = then c.eat.ensures (when_false c.if-eat.false (then c.eat-2.ensures (when_false c.if-eat-2.false (then c.kind_of.ensures (when_true (rw c.requires_semi.ensures at c.if-requires_semi.true) gives)))))

pub returns : goal.returns
returns c = then c.eat.ensures (when_false c.if-eat.false (then c.eat-2.ensures (when_false c.if-eat-2.false (then c.kind_of.ensures (when_false (rw c.requires_semi.ensures at c.if-requires_semi.false) gives)))))
