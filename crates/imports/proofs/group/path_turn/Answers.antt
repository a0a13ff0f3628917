-- `path_turn` meets its contract.
use Rattle.definition.specs.Declarations.{path_turn}
use Rattle.reading.specs.Does.{then, gives, when_true, when_false}
use Rattle.imports.proofs.group.path_turn.Goals.{else-eat-via-then-eat+else-check, else-eat-via-else-eat}
use Rattle.imports.proofs.group.path_turn.Goals as goal

pub returns-then-check : goal.returns-then-check
unfolding path_turn
returns-then-check c = then c.eat.ensures (when_true c.if-eat.true (then c.check.ensures (when_true c.if-check.true (then c.pass.ensures gives))))

pub returns : goal.returns
unfolding path_turn
returns c = elim c.else-eat.branch [
  | else-eat-via-then-eat+else-check w ↦ rw w.p-is (then c.eat.ensures (when_true w.if-eat.true (then w.check.ensures (when_false w.if-check.false gives))))
  | else-eat-via-else-eat w ↦ rw w.p-is (then c.eat.ensures (when_false w.if-eat.false gives))
]
