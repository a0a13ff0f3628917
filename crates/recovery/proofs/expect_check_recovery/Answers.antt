-- `expect_check_recovery` meets its contract.
use mathlib.Core.Path.{refl}
use Rattle.definition.specs.Tokens.{expect_check_recovery}
use Rattle.reading.specs.Does.{then, gives, when_true, when_false}
use Rattle.stream.specs.Commands.{marked-is}
use Rattle.recovery.proofs.expect_check_recovery.Goals as goal
use Rattle.recovery.proofs.expect_check_recovery.Goals.{else-not-eaten-via-then-not-eaten+else-not-is_marked, else-not-eaten-via-else-not-eaten}

pub returns-then-not-is_marked : goal.returns-then-not-is_marked
unfolding expect_check_recovery
returns-then-not-is_marked c = then c.eat-eaten.ensures (then (marked-is c.is_marked.ensures) (then (when_true (rw (c.if-not-eaten.true, c.if-not-is_marked.true)) c.emit_missing.ensures) gives))

pub returns-else-not-eaten : goal.returns-else-not-eaten
unfolding expect_check_recovery
returns-else-not-eaten c =
    elim c.else-not-eaten.branch [
      | else-not-eaten-via-then-not-eaten+else-not-is_marked w ↦ then c.eat-eaten.ensures (then (marked-is w.is_marked.ensures) (then (when_false (rw (w.if-not-eaten.true, w.if-not-is_marked.false)) gives) gives))
      | else-not-eaten-via-else-not-eaten w ↦ then c.eat-eaten.ensures (then (marked-is refl) (then (when_false (rw w.if-not-eaten.false) gives) gives))
    ]
