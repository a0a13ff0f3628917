-- `skip_until_recovery_token` meets its contract: what is left of the loop comes to what the whole loop comes to; the scan inside it
-- asks whether the token is among the others.
use mathlib.Core.Path.{sym, ◌∙◌}
use Rattle.definition.specs.Tokens.{skip_turn, skip_until_recovery_token}
use Rattle.reading.specs.Does.{then, gives, when_true, when_false}
use Rattle.reading.specs.Turns.{first-turn, next-turn, last_turn, no-turn-left, refused-turn}
use Rattle.stream.specs.Commands.{contains-next, contains-here, contains-over}
use Rattle.recovery.proofs.skip_until_recovery_token.Goals as goal

pub skip-init : goal.skip-init
skip-init c = first-turn

pub loop-i-preserved : goal.loop-i-preserved
loop-i-preserved c = contains-next _ _ _ _ c.loop-i-test.true c.if-found-recovery.false c.loop-i.invariant

pub skip-preserved : goal.skip-preserved
unfolding skip_turn
skip-preserved c = next-turn c.skip.invariant c.turns_of-turn-end.ensures c.skip-test.true (then c.eof-ended.ensures (then c.peek-found.ensures (when_false (rw (c.if-ended.false, sym (contains-over _ _ _ _ c.loop-i-test.false c.loop-i.invariant))) (then c.pass.ensures gives))))

pub returns-after-skip : goal.returns-after-skip
unfolding skip_until_recovery_token
returns-after-skip c = no-turn-left c.skip.invariant c.turns_of-turn-end.ensures c.skip-test.false

pub returns-then-is_refused : goal.returns-then-is_refused
unfolding skip_until_recovery_token
returns-then-is_refused c = refused-turn c.skip.invariant (sym c.is_refused.ensures ∙ c.if-is_refused.true)

pub returns-then-ended : goal.returns-then-ended
unfolding skip_until_recovery_token skip_turn
returns-then-ended c = last_turn c.skip.invariant c.turns_of-turn-end.ensures c.skip-test.true (then c.eof-ended.ensures (then c.peek-found.ensures (when_true (rw c.if-ended.true) gives)))

pub returns-then-found-recovery : goal.returns-then-found-recovery
unfolding skip_until_recovery_token skip_turn
returns-then-found-recovery c = last_turn c.skip.invariant c.turns_of-turn-end.ensures c.skip-test.true (then c.eof-ended.ensures (then c.peek-found.ensures (when_true (rw (c.if-ended.false, sym (contains-here _ _ _ _ c.loop-i-test.true c.if-found-recovery.true c.loop-i.invariant))) gives)))
