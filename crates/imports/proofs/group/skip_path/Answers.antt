-- `skip_path` meets its contract: what is left of the loop comes to what the whole loop comes to.
use Rattle.reading.specs.Turns.{first-turn, next-turn, last_turn, no-turn-left}
use Rattle.imports.proofs.group.skip_path.Goals as goal

pub loop-turn-init : goal.loop-turn-init
loop-turn-init c = first-turn

pub loop-turn-preserved : goal.loop-turn-preserved
loop-turn-preserved c = next-turn c.loop-turn.invariant c.turns_of-turn-end.ensures c.loop-turn-test.true c.if-not-path_turn.ensures

pub returns-after-loop-turn : goal.returns-after-loop-turn
returns-after-loop-turn c = no-turn-left c.loop-turn.invariant c.turns_of-turn-end.ensures c.loop-turn-test.false

pub returns-then-not-path_turn : goal.returns-then-not-path_turn
returns-then-not-path_turn c = last_turn c.loop-turn.invariant c.turns_of-turn-end.ensures c.loop-turn-test.true c.if-not-path_turn.ensures
