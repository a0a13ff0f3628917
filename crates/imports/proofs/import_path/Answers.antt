-- `import_path` meets its contract: what is left of the loop comes to what the whole loop comes to.
use Rattle.std.proofs.lemmas.Bool.{not-true, not-false}
use Rattle.reading.specs.Turns.{first-turn, next-turn, last_turn, no-turn-left}
use Rattle.imports.proofs.import_path.Goals as goal

pub loop-turn-init : goal.loop-turn-init
loop-turn-init c = first-turn

pub loop-turn-preserved : goal.loop-turn-preserved
loop-turn-preserved c = next-turn c.loop-turn.invariant c.turns_of-turn-end.ensures c.loop-turn-test.true (rw (not-false c.import_turn-turn.result.on c.if-not-turn.false) at c.import_turn-turn.ensures)

pub returns-after-loop-turn : goal.returns-after-loop-turn
returns-after-loop-turn c = no-turn-left c.loop-turn.invariant c.turns_of-turn-end.ensures c.loop-turn-test.false

pub returns-then-not-turn : goal.returns-then-not-turn
returns-then-not-turn c = last_turn c.loop-turn.invariant c.turns_of-turn-end.ensures c.loop-turn-test.true (rw (not-true c.import_turn-turn.result.on c.if-not-turn.true) at c.import_turn-turn.ensures)
