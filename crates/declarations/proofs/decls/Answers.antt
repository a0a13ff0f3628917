-- `decls` meets its contract: what is left of the loop comes to what the whole loop comes to.
use Rattle.definition.specs.Declarations.{decl_turn}
use Rattle.reading.specs.Does.{then, gives, when_true, when_false}
use Rattle.reading.specs.Turns.{first-turn, next-turn, last_turn, no-turn-left}
use Rattle.declarations.proofs.decls.Goals as goal

pub loop-turn-init : goal.loop-turn-init
loop-turn-init c = first-turn

pub loop-turn-preserved : goal.loop-turn-preserved
unfolding decl_turn
loop-turn-preserved c = next-turn c.loop-turn.invariant c.turns_of-turn-end.ensures c.loop-turn-test.true (then c.eof.ensures (when_false c.if-eof.false (then c.parse_decl-decl.ensures (then c.push_child-file.ensures gives))))

pub returns-after-loop-turn : goal.returns-after-loop-turn
returns-after-loop-turn c = no-turn-left c.loop-turn.invariant c.turns_of-turn-end.ensures c.loop-turn-test.false

pub returns-then-eof : goal.returns-then-eof
unfolding decl_turn
returns-then-eof c = last_turn c.loop-turn.invariant c.turns_of-turn-end.ensures c.loop-turn-test.true (then c.eof.ensures (when_true c.if-eof.true gives))
