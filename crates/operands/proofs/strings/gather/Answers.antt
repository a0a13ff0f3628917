-- `gather` meets its contract: the tokens so far, and the turns that were taken.
use Rattle.operands.specs.Gathers.{gather-first, gather-next, gather-last, gather-over}
use Rattle.operands.proofs.strings.gather.Goals as goal

pub loop-turn-init : goal.loop-turn-init
loop-turn-init c = gather-first _

pub loop-turn-preserved : goal.loop-turn-preserved
loop-turn-preserved c = gather-next _ _ _ _ _ c.loop-turn.invariant c.turns_of-turn-end.ensures c.loop-turn-test.true _ _ _ c.string_turn-turn.ensures _ c.in-Some.is

pub returns-in_default : goal.returns-in_default
returns-in_default c = gather-last _ _ _ _ _ c.loop-turn.invariant c.turns_of-turn-end.ensures c.loop-turn-test.true _ _ _ c.string_turn-turn.ensures c.in_default.is

pub returns-after-loop-turn : goal.returns-after-loop-turn
returns-after-loop-turn c = gather-over _ _ _ _ _ c.loop-turn.invariant c.turns_of-turn-end.ensures c.loop-turn-test.false
