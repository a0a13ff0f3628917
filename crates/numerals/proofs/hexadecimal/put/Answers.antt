-- `put` meets its contract: the limbs so far, and those of the number that is left, make the whole.
use Rattle.numerals.specs.Hexadecimal.{limbed-full, limbed-next, limbed-last}
use Rattle.numerals.proofs.hexadecimal.put.Goals as goal

pub returns-then-room-n : goal.returns-then-room-n
returns-then-room-n c = limbed-full _ _ _ c.leading-first.ensures _ _ _ _ c.loop-end.invariant c.loop-end-test.true c.if-room-n.true

pub loop-end-preserved : goal.loop-end-preserved
loop-end-preserved c = limbed-next _ _ _ c.leading-first.ensures _ _ _ _ c.loop-end.invariant c.loop-end-test.true c.if-room-n.false _ _ c.limb_before-l.ensures

pub returns : goal.returns
returns c = limbed-last _ _ _ c.leading-first.ensures _ _ _ _ c.loop-end.invariant c.loop-end-test.false
