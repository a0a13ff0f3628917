-- `decode_digits` meets its contract: what is decoded, and what is left, make the whole.
use Rattle.decoder.specs.Hex.{hex-over}
use Rattle.decoder.specs.Decodes.{walk_first, walk-on, walk-last}
use Rattle.decoder.proofs.decode_digits.Goals as goal

pub loop-i-init : goal.loop-i-init
loop-i-init c = walk_first _ _ _ _

pub loop-i-preserved : goal.loop-i-preserved
loop-i-preserved c = walk-on _ _ _ _ _ _ _ c.loop-i.invariant _ _ _ _ c.pair-more.ensures.is c.pair-more.ensures.decodes

pub returns : goal.returns
returns c = walk-last _ _ _ _ _ _ _ c.loop-i.invariant (hex-over _ _ _ _ _ c.loop-i-test.false)
