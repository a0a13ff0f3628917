-- `decode_pieces` meets its contract: what is decoded, and what is left, make the whole.
use Rattle.decoder.specs.Chars.{events-over}
use Rattle.decoder.specs.Decodes.{walk_first, walk-on, walk-last}
use Rattle.decoder.specs.Plain.{decodes-past, walk-stretch}
use Rattle.decoder.proofs.decode_pieces.Goals as goal

pub loop-i-init : goal.loop-i-init
loop-i-init c = walk_first _ _ _ _

pub loop-i-preserved : goal.loop-i-preserved
loop-i-preserved c = walk-stretch _ _ _ _ _ _ _ _ _ c.decode_bytes-more.ensures _ _ _ (walk-on _ _ _ _ _ _ _ c.loop-i.invariant _ _ _ _ c.piece_at-piece.ensures.is c.step-one.ensures)

pub returns : goal.returns
returns c = decodes-past _ _ _ _ _ _ _ _ _ c.decode_bytes-first.ensures _ _ (walk-last _ _ _ _ _ _ _ c.loop-i.invariant (events-over _ _ _ c.loop-i-test.false))
