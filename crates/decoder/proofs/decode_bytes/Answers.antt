-- `decode_bytes` meets its contract: the bytes so far are a stretch.
use Rattle.decoder.specs.Plain.{stretch-none, stretch-byte, stretch-then}
use native.Mathlib.Omega.{arith}
use Rattle.decoder.proofs.decode_bytes.Goals as goal

pub loop-j-init : goal.loop-j-init
loop-j-init c = stretch-none _ _ _ _ _ _ (c.push_plain-first.ensures 0).within

pub loop-j-smaller : goal.loop-j-smaller
loop-j-smaller c = omega (arith, c.piece_at-piece.ensures.on, c.piece_at-piece.ensures.within, (c.push_plain-more.ensures 0).on, (c.push_plain-more.ensures 0).within)

pub loop-j-preserved : goal.loop-j-preserved
loop-j-preserved c = stretch-then _ _ _ _ _ _ _ _ _ _ _ _ (stretch-byte _ _ _ _ _ _ _ _ _ c.loop-j.invariant _ _ _ c.piece_at-piece.ensures c.in-Byte.is _ _ c.push_byte-one.ensures c.push_byte-one.auto.values) (c.push_plain-more.ensures _)

pub returns-in_default : goal.returns-in_default
returns-in_default c = stretch-then _ _ _ _ _ _ _ _ _ _ _ _ (c.push_plain-first.ensures _) c.loop-j.invariant

pub returns-after-loop-j : goal.returns-after-loop-j
returns-after-loop-j c = stretch-then _ _ _ _ _ _ _ _ _ _ _ _ (c.push_plain-first.ensures _) c.loop-j.invariant
