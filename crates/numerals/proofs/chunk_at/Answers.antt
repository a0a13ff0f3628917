-- `chunk_at` meets its contract: the digits so far, and those that are left, make what they all do.
use mathlib.Core.Path.{refl}
use Rattle.numerals.specs.Chunks.{chunked-none, chunked-some}
use Rattle.numerals.proofs.chunk_at.Goals as goal

pub loop-j-preserved-in-Some : goal.loop-j-preserved-in-Some
loop-j-preserved-in-Some c = chunked-some _ c.requires _ _ _ _ _ c.loop-j.invariant _ refl c.loop-j-test.true _ (rw c.in-Some.is at c.digit_of.ensures.0) (rw c.in-Some.is at c.digit_of.ensures.1)

pub loop-j-preserved : goal.loop-j-preserved
loop-j-preserved c = chunked-none _ c.requires _ _ _ _ _ c.loop-j.invariant _ refl c.loop-j-test.true (rw c.in_default.is at c.digit_of.ensures.0)
