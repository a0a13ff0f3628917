-- `chunk_at` meets its contract: the digits so far, and those that are left, make what they all do.
use Prim.Native.Nat.{◌-◌}
use lib.ListN.{length}
use Rattle.numerals.specs.Chunks.{Chunked}
use Rattle.numerals.proofs.chunk_at.Given as goal

abbrev pub invariant-loop-j : goal.invariant-loop-j
invariant-loop-j l = Chunked l.radix l.source l.i l.value l.unit l.j

abbrev pub decreases-loop-j : goal.decreases-loop-j
decreases-loop-j l = length l.source - l.j
