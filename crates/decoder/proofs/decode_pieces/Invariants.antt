-- `decode_pieces` meets its contract: what is decoded, and what is left, make the whole.
use Prim.Native.Nat.{◌-◌}
use lib.ListN.{length}
use Rattle.decoder.specs.Chars.{events}
use Rattle.decoder.specs.Decodes.{Walk}
use Rattle.decoder.proofs.decode_pieces.Given as goal

abbrev pub invariant-loop-i : goal.invariant-loop-i
invariant-loop-i l = Walk l.at (events l.base l.w l.initial.i) l.initial.so_far l.initial.p (events l.base l.w l.i) l.so_far l.p

abbrev pub decreases-loop-i : goal.decreases-loop-i
decreases-loop-i l = length l.w - l.i
