-- `decode_digits` meets its contract: what is decoded, and what is left, make the whole.
use mathlib.Core.Bool.{false}
use Prim.Native.Nat.{◌-◌}
use lib.ListN.{length}
use Rattle.literals.specs.Spelling.{span}
use Rattle.decoder.specs.Hex.{hex_events}
use Rattle.decoder.specs.Decodes.{Walk}
use Rattle.decoder.proofs.decode_digits.Given as goal

abbrev pub invariant-loop-i : goal.invariant-loop-i
invariant-loop-i l = Walk l.at (hex_events (span l.start l.end) false l.base l.w 0) l.initial.so_far l.initial.p (hex_events (span l.start l.end) l.already l.base l.w l.i) l.so_far l.p

abbrev pub decreases-loop-i : goal.decreases-loop-i
decreases-loop-i l = length l.w - l.i
