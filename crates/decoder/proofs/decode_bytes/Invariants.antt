-- `decode_bytes` meets its contract: the bytes so far are a stretch.
use Prim.Native.Nat.{◌-◌}
use lib.ListN.{length}
use Rattle.decoder.specs.Plain.{Stretch}
use Rattle.decoder.proofs.decode_bytes.Given as goal

abbrev pub invariant-loop-j : goal.invariant-loop-j
invariant-loop-j l = Stretch l.base l.w l.initial.j l.j l.at l.initial.so_far l.initial.values l.so_far l.values

abbrev pub decreases-loop-j : goal.decreases-loop-j
decreases-loop-j l = length l.w - l.j
