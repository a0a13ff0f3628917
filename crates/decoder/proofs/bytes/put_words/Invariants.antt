-- `put_words` meets its contract: the words so far are a stretch of plain bytes.
use Prim.Native.Nat.{ℕ, ◌+◌, ◌*◌}
use Rattle.std.specs.Prelude.{Some}
use Rattle.decoder.specs.Plain.{Stretch}
use Rattle.decoder.proofs.bytes.put_words.Given as goal

abbrev pub invariant-loop-t : goal.invariant-loop-t
invariant-loop-t l = (base : ℕ) → Stretch base l.w l.i (l.i + 4 * l.t) l.at (Some l.n) l.initial.values (Some (l.n + 4 * l.t)) l.values
