-- `locate_in` meets its contract. The loop's invariant: `p` is the position of the byte that comes next.
use mathlib.Core.Path.{◌≡◌}
use Rattle.position.specs.Position.{position_in}
use Rattle.position.proofs.locate_in.Given as goal

abbrev pub invariant-loop-byte : goal.invariant-loop-byte
invariant-loop-byte l = l.p ≡ position_in l.text l.byte-index
