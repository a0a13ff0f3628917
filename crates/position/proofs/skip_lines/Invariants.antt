-- `skip_lines` meets its contract. The loop's invariant: what is left to pass from `at` on ends where the whole does.
use mathlib.Core.Path.{◌≡◌}
use Prim.Native.Nat.{◌+◌}
use lib.ListN.{drop}
use Rattle.position.specs.Position.{behind}
use Rattle.position.proofs.skip_lines.Given as goal

abbrev pub invariant-loop-at : goal.invariant-loop-at
invariant-loop-at l = l.at + behind (drop l.at l.text) l.left ≡ behind l.text l.newlines
