-- `first_alike` meets its contract: the first from token `n` on is the first of all. Inside, what is left to compare says what the
-- whole says.
use mathlib.Core.Path.{◌≡◌}
use Prim.Native.Nat.{◌≤◌}
use lib.ListN.{length, drop}
use Rattle.literals.specs.Spelling.{alike, first_alike}
use Rattle.spellings.specs.Names.{from}
use Rattle.spellings.proofs.first_alike.Given as goal

abbrev pub invariant-loop-j : goal.invariant-loop-j
invariant-loop-j l = (l.n ≡ l.initial.n) × (alike l.other l.name ≡ alike (drop l.j l.other) (drop l.j l.name))

abbrev pub invariant-tokens : goal.invariant-tokens
invariant-tokens l = (first_alike l.text l.tokens l.kind l.i ≡ from l.text l.tokens l.kind l.name l.n) × (l.n ≤ length l.tokens)
