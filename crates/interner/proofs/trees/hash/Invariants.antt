-- `hash` meets its contract: the rest of the bytes gives the bucket of all.
use mathlib.Core.Path.{◌≡◌}
use Prim.Native.Nat.{◌<◌}
use lib.ListN.{drop}
use Rattle.interner.specs.Hash.{hash, hash_from}
use Rattle.interner.proofs.trees.hash.Given as goal

abbrev pub invariant-loop-b : goal.invariant-loop-b
invariant-loop-b l = (l.h < 4294967296) × (hash l.s ≡ hash_from l.h (drop l.b-index l.s))
