-- `search` meets its contract: no name that was passed matches, and no more are passed than the name has bits.
use Prim.Native.Nat.{◌+◌, ◌-◌, ◌*◌}
use lib.ListN.{length}
use Rattle.interner.specs.Search.{Stands}
use Rattle.interner.proofs.trees.search.Given as goal

abbrev pub invariant-loop-name : goal.invariant-loop-name
invariant-loop-name l = Stands l.text l.tokens l.links l.i l.p l.k

abbrev pub decreases-loop-name : goal.decreases-loop-name
decreases-loop-name l = 49 + 8 * length l.name - l.k
