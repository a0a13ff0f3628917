-- `group_items` meets its contract: what is left of the list comes to what the whole list comes to, and no more items are
-- counted than turns are taken.
use Prim.Native.Nat.{◌≤◌}
use Rattle.words.specs.Token
use Rattle.definition.specs.Declarations.{group_item}
use Rattle.stream.specs.Delimited.{Listing}
use Rattle.imports.specs.Group.{group_of}
use Rattle.imports.proofs.group.group_items.Given as goal

abbrev pub invariant-loop-turn : goal.invariant-loop-turn
invariant-loop-turn l = (Listing Token.RightCurly Token.Comma group_item (group_of l.initial.node 0) l.initial.p l._turn (group_of l.node l.count) l.emitted l.p) × (l.count ≤ l._turn)
