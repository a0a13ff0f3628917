-- `add` meets its contract: the state has one name more.
use mathlib.Core.Path.{refl}
use Prim.Native.Nat.{◌+◌, ◌*◌, ◌≤◌}
use native.Mathlib.Omega.{arith}
use lib.ListN.{length}
use Rattle.reading.specs.Source.{table_start}
use Rattle.interner.specs.State.{number_small, slot_small, slot-fits, first_small, state-new, state-old}
use Rattle.interner.proofs.trees.add.Goals as goal

pub overflow_cast-links : goal.overflow_cast-links
overflow_cast-links c = let small : c.slot_at-slot.result ≤ 32768 = slot_small _ _ _ _ _ c.requires.state c.requires.i_in_bounds.1 _ c.slot_at-slot.ensures.0 in omega (arith, small)

pub put-requires : goal.put-requires
put-requires c = let small : c.slot_at-slot.result ≤ 32768 = slot_small _ _ _ _ _ c.requires.state c.requires.i_in_bounds.1 _ c.slot_at-slot.ensures.0 in let room : table_start + 2 * c.slot_at-slot.result ≤ length c.args.source.now = slot-fits _ _ _ _ _ c.requires.state c.requires.i_in_bounds.1 _ c.slot_at-slot.ensures.0 in (room, small, number_small _ _ _ _ _ c.requires.state c.requires.i_in_bounds.1)

pub returns-then-c-eq0 : goal.returns-then-c-eq0
returns-then-c-eq0 c = state-new _ _ _ _ _ c.requires.state c.requires.i_in_bounds.1 _ c.search-p.ensures _ refl _ _ c.slot_at-slot.ensures.0 c.if-c-eq0.true c.put.ensures

pub get-first-requires : goal.get-first-requires
get-first-requires c = omega (arith, c.type_inv.links c.search-p.result)

pub put-requires-2 : goal.put-requires-2
put-requires-2 c = let small : c.slot_at-slot.result ≤ 32768 = slot_small _ _ _ _ _ c.requires.state c.requires.i_in_bounds.1 _ c.slot_at-slot.ensures.0 in let room : table_start + 2 * c.slot_at-slot.result ≤ length c.args.source.now = slot-fits _ _ _ _ _ c.requires.state c.requires.i_in_bounds.1 _ c.slot_at-slot.ensures.0 in (room, small, first_small _ _ _ _ _ c.requires.state c.requires.i_in_bounds.1 _ c.search-p.ensures _ refl c.args.source.now _ c.slot_at-slot.ensures.0 c.if-c-eq0.false _ c.get-first.ensures)

pub returns : goal.returns
returns c = state-old _ _ _ _ _ c.requires.state c.requires.i_in_bounds.1 _ c.search-p.ensures _ refl _ _ c.slot_at-slot.ensures.0 c.if-c-eq0.false _ c.get-first.ensures c.put-2.ensures
