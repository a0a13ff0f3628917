-- `alloc` meets its contract.
use mathlib.Core.Path.{sym, ◌∙◌}
use Rattle.reading.specs.Does.{stays}
use Rattle.nodes.specs.Laws.{room-number, room-words, alloc-full, alloc-fits}
use native.Mathlib.Omega.{arith}
use Rattle.nodes.proofs.alloc.Goals as goal

pub returns-then-is_refused : goal.returns-then-is_refused
returns-then-is_refused c = stays (sym c.is_refused.ensures ∙ c.if-is_refused.true)

pub returns-then-not-has_room : goal.returns-then-not-has_room
returns-then-not-has_room c = rw c.refuse.ensures (alloc-full (sym c.is_refused.ensures ∙ c.if-is_refused.false) _ _ _ _ (sym c.has_room.ensures ∙ c.if-not-has_room.true))

pub write_node-requires : goal.write_node-requires
write_node-requires c = room-words c.args.p.now.state c.args.p.now.nodes.now (sym c.has_room.ensures ∙ c.if-not-has_room.false)

pub overflow_add-p : goal.overflow_add-p
overflow_add-p c = omega (arith, room-number c.args.p.now.state c.args.p.now.nodes.now (sym c.has_room.ensures ∙ c.if-not-has_room.false))

pub returns : goal.returns
returns c = alloc-fits (sym c.is_refused.ensures ∙ c.if-is_refused.false) _ _ _ _ (sym c.has_room.ensures ∙ c.if-not-has_room.false) c.write_node.ensures
