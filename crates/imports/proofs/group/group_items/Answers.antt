-- `group_items` meets its contract: what is left of the list comes to what the whole list comes to, and no more items are
-- counted than turns are taken.
use Rattle.std.proofs.Common.{sym, arith, ◌∙◌}
use Rattle.stream.specs.Delimited.{list-starts, list-refused, list_over, found-next, found-last, missing-next, missing-last}
use Rattle.imports.specs.Group.{item-found, item-missing}
use Rattle.imports.proofs.group.group_items.Goals as goal
use Rattle.imports.proofs.group.group_items.Goals.{in-Some+else-not-eat, in-None+else-list_ends}

pub loop-turn-init : goal.loop-turn-init
loop-turn-init c = (list-starts, omega arith)

pub returns-then-is_refused : goal.returns-then-is_refused
returns-then-is_refused c = list-refused c.loop-turn.invariant.0 (sym c.is_refused.ensures ∙ c.if-is_refused.true)

pub loop-turn-preserved : goal.loop-turn-preserved
loop-turn-preserved c =
    elim c.match-group_item.branch [
      | in-Some+else-not-eat w ↦ rw (w.node-is, w.count-is, w.emitted-is, w.p-is) (found-next c.loop-turn.invariant.0 c.turns_of-turn-end.ensures c.loop-turn-test.true (item-found _ c.group_item.ensures w.in-Some.is) w.if-not-eat.ensures, omega (arith, c.loop-turn.invariant.1))
      | in-None+else-list_ends w ↦ rw (w.node-is, w.count-is, w.emitted-is, w.p-is) (missing-next c.loop-turn.invariant.0 c.turns_of-turn-end.ensures c.loop-turn-test.true (item-missing _ c.group_item.ensures w.in-None.is) w.if-list_ends.ensures w.pass_unexpected.ensures, omega (arith, c.loop-turn.invariant.1))
    ]

pub returns-after-loop-turn : goal.returns-after-loop-turn
returns-after-loop-turn c = list_over c.loop-turn.invariant.0 c.turns_of-turn-end.ensures c.loop-turn-test.false

pub returns-then-not-eat : goal.returns-then-not-eat
returns-then-not-eat c = found-last c.loop-turn.invariant.0 c.turns_of-turn-end.ensures c.loop-turn-test.true (item-found _ c.group_item.ensures c.in-Some.is) c.if-not-eat.ensures

pub returns-then-list_ends : goal.returns-then-list_ends
returns-then-list_ends c = missing-last c.loop-turn.invariant.0 c.turns_of-turn-end.ensures c.loop-turn-test.true (item-missing _ c.group_item.ensures c.in-None.is) c.if-list_ends.ensures
