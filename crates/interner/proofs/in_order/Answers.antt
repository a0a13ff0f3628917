-- `in_order` meets its contract: the tokens that were passed end inside, and the names among them rise.
use mathlib.Core.Path.{◌∙◌}
use mathlib.Core.Bool.{true, and-false}
use native.Mathlib.Omega.{arith}
use Rattle.interner.specs.Same.{inside-next, inside-not, inside-over}
use Rattle.interner.specs.Order.{name-is, rise-over, rise-skip, rise-not, rise-many, rise-next}
use Rattle.interner.proofs.in_order.Goals as goal
use Rattle.interner.proofs.in_order.Goals.{then-is_name+else-slot-last+else-i-ge-START, else-is_name}

pub returns-then-n-end : goal.returns-then-n-end
returns-then-n-end c = rw (c.loop-i.invariant.0 ∙ inside-not _ _ _ c.loop-i-test.true (omega (arith, c.token_end-end.ensures, c.if-n-end.true)))

pub returns-then-slot-last : goal.returns-then-slot-last
returns-then-slot-last c = let name = name-is _ _ _ _ true c.kind_at.ensures c.is_name.ensures c.if-is_name.true in rw (c.loop-i.invariant.1 ∙ rise-not _ _ _ c.loop-i-test.true name _ c.slot_at-slot.ensures.0 (omega (arith, c.if-slot-last.true)), and-false)

pub returns-then-i-ge-START : goal.returns-then-i-ge-START
returns-then-i-ge-START c = let name = name-is _ _ _ _ true c.kind_at.ensures c.is_name.ensures c.if-is_name.true in rw (c.loop-i.invariant.1 ∙ rise-many _ _ _ c.loop-i-test.true name _ c.slot_at-slot.ensures.0 c.if-slot-last.false c.if-i-ge-START.true, and-false)

pub loop-i-preserved : goal.loop-i-preserved
loop-i-preserved c = let l = c.loop-i-test.true in (
  c.loop-i.invariant.0 ∙ inside-next _ _ _ l (omega (arith, c.token_end-end.ensures, c.if-n-end.false)),
  elim c.if-is_name.branch [
    | then-is_name+else-slot-last+else-i-ge-START w ↦ c.loop-i.invariant.1 ∙ rise-next _ _ _ l (name-is _ _ _ _ _ c.kind_at.ensures c.is_name.ensures w.if-is_name.true) _ (w.last-is ∙ w.slot_at-slot.ensures.0) (rw w.last-is w.if-slot-last.false) w.if-i-ge-START.false
    | else-is_name w ↦ c.loop-i.invariant.1 ∙ (rise-skip _ _ _ l (name-is _ _ _ _ _ c.kind_at.ensures c.is_name.ensures w.if-is_name.false) ∙ rw w.last-is)
  ],
)

pub returns : goal.returns
returns c = let over = c.loop-i-test.false in rw (c.loop-i.invariant.0 ∙ inside-over _ _ _ over, c.loop-i.invariant.1 ∙ rise-over _ _ _ over)
