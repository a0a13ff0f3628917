-- `number` meets its contract: what is left of the number at `i` ends it where, and as what, all of it ends.
use Rattle.std.proofs.Common.{◌≡◌, ◌∙◌, arith}
use Rattle.scan.specs.Laws.{number-over, number-stop, number-outside, number-inside}
use Rattle.scan.proofs.number.Goals.{then-is_outside+else-not-is_ident_part, else-is_outside}
use Rattle.scan.proofs.number.Goals as goal

pub loop-i-preserved : goal.loop-i-preserved
loop-i-preserved c = (
  elim c.if-is_outside.branch [
    | then-is_outside+else-not-is_ident_part w ↦ number-outside _ _ _ _ _ _ _ c.loop-i-test.true w.is_ident_part.ensures _ _ w.if-not-is_ident_part.false c.is_outside.ensures w.if-is_outside.true w.malformed-is c.loop-i.invariant.0
    | else-is_outside w ↦ number-inside _ _ _ _ _ _ c.loop-i-test.true _ _ c.is_outside.ensures w.if-is_outside.false w.malformed-is c.loop-i.invariant.0
  ],
  omega arith,
)

pub returns-then-not-is_ident_part : goal.returns-then-not-is_ident_part
returns-then-not-is_ident_part c = c.literal.ensures ∙ number-stop _ _ _ _ _ _ _ c.loop-i-test.true c.is_ident_part.ensures c.if-not-is_ident_part.true c.loop-i.invariant.0

pub returns : goal.returns
returns c = let e : c.max.result ≡ c.loop-i.i = omega arith in rw e at c.literal-2.ensures ∙ number-over _ _ _ _ _ _ c.loop-i-test.false c.loop-i.invariant.0
