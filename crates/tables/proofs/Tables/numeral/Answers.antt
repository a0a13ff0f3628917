-- `numeral` meets its contract: what is left of the walk at `i` ends where, and in which state, all of it ends.
use lib.ListN.{length}
use mathlib.Core.Path.{◌≡◌, refl, sym, ◌∙◌, ap}
use Rattle.rules.specs.Rule.{numeric}
use Rattle.rules.specs.Alike.{numeral-on}
use Rattle.rules.proofs.Steps.{walk-over, numeral-next, numeral-stop, numeral-line}
use Rattle.std.proofs.Common.{arith}
use Rattle.tables.proofs.Tables.numeral.Goals as goal

pub next-q-requires : goal.next-q-requires
next-q-requires c = let l = numeral-line c.loop-i.q c.loop-i.invariant.1 in (l.low, l.high)

pub loop-i-preserved : goal.loop-i-preserved
loop-i-preserved c = let small = c.is_part.ensures.1 in let part = sym c.is_part.ensures.0 ∙ c.if-not-is_part.false in (numeral-next _ _ _ _ _ refl small c.loop-i-test.true c.loop-i.invariant.1 _ part c.next-q.ensures.0 c.loop-i.invariant.0, ap numeric c.next-q.ensures.0 ∙ numeral-on _ _ small c.loop-i.invariant.1 part)

pub returns-then-not-is_part : goal.returns-then-not-is_part
returns-then-not-is_part c = let small = c.is_part.ensures.1 in (numeral-stop _ _ _ _ _ refl small c.loop-i-test.true c.loop-i.invariant.1 (sym c.is_part.ensures.0 ∙ c.if-not-is_part.true) c.loop-i.invariant.0, c.loop-i.invariant.1)

pub returns : goal.returns
returns c = let e : length c.args.text.now ≡ c.loop-i.i = omega (arith, c.loop-i.auto.i-end c.requires.1) in (rw e (walk-over _ _ _ _ c.loop-i-test.false c.loop-i.invariant.0), c.loop-i.invariant.1)
