-- `utf8::check` meets its contract. The loop's invariant: what the text from `at` on is found to be is what the whole text is.
use mathlib.Core.Path.{refl, sym, ◌∙◌}
use native.Mathlib.Omega.{arith}
use lib.ListN.{drop_of_length-le}
use Rattle.utf8.specs.Utf8.{checked_from}
use Rattle.utf8.specs.Ascii.{ascii-passed}
use Rattle.utf8.proofs.Walk.{Fits, fits, walk-right, walk-wrong}
use Rattle.utf8.proofs.check.Goals as goal

pub loop-at-init : goal.loop-at-init
loop-at-init c = (omega arith, refl)

pub overflow_add-at : goal.overflow_add-at
overflow_add-at c = let l = (c.are_ascii.ensures c.if-are_ascii.true).within in omega arith

pub loop-at-smaller-then-are_ascii : goal.loop-at-smaller-then-are_ascii
loop-at-smaller-then-are_ascii c = let l = (c.are_ascii.ensures c.if-are_ascii.true).within in omega arith

pub loop-at-preserved-then-are_ascii : goal.loop-at-preserved-then-are_ascii
loop-at-preserved-then-are_ascii c = let a = c.are_ascii.ensures c.if-are_ascii.true in (a.within, sym (ascii-passed _ _ 8 a) ∙ c.loop-at.invariant.1)

pub overflow_add-at-in-Ok : goal.overflow_add-at-in-Ok
overflow_add-at-in-Ok c = let arm : Fits c.args.text.now c.loop-at.at c.in-Ok.n = fits _ _ c.loop-at-test.true _ (sym c.sequence_at.ensures ∙ c.in-Ok.is) in omega (arith, arm)

pub loop-at-smaller : goal.loop-at-smaller
loop-at-smaller c = let arm : Fits c.args.text.now c.loop-at.at c.in-Ok.n = fits _ _ c.loop-at-test.true _ (sym c.sequence_at.ensures ∙ c.in-Ok.is) in omega (arith, arm)

pub loop-at-preserved : goal.loop-at-preserved
loop-at-preserved c = let arm : Fits c.args.text.now c.loop-at.at c.in-Ok.n = fits _ _ c.loop-at-test.true _ (sym c.sequence_at.ensures ∙ c.in-Ok.is) in let w = walk-right c.args.text.now c.loop-at.at c.loop-at-test.true c.in-Ok.n (sym c.sequence_at.ensures ∙ c.in-Ok.is) in ((arm).within, sym w ∙ c.loop-at.invariant.1)

pub returns-in-Err : goal.returns-in-Err
returns-in-Err c = let w = walk-wrong c.args.text.now c.loop-at.at c.loop-at-test.true c.in-Err.way (sym c.sequence_at.ensures ∙ c.in-Err.is) in sym w ∙ c.loop-at.invariant.1

pub returns : goal.returns
unfolding checked_from
returns c = let e = drop_of_length-le c.args.text.now c.loop-at-test.false in rw e at c.loop-at.invariant.1
