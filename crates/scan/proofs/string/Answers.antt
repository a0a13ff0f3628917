-- `string` meets its contract: what is left of the string at `i` ends it where, and as what, all of it ends.
use Rattle.std.proofs.Common.{◌≡◌, ◌||◌, ◌&&◌, ◌∙◌, not, eqb, get_or, false, true, refl, arith}
use Rattle.std.proofs.lemmas.Bool.Decides.{nat_tests}
use Rattle.scan.specs.Laws.{string-over, string-stop, string-next}
use Rattle.scan.proofs.string.Goals as goal

pub returns-then-b-eq34 : goal.returns-then-b-eq34
returns-then-b-eq34 c =
    let b = get_or c.args.text.now c.loop-i.i 0 in
    let e : (not c.loop-i.hidden && eqb b 34) ≡ true = grind (arith, nat_tests) in
    c.literal.ensures ∙ string-stop _ _ _ _ _ _ _ _ c.loop-i-test.true refl e c.loop-i.invariant.0

pub loop-i-preserved : goal.loop-i-preserved
loop-i-preserved c =
    let b = get_or c.args.text.now c.loop-i.i 0 in
    let e : (not c.loop-i.hidden && eqb b 34) ≡ false = grind (arith, nat_tests) in
    let m : c.if-malformed.malformed ≡ (c.loop-i.malformed || (not c.loop-i.hidden && (eqb b 10 || eqb b 13))) = grind (arith, nat_tests) in
    let h : c.if-not-hidden-3.hidden ≡ (c.args.hides && (not c.loop-i.hidden && eqb b 92)) = grind (arith, nat_tests) in
    (string-next _ _ _ _ _ _ _ _ c.loop-i-test.true refl _ _ _ _ e refl m refl h c.loop-i.invariant.0, omega arith)

pub returns : goal.returns
returns c = let e : c.max.result ≡ c.loop-i.i = omega arith in rw e (string-over _ _ _ _ _ _ _ c.loop-i-test.false c.loop-i.invariant.0)
