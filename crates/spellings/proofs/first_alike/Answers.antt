-- `first_alike` meets its contract: the first from token `n` on is the first of all. Inside, what is left to compare says what the
-- whole says.
use mathlib.Core.Path.{◌≡◌, refl, sym, ◌∙◌}
use Rattle.std.proofs.Common.{length, arith}
use Rattle.spellings.specs.Names.{alike-longer, alike-differ, alike_next, alike-over}
use Rattle.spellings.specs.Names.{first-start, first-other, first-differs, first-spelled, first-over}
use Rattle.spellings.proofs.first_alike.Goals as goal

pub tokens-init : goal.tokens-init
tokens-init c = (first-start _ _ _ _ _ c.spelling-name.ensures.0, omega arith)

pub tokens-preserved-then-kind_at-kind : goal.tokens-preserved-then-kind_at-kind
tokens-preserved-then-kind_at-kind c = (c.tokens.invariant.0 ∙ first-other _ _ _ _ _ c.tokens-test.true _ c.kind_at.ensures c.if-kind_at-kind.true, omega arith)

pub tokens-preserved-then-other-name : goal.tokens-preserved-then-other-name
tokens-preserved-then-other-name c = (c.tokens.invariant.0 ∙ first-differs _ _ _ _ _ c.tokens-test.true _ c.kind_at.ensures c.if-kind_at-kind.false _ c.spelling-other.ensures.0 (alike-longer _ _ c.if-other-name.true), omega arith)

pub loop-j-init : goal.loop-j-init
loop-j-init c = (refl, refl)

pub tokens-preserved : goal.tokens-preserved
tokens-preserved c = (rw c.loop-j.invariant.0 (c.tokens.invariant.0 ∙ first-differs _ _ _ _ _ c.tokens-test.true _ c.kind_at.ensures c.if-kind_at-kind.false _ c.spelling-other.ensures.0 (c.loop-j.invariant.1 ∙ alike-differ _ _ _ (omega arith) c.loop-j-test.true c.if-other-j.true)), omega (arith, c.loop-j.invariant.0, c.tokens-test.true))

pub loop-j-preserved : goal.loop-j-preserved
loop-j-preserved c = (c.loop-j.invariant.0, c.loop-j.invariant.1 ∙ alike_next _ _ _ (omega arith) c.loop-j-test.true c.if-other-j.false)

pub returns-in-tokens : goal.returns-in-tokens
returns-in-tokens c = c.loop-j.invariant.0 ∙ sym (c.tokens.invariant.0 ∙ first-spelled _ _ _ _ _ c.tokens-test.true _ c.kind_at.ensures c.if-kind_at-kind.false _ c.spelling-other.ensures.0 (c.loop-j.invariant.1 ∙ alike-over _ _ _ c.if-other-name.false c.loop-j-test.false))

pub returns : goal.returns
returns c = let z : length c.args.tokens.now ≡ c.tokens.n = omega (arith, c.tokens.invariant.1, c.tokens-test.false) in z ∙ sym (c.tokens.invariant.0 ∙ first-over _ _ _ _ _ c.tokens-test.false)
