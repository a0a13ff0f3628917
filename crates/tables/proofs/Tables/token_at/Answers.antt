-- `token_at` meets its contract: the first state says whether a run, a walk, or nothing more follows.
use mathlib.Core.Path.{sym, ◌∙◌}
use native.Mathlib.Omega.{arith}
use Rattle.tokens.specs.At.{word_fits}
use Rattle.rules.proofs.Steps.{name-here, blank-here, numeral-here, numeral-line, line-goes, ends-from, ends-to, ends-own, ends-later}
use Rattle.std.proofs.Common.{rules}
use Rattle.tables.proofs.Tables.token_at.Goals as goal

pub slice_bounds-keyword-end : goal.slice_bounds-keyword-end
slice_bounds-keyword-end c = omega (arith, (word_fits _ _ c.requires.1 _ c.name_end-end.ensures).1)

pub returns-then-first-eq-NAME : goal.returns-then-first-eq-NAME
returns-then-first-eq-NAME c = search (rules, name-here)

pub returns-then-first-eq-BLANKS : goal.returns-then-first-eq-BLANKS
returns-then-first-eq-BLANKS c = search (rules, blank-here)

pub operator_at-requires : goal.operator_at-requires
operator_at-requires c = (c.requires.0, c.requires.1, c.next-first.ensures.0, sym c.is_operator.ensures ∙ c.if-is_operator.true)

pub numeral-t-requires : goal.numeral-t-requires
numeral-t-requires c = (sym c.is_numeric.ensures ∙ c.if-is_numeric.true, search rules)

pub kind_of-requires : goal.kind_of-requires
kind_of-requires c = let l = numeral-line c.numeral-t.result.kind c.numeral-t.ensures.1 in (omega (arith, l.low), omega (arith, l.high))

pub returns-then-is_numeric : goal.returns-then-is_numeric
returns-then-is_numeric c = let number = sym c.is_numeric.ensures ∙ c.if-is_numeric.true in numeral-here _ _ c.requires.1 _ c.next-first.ensures.0 _ c.numeral-t.result (line-goes _ (numeral-line c.next-first.result number)) c.numeral-t.ensures.0 c.numeral-t.ensures.1 c.kind_of.ensures

pub returns-then-kind-ne-EOF : goal.returns-then-kind-ne-EOF
returns-then-kind-ne-EOF c = ends-own _ _ c.requires.1 _ c.ending-t.ensures.0 _ c.kind_of-kind.ensures c.if-kind-ne-EOF.true

pub special-other-requires : goal.special-other-requires
special-other-requires c = (c.requires.0, c.requires.1, ends-from _ _ c.requires.1 _ c.ending-t.ensures.0, ends-to _ _ c.requires.1 _ c.ending-t.ensures.0, sym c.kind_of-kind.ensures ∙ c.if-kind-ne-EOF.false, c.ending-t.ensures.3)

pub returns : goal.returns
returns c = ends-later _ _ c.requires.1 _ c.ending-t.ensures.0 _ c.special-other.ensures
