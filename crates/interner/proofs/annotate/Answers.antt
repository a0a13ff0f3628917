-- `annotate` meets its contract, by case.
use mathlib.Core.Path.{refl, sym, ◌∙◌}
use mathlib.Core.Bool.{true≢false, false≢true}
use Rattle.interner.specs.Table.{table_none, annotates, too_long, too_short, by_order}
use native.Mathlib.Omega.{arith}
use Rattle.interner.proofs.annotate.Goals as goal

pub returns-then-text-gt-START : goal.returns-then-text-gt-START
returns-then-text-gt-START c = (too_long _ _ _ c.if-text-gt-START.true, (λ e. absurd (false≢true e)), (λ e. refl))

pub returns-then-source-text : goal.returns-then-source-text
returns-then-source-text c = (too_short _ _ _ c.if-text-gt-START.false c.if-source-text.true, (λ e. absurd (false≢true e)), (λ e. refl))

pub tell-requires : goal.tell-requires
tell-requires c = table_none _ _ _ (omega (arith, c.if-source-text.false)) c.if-text-gt-START.false c.copy.ensures (sym c.in_order.ensures ∙ c.if-in_order.true)

pub returns-then-in_order : goal.returns-then-in_order
returns-then-in_order c = (by_order _ _ _ c.if-text-gt-START.false c.if-source-text.false _ (sym c.if-in_order.true ∙ c.in_order.ensures), (λ e. annotates _ _ _ c.tell.ensures), (λ e. absurd (true≢false e)))

pub returns : goal.returns
returns c = (by_order _ _ _ c.if-text-gt-START.false c.if-source-text.false _ (sym c.if-in_order.false ∙ c.in_order.ensures), (λ e. absurd (false≢true e)), (λ e. refl))
