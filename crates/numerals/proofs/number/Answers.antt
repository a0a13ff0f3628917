-- `number` meets its contract, by case.
use mathlib.Core.Path.{sym, ◌∙◌}
use Rattle.values.specs.Kept.{value-full, value-fits}
use Rattle.numerals.proofs.number.Goals as goal

pub returns-in-Some : goal.returns-in-Some
returns-in-Some c = rw c.past.ensures (value-fits _ (sym c.is_refused.ensures ∙ c.if-is_refused.false) _ _ _ c.store_token.ensures _ c.in-Some.is)

pub returns-in-None : goal.returns-in-None
returns-in-None c = rw c.refuse.ensures (value-full _ (sym c.is_refused.ensures ∙ c.if-is_refused.false) _ _ _ c.store_token.ensures c.in-None.is)
