-- `string_value` meets its contract, by case.
use mathlib.Core.Path.{sym, ◌∙◌}
use Rattle.decoder.specs.StringValue.{rounded, string-none, string-full, string-fits}
use Rattle.decoder.proofs.string_value.Goals as goal
use Rattle.decoder.proofs.string_value.Goals.{in_default-via-in-Some+else-at-p, in_default-via-in_default}

pub returns-in-Some : goal.returns-in-Some
returns-in-Some c = rw c.past.ensures (string-fits _ _ (sym c.is_refused.ensures ∙ c.if-is_refused.false) _ c.in-Some.is c.if-at-p.true _ c.head.ensures _ (rounded _ _ c.div_ceil.ensures))

pub returns-in_default : goal.returns-in_default
returns-in_default c =
    elim c.in_default.branch [
      | in_default-via-in-Some+else-at-p w ↦ rw c.refuse.ensures (string-none _ _ (sym c.is_refused.ensures ∙ c.if-is_refused.false) w.if-at-p.false)
      | in_default-via-in_default w ↦ rw c.refuse.ensures (string-full _ _ (sym c.is_refused.ensures ∙ c.if-is_refused.false) w.in_default.is)
    ]
