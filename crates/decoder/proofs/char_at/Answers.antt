-- `char_at` meets its contract, by case.
use mathlib.Core.Path.{sym, ◌∙◌}
use Rattle.decoder.specs.Chars.{standing-is, standing-byte, standing-ascii}
use native.Mathlib.Omega.{arith}
use Rattle.decoder.proofs.char_at.Goals as goal

pub returns-then-b-lt128 : goal.returns-then-b-lt128
returns-then-b-lt128 c = standing-ascii _ _ c.requires c.if-b-lt128.true

pub overflow_add-result-in-Some : goal.overflow_add-result-in-Some
overflow_add-result-in-Some c = omega (arith, (standing-is _ _ c.requires _ (sym c.character_at.ensures ∙ c.in-Some.is)).within)

pub returns-in-Some : goal.returns-in-Some
returns-in-Some c = standing-is _ _ c.requires _ (sym c.character_at.ensures ∙ c.in-Some.is)

pub returns-in-None : goal.returns-in-None
returns-in-None c = standing-byte _ _ c.requires (sym c.character_at.ensures ∙ c.in-None.is)
