-- `invalid` meets its contract.
use mathlib.Core.Path.{refl, sym, ◌∙◌}
use native.Mathlib.Omega.{arith}
use lib.ListN.{length-drop}
use Rattle.utf8.specs.Laws.{character-fits}
use Rattle.rules.proofs.Steps.{invalid-is}
use Rattle.tables.proofs.invalid.Goals as goal

pub overflow_add-result : goal.overflow_add-result
overflow_add-result c = let h = character-fits _ _ (sym c.character_at.ensures ∙ c.in-Some.is) in omega (arith, length-drop c.args.at c.args.text.now)

pub returns-in-Some : goal.returns-in-Some
returns-in-Some c = invalid-is _ _ _ _ (sym c.in-Some.is ∙ c.character_at.ensures) refl

pub returns-in-None : goal.returns-in-None
returns-in-None c = invalid-is _ _ _ _ (sym c.in-None.is ∙ c.character_at.ensures) refl
