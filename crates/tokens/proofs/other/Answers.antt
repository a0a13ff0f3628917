-- `other` meets its contract.
use mathlib.Core.Path.{refl, sym, ◌∙◌, ap}
use lib.ListN.{length-drop}
use Rattle.utf8.specs.Laws.{character-fits}
use Rattle.tokens.specs.Cases.{match_of}
use Rattle.tokens.specs.At.{fixed-at, fixed-fits, invalid-at}
use native.Mathlib.Omega.{arith}
use Rattle.tokens.proofs.other.Goals as goal

pub overflow_add-result : goal.overflow_add-result
overflow_add-result c = omega (arith, fixed-fits _ _ _ (ap match_of (sym c.in-Some.is) ∙ c.punctuation.ensures))

pub overflow_add-result-in-Some-character_at : goal.overflow_add-result-in-Some-character_at
overflow_add-result-in-Some-character_at c = let h = character-fits _ _ (sym c.character_at.ensures ∙ c.in-Some-character_at.is) in omega (arith, length-drop c.args.at c.args.text.now)

pub returns-in-Some : goal.returns-in-Some
returns-in-Some c = fixed-at _ _ c.requires.0 _ c.byte_at-next.ensures c.requires.1 _ (ap match_of (sym c.in-Some.is) ∙ c.punctuation.ensures)

pub returns-in-Some-character_at : goal.returns-in-Some-character_at
returns-in-Some-character_at c = invalid-at _ _ c.requires.0 _ c.byte_at-next.ensures c.requires.1 _ _ (ap match_of (sym c.in-None.is) ∙ c.punctuation.ensures) (sym c.in-Some-character_at.is ∙ c.character_at.ensures) refl

pub returns-in-None-character_at : goal.returns-in-None-character_at
returns-in-None-character_at c = invalid-at _ _ c.requires.0 _ c.byte_at-next.ensures c.requires.1 _ _ (ap match_of (sym c.in-None.is) ∙ c.punctuation.ensures) (sym c.in-None-character_at.is ∙ c.character_at.ensures) refl
