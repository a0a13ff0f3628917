-- Laws of the definitions of this crate.
use Rattle.std.specs.Prelude.{List, [], ◌∷◌, ℕ, ◌+◌, ◌*◌, ◌<◌}
use Rattle.literals.specs.Numbers.{limb_base}

-- The number that limbs make, least first.
abbrev pub made : List ℕ → ℕ
made [] = 0
made (l ∷ ls) = l + limb_base * made ls

-- Each limb is a word, and the last one is not 0.
abbrev pub Proper : List ℕ → Type 0
Proper [] = Unit {0}
Proper (l ∷ []) = (l < limb_base) × (0 < l)
Proper (l ∷ k ∷ ls) = (l < limb_base) × Proper (k ∷ ls)
