-- What the digits of a number token make, and the words of its value.
use Rattle.std.proofs.Math.Option.{Option, none, some}
use Rattle.std.specs.Prelude.{true, false, cond, ◌&&◌, List, [], ◌∷◌, ℕ, zero, suc, ◌+◌, ◌-◌, ◌*◌, ◌/◌, ◌%◌, ◌^◌, eqb, leb, length}
use Rattle.words.specs.Value
use Rattle.words.specs.Words.{value_head}

-- `parse_nibble` of strings.rs: what a character counts as a digit of radix 16, which has those of 10 and 2.
unfoldable pub nibble : ℕ → Option ℕ
nibble c =
    cond (leb 48 c && leb c 57) (some (c - 48))
    (cond (leb 65 c && leb c 70) (some (c - 65 + 10))
    (cond (leb 97 c && leb c 102) (some (c - 97 + 10)) none))

-- The number that digits make in a radix, after `n`. "Its value passes over `_`" (01, lexer.rs), and over all else that is no digit.
unfoldable pub digits : ℕ → ℕ → List ℕ → ℕ
digits radix n [] = n
digits radix n (b ∷ s) = elim (nibble b) [ some d ↦ digits radix (n * radix + d) s | none ↦ digits radix n s ]

-- The base of limbs: one limb is one word.
abbrev pub limb_base : ℕ
limb_base = 2 ^ 32

-- The limbs of a number, "least first with no top zero" (01, Words that are lent); zero has none.
-- `bound` is never used up where it is as large as the number (`Laws.limbs-make`).
unfoldable pub limbs_within : ℕ → ℕ → List ℕ
limbs_within zero n = []
limbs_within (suc bound) n = elim (eqb n 0) [ true ↦ [] | false ↦ n % limb_base ∷ limbs_within bound (n / limb_base) ]

abbrev pub limbs : ℕ → List ℕ
limbs n = limbs_within n n

-- "Value: top 2 bits 1 for a number, ..; low 30 the limb .. count. Limbs follow" (01, Words that are lent).
unfoldable pub number_value : ℕ → List ℕ
number_value n = value_head Value.Number (length (limbs n)) ∷ limbs n
