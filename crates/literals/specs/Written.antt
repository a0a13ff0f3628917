-- Numbers read a second way: a number that is written out is read back. (The parser and the chart share `digits`, so neither sees a slip in it.)
use Rattle.std.specs.Prelude.{◌≡◌, refl, Bool, true, false, ℕ, zero, suc, ◌+◌, ◌*◌, ◌/◌, ◌%◌, ◌≤◌, ◌<◌, ltb, get_or, length}
use Rattle.std.proofs.Common.{ap, ◌∙◌, div-add-mod', mod-lt, arith, ltb-true, ltb-false}
use mathlib.Core.List.{List, [], ◌∷◌, ◌++◌, map, tail}
use Rattle.std.proofs.Math.Option.{Option, none, some}
use Rattle.std.proofs.Math.Nat.{div-lt_self}
use Rattle.words.specs.Order.{counted}
use Rattle.literals.specs.Numbers.{nibble, digits}

-- A number in a radix, its highest digit first; `letters` has the characters of the digits. `bound` is never used up where it is above the number.
unfoldable pub written_within : List ℕ → ℕ → ℕ → ℕ → List ℕ
written_within letters radix zero n = []
written_within letters radix (suc bound) n =
    elim (ltb n radix) [
      | true ↦ get_or letters n 0 ∷ []
      | false ↦ written_within letters radix bound (n / radix) ++ (get_or letters (n % radix) 0 ∷ [])
    ]

abbrev pub written : List ℕ → ℕ → ℕ → List ℕ
written letters radix n = written_within letters radix (suc n) n

digits_append : (radix n : ℕ) (s t : List ℕ) → digits radix n (s ++ t) ≡ digits radix (digits radix n s) t
unfolding digits
digits_append radix n [] t = refl
digits_append radix n (b ∷ s) t = go (nibble b) (λ m. digits_append radix m s t)
  where
    go : (x : Option ℕ) → ((m : ℕ) → digits radix m (s ++ t) ≡ digits radix (digits radix m s) t)
        → elim x [ some d ↦ digits radix (n * radix + d) (s ++ t) | none ↦ digits radix n (s ++ t) ] ≡ digits radix (elim x [ some d ↦ digits radix (n * radix + d) s | none ↦ digits radix n s ]) t
    go (some d) f = f (n * radix + d)
    go none f = f n

-- In a row of characters whose digits count up from `n`, the one at place `d` counts `n + d`.
letter-counts : (letters : List ℕ) (n size : ℕ) → map nibble letters ≡ map some (counted n size) → (d : ℕ) → d < size → nibble (get_or letters d 0) ≡ some (n + d)
letter-counts letters n zero e d h = absurd (omega arith)
letter-counts [] n (suc size) e d h = let q : 0 ≡ suc (length (map some (counted (suc n) size))) = ap length e in absurd (omega arith)
letter-counts (c ∷ letters) n (suc size) e zero h = ap (λ l. get_or l 0 none) e ∙ ap some (omega arith)
letter-counts (c ∷ letters) n (suc size) e (suc d) h = letter-counts letters (suc n) size (ap tail e) d (omega arith) ∙ ap some (omega arith)

-- One digit more.
digit-more : (radix n c d : ℕ) → nibble c ≡ some d → digits radix n (c ∷ []) ≡ n * radix + d
unfolding digits
digit-more radix n c d e = ap (λ x. elim x [ some d ↦ n * radix + d | none ↦ n ]) e

read-within : (letters : List ℕ) → map nibble letters ≡ map some (counted 0 16) → (radix : ℕ) → 2 ≤ radix → radix ≤ 16 → (bound n : ℕ) → n < bound → digits radix 0 (written_within letters radix bound n) ≡ n
unfolding written_within
read-within letters e radix low high zero n h = absurd (omega arith)
read-within letters e radix low high (suc bound) n h = go (ltb n radix) refl (read-within letters e radix low high bound (n / radix))
  where
    counts : (d : ℕ) → d < radix → nibble (get_or letters d 0) ≡ some d
    counts d h = letter-counts letters 0 16 e d (omega arith) ∙ ap some (omega arith)

    rest : List ℕ
    rest = written_within letters radix bound (n / radix)

    go : (b : Bool) → ltb n radix ≡ b → (n / radix < bound → digits radix 0 rest ≡ n / radix) → digits radix 0 (elim b [ true ↦ get_or letters n 0 ∷ [] | false ↦ rest ++ (get_or letters (n % radix) 0 ∷ []) ]) ≡ n
    go true q f = let small : n < radix = ltb-true n radix q in digit-more radix 0 (get_or letters n 0) n (counts n small) ∙ omega arith
    go false q f =
        let large : radix ≤ n = ltb-false n radix q in
        let less : n / radix < n = div-lt_self (omega arith) (omega arith) in
        let last : n % radix < radix = mod-lt n (omega arith) in
        digits_append radix 0 rest (get_or letters (n % radix) 0 ∷ [])
        ∙ (digit-more radix (digits radix 0 rest) _ (n % radix) (counts (n % radix) last)
        ∙ (ap (λ m. m * radix + n % radix) (f (omega arith))
        ∙ div-add-mod' n radix))

-- In every radix up to 16, with any letters for the digits: what is written of a number makes the number.
pub read_back : (letters : List ℕ) → map nibble letters ≡ map some (counted 0 16) → (radix : ℕ) → 2 ≤ radix → radix ≤ 16 → (n : ℕ) → digits radix 0 (written letters radix n) ≡ n
read_back letters e radix low high n = read-within letters e radix low high (suc n) n (omega arith)
