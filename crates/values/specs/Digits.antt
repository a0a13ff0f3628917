-- What a character counts as a digit, by where it stands.
use Rattle.std.specs.Prelude.{◌≡◌, refl, ◌⊎◌, Option, Some, None, Bool, false, true, ◌&&◌, ℕ, ◌+◌, ◌-◌, ◌%◌, ◌≤◌, ◌<◌, leb, ltb}
use Rattle.std.proofs.Common.{inl, inr, ⊎_elim, arith, le-leb, ltb-true, ltb-false}
use Rattle.std.proofs.Math.Bool.{and-false}
use Rattle.std.proofs.Math.Option as Math
use Rattle.std.proofs.Math.Option.{none, some}
use Rattle.std.proofs.lemmas.Bool.{lt-leb}
use Rattle.literals.specs.Numbers.{nibble}

abbrev pub option : Option ℕ → Math.Option ℕ
option (Some n) = some n
option None = none

-- A number that is there is below a bound.
abbrev pub Under : ℕ → Option ℕ → Type 0
Under bound (Some n) = n < bound
Under bound None = Unit {0}

module _ (c : ℕ) where
  below : (lo hi : ℕ) → c < lo → (leb lo c && leb c hi) ≡ false
  below lo hi h = rw (lt-leb lo c h)

  above : (lo hi : ℕ) → hi < c → (leb lo c && leb c hi) ≡ false
  above lo hi h = rw (lt-leb c hi h, and-false)

  inside : (lo hi : ℕ) → lo ≤ c → c ≤ hi → (leb lo c && leb c hi) ≡ true
  inside lo hi h g = rw (le-leb lo c h, le-leb c hi g)

  pub under-digits : c < 48 → none ≡ nibble c
  unfolding nibble
  under-digits h = rw (below 48 57 h, below 65 70 (omega arith), below 97 102 (omega arith))

  pub is_digit : 48 ≤ c → c ≤ 57 → some (c - 48) ≡ nibble c
  unfolding nibble
  is_digit h g = rw (inside 48 57 h g)

  pub under-capitals : 57 < c → c < 65 → none ≡ nibble c
  unfolding nibble
  under-capitals h g = rw (above 48 57 h, below 65 70 g, below 97 102 (omega arith))

  pub is-capital : 65 ≤ c → c ≤ 70 → some (c - 65 + 10) ≡ nibble c
  unfolding nibble
  is-capital h g = rw (above 48 57 (omega arith), inside 65 70 h g)

  pub under-letters : 70 < c → c < 97 → none ≡ nibble c
  unfolding nibble
  under-letters h g = rw (above 48 57 (omega arith), above 65 70 h, below 97 102 g)

  pub is-letter : 97 ≤ c → c ≤ 102 → some (c - 97 + 10) ≡ nibble c
  unfolding nibble
  is-letter h g = rw (above 48 57 (omega arith), above 65 70 (omega arith), inside 97 102 h g)

  pub over-letters : 102 < c → none ≡ nibble c
  unfolding nibble
  over-letters h = rw (above 48 57 (omega arith), above 65 70 (omega arith), above 97 102 h)

-- ---- digits and letters in one go

-- What a digit counts, and a letter from A or a on, of characters from 48 on.
pub record Worth (c r : ℕ) : Type 0 where
  pub low : c ≤ 57 → r ≡ c - 48
  pub high : 57 < c → r ≡ (c - 1) % 32 + 10

apart : (c k : ℕ) → (c < k) ⊎ (k ≤ c)
apart c k = go (ltb c k) refl
  where
    go : (t : Bool) → ltb c k ≡ t → (c < k) ⊎ (k ≤ c)
    go true e = inl (ltb-true c k e)
    go false e = inr (ltb-false c k e)

module _ (c r : ℕ) (w : Worth c r) (least : 48 ≤ c) (most : c ≤ 127) where
  pub worth-some : r ≤ 15 → some r ≡ nibble c
  worth-some h =
      ⊎_elim
      (λ a. let e : r ≡ c - 48 = w.low (omega arith) in rw e (is_digit c least (omega arith)))
      (λ a.
      let e : r ≡ (c - 1) % 32 + 10 = w.high (omega arith) in
      ⊎_elim
      (λ b. let f : r ≡ c - 65 + 10 = omega arith in rw f (is-capital c (omega arith) (omega arith)))
      (λ b. let f : r ≡ c - 97 + 10 = omega arith in rw f (is-letter c (omega arith) (omega arith)))
      (apart c 71))
      (apart c 58)

  pub worth-none : 15 < r → none ≡ nibble c
  worth-none h =
      let g : 57 < c = ⊎_elim (λ a. omega (arith, w.low (omega arith))) (λ a. omega arith) (apart c 58) in
      let e : r ≡ (c - 1) % 32 + 10 = w.high g in
      ⊎_elim
      (λ a. under-capitals c g a)
      (λ a. ⊎_elim (λ b. under-letters c (omega arith) b) (λ b. over-letters c (omega arith)) (apart c 97))
      (apart c 65)
