-- The table of keywords says the rule at each entry: one computed test over the table, and what it tells of a byte and a length.
use Rattle.std.specs.Prelude.{◌≡◌, refl, Bool, true, false, cond, ◌&&◌, ℕ, ◌+◌, ◌-◌, ◌*◌, ◌/◌, ◌%◌, ◌≤◌, ◌<◌, eqb, get_or}
use Rattle.std.proofs.Common.{arith, eqb-true, eq-eqb}
use Rattle.scan.specs.Bytes.{within}
use Rattle.scan.specs.Lexer.{keywords}
use Rattle.scan.specs.Longest.{same, kind_in}
use Rattle.rules.specs.Alike.{below, below_at, between}
use Rattle.rules.specs.Keys.{key_list, none, right, spelling_list}

tested : below (λ k. right (get_or key_list k 0) (k / 8 + 97) (k % 8 + 1)) 208 ≡ true
unfolding key_list spelling_list keywords kind_in same
tested = refl

-- `Self` is the one keyword that begins with no small letter.
capital : below (λ b. cond (within 97 122 b) true (below (λ n. right (cond (eqb b 83 && eqb n 3) 88 none) b (n + 1)) 8)) 256 ≡ true
unfolding spelling_list keywords kind_in same
capital = refl

-- ------------------------------------------------------------------ the rule at each entry

module _ (b n : ℕ) (i : 1 ≤ n) (j : n ≤ 8) where
  module _ (h : 97 ≤ b) (g : b ≤ 122) where
    abbrev place : ℕ
    place = (b - 97) * 8 + (n - 1)

    inside : place < 208
    inside = omega arith

    line : place / 8 + 97 ≡ b
    line = omega arith

    column : place % 8 + 1 ≡ n
    column = omega arith

    pub key-at : right (get_or key_list place 0) b n ≡ true
    key-at = rw (line, column) at (below_at (λ k. right (get_or key_list k 0) (k / 8 + 97) (k % 8 + 1)) 208 place tested inside)

  module _ (l : b < 256) (o : (97 ≤ b → b ≤ 122 → ⊥)) where
    outside : within 97 122 b ≡ false
    outside = go (within 97 122 b) refl
      where
        go : (t : Bool) → within 97 122 b ≡ t → within 97 122 b ≡ false
        go true e = let h = between 97 122 b e in absurd (o h.0 h.1)
        go false e = e

    back : n - 1 + 1 ≡ n
    back = omega arith

    key-capital : right (cond (eqb b 83 && eqb (n - 1) 3) 88 none) b n ≡ true
    key-capital =
        let t : below (λ m. right (cond (eqb b 83 && eqb m 3) 88 none) b (m + 1)) 8 ≡ true = rw outside at (below_at (λ b. cond (within 97 122 b) true (below (λ m. right (cond (eqb b 83 && eqb m 3) 88 none) b (m + 1)) 8)) 256 b capital l) in
        rw back at (below_at (λ m. right (cond (eqb b 83 && eqb m 3) 88 none) b (m + 1)) 8 (n - 1) t (omega arith))

    pub key-self : b ≡ 83 → n ≡ 4 → right 88 b n ≡ true
    key-self e f =
        let z : n - 1 ≡ 3 = omega arith in
        rw (eq-eqb b 83 e, eq-eqb (n - 1) 3 z) at key-capital

    pub key-none : (b ≡ 83 → n ≡ 4 → ⊥) → right none b n ≡ true
    key-none d = go (eqb b 83) (eqb (n - 1) 3) refl refl key-capital
      where
        go : (t u : Bool) → eqb b 83 ≡ t → eqb (n - 1) 3 ≡ u → right (cond (t && u) 88 none) b n ≡ true → right none b n ≡ true
        go true true et eu e = absurd (d (eqb-true b 83 et) (omega (arith, eqb-true (n - 1) 3 eu)))
        go true false et eu e = e
        go false u et eu e = e
