-- Limbs times a radix and a number more: what the code does limb by limb, and that it makes the limbs of the product and sum.
use Rattle.std.specs.Prelude.{◌≡◌, Bool, true, false, eqb, length}
use Rattle.std.proofs.Math.Path.{refl, ap}
use Rattle.std.proofs.Common.{◌∙◌, arith, mul-le-mul_left, eq-eqb, ne_eqb, eqb-true, lit<}
use mathlib.Core.List.{List, [], ◌∷◌, ◌++◌}
use Prim.Native.Nat.{ℕ, zero, suc, ◌+◌, ◌*◌, ◌/◌, ◌%◌, ◌≤◌, ◌<◌}
use Rattle.std.proofs.Math.Nat.{mul-add-div, mul-add-mod_self_left}
use Rattle.std.proofs.lemmas.Bool.{eqb-false}
use Rattle.literals.specs.Numbers.{limb_base, limbs_within, limbs}

-- ---- the limbs of a number, the lowest and the others

-- A bound that is large enough is as good as another.
within-any : (b c n : ℕ) → n ≤ b → n ≤ c → limbs_within b n ≡ limbs_within c n
unfolding limbs_within
within-any zero zero n h g = refl
within-any zero (suc c) n h g = rw (eq-eqb n 0 (omega arith), limbs_within)
within-any (suc b) zero n h g = rw (eq-eqb n 0 (omega arith), limbs_within)
within-any (suc b) (suc c) n h g = go (eqb n 0) refl (within-any b c (n / limb_base))
  where
    go : (t : Bool) → eqb n 0 ≡ t → (n / limb_base ≤ b → n / limb_base ≤ c → limbs_within b (n / limb_base) ≡ limbs_within c (n / limb_base))
        → ◌≡◌ {A = List ℕ} (elim t [ true ↦ [] | false ↦ n % limb_base ∷ limbs_within b (n / limb_base) ]) (elim t [ true ↦ [] | false ↦ n % limb_base ∷ limbs_within c (n / limb_base) ])
    go true e ih = refl
    go false e ih =
        let p : 0 < n = omega (arith, eqb-false n 0 e) in
        ap (λ (ls : List ℕ). n % limb_base ∷ ls) (ih (omega arith) (omega arith))

pub limbs-zero : limbs 0 ≡ []
unfolding limbs_within
limbs-zero = refl

pub limbs-more : (n : ℕ) → 0 < n → limbs n ≡ n % limb_base ∷ limbs (n / limb_base)
unfolding limbs_within
limbs-more zero h = absurd (omega arith)
limbs-more (suc n) h =
    rw (ne_eqb (suc n) 0 (λ e. omega arith), limbs_within)
    (ap (λ (ls : List ℕ). suc n % limb_base ∷ ls) (within-any n (suc n / limb_base) (suc n / limb_base) (omega arith) (omega arith)))

-- A number below the base is its own limb.
pub limbs-one : (n : ℕ) → 0 < n → n < limb_base → limbs n ≡ n ∷ []
limbs-one n h g =
    let q : n / limb_base ≡ 0 = omega arith in
    let r : n % limb_base ≡ n = omega arith in
    limbs-more n h ∙ rw (r, q, limbs-zero)

-- ---- times a radix, and a carry more

-- The limbs that are left in their places, and what is carried past the last.
module _ (radix : ℕ) where
  unfoldable pub multiplied : ℕ → List ℕ → List ℕ
  multiplied carry [] = []
  multiplied carry (l ∷ ls) = (l * radix + carry) % limb_base ∷ multiplied ((l * radix + carry) / limb_base) ls

  unfoldable pub carried : ℕ → List ℕ → ℕ
  carried carry [] = carry
  carried carry (l ∷ ls) = carried ((l * radix + carry) / limb_base) ls

  pub multiplied-length : (c : ℕ) (ls : List ℕ) → length (multiplied c ls) ≡ length ls
  unfolding multiplied
  multiplied-length c [] = refl
  multiplied-length c (l ∷ ls) = ap suc (multiplied-length ((l * radix + c) / limb_base) ls)

  module _ (pos : 0 < radix) where
    grown : (n c : ℕ) → 0 < n → 0 < n * radix + c
    grown n c h = omega (arith, mul-le-mul_left n pos)

    -- The lowest limb, and what goes on to the others.
    apart : (n c : ℕ) → n * radix + c ≡ limb_base * (n / limb_base * radix) + (n % limb_base * radix + c)
    apart n c =
        let e : n ≡ limb_base * (n / limb_base) + n % limb_base = omega arith in
        ap (λ (m : ℕ). m * radix + c) e ∙ omega arith

    abbrev Times : ℕ → ℕ → Type 0
    Times n c = limbs (n * radix + c) ≡ multiplied c (limbs n) ++ limbs (carried c (limbs n))

    none : (n c : ℕ) → n ≡ 0 → Times n c
    unfolding multiplied carried
    none n c e = rw (e, limbs-zero) (ap limbs (omega arith))

    some : (n c : ℕ) → 0 < n → Times (n / limb_base) ((n % limb_base * radix + c) / limb_base) → Times n c
    unfolding multiplied carried
    some n c h ih =
        let q = n / limb_base in
        let y = n % limb_base * radix + c in
        limbs-more (n * radix + c) (grown n c h)
        ∙ rw (apart n c, mul-add-mod_self_left limb_base (q * radix) y, mul-add-div {m = limb_base} (lit< tt) (q * radix) y, ih, limbs-more n h)

    times-within : (bound n c : ℕ) → n ≤ bound → Times n c
    times-within zero n c h = none n c (omega arith)
    times-within (suc bound) n c h = go (eqb n 0) refl (times-within bound (n / limb_base))
      where
        go : (t : Bool) → eqb n 0 ≡ t → ((k : ℕ) → n / limb_base ≤ bound → Times (n / limb_base) k) → Times n c
        go true e ih = none n c (eqb-true n 0 e)
        go false e ih =
            let p : 0 < n = omega (arith, eqb-false n 0 e) in
            some n c p (ih _ (omega arith))

    pub limbs-times : (n c : ℕ) → Times n c
    limbs-times n c = times-within n n c (omega arith)
