-- The number that limbs make is the number that they are of.
use Rattle.std.specs.Prelude.{◌≡◌, refl, Bool, true, false, List, [], ◌∷◌, ℕ, zero, suc, ◌/◌, ◌%◌, ◌≤◌, ◌<◌, eqb}
use Rattle.std.proofs.Common.{sym, arith, eqb-true}
use Rattle.std.proofs.lemmas.Bool.{eqb-false}
use Rattle.literals.specs.Numbers.{limb_base, limbs_within}
use Rattle.literals.specs.Laws.{Proper, made}

-- A bound as large as the number is never used up.
pub limbs-make : (bound n : ℕ) → n ≤ bound → made (limbs_within bound n) ≡ n
unfolding limbs_within
limbs-make zero n h = omega arith
limbs-make (suc bound) n h = go (eqb n 0) refl (limbs-make bound (n / limb_base))
  where
    go : (b : Bool) → eqb n 0 ≡ b → (n / limb_base ≤ bound → made (limbs_within bound (n / limb_base)) ≡ n / limb_base) → made (elim b [ true ↦ [] | false ↦ n % limb_base ∷ limbs_within bound (n / limb_base) ]) ≡ n
    go true e ih = sym (eqb-true n 0 e)
    go false e ih = omega (arith, ih (omega arith))

proper-cons : (l : ℕ) (ls : List ℕ) → l < limb_base → (made ls ≡ 0 → 0 < l) → Proper ls → Proper (l ∷ ls)
proper-cons l [] h z p = (h, z refl)
proper-cons l (k ∷ ls) h z p = (h, p)

-- "Limbs follow least first with no top zero" (01, Words that are lent), of the definition.
pub limbs-proper : (bound n : ℕ) → n ≤ bound → Proper (limbs_within bound n)
unfolding limbs_within
limbs-proper zero n h = tt
limbs-proper (suc bound) n h = go (eqb n 0) refl (limbs-proper bound (n / limb_base))
  where
    go : (b : Bool) → eqb n 0 ≡ b → (n / limb_base ≤ bound → Proper (limbs_within bound (n / limb_base))) → Proper (elim b [ true ↦ [] | false ↦ n % limb_base ∷ limbs_within bound (n / limb_base) ])
    go true e ih = tt
    go false e ih =
        let g : n / limb_base ≤ bound = omega (arith, eqb-false n 0 e) in
        proper-cons (n % limb_base) (limbs_within bound (n / limb_base)) (omega arith)
        (λ z. omega (arith, eqb-false n 0 e, limbs-make bound (n / limb_base) g))
        (ih g)
