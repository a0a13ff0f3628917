-- The loop that goes over limbs: what it has done, and what is left to do.
use Rattle.std.specs.Prelude.{◌≡◌, ℕ, suc, ◌+◌, ◌*◌, ◌/◌, ◌%◌, ◌≤◌, ◌<◌, length, take, set}
use mathlib.Core.List.{List, [], ◌∷◌, ◌++◌, append-nil}
use Rattle.std.proofs.Common.{arith, mul-le-mul_left, add-one}
use Rattle.std.proofs.Math.ListN.{get_or, drop, length-set, drop_of_length-le}
use Rattle.std.proofs.Math.Seq.{append_snoc, drop-cons, take_all, take-suc-set, drop-set-lt}
use Rattle.literals.specs.Numbers.{limb_base}
use Rattle.numerals.specs.Limbs.{multiplied, carried}

-- A product of two words, and a word more, is less than the square of the base.
pub sum_fits : (l r c : ℕ) → l < limb_base → r < limb_base → c < limb_base → l * r + c < limb_base * limb_base
sum_fits l r c hl hr hc =
    let h : l * r ≤ l * 4294967295 = mul-le-mul_left l (omega arith) in
    omega arith

-- A sum in two parts: what is carried on, and the limb that stays.
abbrev pub Parted : ℕ → ℕ → ℕ → Type 0
Parted sum carry limb = (sum ≡ carry * limb_base + limb) × (limb < limb_base)

pub sum-parted : (sum : ℕ) → Parted sum (sum / limb_base) (sum % limb_base)
sum-parted sum = (omega arith, omega arith)

pub record Times (radix digit : ℕ) (all ls : List ℕ) (carry i : ℕ) : Type 0 where
  pub made : take i ls ++ multiplied radix carry (drop i ls) ≡ multiplied radix digit all
  pub over : carried radix carry (drop i ls) ≡ carried radix digit all
  pub kept : length ls ≡ length all

module _ (radix digit : ℕ) (all ls : List ℕ) (carry i : ℕ) (t : Times radix digit all ls carry i) where
  pub times-next : i < length ls → (next limb : ℕ) → Parted (get_or ls i 0 * radix + carry) next limb → Times radix digit all (set ls i limb) next (i + 1)
  unfolding multiplied carried
  times-next h next limb p =
      let e : drop i ls ≡ get_or ls i 0 ∷ drop (suc i) ls = drop-cons ls i 0 h in
      let q : (get_or ls i 0 * radix + carry) / limb_base ≡ next = omega (arith, p.0, p.1) in
      let r : (get_or ls i 0 * radix + carry) % limb_base ≡ limb = omega (arith, p.0, p.1) in
      record {
        made = rw (add-one, take-suc-set ls i limb h, drop-set-lt (suc i) ls i limb (omega arith), append_snoc, ← q, ← r) (rw e at t.made);
        over = rw (add-one, drop-set-lt (suc i) ls i limb (omega arith), ← q) (rw e at t.over);
        kept = simp length-set t.kept;
      }

  pub times-last : length ls ≤ i → (carry ≡ carried radix digit all) × (ls ≡ multiplied radix digit all)
  unfolding multiplied carried
  times-last h =
      let e : drop i ls ≡ [] = drop_of_length-le ls h in
      (rw e at t.over, rw (e, append-nil, take_all i ls h) at t.made)
