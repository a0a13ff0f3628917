-- One turn of the loop that holds bytes to ranges: `n` bytes of a sequence of `whole` at `at` are right, and the next is to be from `lo` to `hi`.
use mathlib.Core.Path.{◌≡◌}
use mathlib.Core.List.{List, [], ◌∷◌}
use mathlib.Core.Logic.{◌⊎◌, inl, inr}
use Prim.Native.Nat.{ℕ, suc, ◌+◌, ◌-◌, ◌≤◌, ◌<◌}
use native.Mathlib.Numerals.{add-one}
use native.Mathlib.Omega.{arith}
use lib.ListN.{length, get_or, drop, drop_of_length-le}
use lib.Seq.{drop-cons}
use Rattle.utf8.specs.Utf8.{Sequence, ◌‥◌, follow}
use Rattle.utf8.specs.Rows.{ranges}
use Rattle.utf8.specs.Laws.{has_in, has-below, has_above}
use Rattle.std.specs.declared.result.Result.TheVariants.{Ok, Err}
use Rattle.utf8.specs.declared.Way.TheVariants.{NotAllowed, Cut}

abbrev pub state : List ℕ → (at whole n lo hi : ℕ) → Sequence
state t at whole n lo hi = follow n (ranges (whole - n) lo hi) (drop (at + n) t)

pub next : (t : List ℕ) (at n : ℕ) → at + n < length t → drop (at + n) t ≡ get_or t (at + n) 0 ∷ drop (at + (n + 1)) t
next t at n k =
    let e : suc (at + n) ≡ at + (n + 1) = omega arith in
    rw (← e) (drop-cons t (at + n) 0 k)

module _ (t : List ℕ) (at whole n lo hi : ℕ) where
  pub whole-right : whole ≤ n → state t at whole n lo hi ≡ Ok n
  unfolding follow
  whole-right h =
      let e : whole - n ≡ 0 = omega arith in
      rw e

  pub all-right : n ≡ whole → state t at whole n lo hi ≡ Ok whole
  unfolding follow
  all-right h =
      let e : whole - n ≡ 0 = omega arith in
      rw (e, h)

  module _ (h : n < whole) where
    left : whole - n ≡ suc (whole - (n + 1))
    left = omega arith

    pub cut : length t - at ≤ n → state t at whole n lo hi ≡ Err Cut
    unfolding follow
    cut k =
        let e : drop (at + n) t ≡ [] = drop_of_length-le t {i = at + n} (omega arith) in
        rw (left, e)

    module _ (k : at + n < length t) where
      pub below : get_or t (at + n) 0 < lo → state t at whole n lo hi ≡ Err NotAllowed
      unfolding follow
      below p = rw (left, next t at n k, has-below (lo ‥ hi) _ p)

      pub above : hi < get_or t (at + n) 0 → state t at whole n lo hi ≡ Err NotAllowed
      unfolding follow
      above p = rw (left, next t at n k, has_above (lo ‥ hi) _ p)

      pub outside : (get_or t (at + n) 0 < lo) ⊎ ((lo ≤ get_or t (at + n) 0) × (hi < get_or t (at + n) 0)) → state t at whole n lo hi ≡ Err NotAllowed
      outside (inl p) = below p
      outside (inr p) = above p.1

      pub turn : lo ≤ get_or t (at + n) 0 → get_or t (at + n) 0 ≤ hi → state t at whole n lo hi ≡ state t at whole (n + 1) 0x80 0xBF
      unfolding follow
      turn p q = rw (left, next t at n k, has_in (lo ‥ hi) _ p q, add-one n)
