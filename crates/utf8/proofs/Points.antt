-- The code point of the sequence at `at`, by its length, from the text's bytes.
use mathlib.Core.Path.{◌≡◌, refl, ap}
use mathlib.Core.List.{List, [], ◌∷◌}
use Prim.Native.Nat.{ℕ, zero, suc, ◌+◌, ◌≤◌, ◌<◌}
use native.Mathlib.Numerals.{add-one}
use native.Mathlib.Omega.{arith}
use lib.ListN.{length, get_or, take, drop}
use lib.Seq.{drop-cons}
use Rattle.utf8.specs.Utf8.{code_point}
use Rattle.utf8.proofs.Follow.{next}

-- `n` bytes of the text from `at + i` on
abbrev pub run : List ℕ → ℕ → ℕ → ℕ → List ℕ
run t at zero i = []
run t at (suc n) i = get_or t (at + i) 0 ∷ run t at n (i + 1)

run_is : (t : List ℕ) (at n i : ℕ) → at + i + n ≤ length t → take n (drop (at + i) t) ≡ run t at n i
run_is t at zero i h = refl
run_is t at (suc n) i h = rw (next t at i (omega arith)) (ap (λ (l : List ℕ). get_or t (at + i) 0 ∷ l) (run_is t at n (i + 1) (omega arith)))

pub point-is : (t : List ℕ) (at n : ℕ) → at + suc n ≤ length t → code_point (take (suc n) (drop at t)) ≡ code_point (get_or t at 0 ∷ run t at n 1)
point-is t at n h =
    let e : at < length t = omega arith in
    rw (drop-cons t at 0 e, ← add-one at) (ap (λ (l : List ℕ). code_point (get_or t at 0 ∷ l)) (run_is t at n 1 (omega arith)))
