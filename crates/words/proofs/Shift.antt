-- What a shift to the left by k is, of 32 bits: what doesn't fit is cut off.
-- Assumes nothing.
use mathlib.Core.Path.{◌≡◌, ap, ap₂, ◌∙◌}
use Prim.Native.Nat.{ℕ, ◌+◌, ◌-◌, ◌*◌, ◌%◌, ◌^◌, ◌<◌}
use native.Mathlib.Nat.{mul-div_cancel, mul-mod_left, add-zero, one-mul}
use native.Mathlib.Omega.{arith}
use lib.Pow.{pow_pos, shl_exact}
use lib.Arith.{mod-mul}
use lib.Dec.{lit<}
use Rattle.words.specs.Laws.{whole}

pub one_shifted : (k : ℕ) → k < 32 → 1 * 2 ^ k % 2 ^ 32 ≡ 2 ^ k
one_shifted k k< = shl_exact 1 k 32 (lit< tt) (omega arith) ∙ one-mul (2 ^ k)

pub shifted : (k h : ℕ) → k < 32 → h * 2 ^ k % 2 ^ 32 ≡ h % 2 ^ (32 - k) * 2 ^ k
shifted k h k< =
    ap (λ (n : ℕ). h * 2 ^ k % n) (whole k (omega arith))
    ∙ mod-mul (h * 2 ^ k) (pow_pos (32 - k)) (pow_pos k)
    ∙ ap₂ (λ (q r : ℕ). q % 2 ^ (32 - k) * 2 ^ k + r) (mul-div_cancel h (pow_pos k)) (mul-mod_left h (2 ^ k))
    ∙ add-zero (h % 2 ^ (32 - k) * 2 ^ k)
