-- Rows that differ in their second range alone.
use Rattle.std.specs.Prelude.{ℕ, zero, suc, List, [], ◌∷◌}
use Rattle.utf8.specs.Utf8.{Range, ◌‥◌}

-- `k` ranges: the first from `lo` to `hi`, the others of tails
abbrev pub ranges : ℕ → ℕ → ℕ → List Range
ranges zero lo hi = []
ranges (suc k) lo hi = lo ‥ hi ∷ ranges k 0x80 0xBF
