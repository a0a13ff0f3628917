-- The row of a byte: the first ranges of the rows before it lie below the byte, and those of the rows after it above.
use mathlib.Core.Path.{◌≡◌, refl, ◌∙◌}
use mathlib.Core.Bool.{Bool, true, ◌&&◌}
use mathlib.Core.List.{List, [], ◌∷◌}
use Prim.Native.Nat.{ℕ, zero, suc, ◌≤◌, ◌<◌}
use native.Mathlib.Omega.{arith}
use borrow.Author.Tests.{ltb-true}
use lib.Dec.{ltb}
use lib.ListN.{drop}
use Rattle.utf8.specs.Utf8.{Row, follow, sequence_by}
use Rattle.utf8.specs.Laws.{both, has_in, has-below, has_above}
use Rattle.std.specs.declared.result.Result.TheVariants.{Err}
use Rattle.utf8.specs.declared.Way.TheVariants.{NoStart}

-- the first ranges of the first `k` rows lie below `x`
abbrev pub below : ℕ → ℕ → List Row → Bool
below x zero rows = true
below x (suc k) [] = true
below x (suc k) (row ∷ rows) = ltb row.lead.hi x && below x k rows

-- those of all rows lie above `x`
abbrev pub above : ℕ → List Row → Bool
above x [] = true
above x (row ∷ rows) = ltb x row.lead.lo && above x rows

module _ (b : ℕ) (s : List ℕ) where
  past : (x k : ℕ) (rows : List Row) → below x k rows ≡ true → x ≤ b → sequence_by rows b s ≡ sequence_by (drop k rows) b s
  unfolding sequence_by
  past x zero rows h l = refl
  past x (suc k) [] h l = refl
  past x (suc k) (row ∷ rows) h l =
      let p = both (ltb row.lead.hi x) (below x k rows) h in
      let q : row.lead.hi < b = omega (arith, ltb-true row.lead.hi x p.0) in
      rw (has_above row.lead b q) (past x k rows p.1 l)

  before : (x : ℕ) (rows : List Row) → above x rows ≡ true → b ≤ x → sequence_by rows b s ≡ Err NoStart
  unfolding sequence_by
  before x [] h l = refl
  before x (row ∷ rows) h l =
      let p = both (ltb x row.lead.lo) (above x rows) h in
      let q : b < row.lead.lo = omega (arith, ltb-true x row.lead.lo p.0) in
      rw (has-below row.lead b q) (before x rows p.1 l)

  pub in_row : (k : ℕ) (rows : List Row) (row : Row) (rest : List Row) → drop k rows ≡ row ∷ rest → below row.lead.lo k rows ≡ true → row.lead.lo ≤ b → b ≤ row.lead.hi → sequence_by rows b s ≡ follow 1 row.more s
  unfolding sequence_by
  in_row k rows row rest e h l m = past row.lead.lo k rows h l ∙ rw (e, has_in row.lead b l m)

  pub no_row : (x y k : ℕ) (rows : List Row) → below x k rows ≡ true → above y (drop k rows) ≡ true → x ≤ b → b ≤ y → sequence_by rows b s ≡ Err NoStart
  no_row x y k rows h a l m = past x k rows h l ∙ before y (drop k rows) a m
