-- Tables of numbers.
use Rattle.std.specs.Prelude.{◌≡◌, refl, cond, List, [], ◌∷◌, ℕ, eqb}
use Rattle.std.proofs.Common.{ne_eqb}

-- What stands in the row with this number, or else the other thing.
unfoldable pub pick : {A : Type 0} → A → List (ℕ × A) → ℕ → A
pick other [] which = other
pick other (row ∷ rows) which = cond (eqb which row.0) row.1 (pick other rows which)

-- A number that is in no row, in the form in which it is known where no arm of a `match` has it.
unfoldable pub Apart : {A : Type 0} → Type 0 → List (ℕ × A) → ℕ → Type 0
Apart B [] which = B
Apart B (row ∷ rows) which = Apart (B × (which ≡ row.0 → ⊥)) rows which

pub before : {A : Type 0} (B : Type 0) (rows : List (ℕ × A)) (which : ℕ) → Apart B rows which → B
unfolding Apart
before B [] which h = h
before B (row ∷ rows) which h = (before (B × (which ≡ row.0 → ⊥)) rows which h).0

pub pick_other : {A : Type 0} (B : Type 0) (other : A) (rows : List (ℕ × A)) (which : ℕ) → Apart B rows which → other ≡ pick other rows which
unfolding pick Apart
pick_other B other [] which h = refl
pick_other B other (row ∷ rows) which h =
    let C = B × (which ≡ row.0 → ⊥) in
    rw (ne_eqb which row.0 (before C rows which h).1, pick) (pick_other C other rows which h)
