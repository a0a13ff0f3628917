-- Laws of the definitions in `Walks`: the turns of the loops, of which `t` are left where one begins.
use Rattle.std.specs.Prelude.{◌≡◌, refl, true, false, ◌&&◌, List, leb, ltb}
use Prim.Native.Nat.{ℕ, zero, suc, ◌-◌, ◌≤◌, ◌<◌}
use borrow.Author.Tests.{eq-eqb, ne_eqb, le-leb, lt-leb}
use Rattle.words.specs.declared.node.Node.{Node as Fields}
use Rattle.looking.specs.View.{is, none, refused, and_then, look, turns}
use Rattle.looking.specs.Any.{parent}
use Rattle.looking.specs.Laws.{less}
use Rattle.walking.specs.Walks.{enclosing, covers, innermost, node_at_token}

module _ (ns : List ℕ) (n : ℕ) where
  pub enclosing-over : (t : ℕ) → t ≡ 0 → none ≡ enclosing t ns n
  unfolding enclosing
  enclosing-over t e = rw e

  pub enclosing-none : (t : ℕ) → (t ≡ 0 → ⊥) → none ≡ parent ns n → none ≡ enclosing t ns n
  unfolding enclosing and_then
  enclosing-none zero t≢ e = absurd (t≢ refl)
  enclosing-none (suc t) t≢ e = rw (← e)

  pub enclosing-refused : (t : ℕ) → (t ≡ 0 → ⊥) → (number place : ℕ) → refused number place ≡ parent ns n → refused number place ≡ enclosing t ns n
  unfolding enclosing and_then
  enclosing-refused zero t≢ number place e = absurd (t≢ refl)
  enclosing-refused (suc t) t≢ number place e = rw (← e)

  module _ (p : ℕ) (e : is p ≡ parent ns n) where
    pub enclosing-found : (t : ℕ) → (t ≡ 0 → ⊥) → p ≡ 0 → is n ≡ enclosing t ns n
    unfolding enclosing and_then
    enclosing-found zero t≢ z = absurd (t≢ refl)
    enclosing-found (suc t) t≢ z = rw (← e, eq-eqb p 0 z)

    pub enclosing-up : (t : ℕ) → (t ≡ 0 → ⊥) → (p ≡ 0 → ⊥) → enclosing (t - 1) ns p ≡ enclosing t ns n
    unfolding enclosing and_then
    enclosing-up zero t≢ z = absurd (t≢ refl)
    enclosing-up (suc t) t≢ z = rw (less t, ← e, ne_eqb p 0 z)

-- `covers`, by the two numbers that it asks for
module _ (t first end : ℕ) where
  pub covers-from : first ≤ t → ltb t end ≡ (leb first t && ltb t end)
  covers-from h = rw (le-leb first t h)

  pub covers-not : t < first → false ≡ (leb first t && ltb t end)
  covers-not h = rw (lt-leb first t h)

module _ (token : ℕ) (ns : List ℕ) (outer at : ℕ) where
  pub innermost-last : (t : ℕ) → at ≡ 0 → is outer ≡ innermost t token ns outer at
  unfolding innermost
  innermost-last zero z = rw (eq-eqb at 0 z)
  innermost-last (suc t) z = rw (eq-eqb at 0 z)

  module _ (z : at ≡ 0 → ⊥) where
    pub innermost-over : (t : ℕ) → t ≡ 0 → none ≡ innermost t token ns outer at
    unfolding innermost
    innermost-over t e = rw (e, ne_eqb at 0 z)

    pub innermost-refused : (t : ℕ) → (t ≡ 0 → ⊥) → (number place : ℕ) → refused number place ≡ look ns at → refused number place ≡ innermost t token ns outer at
    unfolding innermost and_then
    innermost-refused zero t≢ number place e = absurd (t≢ refl)
    innermost-refused (suc t) t≢ number place e = rw (ne_eqb at 0 z, ← e)

    module _ (f : Fields) (e : is f ≡ look ns at) where
      pub innermost-under : (t : ℕ) → (t ≡ 0 → ⊥) → covers token f ≡ true → innermost (t - 1) token ns at f.child ≡ innermost t token ns outer at
      unfolding innermost and_then
      innermost-under zero t≢ c = absurd (t≢ refl)
      innermost-under (suc t) t≢ c = rw (less t, ne_eqb at 0 z, ← e, c)

      pub innermost_past : (t : ℕ) → (t ≡ 0 → ⊥) → covers token f ≡ false → innermost (t - 1) token ns outer f.next ≡ innermost t token ns outer at
      unfolding innermost and_then
      innermost_past zero t≢ c = absurd (t≢ refl)
      innermost_past (suc t) t≢ c = rw (less t, ne_eqb at 0 z, ← e, c)

module _ (t : ℕ) (ns : List ℕ) (n : ℕ) where
  pub token-refused : (number place : ℕ) → refused number place ≡ look ns n → refused number place ≡ node_at_token t ns n
  unfolding and_then
  token-refused number place e = rw (← e)

  module _ (f : Fields) (e : is f ≡ look ns n) where
    pub token-inside : covers t f ≡ true → innermost (turns ns) t ns n f.child ≡ node_at_token t ns n
    unfolding and_then
    token-inside c = rw (← e, c)

    pub token-outside : covers t f ≡ false → none ≡ node_at_token t ns n
    unfolding and_then
    token-outside c = rw (← e, c)
