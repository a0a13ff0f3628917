-- The turns of the walks are enough on any words: more of them never give another answer, as what they don't get through is a ring.
use Rattle.std.specs.Prelude.{◌≡◌, Bool, cond, List, ℕ, zero, suc, ◌≤◌, ◌<◌}
use Rattle.std.proofs.Math.Path.{refl}
use Rattle.std.proofs.Common.{sym, arith}
use Rattle.std.proofs.Math.Bool.{true, false}
use Rattle.std.proofs.Math.Dec.{eqb}
use borrow.Author.Tests.{eq-eqb, ne_eqb}
use Rattle.words.specs.declared.node.Node.{Node as Fields}
use Rattle.looking.specs.View.{Seen, is, none, refused, and_then, count, look, turns}
use Rattle.looking.specs.Any.{parent}
use Rattle.looking.specs.Laws.{look-there}
use Rattle.looking.specs.Ways.{enough}
use Rattle.walking.specs.Walks.{enclosing, covers, innermost}
use Rattle.walking.specs.Laws.{innermost-last}

-- ---- up

-- the parent that a node tells; 0 where it tells none
abbrev told : Seen ℕ → ℕ
told (is p) = p
told none = 0
told (refused number place) = 0

module _ (ns : List ℕ) where
  abbrev up : ℕ → ℕ
  up n = told (parent ns n)

  up-below : (n : ℕ) → (up n ≡ 0 → ⊥) → n < count ns
  unfolding and_then
  up-below n z = look-there ns n (λ e. z (rw (← e)))

  up-steps : (t n : ℕ) → (up n ≡ 0 → ⊥) → enclosing (suc t) ns n ≡ enclosing t ns (up n)
  unfolding enclosing and_then
  up-steps t n z = go (parent ns n) refl
    where
      go : (s : Seen ℕ) → parent ns n ≡ s → enclosing (suc t) ns n ≡ enclosing t ns (up n)
      go (is p) e = let q : p ≡ 0 → ⊥ = λ r. z (rw e r) in rw (e, ne_eqb p 0 q)
      go none e = absurd (z (rw e))
      go (refused number place) e = absurd (z (rw e))

  up-stops : (t u n : ℕ) → up n ≡ 0 → enclosing (suc t) ns n ≡ enclosing (suc u) ns n
  unfolding enclosing and_then
  up-stops t u n z = go (parent ns n) refl
    where
      go : (s : Seen ℕ) → parent ns n ≡ s → enclosing (suc t) ns n ≡ enclosing (suc u) ns n
      go (is p) e = let q : p ≡ 0 = rw e at z in rw (e, eq-eqb p 0 q)
      go none e = rw e
      go (refused number place) e = rw e

  pub enclosing-enough : (n t : ℕ) → turns ns ≤ t → enclosing t ns n ≡ enclosing (turns ns) ns n
  unfolding enclosing
  enclosing-enough n t h = enough up (count ns) up-below none (λ _ (b : ℕ). b) (λ t n _. enclosing t ns n) (λ n b z. refl) (λ t n b. up-steps t n) (λ t u n b. up-stops t u n) n n (turns ns) t (omega arith) h

  -- ---- down

  module _ (token : ℕ) where
    -- where the walk goes from a node that is looked at, and from any; 0 where it ends
    abbrev pub on : Fields → ℕ
    on f = cond (covers token f) f.child f.next

    abbrev pub from : Seen Fields → ℕ
    from (is f) = on f
    from none = 0
    from (refused number place) = 0

    abbrev pub down : ℕ → ℕ
    down at = cond (eqb at 0) 0 (from (look ns at))

    -- the innermost that covers the token so far
    abbrev held : ℕ → ℕ → Seen Fields → ℕ
    held at outer (is f) = cond (covers token f) at outer
    held at outer none = outer
    held at outer (refused number place) = outer

    abbrev holds : ℕ → ℕ → ℕ
    holds at outer = held at outer (look ns at)

    pub down-below : (at : ℕ) → (down at ≡ 0 → ⊥) → at < count ns
    down-below at z = go (eqb at 0) refl
      where
        go : (s : Bool) → eqb at 0 ≡ s → at < count ns
        go true p = absurd (z (rw p))
        go false p = look-there ns at (λ e. z (rw (p, ← e)))

    down-left : (at outer : ℕ) → (at ≡ 0 → ⊥) → innermost zero token ns outer at ≡ none
    unfolding innermost
    down-left at outer z = rw (ne_eqb at 0 z)

    down-steps : (t at outer : ℕ) → (down at ≡ 0 → ⊥) → innermost (suc t) token ns outer at ≡ innermost t token ns (holds at outer) (down at)
    unfolding innermost and_then
    down-steps t at outer z = go (eqb at 0) (look ns at) refl refl
      where
        covered : (f : Fields) → eqb at 0 ≡ false → look ns at ≡ is f → (c : Bool) → covers token f ≡ c → innermost (suc t) token ns outer at ≡ innermost t token ns (holds at outer) (down at)
        covered f p e true c = rw (p, e, c)
        covered f p e false c = rw (p, e, c)

        go : (s : Bool) (x : Seen Fields) → eqb at 0 ≡ s → look ns at ≡ x → innermost (suc t) token ns outer at ≡ innermost t token ns (holds at outer) (down at)
        go true x p e = absurd (z (rw p))
        go false (is f) p e = covered f p e (covers token f) refl
        go false none p e = absurd (z (rw (p, e)))
        go false (refused number place) p e = absurd (z (rw (p, e)))

    -- a walk that comes to no node gives what it holds, however many turns are left
    at-end : (t outer at : ℕ) → at ≡ 0 → innermost t token ns outer at ≡ is outer
    at-end t outer at z = sym (innermost-last token ns outer at t z)

    down-stops : (t u at outer : ℕ) → down at ≡ 0 → innermost (suc t) token ns outer at ≡ innermost (suc u) token ns outer at
    unfolding innermost and_then
    down-stops t u at outer z = go (eqb at 0) (look ns at) refl refl
      where
        covered : (f : Fields) → eqb at 0 ≡ false → look ns at ≡ is f → (c : Bool) → covers token f ≡ c → innermost (suc t) token ns outer at ≡ innermost (suc u) token ns outer at
        covered f p e true c = let q : f.child ≡ 0 = rw (p, e, c) at z in rw (p, e, c, at-end t at f.child q, at-end u at f.child q)
        covered f p e false c = let q : f.next ≡ 0 = rw (p, e, c) at z in rw (p, e, c, at-end t outer f.next q, at-end u outer f.next q)

        go : (s : Bool) (x : Seen Fields) → eqb at 0 ≡ s → look ns at ≡ x → innermost (suc t) token ns outer at ≡ innermost (suc u) token ns outer at
        go true x p e = rw p
        go false (is f) p e = covered f p e (covers token f) refl
        go false none p e = rw (p, e)
        go false (refused number place) p e = rw (p, e)

    pub innermost-enough : (outer at t : ℕ) → turns ns ≤ t → innermost t token ns outer at ≡ innermost (turns ns) token ns outer at
    innermost-enough outer at t h = enough down (count ns) down-below none holds (λ t at outer. innermost t token ns outer at) down-left down-steps down-stops at outer (turns ns) t (omega arith) h
