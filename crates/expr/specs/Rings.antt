-- As many peels as there are nodes get inside all brackets, unless these stand in a ring: more peels never give another answer.
use Rattle.std.specs.Prelude.{◌≡◌, Bool, cond, List, ℕ, suc, ◌≤◌, ◌<◌}
use Rattle.std.proofs.Math.Path.{refl}
use Rattle.std.proofs.Math.Bool.{true, false}
use Rattle.std.proofs.Common.{arith}
use Rattle.std.proofs.Math.Dec.{eqb}
use borrow.Author.Tests.{eq-eqb, ne_eqb}
use Rattle.words.specs.Node
use Rattle.words.specs.declared.node.Node.{Node as Fields}
use Rattle.looking.specs.View.{Seen, is, none, refused, and_then, count, look, turns}
use Rattle.looking.specs.Laws.{look-there}
use Rattle.looking.specs.Ways.{enough}
use Rattle.expr.specs.Expr.{peel}

-- ---- brackets

-- the node inside a bracket; 0 where no bracket is, or none is inside
abbrev bracket : Seen Fields → ℕ
bracket (is f) = cond (eqb f.kind Node.ParenExpr) f.child 0
bracket none = 0
bracket (refused number place) = 0

module _ (ns : List ℕ) where
  abbrev inside : ℕ → ℕ
  inside n = bracket (look ns n)

  inside-below : (n : ℕ) → (inside n ≡ 0 → ⊥) → n < count ns
  inside-below n z = look-there ns n (λ e. z (rw (← e)))

  inside-steps : (t n : ℕ) → (inside n ≡ 0 → ⊥) → peel (suc t) ns n ≡ peel t ns (inside n)
  unfolding peel and_then
  inside-steps t n z = go (look ns n) refl
    where
      bracketed : (f : Fields) → look ns n ≡ is f → (u : Bool) → eqb f.kind Node.ParenExpr ≡ u → peel (suc t) ns n ≡ peel t ns (inside n)
      bracketed f e true p =
          let c : f.child ≡ 0 → ⊥ = λ q. z (rw (e, p) q) in
          rw (e, p, ne_eqb f.child 0 c)
      bracketed f e false p = absurd (z (rw (e, p)))

      go : (s : Seen Fields) → look ns n ≡ s → peel (suc t) ns n ≡ peel t ns (inside n)
      go (is f) e = bracketed f e (eqb f.kind Node.ParenExpr) refl
      go none e = absurd (z (rw e))
      go (refused number place) e = absurd (z (rw e))

  inside-stops : (t u n : ℕ) → inside n ≡ 0 → peel (suc t) ns n ≡ peel (suc u) ns n
  unfolding peel and_then
  inside-stops t u n z = go (look ns n) refl
    where
      bracketed : (f : Fields) → look ns n ≡ is f → (b : Bool) → eqb f.kind Node.ParenExpr ≡ b → peel (suc t) ns n ≡ peel (suc u) ns n
      bracketed f e true p =
          let c : f.child ≡ 0 = rw (e, p) at z in
          rw (e, p, eq-eqb f.child 0 c)
      bracketed f e false p = rw (e, p)

      go : (s : Seen Fields) → look ns n ≡ s → peel (suc t) ns n ≡ peel (suc u) ns n
      go (is f) e = bracketed f e (eqb f.kind Node.ParenExpr) refl
      go none e = rw e
      go (refused number place) e = rw e

  -- more peels than `turns ns` give the same answer: what they don't get through is a ring
  pub peel-enough : (n t : ℕ) → turns ns ≤ t → peel t ns n ≡ peel (turns ns) ns n
  unfolding peel
  peel-enough n t h = enough inside (count ns) inside-below none (λ _ (b : ℕ). b) (λ t n _. peel t ns n) (λ n b z. refl) (λ t n b. inside-steps t n) (λ t u n b. inside-stops t u n) n n (turns ns) t (omega arith) h
