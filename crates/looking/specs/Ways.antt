-- Ways along links that may come back in a ring: as many steps as there are nodes are enough, and more never give another answer.
use Rattle.std.specs.Prelude.{◌≡◌, refl, Bool, true, false, cond, ◌⊎◌, ℕ, zero, suc, ◌-◌, ◌≤◌, ◌<◌, eqb}
use Rattle.std.proofs.Common.{sym, ap, ◌∙◌, inl, inr, arith, eqb-true}
use Rattle.std.proofs.lemmas.Bool.{eqb-false}

-- ---- d different numbers below m are at most m

-- the value of the last place takes the place of m
abbrev moved : (ℕ → ℕ) → ℕ → ℕ → ℕ → ℕ
moved f d m k = cond (eqb (f k) m) (f d) (f k)

module _ (f : ℕ → ℕ) (d m : ℕ) (below : (k : ℕ) → k < suc d → f k < suc m) (one : (j k : ℕ) → j < suc d → k < suc d → f j ≡ f k → j ≡ k) where
  moved-below : (k : ℕ) → k < d → moved f d m k < m
  moved-below k h = go (eqb (f k) m) refl
    where
      go : (t : Bool) → eqb (f k) m ≡ t → moved f d m k < m
      go true p =
          let e : f k ≡ m = eqb-true (f k) m p in
          let l : f d < suc m = below d (omega arith) in
          let n : f d ≡ m → ⊥ = λ q. let i : k ≡ d = one k d (omega arith) (omega arith) (e ∙ sym q) in omega arith in
          let b : f d < m = omega (arith, n) in
          rw p b
      go false p =
          let n : f k ≡ m → ⊥ = eqb-false (f k) m p in
          let l : f k < suc m = below k (omega arith) in
          let b : f k < m = omega (arith, n) in
          rw p b

  moved-one : (j k : ℕ) → j < d → k < d → moved f d m j ≡ moved f d m k → j ≡ k
  moved-one j k h i e = go (eqb (f j) m) (eqb (f k) m) refl refl
    where
      go : (t u : Bool) → eqb (f j) m ≡ t → eqb (f k) m ≡ u → j ≡ k
      go true true p q = one j k (omega arith) (omega arith) (eqb-true (f j) m p ∙ sym (eqb-true (f k) m q))
      go true false p q =
          let x : f d ≡ f k = rw (p, q) at e in
          let y : d ≡ k = one d k (omega arith) (omega arith) x in
          omega arith
      go false true p q =
          let x : f j ≡ f d = rw (p, q) at e in
          let y : j ≡ d = one j d (omega arith) (omega arith) x in
          omega arith
      go false false p q =
          let x : f j ≡ f k = rw (p, q) at e in
          one j k (omega arith) (omega arith) x

pub pigeons : (m d : ℕ) (f : ℕ → ℕ) → ((k : ℕ) → k < d → f k < m) → ((j k : ℕ) → j < d → k < d → f j ≡ f k → j ≡ k) → d ≤ m
pigeons m zero f below one = omega arith
pigeons zero (suc d) f below one =
    let l : f 0 < 0 = below 0 (omega arith) in
    omega arith
pigeons (suc m) (suc d) f below one =
    let l : d ≤ m = pigeons m d (moved f d m) (moved-below f d m below one) (moved-one f d m below one) in
    omega arith

-- ---- a way that goes on from a number to another, unless that is 0, and then from one below m

module _ (next : ℕ → ℕ) (m : ℕ) (below : (n : ℕ) → (next n ≡ 0 → ⊥) → n < m) where
  -- it ends after d steps; it goes on for t steps
  abbrev pub Ends : ℕ → ℕ → Type 0
  Ends zero n = next n ≡ 0
  Ends (suc d) n = (next n ≡ 0 → ⊥) × Ends d (next n)

  abbrev pub Goes : ℕ → ℕ → Type 0
  Goes zero n = Unit {0}
  Goes (suc t) n = (next n ≡ 0 → ⊥) × Goes t (next n)

  -- where it is after k steps
  abbrev pub after : ℕ → ℕ → ℕ
  after zero n = n
  after (suc k) n = after k (next n)

  pub after-suc : (k n : ℕ) → after (suc k) n ≡ next (after k n)
  after-suc zero n = refl
  after-suc (suc k) n = after-suc k (next n)

  pub goes_after : (t n k : ℕ) → k < t → Goes t n → next (after k n) ≡ 0 → ⊥
  goes_after zero n k h g = absurd (omega arith)
  goes_after (suc t) n zero h g = g.0
  goes_after (suc t) n (suc k) h g = goes_after t (next n) k (omega arith) g.1

  ends-after : (d n k : ℕ) → k ≤ d → Ends d n → Ends (d - k) (after k n)
  ends-after d n zero h e =
      let i : d - 0 ≡ d = omega arith in
      rw i e
  ends-after zero n (suc k) h e = absurd (omega arith)
  ends-after (suc d) n (suc k) h e =
      let i : suc d - suc k ≡ d - k = omega arith in
      rw i (ends-after d (next n) k (omega arith) e.1)

  ends-once : (a b n : ℕ) → Ends a n → Ends b n → a ≡ b
  ends-once zero zero n e f = refl
  ends-once zero (suc b) n e f = absurd (f.0 e)
  ends-once (suc a) zero n e f = absurd (e.0 f)
  ends-once (suc a) (suc b) n e f = ap suc (ends-once a b (next n) e.1 f.1)

  ends-below : (d n : ℕ) → 0 < d → Ends d n → n < m
  ends-below zero n h e = absurd (omega arith)
  ends-below (suc d) n h e = below n e.0

  -- the numbers on a way that ends are different, so it is no longer than m
  short : (d n : ℕ) → Ends d n → d ≤ m
  short d n e = pigeons m d (λ k. after k n) (λ k h. ends-below (d - k) (after k n) (omega arith) (ends-after d n k (omega arith) e)) same
    where
      same : (j k : ℕ) → j < d → k < d → after j n ≡ after k n → j ≡ k
      same j k h i q =
          let x : Ends (d - j) (after k n) = rw q at (ends-after d n j (omega arith) e) in
          let y : d - j ≡ d - k = ends-once (d - j) (d - k) (after k n) x (ends-after d n k (omega arith) e) in
          omega arith

  -- within t steps it ends, or it goes on for all of them
  pub decided : (t n : ℕ) → ((d : ℕ) × (d < t) × Ends d n) ⊎ Goes t n
  decided zero n = inr tt
  decided (suc t) n = go (eqb (next n) 0) refl (decided t (next n))
    where
      longer : (next n ≡ 0 → ⊥) → ((d : ℕ) × (d < t) × Ends d (next n)) ⊎ Goes t (next n) → ((d : ℕ) × (d < suc t) × Ends d n) ⊎ Goes (suc t) n
      longer z (inl (d, h, e)) = inl (suc d, omega arith, (z, e))
      longer z (inr g) = inr (z, g)

      go : (b : Bool) → eqb (next n) 0 ≡ b → ((d : ℕ) × (d < t) × Ends d (next n)) ⊎ Goes t (next n) → ((d : ℕ) × (d < suc t) × Ends d n) ⊎ Goes (suc t) n
      go true q w = inl (0, omega arith, eqb-true (next n) 0 q)
      go false q w = longer (eqb-false (next n) 0 q) w

  goes-less : (t u n : ℕ) → u ≤ t → Goes t n → Goes u n
  goes-less t zero n h g = tt
  goes-less zero (suc u) n h g = absurd (omega arith)
  goes-less (suc t) (suc u) n h g = (g.0, goes-less t u (next n) (omega arith) g.1)

  -- What follows the way, and what it holds of the nodes that it passed: `over` where it goes on and no steps are left.
  module _ {A B : Type 0} (over : A) (passes : ℕ → B → B) (p : ℕ → ℕ → B → A) (left : (n : ℕ) (b : B) → (n ≡ 0 → ⊥) → p zero n b ≡ over)
      (steps : (t n : ℕ) (b : B) → (next n ≡ 0 → ⊥) → p (suc t) n b ≡ p t (next n) (passes n b)) (stops : (t u n : ℕ) (b : B) → next n ≡ 0 → p (suc t) n b ≡ p (suc u) n b) where
    if-goes : (t n : ℕ) (b : B) → Goes (suc t) n → p (suc t) n b ≡ over
    if-goes zero n b g = steps zero n b g.0 ∙ left (next n) (passes n b) g.0
    if-goes (suc t) n b g = steps (suc t) n b g.0 ∙ if-goes t (next n) (passes n b) g.1

    if-ends : (d n : ℕ) (b : B) (t u : ℕ) → Ends d n → d < t → d < u → p t n b ≡ p u n b
    if-ends d n b zero u e h i = absurd (omega arith)
    if-ends d n b (suc t) zero e h i = absurd (omega arith)
    if-ends zero n b (suc t) (suc u) e h i = stops t u n b e
    if-ends (suc d) n b (suc t) (suc u) e h i = steps t n b e.0 ∙ if-ends d (next n) (passes n b) t u e.1 (omega arith) (omega arith) ∙ sym (steps u n b e.0)

    pub enough : (n : ℕ) (b : B) (t u : ℕ) → m < t → t ≤ u → p u n b ≡ p t n b
    enough n b zero u h i = absurd (omega arith)
    enough n b (suc t) zero h i = absurd (omega arith)
    enough n b (suc t) (suc u) h i = go (decided (suc u) n)
      where
        go : ((d : ℕ) × (d < suc u) × Ends d n) ⊎ Goes (suc u) n → p (suc u) n b ≡ p (suc t) n b
        go (inl (d, l, e)) =
            let s : d ≤ m = short d n e in
            if-ends d n b (suc u) (suc t) e l (omega arith)
        go (inr g) = if-goes u n b g ∙ sym (if-goes t n b (goes-less (suc u) (suc t) n i g))
