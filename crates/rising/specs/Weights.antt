-- Sizes of the trees in a store: a child's is less than its parent's, and those of the roots come to no more than there are nodes.
use Rattle.std.specs.Prelude.{◌≡◌, ◌≢◌, cond, List, [], ℕ, zero, suc, ◌+◌, ◌≤◌, ◌<◌, eqb, length}
use Rattle.std.proofs.Math.Path.{refl, sym}
use Rattle.std.proofs.Common.{◌∙◌, arith, eq-eqb, ne_eqb}
use Rattle.std.proofs.Math.Decide.{ℕ_discrete}
use Rattle.definition.specs.Abstract.{Node, node_at}

-- The sum of f below a bound.
unfoldable pub total : ℕ → (ℕ → ℕ) → ℕ
total zero f = 0
total (suc n) f = f n + total n f

total-same : (n : ℕ) (f g : ℕ → ℕ) → ((i : ℕ) → i < n → f i ≡ g i) → total n f ≡ total n g
unfolding total
total-same zero f g e = refl
total-same (suc n) f g e = omega (arith, e n (omega arith), total-same n f g (λ i l. e i (omega arith)))

-- One of them is no more than all.
total-one : (n k : ℕ) (f : ℕ → ℕ) → k < n → f k ≤ total n f
unfolding total
total-one zero k f l = absurd (omega arith)
total-one (suc n) k f l = go (ℕ_discrete k n) (total-one n k f)
  where
    go : Dec (k ≡ n) → (k < n → f k ≤ total n f) → f k ≤ f n + total n f
    go (yes q) r = rw q (omega arith)
    go (no q) r = omega (arith, r (omega arith))

-- f, but v at k.
but : ℕ → ℕ → (ℕ → ℕ) → ℕ → ℕ
but k v f i = cond (eqb i k) v (f i)

but_same : (k v : ℕ) (f : ℕ → ℕ) → but k v f k ≡ v
unfolding but
but_same k v f = rw (eq-eqb k k refl) refl

but-other : (k v : ℕ) (f : ℕ → ℕ) (i : ℕ) → i ≢ k → but k v f i ≡ f i
unfolding but
but-other k v f i q = rw (ne_eqb i k q) refl

total-but : (n k v : ℕ) (f : ℕ → ℕ) → k < n → total n (but k v f) + f k ≡ total n f + v
unfolding total
total-but zero k v f l = absurd (omega arith)
total-but (suc n) k v f l = go (ℕ_discrete k n) (total-but n k v f)
  where
    go : Dec (k ≡ n) → (k < n → total n (but k v f) + f k ≡ total n f + v) → but k v f n + total n (but k v f) + f k ≡ f n + total n f + v
    go (yes q) r = rw q (omega (arith, but_same n v f, total-same n (but n v f) f (λ i h. but-other n v f i (omega arith))))
    go (no q) r = omega (arith, but-other k v f n (λ e. q (sym e)), r (omega arith))

-- The size of a root, 0 elsewhere.
unfoldable pub rooted : List Node → (ℕ → ℕ) → ℕ → ℕ
rooted st f i = cond (eqb (node_at st i).own 0) (f i) 0

root_is : (st : List Node) (f : ℕ → ℕ) (i : ℕ) → (node_at st i).own ≡ 0 → rooted st f i ≡ f i
unfolding rooted
root_is st f i e = rw (eq-eqb _ 0 e) refl

root-not : (st : List Node) (f : ℕ → ℕ) (i : ℕ) → (node_at st i).own ≢ 0 → rooted st f i ≡ 0
unfolding rooted
root-not st f i e = rw (ne_eqb _ 0 e) refl

pub record Weighed (st : List Node) : Type 0 where
  pub size : ℕ → ℕ
  pub least : (i : ℕ) → i < length st → 0 < size i
  pub most : (i : ℕ) → i < length st → size i ≤ length st
  pub above : (i p : ℕ) → i < length st → (node_at st i).own ≡ suc p → size i < size p
  pub sum : total (length st) (rooted st size) ≤ length st

pub weighed-none : Weighed []
unfolding total
weighed-none = record { size = λ i. 0; least = λ i l. absurd (omega arith); most = λ i l. absurd (omega arith); above = λ i p l. absurd (omega arith); sum = omega arith }

-- One more root; the others stay.
module _ (st su : List Node) (e : length su ≡ suc (length st)) (same : (i : ℕ) → i < length st → (node_at su i).own ≡ (node_at st i).own) (new : (node_at su (length st)).own ≡ 0) (inside : (i p : ℕ) → i < length st → (node_at st i).own ≡ suc p → p < length st) (w : Weighed st) where
  one : ℕ → ℕ
  one = but (length st) 1 w.size

  old : (i : ℕ) → i < length st → one i ≡ w.size i
  unfolding one
  old i l = but-other (length st) 1 w.size i (omega arith)

  it : one (length st) ≡ 1
  unfolding one
  it = but_same (length st) 1 w.size

  old-root : (i : ℕ) → i < length st → rooted su one i ≡ rooted st w.size i
  old-root i l = go (ℕ_discrete (node_at st i).own 0)
    where
      go : Dec ((node_at st i).own ≡ 0) → rooted su one i ≡ rooted st w.size i
      go (yes q) = root_is su one i (same i l ∙ q) ∙ (old i l ∙ sym (root_is st w.size i q))
      go (no q) = root-not su one i (λ z. q (sym (same i l) ∙ z)) ∙ sym (root-not st w.size i q)

  sum-new : total (suc (length st)) (rooted su one) ≤ suc (length st)
  unfolding total
  sum-new = omega (arith, root_is su one (length st) new, it, total-same (length st) (rooted su one) (rooted st w.size) old-root, w.sum)

  pub weighed-new : Weighed su
  weighed-new =
      record {
        size = one;
        least = λ i l. least_at i (rw e at l) (ℕ_discrete i (length st));
        most = λ i l. rw e (most-at i (rw e at l) (ℕ_discrete i (length st)));
        above = λ i p l q. above_at i p (rw e at l) q (ℕ_discrete i (length st));
        sum = rw e sum-new;
      }
    where
      least_at : (i : ℕ) → i < suc (length st) → Dec (i ≡ length st) → 0 < one i
      least_at i l (yes q) = rw q (omega (arith, it))
      least_at i l (no q) = omega (arith, old i (omega arith), w.least i (omega arith))

      most-at : (i : ℕ) → i < suc (length st) → Dec (i ≡ length st) → one i ≤ suc (length st)
      most-at i l (yes q) = rw q (omega (arith, it))
      most-at i l (no q) = omega (arith, old i (omega arith), w.most i (omega arith))

      above_at : (i p : ℕ) → i < suc (length st) → (node_at su i).own ≡ suc p → Dec (i ≡ length st) → one i < one p
      above_at i p l q (yes z) = absurd (let h : (node_at su (length st)).own ≡ suc p = rw z at q in omega (arith, new))
      above_at i p l q (no z) =
          let g : i < length st = omega arith in
          let h : (node_at st i).own ≡ suc p = sym (same i g) ∙ q in
          omega (arith, old i g, old p (inside i p g h), w.above i p g h)

-- A root put under another.
module _ (st su : List Node) (n a : ℕ) (e : length su ≡ length st) (ln : n < length st) (la : a < length st) (rn : (node_at st n).own ≡ 0) (ra : (node_at st a).own ≡ 0) (apart : a ≢ n) (moved : (node_at su a).own ≡ suc n) (same : (i : ℕ) → i ≢ a → (node_at su i).own ≡ (node_at st i).own) (w : Weighed st) where
  both : ℕ
  both = w.size n + w.size a

  grown : ℕ → ℕ
  grown = but n both w.size

  grown-other : (i : ℕ) → i ≢ n → grown i ≡ w.size i
  unfolding grown
  grown-other i q = but-other n both w.size i q

  grown-same : grown n ≡ both
  unfolding grown
  grown-same = but_same n both w.size

  before : ℕ → ℕ
  before = rooted st w.size

  mid : ℕ → ℕ
  mid = but n both before

  after_is : (i : ℕ) → rooted su grown i ≡ but a 0 mid i
  unfolding mid before
  after_is i = go (ℕ_discrete i a) (ℕ_discrete i n) (ℕ_discrete (node_at st i).own 0)
    where
      go : Dec (i ≡ a) → Dec (i ≡ n) → Dec ((node_at st i).own ≡ 0) → rooted su grown i ≡ but a 0 mid i
      go (yes p) q r = rw p (root-not su grown a (λ z. omega (arith, moved)) ∙ sym (but_same a 0 mid))
      go (no p) (yes q) r = rw q (root_is su grown n (same n (λ z. apart (sym z)) ∙ rn) ∙ (grown-same ∙ sym (but-other a 0 mid n (λ z. apart (sym z)) ∙ but_same n both before)))
      go (no p) (no q) (yes r) = root_is su grown i (same i p ∙ r) ∙ (grown-other i q ∙ sym (but-other a 0 mid i p ∙ (but-other n both before i q ∙ root_is st w.size i r)))
      go (no p) (no q) (no r) = root-not su grown i (λ z. r (sym (same i p) ∙ z)) ∙ sym (but-other a 0 mid i p ∙ (but-other n both before i q ∙ root-not st w.size i r))

  before-n : before n ≡ w.size n
  unfolding before
  before-n = root_is st w.size n rn

  before-a : before a ≡ w.size a
  unfolding before
  before-a = root_is st w.size a ra

  mid-a : mid a ≡ w.size a
  unfolding mid
  mid-a = but-other n both before a apart ∙ before-a

  both_is : both ≡ w.size n + w.size a
  unfolding both
  both_is = refl

  total-before : total (length st) before ≤ length st
  unfolding before
  total-before = w.sum

  total-mid : total (length st) mid + before n ≡ total (length st) before + both
  unfolding mid
  total-mid = total-but (length st) n both before ln

  sum-after : total (length st) (rooted su grown) ≤ length st
  sum-after = omega (arith, total-same (length st) (rooted su grown) (but a 0 mid) (λ i l. after_is i), total-but (length st) a 0 mid la, total-mid, before-n, mid-a, both_is, total-before)

  both_most : both ≤ length st
  both_most =
      omega (arith, total-but (length st) n 0 before ln, total-one (length st) a (but n 0 before) la, but-other n 0 before a apart, before-n, before-a, both_is, total-before)

  pub weighed-link : Weighed su
  weighed-link =
      record {
        size = grown;
        least = λ i l. least_at i (rw e at l) (ℕ_discrete i n);
        most = λ i l. rw e (most-at i (rw e at l) (ℕ_discrete i n));
        above = λ i p l q. above_at i p (rw e at l) q (ℕ_discrete i a) (ℕ_discrete i n);
        sum = rw e sum-after;
      }
    where
      least_at : (i : ℕ) → i < length st → Dec (i ≡ n) → 0 < grown i
      least_at i l (yes q) = rw q (omega (arith, grown-same, both_is, w.least n ln))
      least_at i l (no q) = omega (arith, grown-other i q, w.least i l)

      most-at : (i : ℕ) → i < length st → Dec (i ≡ n) → grown i ≤ length st
      most-at i l (yes q) = rw q (omega (arith, grown-same, both_most))
      most-at i l (no q) = omega (arith, grown-other i q, w.most i l)

      more : (i : ℕ) → w.size i ≤ grown i
      more i = go (ℕ_discrete i n)
        where
          go : Dec (i ≡ n) → w.size i ≤ grown i
          go (yes q) = rw q (omega (arith, grown-same, both_is))
          go (no q) = omega (arith, grown-other i q)

      above_at : (i p : ℕ) → i < length st → (node_at su i).own ≡ suc p → Dec (i ≡ a) → Dec (i ≡ n) → grown i < grown p
      above_at i p l q (yes z) d =
          let h : (node_at su a).own ≡ suc p = rw z at q in
          let k : p ≡ n = omega (arith, moved) in
          rw (z, k) (omega (arith, grown-same, both_is, grown-other a apart, w.least n ln))
      above_at i p l q (no z) (yes y) = absurd (let h : (node_at su n).own ≡ suc p = rw y at q in omega (arith, same n (λ x. apart (sym x)), rn))
      above_at i p l q (no z) (no y) = omega (arith, grown-other i y, more p, w.above i p l (sym (same i z) ∙ q))
