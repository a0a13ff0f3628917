-- Links and parents: what node words say of them.
use Rattle.std.specs.Prelude.{◌≡◌, refl, ◌≢◌, List, [], ◌∷◌, ℕ, ◌≤◌, ◌<◌, pred, length, get_or}
use Rattle.std.proofs.Common.{sym, ◌∙◌, ap, arith}
use Rattle.definition.specs.Prog.{next_word, child_word}
use Rattle.definition.specs.Abstract.{Node, node_at}
use Rattle.definition.specs.Encodes.{place, next, parent_of, first_kid, Kids, nobody, kid, Encodes}

-- A link to node i among the words of so many nodes: node p's word j, the one for its next sibling or the one for its first child, holds i.
pub data Link (w : List ℕ) (count i p : ℕ) : ℕ → Type 0 where
  by_next : p < count → get_or w (place p next_word) 0 ≡ i → Link w count i p next_word
  by-child : p < count → get_or w (place p child_word) 0 ≡ i → Link w count i p child_word

-- There is one link to node i, and no other.
pub record LinkedOnce (w : List ℕ) (count i : ℕ) : Type 0 where
  pub from : ℕ
  pub by : ℕ
  pub link : Link w count i from by
  pub only : (p j : ℕ) → Link w count i p j → (p ≡ from) × (j ≡ by)

-- "File and all that first child and next sibling reach from it" (01, The wall chart).
pub data Reached (w : List ℕ) : ℕ → Type 0 where
  root : {i : ℕ} → i ≡ 0 → Reached w i
  below : {p i : ℕ} → Reached w p → get_or w (place p child_word) 0 ≡ i → Reached w i
  beside : {p i : ℕ} → Reached w p → next w p ≡ i → Reached w i

-- A child of p, one that "first child and next siblings reach" (01, W3): its first child, and each next sibling of a child.
pub data Child (w : List ℕ) (p : ℕ) : ℕ → Type 0 where
  eldest : {i : ℕ} → 0 < i → get_or w (place p child_word) 0 ≡ i → Child w p i
  younger : {j i : ℕ} → Child w p j → 0 < i → next w j ≡ i → Child w p i

-- "A node's parent is the node whose first child and next siblings reach it" (01, W3): the one that it tells, and no other counted one.
pub record ParentTold (w : List ℕ) (count i : ℕ) : Type 0 where
  pub counted : parent_of w i < count
  pub links : Child w (parent_of w i) i
  pub only : (p : ℕ) → p < count → Child w p i → p ≡ parent_of w i

-- ---- rows of children

-- A number stands in a row.
pub data In (i : ℕ) : List ℕ → Type 0 where
  first : {x : ℕ} {xs : List ℕ} → i ≡ x → In i (x ∷ xs)
  later : {x : ℕ} {xs : List ℕ} → In i xs → In i (x ∷ xs)

-- The first child stands in the row.
first-in : (x : ℕ) (xs : List ℕ) → In (first_kid (x ∷ xs)) (x ∷ xs)
first-in x [] = first refl
first-in x (y ∷ ys) = later (first-in y ys)

module _ (w : List ℕ) (st : List Node) where
  -- A child is below the bound and has the parent.
  kid-own : {o b n c : ℕ} {xs : List ℕ} → Kids w st o b n xs → In c xs → (0 < c) × (c < b) × ((node_at st c).own ≡ o)
  kid-own nobody r = elim r [ ]
  kid-own (kid z l q e k) (first r) = rw r (z, l, q)
  kid-own (kid z l q e k) (later r) = let h : _ = kid-own k r in (h.0, omega (arith, h.1), h.2)

  -- What stands behind a child: the next one, or what stands behind the row.
  data Behind (n m : ℕ) (xs : List ℕ) : Type 0 where
    last : next w m ≡ n → Behind n m xs
    another : m < next w m → In (next w m) xs → Behind n m xs

  -- One of the two stands there.
  behind : {o b n m : ℕ} {xs : List ℕ} → Kids w st o b n xs → In m xs → Behind n m xs
  behind nobody r = elim r [ ]
  behind (kid z l q e k) (first r) = last (rw r e)
  behind {n = n} {m = m} (kid {x = x} {xs = xs} z l q e k) (later r) = go (behind k r)
    where
      go : Behind x m xs → Behind n m (x ∷ xs)
      go (last h) = another (omega (arith, (kid-own k r).1)) (first h)
      go (another g h) = another g (later h)

  -- And it is no more than the bound.
  behind-most : {o b n m : ℕ} {xs : List ℕ} → Kids w st o b n xs → In m xs → n ≤ b → next w m ≤ b
  behind-most {o} {b} {n} {m} {xs} k r l = go (behind k r)
    where
      go : Behind n m xs → next w m ≤ b
      go (last h) = omega arith
      go (another g h) = omega (arith, (kid-own k h).1)

  -- Two children with the same next one are the same.
  next-same : {o b n m i c : ℕ} {xs : List ℕ} → Kids w st o b n xs → In m xs → In i xs → m < c → i < c → next w m ≡ c → next w i ≡ c → m ≡ i
  next-same nobody r s f g h j = elim r [ ]
  next-same (kid z l q e k) (first r) (first s) f g h j = omega arith
  next-same (kid {x = x} z l q e k) (first r) (later s) f g h j = absurd (omega (arith, behind-most k s (omega arith)))
  next-same (kid {x = x} z l q e k) (later r) (first s) f g h j = absurd (omega (arith, behind-most k r (omega arith)))
  next-same (kid z l q e k) (later r) (later s) f g h j = next-same k r s f g h j

  -- The first child is the least of the row.
  first-least : {o b n m : ℕ} {xs : List ℕ} → Kids w st o b n xs → In m xs → first_kid xs ≤ m
  first-least nobody r = elim r [ ]
  first-least (kid {xs = []} z l q e k) (first r) = omega arith
  first-least (kid {xs = []} z l q e k) (later r) = elim r [ ]
  first-least (kid {xs = y ∷ ys} z l q e k) (first r) = omega (arith, (kid-own k (first-in y ys)).1)
  first-least (kid {xs = y ∷ ys} z l q e k) (later r) = first-least k r

  -- What stands before a child: another, or none.
  data Before (i : ℕ) (xs : List ℕ) : Type 0 where
    nothing : first_kid xs ≡ i → Before i xs
    after : (y : ℕ) → In y xs → next w y ≡ i → Before i xs

  -- One of the two it is.
  before : {o b n i : ℕ} {xs : List ℕ} → Kids w st o b n xs → In i xs → Before i xs
  before nobody r = elim r [ ]
  before (kid {xs = []} z l q e k) (first r) = nothing (sym r)
  before (kid {xs = []} z l q e k) (later r) = elim r [ ]
  before (kid {xs = y ∷ ys} z l q e (kid a b c d f)) (first r) = after y (later (first refl)) (d ∙ sym r)
  before {i = i} (kid {x = x} {xs = y ∷ ys} z l q e k) (later r) = go (before k r)
    where
      go : Before i (y ∷ ys) → Before i (x ∷ (y ∷ ys))
      go (nothing h) = nothing h
      go (after m g h) = after m (later g) h

  module _ (enc : Encodes w st) where
    -- A node is a child of one node only.
    one_parent : {p q i : ℕ} → p < length st → q < length st → In i (node_at st p).kids → In i (node_at st q).kids → p ≡ q
    one_parent {p} {q} l m a b = omega (arith, (kid-own (enc.chains p l) a).2, (kid-own (enc.chains q m) b).2)

    -- A row of children are children where its first one is.
    row-child : {p o b n i : ℕ} {xs : List ℕ} → get_or w (place p child_word) 0 ≡ first_kid xs → Kids w st o b n xs → In i xs → Child w p i
    row-child {xs = []} f k r = elim r [ ]
    row-child {xs = x ∷ []} f (kid z l q e k) (first r) = rw r (eldest z f)
    row-child {xs = x ∷ []} f (kid z l q e k) (later r) = elim r [ ]
    row-child {xs = x ∷ (y ∷ ys)} f (kid z l q e (kid a b c d g)) (first r) = rw r (younger (row-child f (kid a b c d g) (first refl)) z d)
    row-child {xs = x ∷ (y ∷ ys)} f (kid z l q e k) (later r) = row-child f k r

    -- The children of a node in the store are those that its links reach, and no others.
    pub in-child : {p i : ℕ} → p < length st → In i (node_at st p).kids → Child w p i
    in-child {p} l c = row-child (enc.firsts p l) (enc.chains p l) c

    pub child-in : {p i : ℕ} → p < length st → Child w p i → In i (node_at st p).kids
    child-in {p} l (eldest {i} z e) = go (node_at st p).kids (sym (enc.firsts p l) ∙ e)
      where
        go : (xs : List ℕ) → first_kid xs ≡ i → In i xs
        go [] f = absurd (omega arith)
        go (x ∷ xs) f = rw f at (first-in x xs)
    child-in {p} l (younger {j} {i} c z e) = go (behind (enc.chains p l) (child-in l c))
      where
        go : Behind 0 j (node_at st p).kids → In i (node_at st p).kids
        go (last h) = absurd (omega arith)
        go (another g y) = rw e at y

    -- Such a child tells its parent.
    pub in_told : {p i : ℕ} → p < length st → i < length st → In i (node_at st p).kids → parent_of w i ≡ p
    in_told {p} {i} l g c = enc.owns i g ∙ ap pred (kid-own (enc.chains p l) c).2

    module _ (root : (node_at st 0).own ≡ 0) (parents : (i : ℕ) → 0 < i → i < length st → (p : ℕ) × (p < length st) × In i (node_at st p).kids) where
      -- What links to a child as its next is the child before it.
      next-in : {i p m : ℕ} → 0 < i → p < length st → In i (node_at st p).kids → m < length st → next w m ≡ i → In m (node_at st p).kids × (m < i)
      next-in {i} {p} {m} z l c g e = go (parents m (omega (arith, positive)) g)
        where
          positive : m ≢ 0
          positive q = let h : next w m ≡ 0 = enc.free m g (rw q root) in omega arith

          go : (q : ℕ) × (q < length st) × In m (node_at st q).kids → In m (node_at st p).kids × (m < i)
          go (q, h, x) = found (behind (enc.chains q h) x)
            where
              found : Behind 0 m (node_at st q).kids → In m (node_at st p).kids × (m < i)
              found (last f) = absurd (omega arith)
              found (another f y) = let same : p ≡ q = one_parent l h c (rw e at y) in (rw same x, omega arith)

      -- What a node links to as its first child is its child.
      first_of : {i q : ℕ} → 0 < i → q < length st → get_or w (place q child_word) 0 ≡ i → (first_kid (node_at st q).kids ≡ i) × In i (node_at st q).kids
      first_of {i} {q} z l e = (sym (enc.firsts q l) ∙ e, child-in l (eldest z e))

      -- So each node but the root is linked once.
      pub once-linked : (i : ℕ) → 0 < i → i < length st → LinkedOnce w (length st) i
      once-linked i z l = go (parents i z l)
        where
          go : (p : ℕ) × (p < length st) × In i (node_at st p).kids → LinkedOnce w (length st) i
          go (p, g, c) = found (before (enc.chains p g) c)
            where
              found : Before i (node_at st p).kids → LinkedOnce w (length st) i
              found (nothing f) = record { from = p; by = child_word; link = by-child g (enc.firsts p g ∙ f); only = only }
                where
                  only : (q j : ℕ) → Link w (length st) i q j → (q ≡ p) × (j ≡ child_word)
                  only q j (by-child h e) = (one_parent h g (first_of z h e).1 c, refl)
                  only q j (by_next h e) = let x : _ = next-in z g c h e in absurd (omega (arith, x.1, first-least (enc.chains p g) x.0))
              found (after y x n) = record { from = y; by = next_word; link = by_next (kid-own (enc.chains p g) x).1 n; only = only }
                where
                  low : y < i
                  low = (next-in z g c (kid-own (enc.chains p g) x).1 n).1

                  only : (q j : ℕ) → Link w (length st) i q j → (q ≡ y) × (j ≡ next_word)
                  only q j (by-child h e) =
                      let f : _ = first_of z h e in
                      let same : q ≡ p = one_parent h g f.1 c in
                      let least : first_kid (node_at st q).kids ≤ y = rw same (first-least (enc.chains p g) x) in
                      absurd (omega (arith, low, f.0))
                  only q j (by_next h e) = let k : _ = next-in z g c h e in (next-same (enc.chains p g) k.0 x k.1 low e n, refl)
