-- What Family says holds of every forest whose one root is File.
use Rattle.std.specs.Prelude.{◌≡◌, refl, List, [], ◌∷◌, ℕ, zero, suc, ◌+◌, ◌<◌, pred, length}
use Rattle.std.proofs.Common.{sym, ◌∙◌, ap, arith}
use Rattle.std.proofs.Math.Decide.{ℕ_discrete}
use Rattle.definition.specs.Abstract.{Node, node_at}
use Rattle.definition.specs.Encodes.{parent_of}
use Rattle.rising.specs.Linked.{In, Child, eldest, younger, ParentTold, LinkedOnce, once-linked, Reached, root, below, beside, in-child, child-in, in_told}
use Rattle.rising.specs.Forest.{base, Among, at_head, further, Held, more, Root, root-of, Forest}
use Rattle.rising.specs.Family.{climb, climb-file, Family}

child-reached : {w : List ℕ} {p i : ℕ} → Reached w p → Child w p i → Reached w i
child-reached r (eldest z e) = below r e
child-reached r (younger c z e) = beside (child-reached r c) e

module _ (w : List ℕ) (count : ℕ) (f : Forest w count (base 0 ∷ [])) where
  abbrev st : List Node
  st = f.store

  file-held : Root st 0
  file-held = go f.held
    where
      go : Held st (base 0 ∷ []) → Root st 0
      go (more h a r) = root-of h

  only-root : {i : ℕ} → Among i (base 0 ∷ []) → i ≡ 0
  only-root (further r) = elim r [ ]
  only-root (at_head e) = e

  -- A node with no parent is File; any other stands among the children of its parent.
  parent-of : (i : ℕ) → 0 < i → i < length st → (p : ℕ) × (p < length st) × In i (node_at st p).kids × ((node_at st i).own ≡ suc p)
  parent-of i z l = go (node_at st i).own refl
    where
      go : (o : ℕ) → (node_at st i).own ≡ o → (p : ℕ) × (p < length st) × In i (node_at st p).kids × ((node_at st i).own ≡ suc p)
      go zero e = absurd (omega (arith, only-root (f.roots i (record { made = l; alone = e }))))
      go (suc p) e = let b = f.back i p l e in (p, b.0, b.1, e)

  told : (i : ℕ) → 0 < i → i < length st → ParentTold w (length st) i
  told i z l =
      let (p, g, c, o) = parent-of i z l in
      let e : parent_of w i ≡ p = in_told w st f.links g l c in
      record { counted = rw e g; links = rw e (in-child w st f.links g c); only = λ q h d. sym (in_told w st f.links h l (child-in w st f.links h d)) }

  file-told : parent_of w 0 ≡ 0
  file-told = f.links.owns 0 file-held.made ∙ ap pred file-held.alone

  once : (i : ℕ) → 0 < i → i < length st → LinkedOnce w (length st) i
  once = once-linked w st f.links file-held.alone (λ i z l. let x = parent-of i z l in (x.0, x.1, x.2))

  -- A parent's tree is larger than its child's.
  larger : (i : ℕ) → 0 < i → i < length st → (parent_of w i < length st) × (f.weights.size i < f.weights.size (parent_of w i))
  larger i z l =
      let (p, g, c, o) = parent-of i z l in
      let e : parent_of w i ≡ p = in_told w st f.links g l c in
      rw e (g, f.weights.above i p l o)

  -- Each step up, a larger tree; none is larger than all. So what holds of File, and of a node where it does of its parent, holds of all nodes.
  from-file : (P : ℕ → ℕ → Type 0) → ((k : ℕ) → P k 0) → ((k i : ℕ) → 0 < i → i < length st → P k (parent_of w i) → P (suc k) i)
      → (k i : ℕ) → i < length st → length st < f.weights.size i + k → P k i
  from-file P a b zero i l h = absurd (omega (arith, f.weights.most i l))
  from-file P a b (suc k) i l h = go (ℕ_discrete i 0) (from-file P a b k (parent_of w i))
    where
      go : Dec (i ≡ 0) → (parent_of w i < length st → length st < f.weights.size (parent_of w i) + k → P k (parent_of w i)) → P (suc k) i
      go (yes q) r = rw q (a (suc k))
      go (no q) r =
          let z : 0 < i = omega arith in
          let x = larger i z l in
          b k i z l (r x.0 (omega (arith, x.1)))

  ends : (i : ℕ) → i < length st → climb w (length st) i ≡ 0
  unfolding climb
  ends i l = from-file (λ k j. climb w k j ≡ 0) (climb-file w file-told) (λ k j z h e. e) (length st) i l (omega (arith, f.weights.least i l))

  reached : (i : ℕ) → i < length st → Reached w i
  reached i l = from-file (λ _ j. Reached w j) (λ _. root refl) (λ k j z h r. child-reached r (told j z h).links) (length st) i l (omega (arith, f.weights.least i l))

  pub family : Family w count
  family =
      rw (← f.counted)
      (record {
        some = file-held.made;
        file = file-told;
        parents = told;
        linked = once;
        reached = reached;
        climbs = ends;
      })
