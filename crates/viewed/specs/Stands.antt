-- The words of a tree hold its places: each node can be looked at, and its links lead to its children and to its neighbours.
use Rattle.std.proofs.Math.Path.{◌≡◌, refl}
use Rattle.std.proofs.Common.{sym, ◌∙◌, ap, arith, eqb-true, ltb-true}
use Rattle.std.specs.Prelude.{◌≢◌, Bool, List}
use Rattle.std.proofs.Math.Bool.{true, false, cond}
use Rattle.std.proofs.Math.Option.{Option}
use Prim.Native.Nat.{ℕ, zero, suc, ◌<◌}
use Rattle.std.proofs.lemmas.Bool.{eqb-false}
use Rattle.std.proofs.Math.Dec.{eqb, ltb}
use Rattle.words.specs.Node
use Rattle.words.specs.declared.node.Node.{Node as Fields}
use Rattle.chart.specs.Tree.{Value, flags, name, number, bytes, Trees, node, ◌▸◌}
use Rattle.chart.specs.Tree as Tree
use Rattle.tree.specs.Stored.{where-so, is_name, value_at, said, joined, trees_from, stored}
use Rattle.looking.specs.View.{is, look, node_at}
use Rattle.viewed.specs.Numbered.{Label, Place, Row, place, empty, from, bare, bare_from, label, saying}

abbrev labelled : ℕ → Fields → Label
labelled n w = record { number = n; first = w.first; end = w.end; source = w.payload }

-- ---- what says flags is the payload itself

abbrev NoFlags : Option Value → Type 0
NoFlags o = (f : ℕ) → o ≡ Option.some (flags f) → ⊥

no-flags : (t : Bool) (a : Value) → ((f : ℕ) → a ≡ flags f → ⊥) → NoFlags (where-so t a)
unfolding where-so
no-flags true a h f e = h f cc
no-flags false a h f e = let z : ◌≡◌ {A = ℕ} 0 1 = cc in omega arith

no_name : (s : List ℕ) (f : ℕ) → name s ≡ flags f → ⊥
no_name s f e = let z : ◌≡◌ {A = ℕ} 0 1 = cc in omega arith

no_number : (n f : ℕ) → number n ≡ flags f → ⊥
no_number n f e = let z : ◌≡◌ {A = ℕ} 0 1 = cc in omega arith

no_bytes : (bs : List ℕ) (f : ℕ) → bytes bs ≡ flags f → ⊥
no_bytes bs f e = let z : ◌≡◌ {A = ℕ} 0 1 = cc in omega arith

are-flags : (a b c : Bool) (x y z : Option Value) (f p : ℕ) → NoFlags x → NoFlags y → NoFlags z → cond a x (cond b y (cond c z (Option.some (flags p)))) ≡ Option.some (flags f) → f ≡ p
are-flags true b c x y z f p h i j e = absurd (h f e)
are-flags false true c x y z f p h i j e = absurd (i f e)
are-flags false false true x y z f p h i j e = absurd (j f e)
are-flags false false false x y z f p h i j e = cc

pub said-payload : (text tokens values : List ℕ) (k p : ℕ) (v : Value) → said text tokens values k p ≡ Option.some v → saying v p ≡ p
unfolding said value_at
said-payload text tokens values k p (name s) e = refl
said-payload text tokens values k p (number n) e = refl
said-payload text tokens values k p (bytes bs) e = refl
said-payload text tokens values k p (flags f) e =
    are-flags (is_name k) (eqb k Node.NumLiteral) (eqb k Node.StringLiteral) _ _ _ f p (no-flags _ _ (no_name _)) (no-flags _ _ (no_number _)) (no-flags _ _ (no_bytes _)) e

-- ---- places in words

module _ (text tokens values ns : List ℕ) where
  mutual
    -- A node stands at its number; so many links may follow one another from there.
    pub data Stands : ℕ → Place → Type 0 where
      stands : {b n k : ℕ} {l : Label} {v : Value} {cs us : Row} → look ns n ≡ is (node_at ns n) → l ≡ labelled n (node_at ns n) → (node_at ns n).kind ≡ k
          → said text tokens values k (node_at ns n).payload ≡ Option.some v → Heads b (node_at ns n).child cs → Heads b (node_at ns n).next us → Stands (suc b) (place l k v cs us)

    -- A link leads to a row: 0 to none.
    pub data Heads : ℕ → ℕ → Row → Type 0 where
      nobody : {b n : ℕ} → n ≡ 0 → Heads b n empty
      somebody : {b n : ℕ} {p : Place} → n ≢ 0 → n ≡ (label p).number → Stands b p → Heads b n (from p)

  -- A node has one place only.
  mutual
    pub one_place : {b c : ℕ} {p q : Place} → Stands b p → Stands c q → (label p).number ≡ (label q).number → p ≡ q
    one_place (stands {n = n} {k = k} {l = l} {v = v} {cs = cs} {us = us} _ e f g h i) (stands {n = m} {k = k₁} {l = l₁} {v = v₁} {cs = cs₁} {us = us₁} _ e₁ f₁ g₁ h₁ i₁) q =
        let s : n ≡ m = cc in
        let cs-same : cs ≡ cs₁ = one-row h h₁ (ap (λ (x : ℕ). (node_at ns x).child) s) in
        let us-same : us ≡ us₁ = one-row i i₁ (ap (λ (x : ℕ). (node_at ns x).next) s) in
        let l-same : l ≡ l₁ = cc in
        let k-same : k ≡ k₁ = sym f ∙ ap (λ (x : ℕ). (node_at ns x).kind) s ∙ f₁ in
        let g₂ : said text tokens values k (node_at ns n).payload ≡ Option.some v₁ = rw (k-same, s) g₁ in
        let v-same : v ≡ v₁ = cc in
        cc

    one-row : {b c n m : ℕ} {r s : Row} → Heads b n r → Heads c m s → n ≡ m → r ≡ s
    one-row (nobody e) (nobody f) g = refl
    one-row (nobody e) (somebody z f s) g = absurd (z (sym g ∙ e))
    one-row (somebody z f s) (nobody e) g = absurd (z (g ∙ e))
    one-row (somebody z f s) (somebody z₁ f₁ s₁) g = ap from (one_place s s₁ (sym f ∙ g ∙ f₁))

  -- ---- the tree that words hold, with its numbers

  abbrev says : ℕ → Option Value
  says n = said text tokens values (node_at ns n).kind (node_at ns n).payload

  -- Where there are trees to be had, a link leads to their places.
  abbrev Leads : ℕ → ℕ → Option Trees → Type 0
  Leads b n o = (ts : Trees) → o ≡ Option.some ts → (r : Row) × (bare r ≡ ts) × Heads b n r

  -- They are a node's, with its number.
  abbrev PlaceOf : ℕ → ℕ → Trees → Type 0
  PlaceOf b n ts = (p : Place) × (bare (from p) ≡ ts) × ((label p).number ≡ n) × Stands b p

  module _ (count : ℕ) (looks : (n : ℕ) → n < count → look ns n ≡ is (node_at ns n)) where
    -- What is joined is a place.
    joins : {b n : ℕ} (x : Option Value) (y z : Option Trees) {t : Trees} → n < count → says n ≡ x → Leads b (node_at ns n).child y → Leads b (node_at ns n).next z → joined (node_at ns n).kind x y z ≡ Option.some t → PlaceOf (suc b) n t
    unfolding joined bare bare_from
    joins {n = n} (Option.some v) (Option.some cs) (Option.some us) {t} l s down along e =
        let same : t ≡ node (node_at ns n).kind v cs ▸ us = cc in
        let (r, f, h) = down cs refl in
        let (u, g, i) = along us refl in
        (place (labelled n (node_at ns n)) (node_at ns n).kind v r u, rw (f, g, same), refl, stands (looks n l) refl refl s h i)
    joins (Option.some v) (Option.some cs) Option.none l s down along e = absurd (let z : ◌≡◌ {A = ℕ} 0 1 = cc in omega arith)
    joins (Option.some v) Option.none z l s down along e = absurd (let z : ◌≡◌ {A = ℕ} 0 1 = cc in omega arith)
    joins Option.none y z l s down along e = absurd (let z : ◌≡◌ {A = ℕ} 0 1 = cc in omega arith)

    abbrev reached : ℕ → ℕ → Option Trees
    reached b n = trees_from text tokens ns values count b n

    row-held : (b n : ℕ) → Leads b n (reached b n)
    unfolding trees_from where-so bare
    row-held zero n ts e = go (eqb n 0) refl e
      where
        go : (t : Bool) → eqb n 0 ≡ t → where-so t Tree.none ≡ Option.some ts → (r : Row) × (bare r ≡ ts) × Heads zero n r
        go true z e = (empty, (cc), nobody (eqb-true n 0 z))
        go false z e = absurd (let z : ◌≡◌ {A = ℕ} 0 1 = cc in omega arith)
    row-held (suc b) n ts e = go (eqb n 0) (ltb n count) refl refl (row-held b (node_at ns n).child) (row-held b (node_at ns n).next) e
      where
        go : (t u : Bool) → eqb n 0 ≡ t → ltb n count ≡ u
            → Leads b (node_at ns n).child (reached b (node_at ns n).child) → Leads b (node_at ns n).next (reached b (node_at ns n).next)
            → cond t (Option.some Tree.none) (cond u (joined (node_at ns n).kind (says n) (reached b (node_at ns n).child) (reached b (node_at ns n).next)) Option.none) ≡ Option.some ts
            → (r : Row) × (bare r ≡ ts) × Heads (suc b) n r
        go true u z l down along e = (empty, (cc), nobody (eqb-true n 0 z))
        go false false z l down along e = absurd (let z : ◌≡◌ {A = ℕ} 0 1 = cc in omega arith)
        go false true z l down along e =
            let (p, f, g, s) = joins _ _ _ (ltb-true n count l) refl down along e in
            (from p, f, somebody (eqb-false n 0 z) (sym g) s)

    none_after : {b n : ℕ} → n ≡ 0 → Leads b n (Option.some Tree.none)
    unfolding bare
    none_after z ts e = (empty, (cc), nobody z)

    pub file-held : (t : Trees) → stored text tokens ns values count ≡ Option.some t → PlaceOf (suc count) 0 t
    unfolding stored
    file-held t e = go count refl e
      where
        go : (c : ℕ) → c ≡ count → stored text tokens ns values c ≡ Option.some t → PlaceOf (suc count) 0 t
        go zero q e = absurd (let z : ◌≡◌ {A = ℕ} 0 1 = cc in omega arith)
        go (suc c) q e = next-zero (eqb (node_at ns 0).next 0) refl e
          where
            next-zero : (u : Bool) → eqb (node_at ns 0).next 0 ≡ u
                → cond u (joined (node_at ns 0).kind (says 0) (trees_from text tokens ns values (suc c) (suc c) (node_at ns 0).child) (Option.some Tree.none)) Option.none ≡ Option.some t
                → PlaceOf (suc count) 0 t
            next-zero true z e = joins {b = count} {n = 0} _ _ _ (omega arith) refl (row-held count (node_at ns 0).child) (none_after (eqb-true _ 0 z)) (rw q at e)
            next-zero false z e = absurd (let z : ◌≡◌ {A = ℕ} 0 1 = cc in omega arith)
