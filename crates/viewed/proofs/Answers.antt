-- Every question gives of a node, on the words that hold its place, what the tree says: one induction over questions.
use Rattle.std.specs.Prelude.{◌≡◌, ◌≢◌, Bool, cond, List, [], ◌∷◌, eqb, length}
use Rattle.std.proofs.Math.Path.{refl, ap}
use Rattle.std.proofs.Common.{sym, ◌∙◌, eq-eqb, ne_eqb}
use Rattle.std.proofs.Math.Bool.{true, false}
use Rattle.std.proofs.Math.Option.{Option}
use Rattle.std.proofs.Math.Option as Option
use Prim.Native.Nat.{ℕ, zero, suc, ◌+◌, ◌-◌, ◌≤◌}
use native.Mathlib.Omega.{arith}
use Rattle.words.specs.Node
use Rattle.words.specs.declared.node.Node.{Node as Fields}
use Rattle.tree.specs.Stored.{said}
use Rattle.looking.specs.View
use Rattle.looking.specs.View.{Seen, is, none, and_then, or_else, look, node_at, among, no_stop, turns}
use Rattle.looking.specs.Laws.{nth-none, counted_none}
use Rattle.expr.specs.Expr
use Rattle.viewed.specs.Numbered.{Label, Place, Row, place, label, kind, value, saying, payload, children, after, wanted, wanted_from, ith, peeled, peeled_first}
use Rattle.viewed.specs.Query.{Sort, node, number, Query, OnWords, OnTree, seen, of_kind, tokens_of, told, span-of, as_words, answer}
use Rattle.viewed.specs.Query as Query
use Rattle.viewed.specs.Stands.{Stands, Heads, stands, nobody, somebody, said-payload}

module _ (text tokens values ns : List ℕ) where
  abbrev words : Place → Fields
  words p = node_at ns (label p).number

  -- A place that the words hold, with no more links after one another than a view follows.
  pub record Held (p : Place) : Type 0 where
    pub bound : ℕ
    pub few : suc bound ≤ turns ns
    pub stood : Stands text tokens values ns (suc bound) p
    pub looked : look ns (label p).number ≡ is (words p)
    pub kinds : (words p).kind ≡ kind p
    pub payloads : (words p).payload ≡ payload p
    pub says : said text tokens values (kind p) (payload p) ≡ Option.some (value p)
    pub firsts : (words p).first ≡ (label p).first
    pub ends : (words p).end ≡ (label p).end
    pub below : Heads text tokens values ns bound (words p).child (children p)
    pub beside : Heads text tokens values ns bound (words p).next (after p)

  pub held : {b : ℕ} {p : Place} → b ≤ turns ns → Stands text tokens values ns b p → Held p
  held le (stands {b = b} {n = n} {k = k} {l = l} {v = v} e f g h i j) =
      let same : l.number ≡ n = ap (λ (x : Label). x.number) f in
      let told : saying v l.source ≡ (node_at ns n).payload = rw f (said-payload text tokens values k (node_at ns n).payload v h) in
      record {
        bound = b;
        few = le;
        stood = stands e f g h i j;
        looked = rw same e;
        kinds = rw same g;
        payloads = rw same (sym told);
        says = rw told h;
        firsts = rw same (sym (ap (λ (x : Label). x.first) f));
        ends = rw same (sym (ap (λ (x : Label). x.end) f));
        below = rw same i;
        beside = rw same j;
      }

  abbrev Fine : (s : Sort) → OnTree s → Type 0
  Fine node p = Held p
  Fine number a = Unit {0}
  Fine Query.tokens a = Unit {0}

  -- The words answer as the tree does.
  pub data Same (s : Sort) (x : Seen (OnWords s)) (y : Option (OnTree s)) : Type 0 where
    same : (a : OnTree s) → Fine s a → x ≡ is (as_words s a) → y ≡ Option.some a → Same s x y
    neither : x ≡ none → y ≡ Option.none → Same s x y

  pub is-answer : {s : Sort} {x : Seen (OnWords s)} {y : Option (OnTree s)} → Same s x y → x ≡ answer s y
  unfolding answer
  is-answer (same a h e f) = rw f e
  is-answer (neither e f) = rw f e

  then_same : {r s : Sort} {x : Seen (OnWords r)} {y : Option (OnTree r)} (f : OnWords r → Seen (OnWords s)) (g : OnTree r → Option (OnTree s)) → Same r x y → ((a : OnTree r) → Fine r a → Same s (f (as_words r a)) (g a))
      → Same s (and_then x f) (Option.bind y g)
  unfolding and_then Option.bind
  then_same f g (same a h e i) k = rw (e, i) (k a h)
  then_same f g (neither e i) k = rw (e, i) (neither refl refl)

  else_same : {s : Sort} {x z : Seen (OnWords s)} {y w : Option (OnTree s)} → Same s x y → Same s z w → Same s (or_else x z) (Option.or_else y w)
  unfolding or_else Option.or_else
  else_same (same a h e i) k = rw (e, i) (same a h refl refl)
  else_same (neither e i) k = rw (e, i) k

  choose-same : {s : Sort} {x z : Seen (OnWords s)} {y w : Option (OnTree s)} (t : Bool) → Same s x y → Same s z w → Same s (cond t x z) (cond t y w)
  choose-same true a b = a
  choose-same false a b = b

  -- A node is looked at, and its kind is one of the view's or not.
  look-same : {s : Sort} {p : Place} {y : Option (OnTree s)} (f : Fields → Seen (OnWords s)) → Held p → Same s (f (words p)) y → Same s (and_then (look ns (label p).number) f) y
  unfolding and_then
  look-same f h k = rw h.looked k

  of-same : {s : Sort} {p : Place} {y : Option (OnTree s)} (first last : ℕ) (f : Fields → Seen (OnWords s)) → Held p → Same s (f (words p)) y → Same s (and_then (View.of first last ns (label p).number) f) (of_kind first last p y)
  unfolding and_then View.of
  of-same {s} {p} {y} first last f h k = rw h.looked (go (words p) (among first last (words p).kind) (among first last (kind p)) (ap (among first last) h.kinds) k)
    where
      go : (w : Fields) (t u : Bool) → t ≡ u → Same s (f w) y → Same s (and_then (cond t (is w) none) f) (cond u y Option.none)
      go w t true e k = rw e k
      go w t false e k = rw e (neither refl refl)

  -- ---- rows of neighbours

  pick : (p : Place) (n i : ℕ) (x y : Bool) (f : ℕ → Seen ℕ) (ps : List Place) → Held p → n ≡ (label p).number → ((j : ℕ) → Same node (f j) (ith ps j))
      → Same node (cond x none (cond y (cond (eqb i 0) (is n) (f (i - 1))) (f i))) (ith (cond x [] (cond y (p ∷ ps) ps)) i)
  unfolding ith
  pick p n i true y f ps h e k = neither refl refl
  pick p n i false false f ps h e k = k i
  pick p n zero false true f ps h e k = same p h (ap (λ (a : ℕ). is a) e) refl
  pick p n (suc i) false true f ps h e k =
      let less : suc i - 1 ≡ i = omega arith in
      rw (ne_eqb (suc i) 0 (omega arith), less) (k i)

  tally : (p : Place) (sum : ℕ) (x y : Bool) (f : ℕ → Seen ℕ) (ps : List Place) → ((a : ℕ) → f a ≡ is (a + length ps))
      → cond x (is sum) (f (cond y (sum + 1) sum)) ≡ is (sum + length (cond x [] (cond y (p ∷ ps) ps)))
  tally p sum true y f ps k = ap (λ (a : ℕ). is a) (omega arith)
  tally p sum false false f ps k = k sum
  tally p sum false true f ps k = k (sum + 1) ∙ ap (λ (a : ℕ). is a) (omega arith)

  module _ (stop low high : ℕ) where
    mutual
      unfolding View.nth wanted wanted_from and_then ith

      nth-row : {b n : ℕ} {r : Row} → Heads text tokens values ns b n r → (t i : ℕ) → b ≤ t → b ≤ turns ns → Same node (View.nth t stop low high ns n i) (ith (wanted stop low high r) i)
      nth-row {n = n} (nobody z) t i le few = neither (sym (nth-none stop low high ns n i t z)) refl
      nth-row (somebody z e s) t i le few = nth-at s t i le few z e

      nth-at : {b n : ℕ} {p : Place} → Stands text tokens values ns b p → (t i : ℕ) → b ≤ t → b ≤ turns ns → n ≢ 0 → n ≡ (label p).number → Same node (View.nth t stop low high ns n i) (ith (wanted_from stop low high p) i)
      nth-at (stands lk f g h c u) zero i le few z e = absurd (omega arith)
      nth-at {n = n} (stands {n = m} {k = k} {l = l} {v = v} {cs = cs} {us = us} lk f g h c u) (suc t) i le few z e =
          let at : n ≡ m = e ∙ ap (λ (x : Label). x.number) f in
          rw (ne_eqb n 0 z, at, lk, g)
          (pick (place l k v cs us) m i (eqb k stop) (among low high k) (View.nth t stop low high ns (node_at ns m).next) (wanted stop low high us) (held few (stands lk f g h c u)) (sym at ∙ e)
          (λ j. nth-row u t j (omega arith) (omega arith)))

    mutual
      unfolding View.counted wanted wanted_from and_then

      count-row : {b n : ℕ} {r : Row} → Heads text tokens values ns b n r → (t sum : ℕ) → b ≤ t → View.counted t stop low high ns n sum ≡ is (sum + length (wanted stop low high r))
      count-row {n = n} (nobody z) t sum le = sym (counted_none stop low high ns n sum t z) ∙ ap (λ (a : ℕ). is a) (omega arith)
      count-row (somebody z e s) t sum le = count_at s t sum le z e

      count_at : {b n : ℕ} {p : Place} → Stands text tokens values ns b p → (t sum : ℕ) → b ≤ t → n ≢ 0 → n ≡ (label p).number → View.counted t stop low high ns n sum ≡ is (sum + length (wanted_from stop low high p))
      count_at (stands lk f g h c u) zero sum le z e = absurd (omega arith)
      count_at {n = n} (stands {n = m} {k = k} {l = l} {v = v} {cs = cs} {us = us} lk f g h c u) (suc t) sum le z e =
          let at : n ≡ m = e ∙ ap (λ (x : Label). x.number) f in
          rw (ne_eqb n 0 z, at, lk, g)
          (tally (place l k v cs us) sum (eqb k stop) (among low high k) (View.counted t stop low high ns (node_at ns m).next) (wanted stop low high us) (λ a. count-row u t a (omega arith)))

  mutual
    unfolding Expr.peel peeled peeled_first and_then

    peel-at : {b n : ℕ} {p : Place} → Stands text tokens values ns b p → (t : ℕ) → b ≤ t → b ≤ turns ns → n ≡ (label p).number → Same node (Expr.peel t ns n) (peeled p)
    peel-at (stands lk f g h c u) zero le few e = absurd (omega arith)
    peel-at {n = n} (stands {n = m} {k = k} {l = l} {v = v} {cs = cs} {us = us} lk f g h c u) (suc t) le few e =
        let at : n ≡ m = e ∙ ap (λ (x : Label). x.number) f in
        rw (at, lk, g)
        (choose-same (eqb k Node.ParenExpr) (peel-first c t (omega arith) (omega arith)) (same (place l k v cs us) (held few (stands lk f g h c u)) (ap (λ (a : ℕ). is a) (sym at ∙ e)) refl))

    peel-first : {b n : ℕ} {r : Row} → Heads text tokens values ns b n r → (t : ℕ) → b ≤ t → b ≤ turns ns → Same node (cond (eqb n 0) none (Expr.peel t ns n)) (peeled_first r)
    peel-first {n = n} (nobody z) t le few = rw (eq-eqb n 0 z) (neither refl refl)
    peel-first {n = n} (somebody z e s) t le few = rw (ne_eqb n 0 z) (peel-at s t le few e)

  -- ---- all questions

  pub answers : {s : Sort} (q : Query s) {o p : Place} → Held o → Held p → Same s (seen ns q (label o).number (label p).number) (told q o p)
  unfolding seen told
  answers Query.it {p = p} g h = same p h refl refl
  answers (Query.outer q) g h = answers q g g
  answers Query.nothing g h = neither refl refl
  answers (Query.give a) g h = same a tt refl refl
  answers (Query.new first last) {p = p} g h = of-same first last _ h (same p h refl refl)
  answers (Query.kind first last) {p = p} g h = of-same first last _ h (same (kind p - first) tt (rw h.kinds) refl)
  answers (Query.payload first last) {p = p} g h = of-same first last _ h (same (payload p) tt (rw h.payloads) refl)
  answers (Query.span first last) {p = p} g h = of-same first last _ h (same (tokens_of p) tt (rw (h.firsts, h.ends)) refl)
  answers (Query.nth first last stop low high i) g h = of-same first last _ h (nth-row stop low high h.below (turns ns) i (omega (arith, h.few)) (omega (arith, h.few)))
  answers (Query.count first last stop low high) {p = p} g h =
      of-same first last _ h (same (length (wanted stop low high (children p))) tt (count-row stop low high h.below (turns ns) 0 (omega (arith, h.few)) ∙ ap (λ (a : ℕ). is a) (omega arith)) refl)
  answers (Query.nth_after low high i) g h = look-same _ h (nth-row no_stop low high h.beside (turns ns) i (omega (arith, h.few)) (omega (arith, h.few)))
  answers (Query.count_after low high) {p = p} g h =
      look-same _ h (same (length (wanted no_stop low high (after p))) tt (count-row no_stop low high h.beside (turns ns) 0 (omega (arith, h.few)) ∙ ap (λ (a : ℕ). is a) (omega arith)) refl)
  answers Query.peel g h = peel-at h.stood (turns ns) h.few h.few refl
  answers (Query.by_kind f) {p = p} g h = look-same _ h (rw h.kinds (answers (f (kind p)) g h))
  answers (Query.then q r) g h = then_same _ _ (answers q g h) (λ a i. answers r h i)
  answers (Query.with q f) g h = then_same _ _ (answers q g h) (λ a i. answers (f a) g h)
  answers (Query.both q r) g h = then_same _ _ (answers q g h) (λ a i. answers r g h)
  answers (Query.else q r) g h = else_same (answers q g h) (answers r g h)
  answers (Query.choose t q r) g h = choose-same t (answers q g h) (answers r g h)
  answers (Query.joined q r) g h = then_same _ _ (answers q g h) (λ a i. then_same _ _ (answers r g h) (λ b j. same (span-of a b) tt refl refl))
