-- Down: the innermost node that covers a token. Every node but File is linked once, so the way down meets none twice, and ends.
use Rattle.std.specs.Prelude.{◌≡◌, refl, ◌⊎◌, Bool, true, false, List, eqb, ltb}
use Rattle.std.proofs.Common.{sym, ◌∙◌, inl, inr, arith, mul-le-mul_left, eqb-true, ltb-true, ltb-false}
use Rattle.std.proofs.Math.Path.{ap}
use Prim.Native.Nat.{ℕ, zero, suc, ◌+◌, ◌-◌, ◌*◌, ◌≤◌, ◌<◌}
use Rattle.std.proofs.Math.Nat.{zero-add, suc-add, zero-mul, suc-mul}
use Rattle.std.proofs.lemmas.Bool.{eqb-false}
use Rattle.definition.specs.Prog.{next_word, child_word}
use Rattle.definition.specs.Encodes.{next, parent_of}
use Rattle.rising.specs.Linked.{Link, by_next, by-child, Child, eldest, younger}
use Rattle.rising.specs.Sound.{Sound}
use Rattle.rising.specs.Family.{Family, climb, climb-file}
use Rattle.looking.specs.View.{is, none, node_at, turns}
use Rattle.looking.specs.View as View
use Rattle.looking.specs.Ways.{Ends, Goes, after, after-suc, goes_after, decided, pigeons}
use Rattle.walking.specs.Walks.{covers, innermost, node_at_token}
use Rattle.walking.specs.Laws.{innermost-last, innermost-under, innermost_past}
use Rattle.walking.specs.Rings.{down, down-below}
use Rattle.viewed.specs.Looks.{next-same, child-same, looked, child-inside, next-inside}
use Rattle.viewed.specs.Walked.{Innermost, Under, itself, below}

module _ (ns : List ℕ) (count : ℕ) (sound : Sound ns count) (f : Family ns count) (t : ℕ) where
  abbrev on : ℕ → ℕ
  on = down ns t

  abbrev few : (x : ℕ) → (on x ≡ 0 → ⊥) → x < View.count ns
  few = down-below ns t

  -- What the way comes to: a child where the node covers the token, its next sibling where it doesn't.
  data On (x : ℕ) : Type 0 where
    nowhere : x ≡ 0 → on x ≡ 0 → On x
    inside : (x ≡ 0 → ⊥) → covers t (node_at ns x) ≡ true → on x ≡ (node_at ns x).child → On x
    past : (x ≡ 0 → ⊥) → covers t (node_at ns x) ≡ false → on x ≡ (node_at ns x).next → On x

  goes_on : (x : ℕ) → x < count → On x
  goes_on x l = go (eqb x 0) (covers t (node_at ns x)) refl refl
    where
      go : (z c : Bool) → eqb x 0 ≡ z → covers t (node_at ns x) ≡ c → On x
      go true c p q = nowhere (eqb-true x 0 p) (rw p)
      go false true p q = inside (eqb-false x 0 p) q (rw (p, looked ns count sound x l, q))
      go false false p q = past (eqb-false x 0 p) q (rw (p, looked ns count sound x l, q))

  -- It stays among the counted nodes, and each links the next.
  on-inside : (x : ℕ) → x < count → on x < count
  on-inside x l = go (goes_on x l)
    where
      go : On x → on x < count
      go (nowhere z e) = omega arith
      go (inside z c e) = rw e (child-inside ns count sound x l)
      go (past z c e) = rw e (next-inside ns count sound x l)

  linked : (x : ℕ) → x < count → (on x ≡ 0 → ⊥) → (j : ℕ) × Link ns count (on x) x j
  linked x l z = go (goes_on x l)
    where
      go : On x → (j : ℕ) × Link ns count (on x) x j
      go (nowhere q e) = absurd (z e)
      go (inside q c e) = (child_word, by-child l (sym (e ∙ child-same ns x)))
      go (past q c e) = (next_word, by_next l (sym (e ∙ next-same ns x)))

  -- So two nodes that link the same are the same.
  one : (x y j k i : ℕ) → 0 < i → i < count → Link ns count i x j → Link ns count i y k → x ≡ y
  one x y j k i z l a b = let o = f.linked i z l in (o.only x j a).0 ∙ sym (o.only y k b).0

  -- A child tells the node whose child it is.
  child-told : (p i : ℕ) → p < count → 0 < i → i < count → Child ns p i → parent_of ns i ≡ p
  child-told p i h z k c = sym ((f.parents i z k).only p h c)

  -- ---- going up

  climb-on : (a b i : ℕ) → climb ns (a + b) i ≡ climb ns b (climb ns a i)
  unfolding climb
  climb-on zero b i = rw zero-add
  climb-on (suc a) b i = rw suc-add (climb-on a b (parent_of ns i))

  -- A node that is met again going up is met however often; but so many steps up stands File.
  again-up : (j n : ℕ) → climb ns j n ≡ n → (m : ℕ) → climb ns (m * j) n ≡ n
  unfolding climb
  again-up j n e zero = rw zero-mul
  again-up j n e (suc m) = rw suc-mul (climb-on (m * j) j n ∙ ap (climb ns j) (again-up j n e m) ∙ e)

  no-ring : (j n : ℕ) → n < count → 0 < j → climb ns j n ≡ n → n ≡ 0
  no-ring j n l z e =
      let r : climb ns (count * j) n ≡ n = again-up j n e count in
      let m : count * 1 ≤ count * j = mul-le-mul_left count z in
      let d : count * j ≡ count + (count * j - count) = omega arith in
      sym r ∙ ap (λ (k : ℕ). climb ns k n) d ∙ climb-on count (count * j - count) n ∙ ap (climb ns (count * j - count)) (f.climbs n l) ∙ climb-file ns f.file (count * j - count)

  -- ---- the way from the first child of a node

  module _ (n : ℕ) (l : n < count) where
    abbrev first : ℕ
    first = (node_at ns n).child

    abbrev at : ℕ → ℕ
    at k = after on (View.count ns) few k first

    at_suc : (k : ℕ) → at (suc k) ≡ on (at k)
    at_suc k = after-suc on (View.count ns) few k first

    at-inside : (k : ℕ) → at k < count
    at-inside zero = child-inside ns count sound n l
    at-inside (suc k) = rw (at_suc k) (on-inside (at k) (at-inside k))

    module _ (g : Goes on (View.count ns) few (View.count ns + 1) first) where
      still : (k : ℕ) → k < View.count ns + 1 → on (at k) ≡ 0 → ⊥
      still k h = goes_after on (View.count ns) few (View.count ns + 1) first k h g

      -- File is not on it.
      no-file : (k : ℕ) → k < View.count ns + 1 → at k ≡ 0 → ⊥
      no-file k h e = still k h (go (goes_on (at k) (at-inside k)))
        where
          go : On (at k) → on (at k) ≡ 0
          go (nowhere z q) = q
          go (inside z c q) = absurd (z e)
          go (past z c q) = absurd (z e)

      -- Going up from it one comes to the node.
      abbrev Up : ℕ → Type 0
      Up x = (j : ℕ) × (climb ns (suc j) x ≡ n)

      first-up : 0 < first → Up first
      unfolding climb
      first-up z = (0, child-told n first l z (at-inside 0) (eldest z (sym (child-same ns n))))

      next_up : (x : ℕ) → 0 < x → x < count → 0 < on x → Up x → Up (on x)
      unfolding climb
      next_up x z h y (j, e) = go (goes_on x h)
        where
          go : On x → Up (on x)
          go (nowhere q r) = absurd (omega arith)
          go (inside q c r) =
              let k : Child ns x (on x) = eldest y (sym (r ∙ child-same ns x)) in
              (suc j, rw (child-told x (on x) h y (on-inside x h) k) e)
          go (past q c r) =
              let k : Child ns (parent_of ns x) (on x) = younger (f.parents x z h).links y (sym (r ∙ next-same ns x)) in
              (j, rw (child-told (parent_of ns x) (on x) (f.parents x z h).counted y (on-inside x h) k) e)

      at_up : (k : ℕ) → k < View.count ns + 1 → Up (at k)
      at_up zero h = first-up (omega (arith, no-file 0 h))
      at_up (suc k) h =
          let i : k < View.count ns + 1 = omega arith in
          rw (at_suc k) (next_up (at k) (omega (arith, no-file k i)) (at-inside k) (omega (arith, still k i)) (at_up k i))

      -- So the node is not on it either.
      no_start : (k : ℕ) → k < View.count ns + 1 → at k ≡ n → ⊥
      no_start k h e =
          let (j, r) = at_up k h in
          no-file k h (e ∙ no-ring (suc j) n l (omega arith) (rw e at r))

      never_back : (j k : ℕ) → j < k → k < View.count ns + 1 → at j ≡ at k → ⊥
      never_back j zero h l e = omega arith
      never_back zero (suc k) h i e =
          let s : first ≡ on (at k) = e ∙ at_suc k in
          let x = linked (at k) (at-inside k) (still k (omega arith)) in
          let z : 0 < first = omega (arith, no-file 0 (omega arith)) in
          no_start k (omega arith) (one (at k) n x.0 child_word first z (at-inside 0) (rw (← s) at x.1) (by-child l (sym (child-same ns n))))
      never_back (suc j) (suc k) h i e =
          let s : on (at j) ≡ on (at k) = sym (at_suc j) ∙ e ∙ at_suc k in
          let x = linked (at j) (at-inside j) (still j (omega arith)) in
          let y = linked (at k) (at-inside k) (still k (omega arith)) in
          let z : 0 < on (at k) = omega (arith, still k (omega arith)) in
          never_back j k (omega arith) (omega arith) (one (at j) (at k) x.0 y.0 (on (at k)) z (on-inside (at k) (at-inside k)) (rw s at x.1) y.1)

      different : (j k : ℕ) → j < View.count ns + 1 → k < View.count ns + 1 → at j ≡ at k → j ≡ k
      different j k h i e = go (ltb j k) (ltb k j) refl refl
        where
          go : (a b : Bool) → ltb j k ≡ a → ltb k j ≡ b → j ≡ k
          go true b p q = absurd (never_back j k (ltb-true j k p) i e)
          go false true p q = absurd (never_back k j (ltb-true k j q) h (sym e))
          go false false p q = omega (arith, ltb-false j k p, ltb-false k j q)

      too_many : View.count ns + 1 ≤ count
      too_many = pigeons count (View.count ns + 1) at (λ k h. at-inside k) different

    -- So it ends, within the turns that a walk has.
    way-ends : (d : ℕ) × (d < turns ns) × Ends on (View.count ns) few d first
    way-ends = go (decided on (View.count ns) few (View.count ns + 1) first)
      where
        go : ((d : ℕ) × (d < View.count ns + 1) × Ends on (View.count ns) few d first) ⊎ Goes on (View.count ns) few (View.count ns + 1) first → (d : ℕ) × (d < turns ns) × Ends on (View.count ns) few d first
        go (inl x) = x
        go (inr g) = absurd (omega (arith, too_many g, sound.room))

  -- ---- what it finds

  -- A node is another one or a next sibling of it.
  data From : ℕ → ℕ → Type 0 where
    here : {a c : ℕ} → 0 < a → c ≡ a → From a c
    later : {a c : ℕ} → 0 < a → From (next ns a) c → From a c

  from_next : {a j i : ℕ} → From a j → 0 < i → next ns j ≡ i → From a i
  from_next {a} {j} {i} (here z e) y q =
      let r : next ns a ≡ i = ap (next ns) (sym e) ∙ q in
      later z (here {a = next ns a} (rw r y) (sym r))
  from_next (later z r) y q = later z (from_next r y q)

  child-from : {p c : ℕ} → Child ns p c → From (node_at ns p).child c
  child-from {p} {c} (eldest z e) =
      let r : (node_at ns p).child ≡ c = child-same ns p ∙ e in
      here {a = (node_at ns p).child} (rw r z) (sym r)
  child-from (younger k z e) = from_next (child-from k) z e

  from-none : {a c : ℕ} → a ≡ 0 → From a c → ⊥
  from-none e (here z q) = omega arith
  from-none e (later z r) = omega arith

  -- On the way down from `top`: `outer` covers the token, x is one of its children, and those before x don't cover it.
  record Way (top outer x : ℕ) : Type 0 where
    within : x < count
    counted : outer < count
    holds : Under ns top outer
    child : 0 < x → Child ns outer x
    covering : covers t (node_at ns outer) ≡ true
    passed : (c : ℕ) → Child ns outer c → (covers t (node_at ns c) ≡ false) ⊎ From x c

  abbrev Found : ℕ → ℕ → ℕ → ℕ → Type 0
  Found top n outer x = (m : ℕ) × (innermost n t ns outer x ≡ is m) × Innermost ns count top t m

  -- It begins at the first child of a node that covers the token.
  begins : {top : ℕ} (outer : ℕ) → outer < count → Under ns top outer → covers t (node_at ns outer) ≡ true → Way top outer (node_at ns outer).child
  begins outer l u c =
      record {
        within = child-inside ns count sound outer l;
        counted = l;
        holds = u;
        child = λ z. eldest z (sym (child-same ns outer));
        covering = c;
        passed = λ d k. inr (child-from k);
      }

  over : {top : ℕ} (n outer x : ℕ) → Way top outer x → x ≡ 0 → Found top n outer x
  over n outer x w z =
      (outer, sym (innermost-last t ns outer x n z), record { counted = w.counted; holds = w.holds; covering = w.covering; no-child = λ c k. go c (w.passed c k) })
    where
      go : (c : ℕ) → (covers t (node_at ns c) ≡ false) ⊎ From x c → covers t (node_at ns c) ≡ false
      go c (inl q) = q
      go c (inr r) = absurd (from-none z r)

  under-way : {top outer : ℕ} (x : ℕ) → 0 < x → Way top outer x → covers t (node_at ns x) ≡ true → Way top x (node_at ns x).child
  under-way {top} {outer} x z w c = begins x w.within (below (rw (child-told outer x w.counted z w.within (w.child z)) w.holds)) c

  past-way : {top outer : ℕ} (x : ℕ) → 0 < x → Way top outer x → covers t (node_at ns x) ≡ false → Way top outer (node_at ns x).next
  past-way x z w c =
      record {
        within = next-inside ns count sound x w.within;
        counted = w.counted;
        holds = w.holds;
        child = λ y. younger (w.child z) y (sym (next-same ns x));
        covering = w.covering;
        passed = λ d k. go d (w.passed d k);
      }
    where
      go : (d : ℕ) → (covers t (node_at ns d) ≡ false) ⊎ From x d → (covers t (node_at ns d) ≡ false) ⊎ From (node_at ns x).next d
      go d (inl q) = inl q
      go d (inr (here z e)) = inl (rw e c)
      go d (inr (later z r)) = inr (rw (next-same ns x) r)

  -- One turn, and then those that are left.
  turn : {top : ℕ} (n outer x : ℕ) → 0 < n → Way top outer x → ((o : ℕ) → Way top o (on x) → Found top (n - 1) o (on x)) → Found top n outer x
  turn {top} n outer x h w rest = go (goes_on x w.within)
    where
      seen : is (node_at ns x) ≡ View.look ns x
      seen = sym (looked ns count sound x w.within)

      go : On x → Found top n outer x
      go (nowhere z e) = over n outer x w z
      go (inside z c e) =
          let (m, r, i) = rest x (rw e (under-way x (omega (arith, z)) w c)) in
          (m, sym (innermost-under t ns outer x z (node_at ns x) seen n (omega arith) c) ∙ (rw e at r), i)
      go (past z c e) =
          let (m, r, i) = rest outer (rw e (past-way x (omega (arith, z)) w c)) in
          (m, sym (innermost_past t ns outer x z (node_at ns x) seen n (omega arith) c) ∙ (rw e at r), i)

  finds : {top : ℕ} (d n outer x : ℕ) → Ends on (View.count ns) few d x → d < n → Way top outer x → Found top n outer x
  finds zero n outer x e h w = turn n outer x (omega arith) w (λ o v. over (n - 1) o (on x) v e)
  finds (suc d) n outer x e h w = turn n outer x (omega arith) w (λ o v. finds d (n - 1) o (on x) e.1 (omega arith) v)

  module _ (n : ℕ) (l : n < count) where
    there : View.look ns n ≡ is (node_at ns n)
    there = looked ns count sound n l

    pub innermost-found : covers t (node_at ns n) ≡ true → (m : ℕ) × (node_at_token t ns n ≡ is m) × Innermost ns count n t m
    unfolding View.and_then
    innermost-found c =
        let (d, h, e) = way-ends n l in
        let (m, r, i) = finds d (turns ns) n (node_at ns n).child e h (begins n l (itself refl) c) in
        (m, rw (there, c) r, i)

    pub nothing-found : covers t (node_at ns n) ≡ false → node_at_token t ns n ≡ none
    unfolding View.and_then
    nothing-found c = rw (there, c)
