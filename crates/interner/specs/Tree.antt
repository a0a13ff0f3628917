-- The tree of a bucket: each name hangs where the search for it ended. Links are the places of names in the table, or 0; a bucket has one,
-- and each name two, one for each way that a search may take from it.
use Rattle.std.specs.Prelude.{◌≡◌, Bool, List, eqb, set, replicate}
use Rattle.std.proofs.Math.Path.{refl, sym, ap}
use Rattle.std.proofs.Common.{◌∙◌, get_or-set_same, get_or-set_other}
use Rattle.std.proofs.Math.Bool.{true, false}
use Prim.Native.Nat.{ℕ, zero, suc, ◌+◌, ◌*◌, ◌%◌, ◌≤◌, ◌<◌}
use native.Mathlib.Omega.{arith}
use borrow.Author.Count.{below_more}
use borrow.Author.Tests.{eqb-true, eqb-false, ltb-true, ltb-false}
use Rattle.std.proofs.Math.Dec.{ltb}
use Rattle.std.proofs.Math.ListN.{length, get_or, get_or-eq_default}
use Rattle.std.proofs.lemmas.List.{length-replicate, get_or-replicate}
use Rattle.literals.specs.Spelling.{spelling}
use Rattle.reading.specs.Source.{slot_at}
use Rattle.spellings.specs.Names.{kind_at}
use Rattle.interner.specs.Alike.{matches, same_kind, same-spelling, same_first, matches-both, first_name, first-low, first_matches, first-itself}
use Rattle.interner.specs.Order.{name_at, Ordered}
use Rattle.interner.specs.Hash.{buckets, hash, label, turn_of, turn_low, Short, same-kinds, same_bytes}

module _ (text tokens : List ℕ) where
  -- The bucket of token `i`.
  unfoldable pub bucket : ℕ → ℕ
  bucket i = hash (spelling text tokens i) % buckets

  -- The way that the search for token `i` takes at step `k`.
  unfoldable pub turn : ℕ → ℕ → ℕ
  turn i k = turn_of (label (kind_at tokens i) (spelling text tokens i)) (spelling text tokens i) k

  pub bucket-low : (i : ℕ) → bucket i < buckets
  unfolding bucket
  bucket-low i = omega arith

  pub turn_small : (i k : ℕ) → turn i k < 2
  unfolding turn
  turn_small i k = turn_low (label (kind_at tokens i) (spelling text tokens i)) (spelling text tokens i) k

  -- Token `j` is a name before token `n`, and the first of its spelling.
  pub record First (n j : ℕ) : Type 0 where
    pub before : j < n
    pub name : name_at tokens j ≡ true
    pub first : first_name text tokens j ≡ j

  -- A first name before token `n + 1` is before token `n`, or is token `n`.
  pub first_by : {A : Type 0} (n j : ℕ) → First (n + 1) j → (First n j → A) → (j ≡ n → A) → A
  first_by {A} n j f old new = go (eqb j n) refl
    where
      go : (b : Bool) → eqb j n ≡ b → A
      go true e = new (eqb-true j n e)
      go false e = let l = f.before in old (record { before = omega (arith, eqb-false j n e); name = f.name; first = f.first })

  first_more : (n j : ℕ) → First n j → First (n + 1) j
  first_more n j f = let l = f.before in record { before = omega arith; name = f.name; first = f.first }

  module _ (links : List ℕ) where
    -- Where the link stands that the search for token `i` comes to in `k` steps.
    unfoldable pub place : ℕ → ℕ → ℕ
    place i zero = bucket i
    place i (suc k) = 8190 + 2 * get_or links (place i k) 0 + turn i k

    abbrev pub link : ℕ → ℕ → ℕ
    link i k = get_or links (place i k) 0

    -- The search comes so far.
    abbrev pub Met : ℕ → ℕ → Type 0
    Met i k = (m : ℕ) → m < k → 0 < link i m

    -- The trees of the names before token `n`: each that is the first of its spelling hangs on its own way, once, and nothing else hangs there.
    pub record Tree (n : ℕ) : Type 0 where
      pub own : (j : ℕ) → First n j → (k : ℕ) × Met j k × (link j k ≡ slot_at tokens j)
      pub from : (p : ℕ) → 0 < get_or links p 0 → (j : ℕ) × First n j × (slot_at tokens j ≡ get_or links p 0)
      pub once : (p q : ℕ) → 0 < get_or links p 0 → get_or links p 0 ≡ get_or links q 0 → p ≡ q

    -- How far the search for token `i` has come: no name that it passed matches.
    pub record Past (i k : ℕ) : Type 0 where
      pub met : Met i k
      pub unlike : (m j : ℕ) → m < k → First i j → slot_at tokens j ≡ link i m → matches text tokens i j ≡ true → ⊥

    place-alike : (i j : ℕ) → matches text tokens i j ≡ true → (k : ℕ) → place j k ≡ place i k
    unfolding place bucket turn
    place-alike i j m zero = rw (same-spelling text tokens i j m)
    place-alike i j m (suc k) = rw (place-alike i j m k, same-spelling text tokens i j m, same_kind text tokens i j m)

    module _ (n : ℕ) (t : Tree n) where
      -- One place is reached in one way.
      same_way : (i j a b : ℕ) → Met i a → Met j b → place i a ≡ place j b → (a ≡ b) × ((m : ℕ) → m < a → turn i m ≡ turn j m)
      unfolding place
      same_way i j zero zero x y e = (refl, λ m l. absurd (omega arith))
      same_way i j zero (suc b) x y e =
          let p = y b (omega arith) in
          let q = bucket-low i in
          absurd (omega arith)
      same_way i j (suc a) zero x y e =
          let p = x a (omega arith) in
          let q = bucket-low j in
          absurd (omega arith)
      same_way i j (suc a) (suc b) x y e =
          let p = x a (omega arith) in
          let u = turn_small i a in
          let v = turn_small j b in
          let f : link i a ≡ link j b = omega arith in
          let g : turn i a ≡ turn j b = omega arith in
          let (h, r) = same_way i j a b (λ m l. x m (omega arith)) (λ m l. y m (omega arith)) (t.once (place i a) (place j b) p f) in
          (ap suc h, λ m l. below_more (λ (m : ℕ). turn i m ≡ turn j m) a r (rw (← h) at g) m (omega arith))

    module _ (i : ℕ) (t : Tree i) where
      -- A name that the search for token `i` meets at step `m` shares the way up to it.
      shared : (m : ℕ) → Met i (m + 1) → (j : ℕ) × First i j × (slot_at tokens j ≡ link i m) × ((q : ℕ) → q < m → turn i q ≡ turn j q)
      shared m x =
          let p = x m (omega arith) in
          let (j, f, e) = t.from (place i m) p in
          let (k, y, g) = t.own j f in
          (j, f, e, (same_way i t i j m k (λ q l. x q (omega arith)) y (t.once (place i m) (place j k) p (sym e ∙ sym g))).1)

      module _ (short : (j : ℕ) → name_at tokens j ≡ true → Short (kind_at tokens j) (spelling text tokens j)) (name : name_at tokens i ≡ true) where
        -- Whatever the text, a search looks at no more names than the name has bits, and one more.
        pub search-short : (k : ℕ) → Past i k → k ≤ 48 + 8 * length (spelling text tokens i)
        unfolding turn
        search-short k p = go (ltb (48 + 8 * length (spelling text tokens i)) k) refl
          where
            go : (b : Bool) → ltb (48 + 8 * length (spelling text tokens i)) k ≡ b → k ≤ 48 + 8 * length (spelling text tokens i)
            go true e =
                let depth = 48 + 8 * length (spelling text tokens i) in
                let l = ltb-true depth k e in
                let (j, f, g, w) = shared depth (λ q h. p.met q (omega arith)) in
                let a = short i name in
                let b = short j f.name in
                absurd
                (p.unlike depth j l f g
                (matches-both text tokens i j (same-kinds (kind_at tokens i) (kind_at tokens j) (spelling text tokens i) (spelling text tokens j) a b w)
                (same_bytes (kind_at tokens i) (kind_at tokens j) (spelling text tokens i) (spelling text tokens j) a b w)))
            go false e = ltb-false (48 + 8 * length (spelling text tokens i)) k e

      -- Where it comes to an empty link, token `i` is the first of its spelling.
      module _ (order : Ordered tokens) (name : name_at tokens i ≡ true) (inside : i < length tokens) where
        pub search-none : (k : ℕ) → Past i k → link i k ≡ 0 → first_name text tokens i ≡ i
        unfolding name_at
        search-none k p z = first-itself text tokens i inside none
          where
            found : (f : ℕ) → f ≡ first_name text tokens i → f < i → ⊥
            found f e l =
                let m : matches text tokens i f ≡ true = rw e (first_matches text tokens i inside) in
                let g : First i f = record { before = l; name = rw (same_kind text tokens i f m) name; first = same_first text tokens i f m ∙ sym e } in
                let (d, y, h) = t.own f g in
                let s = order.some f g.name in
                let at : (q : ℕ) → link f q ≡ link i q = λ q. ap (λ (x : ℕ). get_or links x 0) (place-alike i f m q) in
                pick g m d y h s at (ltb d k) (ltb k d) refl refl
              where
                pick : First i f → matches text tokens i f ≡ true → (d : ℕ) → Met f d → link f d ≡ slot_at tokens f → 0 < slot_at tokens f
                    → ((q : ℕ) → link f q ≡ link i q) → (a b : Bool) → ltb d k ≡ a → ltb k d ≡ b → ⊥
                pick g m d y h s at true b u v = p.unlike d f (ltb-true d k u) g (sym h ∙ at d) m
                pick g m d y h s at false true u v = let w = y k (ltb-true k d v) in omega (arith, at k)
                pick g m d y h s at false false u v =
                    let w : d ≡ k = omega (arith, ltb-false d k u, ltb-false k d v) in
                    let x : link i d ≡ 0 = rw w z in
                    omega (arith, at d)

            none : (j : ℕ) → j < i → matches text tokens i j ≡ true → ⊥
            none j l m =
                let e = same_first text tokens i j m in
                let f = first-low text tokens j (omega arith) in
                found (first_name text tokens i) refl (omega arith)

  -- Before the first token nothing hangs.
  pub tree-none : (m : ℕ) → Tree (replicate m 0) 0
  tree-none m = record { own = λ j f. absurd (let l = f.before in omega arith); from = λ p l. absurd (empty p l); once = λ p q l. absurd (empty p l) }
    where
      empty : (p : ℕ) → 0 < get_or {A = ℕ} (replicate m 0) p 0 → ⊥
      empty p l = go (ltb p m) refl
        where
          go : (b : Bool) → ltb p m ≡ b → ⊥
          go true e = let z = get_or-replicate {A = ℕ} m p 0 0 (ltb-true p m e) in omega arith
          go false e =
              let r = length-replicate {A = ℕ} m 0 in
              let z = get_or-eq_default {A = ℕ} (replicate m 0) 0 {n = p} (omega (arith, ltb-false p m e)) in
              omega arith

  module _ (n : ℕ) (links : List ℕ) (t : Tree links n) where
    -- A token that is no name, or not the first of its spelling, hangs nowhere.
    pub tree-same : (name_at tokens n ≡ true → first_name text tokens n ≡ n → ⊥) → Tree links (n + 1)
    tree-same h = record { own = λ j f. first_by n j f (t.own j) (λ e. absurd (h (rw e at f.name) (rw e at f.first))); from = from; once = t.once }
      where
        from : (p : ℕ) → 0 < get_or links p 0 → (j : ℕ) × First (n + 1) j × (slot_at tokens j ≡ get_or links p 0)
        from p l = let (j, f, e) = t.from p l in (j, first_more n j f, e)

    -- Token `n` hangs where the search for it came to an empty link.
    module _ (order : Ordered tokens) (name : name_at tokens n ≡ true) (new : first_name text tokens n ≡ n) (k : ℕ) (met : Met links n k) (p : ℕ) (here : p ≡ place links n k) (empty : get_or links p 0 ≡ 0) (room : p < length links) where
      abbrev grown : List ℕ
      grown = set links p (slot_at tokens n)

      at_p : get_or grown p 0 ≡ slot_at tokens n
      at_p = get_or-set_same links p (slot_at tokens n) 0 room

      elsewhere : (q : ℕ) → (q ≡ p → ⊥) → get_or grown q 0 ≡ get_or links q 0
      elsewhere q f = get_or-set_other links p q (slot_at tokens n) 0 f

      -- What was linked stays so.
      kept : (q : ℕ) → 0 < get_or links q 0 → get_or grown q 0 ≡ get_or links q 0
      kept q l = elsewhere q (λ e. let z : get_or links q 0 ≡ 0 = rw e empty in omega arith)

      place_kept : (j d : ℕ) → Met links j d → place grown j d ≡ place links j d
      unfolding place
      place_kept j zero x = refl
      place_kept j (suc d) x = rw (place_kept j d (λ m l. x m (omega arith)), kept (place links j d) (x d (omega arith)))

      link-kept : (j d : ℕ) → Met links j d → 0 < link links j d → link grown j d ≡ link links j d
      link-kept j d x l = rw (place_kept j d x) (kept (place links j d) l)

      met-kept : (j d : ℕ) → Met links j d → Met grown j d
      met-kept j d x m l = let e = link-kept j m (λ q h. x q (omega arith)) (x m l) in let y = x m l in omega arith

      -- No earlier name has the place of token `n`.
      not_yet : (q : ℕ) → 0 < get_or links q 0 → get_or links q 0 ≡ slot_at tokens n → ⊥
      not_yet q l e =
          let (j, f, g) = t.from q l in
          let s = order.apart j n f.before f.name name in
          omega arith

      pub tree-more : Tree grown (n + 1)
      tree-more = record { own = own; from = from; once = once }
        where
          own : (j : ℕ) → First (n + 1) j → (d : ℕ) × Met grown j d × (link grown j d ≡ slot_at tokens j)
          own j f = first_by n j f old (λ e. rw e (k, met-kept n k met, rw (place_kept n k met, ← here) at_p))
            where
              old : First n j → (d : ℕ) × Met grown j d × (link grown j d ≡ slot_at tokens j)
              old g =
                  let (d, x, e) = t.own j g in
                  let s = order.some j g.name in
                  (d, met-kept j d x, link-kept j d x (omega arith) ∙ e)

          from : (q : ℕ) → 0 < get_or grown q 0 → (j : ℕ) × First (n + 1) j × (slot_at tokens j ≡ get_or grown q 0)
          from q l = go (eqb q p) refl
            where
              go : (b : Bool) → eqb q p ≡ b → (j : ℕ) × First (n + 1) j × (slot_at tokens j ≡ get_or grown q 0)
              go true e = (n, record { before = omega arith; name = name; first = new }, rw (eqb-true q p e) (sym at_p))
              go false e =
                  let z = elsewhere q (eqb-false q p e) in
                  let (j, f, g) = t.from q (omega arith) in
                  (j, first_more n j f, g ∙ sym z)

          once : (q r : ℕ) → 0 < get_or grown q 0 → get_or grown q 0 ≡ get_or grown r 0 → q ≡ r
          once q r l e = go (eqb q p) (eqb r p) refl refl
            where
              go : (a b : Bool) → eqb q p ≡ a → eqb r p ≡ b → q ≡ r
              go true true f g = eqb-true q p f ∙ sym (eqb-true r p g)
              go true false f g =
                  let x : get_or grown q 0 ≡ slot_at tokens n = rw (eqb-true q p f) at_p in
                  let y = elsewhere r (eqb-false r p g) in
                  absurd (not_yet r (omega arith) (sym y ∙ (sym e ∙ x)))
              go false true f g =
                  let x : get_or grown r 0 ≡ slot_at tokens n = rw (eqb-true r p g) at_p in
                  let y = elsewhere q (eqb-false q p f) in
                  absurd (not_yet q (omega arith) (sym y ∙ (e ∙ x)))
              go false false f g =
                  let x = elsewhere q (eqb-false q p f) in
                  let y = elsewhere r (eqb-false r p g) in
                  t.once q r (omega arith) (sym x ∙ (e ∙ y))
