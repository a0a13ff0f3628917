-- The search for a name: where it stands, how it goes on, and how it ends.
use Rattle.std.specs.Prelude.{◌≡◌, Bool, cond, ◌&&◌, ◌||◌, List, [], eqb, ltb, get_or, take}
use Rattle.std.proofs.Math.Path.{refl}
use Rattle.std.proofs.Common.{sym, ◌∙◌, ap, true≢false, below_more, length-take, get_or-drop, get_or-take}
use Rattle.std.proofs.Math.Bool.{true, false}
use Prim.Native.Nat.{ℕ, zero, suc, ◌+◌, ◌*◌, ◌/◌, ◌%◌, ◌≤◌, ◌<◌}
use native.Mathlib.Omega.{arith}
use Rattle.std.proofs.Math.Numerals.{add-one}
use borrow.Author.Tests.{eqb-true, ltb-true, ltb-false, leb-true}
use Rattle.std.proofs.Math.Dec.{leb}
use Rattle.std.proofs.Math.ListN.{length, get_or-eq_default}
use Rattle.std.proofs.Math.Seq.{slice, length-slice}
use Rattle.words.specs.Words.{token_end}
use Rattle.lexer.specs.Lex.{spelling_of}
use Rattle.literals.specs.Spelling.{word_at, token_start, covered, spelling}
use Rattle.spellings.specs.Names.{kind_at}
use Rattle.spellings.specs.Spelled.{spelled}
use Rattle.reading.specs.Source.{slot_at, entry, is_name}
use Rattle.interner.specs.Alike.{first_name, matches, same_first}
use Rattle.interner.specs.Order.{name_at}
use Rattle.interner.specs.Hash.{buckets, hash, turn_of, Short}
use Rattle.interner.specs.Tree.{bucket, bucket-low, turn, turn_small, First, place, link, Met, Past, search-none, search-short}
use Rattle.interner.specs.Table.{slot-low}
use Rattle.interner.specs.State.{State, Ends}

abbrev pub Bytes : List ℕ → Type 0
Bytes s = (i : ℕ) → get_or s i 0 < 256

bytes_take : (n : ℕ) (s : List ℕ) → Bytes s → Bytes (take n s)
bytes_take n s h i = go (ltb i n) refl
  where
    go : (b : Bool) → ltb i n ≡ b → get_or (take n s) i 0 < 256
    go true e = rw (get_or-take n s i 0 (ltb-true i n e)) (h i)
    go false e = rw (get_or-eq_default (take n s) 0 {n = i} (simp length-take (omega (arith, ltb-false i n e)))) (omega arith)

kind-small : (k : ℕ) → is_name k ≡ true → k < 128
kind-small k e = go (eqb k 65) (eqb k 66) refl refl e
  where
    go : (a b : Bool) → eqb k 65 ≡ a → eqb k 66 ≡ b → (a || b) ≡ true → k < 128
    go true b f g e = omega (arith, eqb-true k 65 f)
    go false true f g e = omega (arith, eqb-true k 66 g)
    go false false f g e = absurd (true≢false (sym e))

module _ (text tokens : List ℕ) where
  short-part : (f t : ℕ) → Bytes text → (length (covered text (record { start = f; end = t })) ≤ length text) × Bytes (covered text (record { start = f; end = t }))
  unfolding covered
  short-part f t h = go (leb f t) (leb t (length text)) refl
    where
      go : (a b : Bool) → leb t (length text) ≡ b → (length (cond (a && b) (slice f t text) []) ≤ length text) × Bytes (cond (a && b) (slice f t text) [])
      go true true e =
          let l = length-slice f t text (leb-true t (length text) e) in
          let m = leb-true t (length text) e in
          (omega arith, λ i. rw (get_or-drop f (take t text) i 0) (bytes_take t text h (f + i)))
      go true false e = (omega arith, λ i. omega arith)
      go false b e = (omega arith, λ i. omega arith)

  -- The search for token `i` stands at place `p` after `k` steps.
  pub record Stands (links : List ℕ) (i p k : ℕ) : Type 0 where
    pub here : p ≡ place text tokens links i k
    pub past : Past text tokens links i k

  module _ (source links : List ℕ) (i : ℕ) (s : State text tokens source links i) where
    -- A link leads to a name before token `i` that is the first of its spelling, and of which the table tells.
    module _ (p : ℕ) (l : 0 < get_or links p 0) where
      linked : (j : ℕ) × First text tokens i j × (slot_at tokens j ≡ get_or links p 0) × (entry source (get_or links p 0) ≡ j)
      linked =
          let (j, f, e) = s.tree.from p l in
          (j, f, e, rw (← e) (s.told.right j f.before f.name ∙ f.first))

    pub link-low : (p c : ℕ) → c ≡ get_or links p 0 → 2 * c ≤ 65537
    link-low p zero e = omega arith
    link-low p (suc c) e =
        let (j, f, g, h) = linked p (omega arith) in
        let l = slot-low text tokens source i s.told j in
        let r = s.told.fits in
        omega arith

    place_inside : (k : ℕ) → Met text tokens links i k → place text tokens links i k < length links
    unfolding place
    place_inside zero x = let b = bucket-low text tokens i in let r = s.room in omega arith
    place_inside (suc k) x =
        let (j, f, e, g) = linked (place text tokens links i k) (x k (omega arith)) in
        let h = slot-low text tokens source i s.told j in
        let t = turn_small text tokens i k in
        let r = s.room in
        omega arith

    -- The loop stands at place `p`, where the link is `c`.
    module _ (p k : ℕ) (st : Stands links i p k) where
      pub stands-inside : p < length links
      stands-inside = rw st.here (place_inside k st.past.met)

      module _ (c : ℕ) (is-link : c ≡ get_or links p 0) where
        pub ends-new : name_at tokens i ≡ true → i < length tokens → c ≡ 0 → Ends text tokens source links i p
        ends-new name l z =
            let e : get_or links p 0 ≡ 0 = sym is-link ∙ z in
            record {
              inside = stands-inside;
              new = λ _. (k, st.past.met, st.here, search-none text tokens links i s.tree s.told.order name l k st.past (rw st.here at e));
              old = λ y. absurd (omega arith);
            }

        -- What the table tells there is `j`.
        module _ (some : c ≡ 0 → ⊥) (j : ℕ) (is-entry : j ≡ entry source c) where
          linked-some : 0 < get_or links p 0
          linked-some = omega arith

          told : j ≡ entry source (get_or links p 0)
          told = is-entry ∙ ap (entry source) is-link

          pub ends-old : matches text tokens i j ≡ true → Ends text tokens source links i p
          ends-old m =
              let (q, f, e, g) = linked p linked-some in
              let l = linked-some in
              let x : first_name text tokens i ≡ q = sym (same_first text tokens i q (rw (told ∙ g) at m)) ∙ f.first in
              let b = f.before in
              record { inside = stands-inside; new = λ z. absurd (omega arith); old = λ _. (g ∙ sym x, omega arith) }

          past_next : matches text tokens i j ≡ false → Past text tokens links i (k + 1)
          past_next f =
              record {
                met = below_more (λ (m : ℕ). 0 < link text tokens links i m) k st.past.met (rw (← st.here) linked-some);
                unlike = λ m q g. below_more (λ (m : ℕ). First text tokens i q → slot_at tokens q ≡ link text tokens links i m → matches text tokens i q ≡ true → ⊥) k (λ m l. st.past.unlike m q l) (this q) m g;
              }
            where
              this : (q : ℕ) → First text tokens i q → slot_at tokens q ≡ link text tokens links i k → matches text tokens i q ≡ true → ⊥
              this q y e r =
                  let z : j ≡ q = told ∙ rw (st.here, ← e) (s.told.right q y.before y.name ∙ y.first) in
                  true≢false (sym r ∙ (rw z at f))

    -- The kind, the spelling and the hash of token `i` are known.
    module _ (kind h : ℕ) (name : List ℕ) (is-kind : kind ≡ kind_at tokens i) (is_named : name ≡ spelling_of text tokens i) (is-hash : h ≡ hash name) where
      spells : name ≡ spelling text tokens i
      spells = is_named ∙ spelled text tokens i

      pub stands-start : Stands links i (h % buckets) 0
      unfolding place bucket
      stands-start = record { here = rw (is-hash, spells); past = record { met = λ m l. absurd (omega arith); unlike = λ m j l. absurd (omega arith) } }

      pub stands-next : (p k : ℕ) → Stands links i p k → (c : ℕ) → c ≡ get_or links p 0 → (c ≡ 0 → ⊥) → (j : ℕ) → j ≡ entry source c → matches text tokens i j ≡ false
          → (t : ℕ) → t ≡ turn_of (h / buckets + 524288 * (kind + 128 * length name)) name k → Stands links i (8190 + 2 * c + t) (k + 1)
      unfolding place turn
      stands-next p k st c e f j g m t r =
          record { here = rw (e, r, is-hash, is-kind, spells, st.here, add-one k); past = past_next p k st c e f j g m }

      module _ (bytes : Bytes text) where
        pub name-short : length name ≤ 65536
        name-short =
            let (a, b) = short-part (token_start tokens i) (token_end (word_at tokens i)) bytes in
            let l = s.told.fits in
            let e = ap length spells in
            omega arith

        -- Whatever the text, the search looks at no more names than its name has bits, and one more.
        pub stands-short : (p k : ℕ) → Stands links i p k → name_at tokens i ≡ true → k ≤ 48 + 8 * length name
        unfolding name_at
        stands-short p k st f = rw spells (search-short text tokens links i s.tree short f k st.past)
          where
            short : (j : ℕ) → name_at tokens j ≡ true → Short (kind_at tokens j) (spelling text tokens j)
            short j f =
                let (a, b) = short-part (token_start tokens j) (token_end (word_at tokens j)) bytes in
                let l = s.told.fits in
                record { kinds = kind-small (kind_at tokens j) f; long = omega arith; bytes = b }
