-- The state of the pass over the tokens: the table and the trees, up to a token.
use Rattle.std.specs.Prelude.{◌≡◌, true, false, List, ℕ, ◌+◌, ◌*◌, ◌/◌, ◌≤◌, ◌<◌, length, get_or, set, replicate}
use Rattle.std.proofs.Common.{sym, ◌∙◌, ap, true≢false, arith, length-set}
use Rattle.std.proofs.lemmas.List.{length-replicate}
use Rattle.reading.specs.Source.{table_start, slot_at, entry}
use Rattle.interner.specs.Alike.{first_name}
use Rattle.interner.specs.Order.{name_at}
use Rattle.interner.specs.Hash.{buckets}
use Rattle.interner.specs.Tree.{place, Met, Tree, tree-none, tree-same, tree-more}
use Rattle.interner.specs.Table.{Table, written, slot-low, slot-room, table-skip, table_more}

module _ (text tokens : List ℕ) where
  pub record State (source links : List ℕ) (n : ℕ) : Type 0 where
    pub told : Table text tokens source n
    pub tree : Tree text tokens links n
    -- Each name that ends inside the text has its two links.
    pub room : buckets + 2 * ((length text + 1) / 2) ≤ length links

  -- Before the first token nothing is told of.
  pub state-none : (source : List ℕ) (m : ℕ) → buckets + 2 * ((length text + 1) / 2) ≤ m → Table text tokens source 0 → State source (replicate m 0) 0
  state-none source m h t = record { told = t; tree = tree-none text tokens m; room = rw (length-replicate {A = ℕ} m 0) h }

  -- Where the search for token `i` may end.
  pub record Ends (source links : List ℕ) (i p : ℕ) : Type 0 where
    pub inside : p < length links
    pub new : get_or links p 0 ≡ 0 → (k : ℕ) × Met text tokens links i k × (p ≡ place text tokens links i k) × (first_name text tokens i ≡ i)
    pub old : 0 < get_or links p 0 → (entry source (get_or links p 0) ≡ first_name text tokens i) × (first_name text tokens i < i)

  module _ (source links : List ℕ) (n : ℕ) (s : State source links n) where
    pub state-skip : name_at tokens n ≡ false → State source links (n + 1)
    state-skip f =
        record {
          told = table-skip text tokens source n s.told f;
          tree = tree-same text tokens n links s.tree (λ e. absurd (true≢false (sym e ∙ f)));
          room = s.room;
        }

    module _ (name : name_at tokens n ≡ true) where
      pub number_small : n < 65536
      number_small = s.told.order.few n name

      pub slot_small : (slot : ℕ) → slot ≡ slot_at tokens n → slot ≤ 32768
      slot_small slot e = let h = slot-low text tokens source n s.told n in let f = s.told.fits in omega arith

      pub slot-fits : (slot : ℕ) → slot ≡ slot_at tokens n → table_start + 2 * slot ≤ length source
      slot-fits slot e = rw e (slot-room text tokens source n s.told n)

      -- The search ended at place `p`, where the link is `c`.
      module _ (p : ℕ) (ends : Ends source links n p) (c : ℕ) (is-link : c ≡ get_or links p 0) (told : List ℕ) (slot : ℕ) (is-slot : slot ≡ slot_at tokens n) where
        -- Token `n` is the first of its spelling, and hangs there.
        pub state-new : c ≡ 0 → told ≡ written source slot n → State told (set links p slot) (n + 1)
        state-new z e =
            let (k, met, here, f) = ends.new (sym is-link ∙ z) in
            rw (e, is-slot)
            (record {
              told = table_more text tokens source n s.told n name (sym f);
              tree = tree-more text tokens n links s.tree s.told.order name f k met p here (sym is-link ∙ z) ends.inside;
              room = rw (length-set links p (slot_at tokens n)) s.room;
            })

        -- The first of its spelling hangs there already.
        module _ (some : c ≡ 0 → ⊥) (first : ℕ) (is-first : first ≡ entry source c) where
          known : (first ≡ first_name text tokens n) × (first_name text tokens n < n)
          known = let (f, h) = ends.old (omega arith) in (is-first ∙ (ap (entry source) is-link ∙ f), h)

          pub first_small : first < 65536
          first_small = let (f, h) = known in let l = number_small in omega arith

          pub state-old : told ≡ written source slot first → State told links (n + 1)
          state-old e =
              let (f, h) = known in
              rw (e, is-slot)
              (record { told = table_more text tokens source n s.told first name f; tree = tree-same text tokens n links s.tree (λ _ q. omega arith); room = s.room })
