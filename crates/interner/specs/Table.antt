-- The table while it is filled: what was written of each name so far is right.
use Rattle.std.specs.Prelude.{◌≡◌, refl, Bool, true, false, cond, ◌&&◌, List, ℕ, ◌+◌, ◌*◌, ◌/◌, ◌%◌, ◌≤◌, ◌<◌, eqb, ltb, leb, take}
use Rattle.std.proofs.Common.{sym, ◌∙◌, true≢false}
use native.Mathlib.Omega.{arith}
use borrow.Author.Tests.{eqb-true, eqb-false, le-leb, lt-leb, ltb-true, ltb-false}
use Rattle.std.proofs.Math.ListN.{length, get_or, set, length-set}
use Rattle.std.proofs.Math.Seq.{get_or-set_same, get_or-set_other, take-set-le}
use Rattle.literals.specs.Spelling.{spelling, first_alike}
use Rattle.reading.specs.Source.{table_start, slot_at, entry, is_name, is_told, first_of, Right}
use Rattle.spellings.specs.Names.{kind_at}
use Rattle.interner.specs.Same.{Inside, all_inside, inside_of, spelling-same, firsts_same}
use Rattle.interner.specs.Alike.{both, first_name}
use Rattle.interner.specs.Order.{name_at, no_name, names_rise, Ordered, ordered_of}

-- The bytes of a source for a text of so many: the table begins where the longest text ends, and has two bytes for each name; of two bytes of the
-- text at most one ends a name.
abbrev pub source_length : ℕ → ℕ
source_length n = table_start + 2 * ((n + 1) / 2)

-- A source stands for a text: tokens are spelled alike in both, so the same ones are the first, and its table is right.
pub record Annotates (source text tokens : List ℕ) : Type 0 where
  pub spells : (i : ℕ) → spelling source tokens i ≡ spelling text tokens i
  pub firsts : (kind i : ℕ) → first_alike source tokens kind i ≡ first_alike text tokens kind i
  pub right : Right source tokens

-- Whether a source of so many bytes can be made of a text and its tokens.
unfoldable pub annotatable : List ℕ → List ℕ → ℕ → Bool
annotatable text tokens size = leb (length text) table_start && (leb (source_length (length text)) size && (all_inside tokens (length text) && names_rise tokens))

-- By the tests, in turn.
module _ (text tokens : List ℕ) (size : ℕ) where
  pub too_long : table_start < length text → false ≡ annotatable text tokens size
  unfolding annotatable
  too_long l = rw (lt-leb (length text) table_start l)

  module _ (l : length text ≤ table_start) where
    pub too_short : size < source_length (length text) → false ≡ annotatable text tokens size
    unfolding annotatable
    too_short h = rw (le-leb (length text) table_start l, lt-leb (source_length (length text)) size h)

    pub by_order : source_length (length text) ≤ size → (b : Bool) → b ≡ (all_inside tokens (length text) && names_rise tokens) → b ≡ annotatable text tokens size
    unfolding annotatable
    by_order h b e = rw (le-leb (length text) table_start l, le-leb (source_length (length text)) size h) e

unfoldable pub written : List ℕ → ℕ → ℕ → List ℕ
written source slot first = set (set source (65534 + 2 * slot) (first % 256)) (65535 + 2 * slot) (first / 256)

module _ (source : List ℕ) (slot first : ℕ) where
  pub length-written : length (written source slot first) ≡ length source
  unfolding written
  length-written = simp length-set

  byte-other : (k : ℕ) → (k ≡ 65534 + 2 * slot → ⊥) → (k ≡ 65535 + 2 * slot → ⊥) → get_or (written source slot first) k 0 ≡ get_or source k 0
  unfolding written
  byte-other k f g =
      get_or-set_other (set source (65534 + 2 * slot) (first % 256)) (65535 + 2 * slot) k (first / 256) 0 g ∙ get_or-set_other source (65534 + 2 * slot) k (first % 256) 0 f

  pub entry_other : (s : ℕ) → (s ≡ slot → ⊥) → entry (written source slot first) s ≡ entry source s
  entry_other s h =
      rw (byte-other (65534 + 2 * s) (λ e. h (omega arith)) (λ e. absurd (omega arith)), byte-other (65535 + 2 * s) (λ e. absurd (omega arith)) (λ e. h (omega arith)))

  module _ (some : 0 < slot) (h : table_start + 2 * slot ≤ length source) where
    pub take-written : (n : ℕ) → n ≤ table_start → take n (written source slot first) ≡ take n source
    unfolding written
    take-written n m = take-set-le n _ _ _ (omega arith) ∙ take-set-le n _ _ _ (omega arith)

    pub entry-same : entry (written source slot first) slot ≡ first
    unfolding written
    entry-same =
        let inner = set source (65534 + 2 * slot) (first % 256) in
        let m : length inner ≡ length source = length-set source (65534 + 2 * slot) (first % 256) in
        let a : get_or (written source slot first) (65534 + 2 * slot) 0 ≡ first % 256 = get_or-set_other inner (65535 + 2 * slot) (65534 + 2 * slot) (first / 256) 0 (λ e. absurd (omega arith)) ∙ get_or-set_same source (65534 + 2 * slot) (first % 256) 0 (omega arith) in
        let b : get_or (written source slot first) (65535 + 2 * slot) 0 ≡ first / 256 = get_or-set_same inner (65535 + 2 * slot) (first / 256) 0 (omega arith) in
        omega arith

-- A source that begins with the text, and whose table is right for the names before token `n`.
pub record Table (text tokens source : List ℕ) (n : ℕ) : Type 0 where
  pub long : source_length (length text) ≤ length source
  pub fits : length text ≤ table_start
  pub begins : take (length text) source ≡ text
  pub inside : Inside tokens (length text)
  pub order : Ordered tokens
  pub right : (j : ℕ) → j < n → name_at tokens j ≡ true → entry source (slot_at tokens j) ≡ first_name text tokens j

-- Before the first token nothing is told of.
pub table_none : (text tokens source : List ℕ) → source_length (length text) ≤ length source → length text ≤ table_start → take (length text) source ≡ text
    → (all_inside tokens (length text) && names_rise tokens) ≡ true → Table text tokens source 0
table_none text tokens source l f b e =
    let (x, y) = both (all_inside tokens (length text)) (names_rise tokens) e in
    record { long = l; fits = f; begins = b; inside = inside_of tokens (length text) x; order = ordered_of tokens y; right = λ j h. absurd (omega arith) }

module _ (text tokens source : List ℕ) (n : ℕ) (t : Table text tokens source n) where
  pub slot-low : (j : ℕ) → 2 * slot_at tokens j ≤ length text + 1
  slot-low j = let h = t.inside j in omega arith

  pub slot-room : (j : ℕ) → table_start + 2 * slot_at tokens j ≤ length source
  slot-room j = let h = slot-low j in let l = t.long in omega arith

  -- A token that is no name needs nothing in the table.
  pub table-skip : name_at tokens n ≡ false → Table text tokens source (n + 1)
  table-skip f = record { long = t.long; fits = t.fits; begins = t.begins; inside = t.inside; order = t.order; right = right }
    where
      right : (j : ℕ) → j < n + 1 → name_at tokens j ≡ true → entry source (slot_at tokens j) ≡ first_name text tokens j
      right j h e = go (eqb j n) refl
        where
          go : (b : Bool) → eqb j n ≡ b → entry source (slot_at tokens j) ≡ first_name text tokens j
          go true q = let z : j ≡ n = eqb-true j n q in absurd (true≢false (sym (rw z at e) ∙ f))
          go false q = t.right j (omega (arith, eqb-false j n q)) e

  pub table_more : (first : ℕ) → name_at tokens n ≡ true → first ≡ first_name text tokens n → Table text tokens (written source (slot_at tokens n) first) (n + 1)
  table_more first name e =
      record {
        long = rw (length-written source (slot_at tokens n) first) t.long;
        fits = t.fits;
        begins = take-written source (slot_at tokens n) first some (slot-room n) (length text) t.fits ∙ t.begins;
        inside = t.inside;
        order = t.order;
        right = right;
      }
    where
      some : 0 < slot_at tokens n
      some = t.order.some n name

      right : (j : ℕ) → j < n + 1 → name_at tokens j ≡ true → entry (written source (slot_at tokens n) first) (slot_at tokens j) ≡ first_name text tokens j
      right j h f = go (eqb j n) refl
        where
          go : (b : Bool) → eqb j n ≡ b → entry (written source (slot_at tokens n) first) (slot_at tokens j) ≡ first_name text tokens j
          go true q = let z : j ≡ n = eqb-true j n q in rw z (entry-same source (slot_at tokens n) first some (slot-room n) ∙ e)
          go false q =
              let l : j < n = omega (arith, eqb-false j n q) in
              let a = t.order.apart j n l f name in
              entry_other source (slot_at tokens n) first (slot_at tokens j) (λ z. omega arith) ∙ t.right j l f

-- The whole table: the source stands for the text.
pub annotates : (text tokens source : List ℕ) → Table text tokens source (length tokens) → Annotates source text tokens
unfolding first_of is_told name_at
annotates text tokens source t = record { spells = spelling-same source text long t.begins tokens t.inside; firsts = firsts; right = λ kind i. names kind i ∙ sym (firsts kind i) }
  where
    long : length text ≤ length source
    long = let l = t.long in let f = t.fits in omega arith

    firsts : (kind i : ℕ) → first_alike source tokens kind i ≡ first_alike text tokens kind i
    firsts = firsts_same source text long t.begins tokens t.inside

    -- Past the tokens there is no name.
    names-all : (j : ℕ) → name_at tokens j ≡ true → entry source (slot_at tokens j) ≡ first_name text tokens j
    names-all j f = go (ltb j (length tokens)) refl
      where
        go : (b : Bool) → ltb j (length tokens) ≡ b → entry source (slot_at tokens j) ≡ first_name text tokens j
        go true q = t.right j (ltb-true j (length tokens) q) f
        go false q = absurd (true≢false (sym f ∙ no_name tokens j (ltb-false j (length tokens) q)))

    names : (kind i : ℕ) → first_of source tokens kind i ≡ first_alike text tokens kind i
    names kind i = go (is_told source tokens kind i) refl
      where
        told : is_told source tokens kind i ≡ true → entry source (slot_at tokens i) ≡ first_alike text tokens kind i
        told e =
            let (a, b) = both (ltb table_start (length source)) (is_name kind && eqb (kind_at tokens i) kind) e in
            let (f, g) = both (is_name kind) (eqb (kind_at tokens i) kind) b in
            let z : kind_at tokens i ≡ kind = eqb-true (kind_at tokens i) kind g in
            names-all i (rw z f) ∙ rw z

        go : (b : Bool) → is_told source tokens kind i ≡ b → cond b (entry source (slot_at tokens i)) (first_alike source tokens kind i) ≡ first_alike text tokens kind i
        go true e = told e
        go false e = firsts kind i
