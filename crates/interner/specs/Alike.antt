-- Laws of names that are spelled alike, and of the first of them.
use Rattle.std.specs.Prelude.{◌≡◌, Bool, ◌&&◌, List, [], ◌∷◌, ℕ, zero, suc, ◌+◌, ◌≤◌, ◌<◌, eqb, length}
use Rattle.std.proofs.Math.Path.{refl}
use Rattle.std.proofs.Common.{sym, ◌∙◌, ap₂, arith}
use Rattle.std.proofs.Math.Bool.{true, false}
use Rattle.std.proofs.lemmas.Bool.{false≢true}
use borrow.Author.Tests.{eq-eqb, eqb-true}
use Rattle.lexer.specs.Lex.{spelling_of}
use Rattle.literals.specs.Spelling.{token_start, spelling, alike, first_alike}
use Rattle.spellings.specs.Spelled.{spelled}
use Rattle.spellings.specs.Names.{from, first-here, first_on}
use Rattle.spellings.specs.Names.{kind_at}

pub both : (a b : Bool) → (a && b) ≡ true → (a ≡ true) × (b ≡ true)
both true b e = (refl, e)
both false b e = absurd (false≢true e)

alike_same : (s : List ℕ) → alike s s ≡ true
unfolding alike
alike_same [] = refl
alike_same (b ∷ s) = rw (eq-eqb b b refl, alike_same s)

alike-equal : (s t : List ℕ) → alike s t ≡ true → s ≡ t
unfolding alike
alike-equal [] [] e = refl
alike-equal [] (b ∷ t) e = absurd (false≢true e)
alike-equal (a ∷ s) [] e = absurd (false≢true e)
alike-equal (a ∷ s) (b ∷ t) e =
    let (h, g) = both (eqb a b) (alike s t) e in
    ap₂ (λ (x : ℕ) (y : List ℕ). x ∷ y) (eqb-true a b h) (alike-equal s t g)

-- The first token of its kind that is spelled as token `i`.
abbrev pub first_name : List ℕ → List ℕ → ℕ → ℕ
first_name text tokens i = first_alike text tokens (kind_at tokens i) i

-- Whether token `j` is of the kind of token `i`, and spelled as it is.
unfoldable pub matches : List ℕ → List ℕ → ℕ → ℕ → Bool
matches text tokens i j = eqb (kind_at tokens j) (kind_at tokens i) && alike (spelling text tokens j) (spelling text tokens i)

module _ (text tokens : List ℕ) (i : ℕ) where
  -- What `named` answers of the kind and the spelling of token `i`.
  pub named-matches : (kind : ℕ) (name : List ℕ) → kind ≡ kind_at tokens i → name ≡ spelling_of text tokens i → (j : ℕ) (t : Bool)
      → t ≡ (eqb (kind_at tokens j) kind && alike (spelling text tokens j) name) → t ≡ matches text tokens i j
  unfolding matches
  named-matches kind name e f j t g = g ∙ rw (e, f ∙ spelled text tokens i)

  matches-itself : matches text tokens i i ≡ true
  unfolding matches
  matches-itself = rw (eq-eqb (kind_at tokens i) (kind_at tokens i) refl, alike_same (spelling text tokens i))

  pub matches-both : (j : ℕ) → kind_at tokens i ≡ kind_at tokens j → spelling text tokens i ≡ spelling text tokens j → matches text tokens i j ≡ true
  unfolding matches
  matches-both j e f = rw (e, f, eq-eqb (kind_at tokens j) (kind_at tokens j) refl, alike_same (spelling text tokens j))

  module _ (j : ℕ) (m : matches text tokens i j ≡ true) where
    pub same_kind : kind_at tokens j ≡ kind_at tokens i
    unfolding matches
    same_kind = eqb-true (kind_at tokens j) (kind_at tokens i) (both (eqb (kind_at tokens j) (kind_at tokens i)) (alike (spelling text tokens j) (spelling text tokens i)) m).0

    pub same-spelling : spelling text tokens j ≡ spelling text tokens i
    unfolding matches
    same-spelling = alike-equal (spelling text tokens j) (spelling text tokens i) (both (eqb (kind_at tokens j) (kind_at tokens i)) (alike (spelling text tokens j) (spelling text tokens i)) m).1

    pub same_first : first_name text tokens j ≡ first_name text tokens i
    same_first = rw (same_kind, same-spelling)

  module _ (h : i < length tokens) where
    abbrev from_at : ℕ → ℕ
    from_at n = from text tokens (kind_at tokens i) (spelling text tokens i) n

    here : (n : ℕ) → n < length tokens → matches text tokens i n ≡ true → from_at n ≡ n
    unfolding matches
    here n l e = first-here text tokens (kind_at tokens i) (spelling text tokens i) n l true (sym e) refl

    on : (n : ℕ) → n < length tokens → matches text tokens i n ≡ false → from_at n ≡ from_at (n + 1)
    unfolding matches
    on n l e = first_on text tokens (kind_at tokens i) (spelling text tokens i) n l false (sym e) refl

    start : first_name text tokens i ≡ from_at 0
    unfolding token_start
    start = refl

    -- Token `i` itself is spelled so, and what is found is.
    first-upto : (d n : ℕ) → n + d ≡ i → (from_at n ≤ i) × (matches text tokens i (from_at n) ≡ true)
    first-upto zero n e =
        let z : n ≡ i = omega arith in
        let f : from_at n ≡ n = here n (omega arith) (rw z matches-itself) in
        (omega arith, rw (f, z) matches-itself)
    first-upto (suc d) n e = go (matches text tokens i n) refl (first-upto d (n + 1) (omega arith))
      where
        go : (b : Bool) → matches text tokens i n ≡ b → (from_at (n + 1) ≤ i) × (matches text tokens i (from_at (n + 1)) ≡ true)
            → (from_at n ≤ i) × (matches text tokens i (from_at n) ≡ true)
        go true g r = let f : from_at n ≡ n = here n (omega arith) g in (omega arith, rw f g)
        go false g r = rw (on n (omega arith) g) r

    pub first-low : first_name text tokens i ≤ i
    first-low = rw start (first-upto i 0 (omega arith)).0

    pub first_matches : matches text tokens i (first_name text tokens i) ≡ true
    first_matches = rw start (first-upto i 0 (omega arith)).1

    -- Where no token before it is.
    first_alone : ((j : ℕ) → j < i → matches text tokens i j ≡ true → ⊥) → (d n : ℕ) → n + d ≡ i → from_at n ≡ i
    first_alone none zero n e =
        let z : n ≡ i = omega arith in
        here n (omega arith) (rw z matches-itself) ∙ z
    first_alone none (suc d) n e = go (matches text tokens i n) refl (first_alone none d (n + 1) (omega arith))
      where
        go : (b : Bool) → matches text tokens i n ≡ b → from_at (n + 1) ≡ i → from_at n ≡ i
        go true g r = absurd (none n (omega arith) g)
        go false g r = on n (omega arith) g ∙ r

    pub first-itself : ((j : ℕ) → j < i → matches text tokens i j ≡ true → ⊥) → first_name text tokens i ≡ i
    first-itself none = start ∙ first_alone none i 0 (omega arith)
