-- A source that begins with the text: tokens that end inside the text are spelled alike in both.
use Rattle.std.specs.Prelude.{◌≡◌, Bool, ◌&&◌, ℕ, zero, suc, ◌+◌, ◌≤◌, ◌<◌, eqb, ltb, leb, length, get_or, set, take, drop}
use Rattle.std.proofs.Math.Path.{refl, ap₂}
use Rattle.std.proofs.Common.{sym, ◌∙◌, ap, true≢false, arith, add-one, drop_of_length-le, drop-cons, take-take, take-suc, take-suc-set}
use Rattle.std.proofs.Math.Bool.{true, false}
use mathlib.Core.List.{List, [], ◌∷◌}
use borrow.Author.Tests.{le-leb, lt-leb, leb-true, ltb-true, ltb-false}
use Rattle.std.proofs.Math.ListN.{get_or-eq_default}
use Rattle.std.proofs.Math.Seq.{slice, take-length}
use Rattle.words.specs.Token
use Rattle.words.specs.Words.{token_word, token_kind, token_end}
use Rattle.literals.specs.Spelling.{span, word_at, token_start, covered, spelling, alike, first_from, first_alike}
use Rattle.spellings.specs.Spelled.{within, last_end}

-- Every token ends at `n` or before it.
abbrev pub Inside : List ℕ → ℕ → Type 0
Inside tokens n = (i : ℕ) → token_end (word_at tokens i) ≤ n

-- What stands past the words ends at 0.
pub inside-all : (tokens : List ℕ) (n : ℕ) → ((k : ℕ) → k < length tokens → token_end (get_or tokens k 0) ≤ n) → Inside tokens n
inside-all tokens n h i = go (ltb i (length tokens)) refl
  where
    go : (b : Bool) → ltb i (length tokens) ≡ b → token_end (word_at tokens i) ≤ n
    go true e =
        let l = ltb-true i (length tokens) e in
        rw (within tokens i (token_word Token.Eof 0) 0 l) (h i l)
    go false e = rw (get_or-eq_default tokens (token_word Token.Eof 0) {n = i} (ltb-false i (length tokens) e), last_end) (omega arith)

-- The same as a test.
unfoldable pub all_inside : List ℕ → ℕ → Bool
all_inside [] n = true
all_inside (w ∷ ws) n = leb (token_end w) n && all_inside ws n

module _ (tokens : List ℕ) (n i : ℕ) (l : i < length tokens) where
  apart : all_inside (drop i tokens) n ≡ (leb (token_end (get_or tokens i 0)) n && all_inside (drop (i + 1) tokens) n)
  unfolding all_inside
  apart = rw (drop-cons tokens i 0 l, add-one)

  pub inside-next : token_end (get_or tokens i 0) ≤ n → all_inside (drop i tokens) n ≡ all_inside (drop (i + 1) tokens) n
  inside-next h = apart ∙ rw (le-leb (token_end (get_or tokens i 0)) n h)

  pub inside-not : n < token_end (get_or tokens i 0) → all_inside (drop i tokens) n ≡ false
  inside-not h = apart ∙ rw (lt-leb (token_end (get_or tokens i 0)) n h)

pub inside-over : (tokens : List ℕ) (n i : ℕ) → length tokens ≤ i → all_inside (drop i tokens) n ≡ true
unfolding all_inside
inside-over tokens n i h = rw (drop_of_length-le tokens {i = i} h)

each-inside : (tokens : List ℕ) (n : ℕ) → all_inside tokens n ≡ true → (k : ℕ) → k < length tokens → token_end (get_or tokens k 0) ≤ n
unfolding all_inside
each-inside [] n e k l = absurd (omega arith)
each-inside (w ∷ ws) n e k l = go (leb (token_end w) n) refl (λ f. each-inside ws n f) k l
  where
    go : (b : Bool) → leb (token_end w) n ≡ b → (all_inside ws n ≡ true → (j : ℕ) → j < length ws → token_end (get_or ws j 0) ≤ n) → (j : ℕ) → j < length (w ∷ ws) → token_end (get_or (w ∷ ws) j 0) ≤ n
    go true h rest zero m = leb-true (token_end w) n h
    go true h rest (suc j) m = rest (rw h at e) j (omega arith)
    go false h rest j m = absurd (true≢false (sym (rw h at e)))

pub inside_of : (tokens : List ℕ) (n : ℕ) → all_inside tokens n ≡ true → Inside tokens n
inside_of tokens n e = inside-all tokens n (each-inside tokens n e)

-- One byte more is copied.
pub copied : (source text : List ℕ) (i : ℕ) → i < length text → i < length source → take i source ≡ take i text → take (i + 1) (set source i (get_or text i 0)) ≡ take (i + 1) text
copied source text i l m e = rw (add-one i, take-suc-set source i (get_or text i 0) m, take-suc text i 0 l, e)

pub all-copied : (source text : List ℕ) (i : ℕ) → i ≡ length text → take i source ≡ take i text → take (length text) source ≡ text
all-copied source text i h e = rw (← h) (e ∙ (rw h (take-length text)))

module _ (source text : List ℕ) (long : length text ≤ length source) (begins : take (length text) source ≡ text) where
  slice-same : (f t : ℕ) → t ≤ length text → slice f t source ≡ slice f t text
  slice-same f t h = ap (drop f) (sym (take-take t (length text) source h) ∙ ap (take t) begins)

  covered_same : (f t : ℕ) → t ≤ length text → covered source (span f t) ≡ covered text (span f t)
  unfolding covered
  covered_same f t h = rw (le-leb t (length text) h, le-leb t (length source) (omega arith), slice-same f t h)

  first-same : (kind : ℕ) (name : List ℕ) (i start : ℕ) (ws : List ℕ) → Inside ws (length text)
      → first_from source kind name i start ws ≡ first_from text kind name i start ws
  unfolding first_from
  first-same kind name i start [] h = refl
  first-same kind name i start (w ∷ ws) h =
      ap₂ (λ (a : List ℕ) (n : ℕ). elim (eqb (token_kind w) kind && alike a name) [ true ↦ i | false ↦ n ])
      (covered_same start (token_end w) (h 0))
      (first-same kind name (i + 1) (token_end w) ws (λ k. h (suc k)))

  module _ (tokens : List ℕ) (inside : Inside tokens (length text)) where
    pub spelling-same : (i : ℕ) → spelling source tokens i ≡ spelling text tokens i
    spelling-same i = covered_same (token_start tokens i) (token_end (word_at tokens i)) (inside i)

    pub firsts_same : (kind i : ℕ) → first_alike source tokens kind i ≡ first_alike text tokens kind i
    firsts_same kind i = rw (spelling-same i) (first-same kind (spelling text tokens i) 0 0 tokens inside)
