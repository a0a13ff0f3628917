-- Laws of spellings that are alike, and of the first of them.
use Rattle.std.specs.Prelude.{◌≡◌, refl, Bool, true, false, ◌&&◌, List, [], ◌∷◌, ℕ, suc, ◌+◌, ◌≤◌, ◌<◌, eqb, length, get_or, drop}
use Rattle.std.specs.Cmp.Lexicographic.{pointwise}
use Rattle.std.proofs.Common.{◌∙◌, ap, arith, add-one, eq-eqb, ne_eqb, drop_of_length-le}
use Rattle.std.proofs.Math.Bool.{and-false}
use Rattle.std.proofs.Math.ListN.{get_or-eq_default}
use Rattle.std.proofs.Math.Seq.{drop-cons}
use Rattle.words.specs.Token
use Rattle.words.specs.Words.{token_word, token_kind, token_end, pack, high}
use Rattle.lexer.specs.Lex.{spelling_of}
use Rattle.literals.specs.Spelling.{word_at, token_start, spelling, alike, first_from, first_alike}
use Rattle.spellings.specs.Spelled.{within, spelled}

-- The library's `==` gives whether they are alike.
pub equal-alike : (a b : List ℕ) → pointwise eqb a b ≡ alike a b
unfolding alike
equal-alike [] [] = refl
equal-alike [] (y ∷ b) = refl
equal-alike (x ∷ a) [] = refl
equal-alike (x ∷ a) (y ∷ b) = ap (λ (t : Bool). eqb x y && t) (equal-alike a b)

pub alike-longer : (a b : List ℕ) → (length a ≡ length b → ⊥) → alike a b ≡ false
unfolding alike
alike-longer [] [] h = absurd (h refl)
alike-longer [] (y ∷ b) h = refl
alike-longer (x ∷ a) [] h = refl
alike-longer (x ∷ a) (y ∷ b) h = rw (alike-longer a b (λ e. h (ap suc e)), and-false)

module _ (a b : List ℕ) (i : ℕ) (ha : i < length a) (hb : i < length b) where
  apart : alike (drop i a) (drop i b) ≡ (eqb (get_or a i 0) (get_or b i 0) && alike (drop (i + 1) a) (drop (i + 1) b))
  unfolding alike
  apart = rw (drop-cons a i 0 ha, drop-cons b i 0 hb, add-one)

  pub alike-differ : (get_or a i 0 ≡ get_or b i 0 → ⊥) → alike (drop i a) (drop i b) ≡ false
  alike-differ h = apart ∙ rw (ne_eqb (get_or a i 0) (get_or b i 0) h)

  pub alike_next : get_or a i 0 ≡ get_or b i 0 → alike (drop i a) (drop i b) ≡ alike (drop (i + 1) a) (drop (i + 1) b)
  alike_next h = apart ∙ rw (eq-eqb (get_or a i 0) (get_or b i 0) h)

pub alike-over : (a b : List ℕ) (i : ℕ) → length a ≡ length b → length b ≤ i → alike (drop i a) (drop i b) ≡ true
unfolding alike
alike-over a b i e h = rw (drop_of_length-le a {i = i} (omega arith), drop_of_length-le b {i = i} h)

-- The kind of a token; past the words stands an Eof.
abbrev pub kind_at : List ℕ → ℕ → ℕ
kind_at tokens i = token_kind (word_at tokens i)

pub kind-past : (tokens : List ℕ) (i : ℕ) → length tokens ≤ i → Token.Eof ≡ kind_at tokens i
unfolding pack high
kind-past tokens i h = rw (get_or-eq_default tokens (token_word Token.Eof 0) {n = i} h)

pub kind-within : (tokens : List ℕ) (i k : ℕ) → i < length tokens → k ≡ token_kind (get_or tokens i 0) → k ≡ kind_at tokens i
kind-within tokens i k h e = e ∙ ap token_kind (within tokens i 0 (token_word Token.Eof 0) h)

module _ (text tokens : List ℕ) (kind : ℕ) where
  module _ (n : ℕ) (name : List ℕ) (k : ℕ) (is-kind : k ≡ kind_at tokens n) where
    pub named_other : (k ≡ kind → ⊥) → false ≡ (eqb (kind_at tokens n) kind && alike (spelling text tokens n) name)
    named_other g = rw (← is-kind, ne_eqb k kind g)

    pub named-kind : k ≡ kind → (source : List ℕ) → source ≡ spelling_of text tokens n
        → alike source name ≡ (eqb (token_kind (word_at tokens n)) kind && alike (spelling text tokens n) name)
    named-kind g source f = rw (← is-kind, eq-eqb k kind g, f ∙ spelled text tokens n)

  module _ (name : List ℕ) where
    abbrev pub from : ℕ → ℕ
    from n = first_from text kind name n (token_start tokens n) (drop n tokens)

    pub first-start : (i : ℕ) → name ≡ spelling_of text tokens i → first_alike text tokens kind i ≡ from 0
    unfolding token_start
    first-start i e = rw (e, spelled text tokens i)

    module _ (n : ℕ) (h : n < length tokens) where
      abbrev test : Bool
      test = eqb (token_kind (word_at tokens n)) kind && alike (spelling text tokens n) name

      opened : from n ≡ (elim test [ true ↦ n | false ↦ first_from text kind name (n + 1) (token_end (word_at tokens n)) (drop (suc n) tokens) ])
      unfolding first_from
      opened = rw (drop-cons tokens n (token_word Token.Eof 0) h)

      pub first-here : (t : Bool) → t ≡ test → t ≡ true → from n ≡ n
      first-here t e g = opened ∙ rw (← e, g)

      pub first_on : (t : Bool) → t ≡ test → t ≡ false → from n ≡ from (n + 1)
      unfolding token_start
      first_on t e g = opened ∙ rw (← e, g, add-one)

      -- By the kind of token `n`, and then by its spelling.
      module _ (k : ℕ) (is-kind : k ≡ kind_at tokens n) where
        pub first-other : (k ≡ kind → ⊥) → from n ≡ from (n + 1)
        first-other g = first_on false (named_other n name k is-kind g) refl

        module _ (g : k ≡ kind) (source : List ℕ) (f : source ≡ spelling_of text tokens n) where
          pub first-spelled : alike source name ≡ true → from n ≡ n
          first-spelled = first-here (alike source name) (named-kind n name k is-kind g source f)

          pub first-differs : alike source name ≡ false → from n ≡ from (n + 1)
          first-differs = first_on (alike source name) (named-kind n name k is-kind g source f)

    pub first-over : (n : ℕ) → length tokens ≤ n → from n ≡ n
    unfolding first_from
    first-over n h = rw (drop_of_length-le tokens {i = n} h)
