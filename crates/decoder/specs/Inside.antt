-- What stands between the quotes of a string token, and where.
use Rattle.std.specs.Prelude.{◌≡◌, refl, Bool, true, false, cond, ◌&&◌, List, [], leb, length, get_or, take, drop}
use Rattle.std.proofs.Common.{sym, ◌∙◌, ap, add-zero, arith, leb-true, lit<, length-take, length-drop}
use Prim.Native.Nat.{ℕ, zero, suc, ◌+◌, ◌-◌, ◌≤◌, ◌<◌}
use Rattle.std.proofs.Math.Numerals.{sub-one}
use Rattle.std.proofs.Math.ListN.{get_or-eq_default}
use Rattle.std.proofs.Math.Seq.{slice, length-slice}
use Rattle.words.specs.Token
use Rattle.words.specs.Words.{token_word, token_end}
use Rattle.words.specs.Laws.{low_fits}
use Rattle.lexer.specs.Lex.{spelling_of}
use Rattle.literals.specs.Spelling.{span, word_at, token_start, token_span, covered, spelling}
use Rattle.literals.specs.Strings.{between, decoded_from, decode_string, characters_from, hex_from, decode_hex}
use Rattle.decoder.specs.Chars.{events}
use Rattle.decoder.specs.Hex.{hex_events}
use Rattle.spellings.specs.Spelled.{within, spelled, last_end}

module _ (opening : ℕ) (s : List ℕ) where
  pub inside-none : length s ≤ opening → [] ≡ between opening s
  inside-none h = let e : length s - (opening + 1) ≡ 0 = omega arith in rw e

  pub inside-some : take (length s - 1 - opening) (drop opening s) ≡ between opening s
  inside-some = let e : length s - 1 - opening ≡ length s - (opening + 1) = omega arith in rw e

module _ (tokens : List ℕ) (n : ℕ) where
  pub start_none : n ≡ 0 → 0 ≡ token_start tokens n
  unfolding token_start
  start_none e = rw e

  module _ (ne : n ≡ 0 → ⊥) where
    before : token_start tokens n ≡ token_end (word_at tokens (n - 1))
    unfolding token_start
    before = go n ne
      where
        go : (k : ℕ) → (k ≡ 0 → ⊥) → token_start tokens k ≡ token_end (word_at tokens (k - 1))
        go zero z = absurd (z refl)
        go (suc k) z = rw sub-one

    pub start-past : length tokens ≤ n - 1 → 0 ≡ token_start tokens n
    start-past h = sym (before ∙ (rw (get_or-eq_default tokens (token_word Token.Eof 0) {n = n - 1} h) last_end))

    pub start-within : n - 1 < length tokens → (r : ℕ) → r ≡ token_end (get_or tokens (n - 1) 0) → r ≡ token_start tokens n
    start-within h r e = e ∙ (ap token_end (within tokens (n - 1) 0 (token_word Token.Eof 0) h) ∙ sym before)

-- A token ends before 2 ^ 25, so it starts there, and is no longer.
start_fits : (tokens : List ℕ) (n : ℕ) → token_start tokens n < 33554432
unfolding token_start
start_fits tokens zero = lit< tt
start_fits tokens (suc n) = low_fits 25 (word_at tokens n)

covered-short : (text : List ℕ) (s e : ℕ) → length (covered text (span s e)) ≤ e
unfolding covered
covered-short text s e = go (leb s e) (leb e (length text)) refl refl
  where
    go : (a b : Bool) → leb s e ≡ a → leb e (length text) ≡ b → length (cond (a && b) (slice s e text) []) ≤ e
    go true true h g = omega (arith, length-slice s e text (leb-true e (length text) g))
    go true false h g = omega arith
    go false b h g = omega arith

pub spelling-short : (text tokens : List ℕ) (n : ℕ) → length (spelling text tokens n) < 33554432
spelling-short text tokens n = omega (arith, covered-short text (token_start tokens n) (token_end (word_at tokens n)), low_fits 25 (word_at tokens n))

module _ (text tokens : List ℕ) (n opening : ℕ) (source w : List ℕ) (start : ℕ) (es : source ≡ spelling_of text tokens n) (ew : w ≡ between opening source) (et : start ≡ token_start tokens n) where
  pub inside-fits : opening < 256 → start + opening + length w < 4294967296
  inside-fits h =
      omega (arith, start_fits tokens n, spelling-short text tokens n, ap length (es ∙ spelled text tokens n), ap length ew, length-take (length source - (opening + 1)) (drop opening source), length-drop opening source)

  inside-same : {A : Type 0} (f : ℕ → List ℕ → A) → f (start + opening + 0) (drop 0 w) ≡ f (token_start tokens n + opening) (between opening (spelling text tokens n))
  inside-same f = rw (add-zero, ew, es ∙ spelled text tokens n, et)

pub string-same : (text tokens : List ℕ) (n : ℕ) (source w : List ℕ) (start : ℕ) → source ≡ spelling_of text tokens n → w ≡ between 1 source → start ≡ token_start tokens n
    → events (start + 1) w 0 ≡ decode_string (token_span tokens n) (spelling text tokens n)
unfolding decode_string
string-same text tokens n source w start es ew et = inside-same text tokens n 1 source w start es ew et (λ at s. decoded_from at 0 s)

pub hex-same : (text tokens : List ℕ) (n : ℕ) (source w : List ℕ) (start stop : ℕ) → source ≡ spelling_of text tokens n → w ≡ between 4 source → start ≡ token_start tokens n → stop ≡ token_end (word_at tokens n)
    → hex_events (span start stop) false (start + 4) w 0 ≡ decode_hex (token_span tokens n) (spelling text tokens n)
unfolding decode_hex
hex-same text tokens n source w start stop es ew et ee = inside-same text tokens n 4 source w start es ew et (λ at s. hex_from (span start stop) false (characters_from at 0 s)) ∙ rw (et, ee)

module _ (tokens : List ℕ) (n : ℕ) where
  pub end-past : length tokens ≤ n → 0 ≡ token_end (word_at tokens n)
  end-past h = sym (rw (get_or-eq_default tokens (token_word Token.Eof 0) {n = n} h) last_end)

  pub end-within : n < length tokens → (r : ℕ) → r ≡ token_end (get_or tokens n 0) → r ≡ token_end (word_at tokens n)
  end-within h r e = e ∙ ap token_end (within tokens n 0 (token_word Token.Eof 0) h)
