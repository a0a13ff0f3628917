-- Laws of the tokens that lexing made: Eof stands at their end only, their spellings lie one after the other, and both rows are of them.
use Rattle.std.proofs.Math.Path.{◌≡◌, refl, sym, ap}
use Rattle.std.proofs.Common.{◌∙◌, true≢false, add-zero, zero-add, ltb-true, ltb-false, leb-true, ne_eqb, eq-eqb, eqb-true, lit<, take_at}
use Rattle.std.specs.Prelude.{Bool, cond, ◌&&◌, ◌||◌, ℕ, zero, suc, ◌+◌, ◌-◌, ◌^◌, ◌<◌, ◌≤◌, ltb, leb, length, get_or, take, drop}
use Rattle.std.proofs.Math.Bool.{true, false}
use mathlib.Core.List.{List, [], ◌∷◌, map}
use native.Mathlib.Omega.{arith}
use Rattle.std.proofs.Math.Dec.{eqb}
use Rattle.std.proofs.lemmas.List.{length-map}
use Rattle.std.proofs.Math.Seq.{slice, length-slice}
use Rattle.words.specs.Refusal
use Rattle.words.specs.Token
use Rattle.words.specs.declared.error_token.ErrorToken.{ErrorToken}
use Rattle.words.specs.Token.{is_trivia, lex_error, LexError}
use Rattle.std.specs.Prelude.{Some, None}
use Rattle.words.specs.Words.{token_kind, token_end}
use Rattle.words.specs.Laws.{high-pack, low-pack}
use Rattle.words.specs.Answer.{Answer, done, refused}
use Rattle.utf8.specs.Utf8.{Checked, checked}
use Rattle.utf8.specs.Bytes.{AreBytes}
use Rattle.utf8.specs.Laws.{good-bytes}
use Rattle.std.specs.Prelude.{Ok, Err}
use Rattle.scan.specs.declared.Token.{Token as LexToken}
use Rattle.scan.specs.Lexer.{longest_text, from, token_at, tokens_from, has_mark, tokens_of, word}
use Rattle.scan.specs.Laws.{ended}
use Rattle.scan.specs.Marked.{unmarked, behind-mark, mark-within}
use Rattle.lexer.specs.Lex.{not_utf8, lexed, lexed_words}
use Rattle.scan.specs.Longest.{and_both}
use Rattle.lexer.specs.Walk.{Stepped, stepped, over, tokens-count}
use Rattle.literals.specs.Spelling.{span, word_at, token_start, covered, spelling}
use Rattle.definition.specs.Quiet.{word-inside}
use Rattle.definition.specs.Parse.{token_limit}
use Rattle.definition.specs.Abstract.{Seen, good, bad, stray, seen, Passed, none_passed, one-passed, ReadersA}
use Rattle.definition.specs.Abstract.{row_from as seen_from}
use Rattle.definition.proofs.Ends.{AtEnd, nothing_left, eof-left}
use Rattle.chart.specs.Row.{RowToken, token, is_blank, row_from, row}
use Rattle.chart.proofs.Errors.{NoErrors, no-error-more}
use Rattle.chart.specs.Parser.{Readers}
use Rattle.tree.specs.Rows.{Clean, clean, also, lexeme, lexemes, rows_same}
use Rattle.agreement.specs.Sim.{Setting, cost, Ahead, eof-ahead, next}
use Rattle.reader.specs.Kinds.{token-low}

-- ---- what lexing answers

-- A text that was lexed is short and UTF-8, and its tokens are counted.
pub data Counted (text : List ℕ) : Answer → Type 0 where
  counted : length text ≤ longest_text → checked text ≡ Ok tt → Counted text (done (length (tokens_of text) ∷ []))
  not-lexed : {number place : ℕ} → Counted text (refused number place)

pub lexed-counted : (text : List ℕ) (lent : ℕ) → Counted text (lexed text lent)
unfolding lexed
lexed-counted text lent = long (ltb longest_text (length text)) refl
  where
    fit : (t : Bool) → length text ≤ longest_text → checked text ≡ Ok tt
        → Counted text (cond t (refused Refusal.TokensDontFit (length (tokens_of text))) (done (length (tokens_of text) ∷ [])))
    fit true h g = not-lexed
    fit false h g = counted h g

    good-text : (c : Checked) → checked text ≡ c → length text ≤ longest_text
        → Counted text (elim c [ Err e ↦ refused (not_utf8 e.way) e.at | Ok u ↦ cond (ltb lent (length (tokens_of text))) (refused Refusal.TokensDontFit (length (tokens_of text))) (done (length (tokens_of text) ∷ [])) ])
    good-text (Ok u) g h = fit (ltb lent (length (tokens_of text))) h g
    good-text (Err e) g h = not-lexed

    long : (t : Bool) → ltb longest_text (length text) ≡ t
        → Counted text (cond t (refused Refusal.TooLong longest_text) (elim (checked text) [ Err e ↦ refused (not_utf8 e.way) e.at | Ok u ↦ cond (ltb lent (length (tokens_of text))) (refused Refusal.TokensDontFit (length (tokens_of text))) (done (length (tokens_of text) ∷ [])) ]))
    long true e = not-lexed
    long false e = good-text (checked text) refl (ltb-false longest_text (length text) e)

module _ (text : List ℕ) (lent n : ℕ) (e : lexed text lent ≡ done (n ∷ [])) where
  counts : (length text ≤ longest_text) × (n ≡ length (tokens_of text)) × (checked text ≡ Ok tt)
  counts = go (lexed-counted text lent) e
    where
      go : {a : Answer} → Counted text a → a ≡ done (n ∷ []) → (length text ≤ longest_text) × (n ≡ length (tokens_of text)) × (checked text ≡ Ok tt)
      go (counted h g) e = (h, cc, g)
      go not-lexed e = absurd (let z : ◌≡◌ {A = ℕ} 0 1 = cc in omega arith)

  -- Its bytes are bytes.
  pub text-bytes : AreBytes text
  text-bytes = good-bytes text counts.2

  -- A text that was lexed is short.
  pub text-short : length text ≤ 65536
  text-short = counts.0

  -- The words of its tokens, all of them.
  pub lexed-tokens : take n (lexed_words text lent) ≡ map word (tokens_of text)
  unfolding lexed_words
  lexed-tokens = rw e (take_at (map word (tokens_of text)) _ n (length-map (tokens_of text) word ∙ sym counts.1))

  pub lexed-length : length (take n (lexed_words text lent)) ≡ n
  lexed-length = ap length lexed-tokens ∙ (length-map (tokens_of text) word ∙ sym counts.1)

  pub tokens-few : n ≤ 65537
  tokens-few = omega (arith, counts.0, counts.1, tokens-count text)

-- ---- how tokens lie

-- Words of tokens from an offset on: each ends where it starts or later, at most at the limit; the last one is Eof, and no other.
pub data Laid (limit : ℕ) : ℕ → List ℕ → Type 0 where
  last_word : {at w : ℕ} → token_kind w ≡ Token.Eof → token_end w ≡ at → at ≤ limit → Laid limit at (w ∷ [])
  next_word : {at w : ℕ} {ws : List ℕ} → eqb (token_kind w) Token.Eof ≡ false → at ≤ token_end w → token_end w ≤ limit → Laid limit (token_end w) ws → Laid limit at (w ∷ ws)

module _ (text : List ℕ) (short : length text ≤ 65536) where
  laid-last : (at : ℕ) → at ≤ length text → length text ≤ at → Laid (length text) at (map word (tokens_from at 0 (drop at text)))
  laid-last at h g = rw (over text at g) (last_word (high-pack 25 Token.Eof at (lit< tt)) (low-pack 25 Token.Eof at (omega arith)) h)

  laid_next : (at : ℕ) (t : LexToken) → t.kind < Token.Eof → Stepped text at t → Laid (length text) t.end (map word (tokens_from t.end 0 (drop t.end text)))
      → Laid (length text) at (map word (tokens_from at 0 (drop at text)))
  laid_next at t k s l =
      let end : token_end (word t) ≡ t.end = low-pack 25 t.kind t.end (omega (arith, s.within)) in
      let kind : token_kind (word t) ≡ t.kind = high-pack 25 t.kind t.end (omega arith) in
      let n : eqb (token_kind (word t)) Token.Eof ≡ false = rw kind (ne_eqb t.kind Token.Eof (λ e. omega arith)) in
      let l' : Laid (length text) (token_end (word t)) (map word (tokens_from t.end 0 (drop t.end text))) = rw end l in
      rw s.tokens (next_word {at = at} n (omega (arith, s.on)) (omega (arith, s.within)) l')

  laid_from : (fuel at : ℕ) → length text ≤ at + fuel → at ≤ length text → Laid (length text) at (map word (tokens_from at 0 (drop at text)))
  laid_from zero at h g = laid-last at g (omega arith)
  laid_from (suc fuel) at h g = go (ltb at (length text)) refl (laid_from fuel)
    where
      go : (b : Bool) → ltb at (length text) ≡ b
          → ((to : ℕ) → length text ≤ to + fuel → to ≤ length text → Laid (length text) to (map word (tokens_from to 0 (drop to text))))
          → Laid (length text) at (map word (tokens_from at 0 (drop at text)))
      go true e ih =
          let t = from at (token_at (drop at text)) in
          let s = stepped text at t (ltb-true at (length text) e) refl in
          laid_next at t (token-low (drop at text)) s (ih t.end (omega (arith, s.on)) s.within)
      go false e ih = laid-last at g (ltb-false at (length text) e)

  all_laid : Laid (length text) 0 (map word (tokens_of text))
  all_laid = go (has_mark text) refl
    where
      go : (b : Bool) → has_mark text ≡ b → Laid (length text) 0 (map word (tokens_of text))
      go true e =
          let end : token_end (word (ended Token.Whitespace 3)) ≡ 3 = low-pack 25 Token.Whitespace 3 (lit< tt) in
          let kind : token_kind (word (ended Token.Whitespace 3)) ≡ Token.Whitespace = high-pack 25 Token.Whitespace 3 (lit< tt) in
          let n : eqb (token_kind (word (ended Token.Whitespace 3))) Token.Eof ≡ false = rw kind (ne_eqb Token.Whitespace Token.Eof (λ e. omega arith)) in
          let l : Laid (length text) (token_end (word (ended Token.Whitespace 3))) (map word (tokens_from 3 0 (drop 3 text))) = rw end (laid_from (length text) 3 (omega arith) (mark-within text e)) in
          rw (behind-mark text e) (next_word {at = 0} n (omega arith) (omega (arith, mark-within text e)) l)
      go false e = rw (unmarked text e) (laid_from (length text) 0 (omega arith) (omega arith))

-- The tokens of a text that was lexed lie so.
pub lexed-laid : (text : List ℕ) (lent n : ℕ) → lexed text lent ≡ done (n ∷ []) → Laid (length text) 0 (take n (lexed_words text lent))
lexed-laid text lent n e = rw (lexed-tokens text lent n e) (all_laid text (text-short text lent n e))

-- There is at least one, Eof is the last one, and no other is.
pub laid-some : {limit at : ℕ} {ws : List ℕ} → Laid limit at ws → 0 < length ws
laid-some (last_word k e h) = omega arith
laid-some (next_word k e h l) = omega arith

pub laid-inner : {limit at : ℕ} {ws : List ℕ} → Laid limit at ws → (i : ℕ) → suc i < length ws → eqb (token_kind (word_at ws i)) Token.Eof ≡ false
laid-inner (last_word k e h) i g = absurd (omega arith)
laid-inner (next_word k e h l) zero g = k
laid-inner (next_word k e h l) (suc i) g = laid-inner l i (omega arith)

pub laid-last-kind : {limit at : ℕ} {ws : List ℕ} → Laid limit at ws → (i : ℕ) → suc i ≡ length ws → token_kind (word_at ws i) ≡ Token.Eof
laid-last-kind (last_word k e h) zero g = k
laid-last-kind (last_word k e h) (suc i) g = absurd (omega arith)
laid-last-kind (next_word k e h l) zero g = absurd (omega (arith, laid-some l))
laid-last-kind (next_word k e h l) (suc i) g = laid-last-kind l i (omega arith)

-- ---- the sum of spellings

covered-few : (text : List ℕ) (start end : ℕ) → length (covered text (span start end)) ≤ end - start
unfolding covered
covered-few text start end = go (leb start end && leb end (length text)) refl
  where
    go : (b : Bool) → (leb start end && leb end (length text)) ≡ b → length (cond b (slice start end text) []) ≤ end - start
    go true e = omega (arith, length-slice start end text (leb-true end (length text) (and_both (leb start end) (leb end (length text)) e).1))
    go false e = omega arith

-- The words `ws` are those of all tokens from number i on.
abbrev From : List ℕ → ℕ → List ℕ → Type 0
From tokens i ws = (j : ℕ) → j < length ws → word_at tokens (i + j) ≡ get_or ws j 0

from-head : (tokens : List ℕ) (i w : ℕ) (ws : List ℕ) → From tokens i (w ∷ ws) → word_at tokens i ≡ w
from-head tokens i w ws h = rw add-zero at (h 0 (omega arith))

from_tail : (tokens : List ℕ) (i w : ℕ) (ws : List ℕ) → From tokens i (w ∷ ws) → From tokens (suc i) ws
from_tail tokens i w ws h j l = let e : suc i + j ≡ i + suc j = omega arith in rw e (h (suc j) (omega arith))

from_all : (tokens : List ℕ) → From tokens 0 tokens
from_all tokens j l = rw (zero-add j) (sym (word-inside tokens j l))

start-next : (tokens : List ℕ) (i : ℕ) → token_start tokens (suc i) ≡ token_end (word_at tokens i)
unfolding token_start
start-next tokens i = refl

start_first : (tokens : List ℕ) → 0 ≡ token_start tokens 0
unfolding token_start
start_first tokens = refl

cost-none : cost [] ≡ 0
unfolding cost
cost-none = refl

module _ (text tokens : List ℕ) where
  cost-head : (i w : ℕ) (xs : List RowToken) (b : Bool) → cost (cond b xs (token w (lexeme text tokens i) ∷ xs)) ≤ suc (length (spelling text tokens i)) + cost xs
  unfolding cost
  cost-head i w xs true = omega arith
  cost-head i w xs false = omega arith

  cost-laid : {limit at : ℕ} {ws : List ℕ} (i : ℕ) → Laid limit at ws → From tokens i ws → at ≡ token_start tokens i → cost (row_from text tokens i ws) + at ≤ length ws + limit
  unfolding row_from
  cost-laid i (last_word {w = w} k e l) h s =
      let z : token_end (word_at tokens i) ≡ token_end w = ap token_end (from-head tokens i w [] h) in
      omega (arith, cost-none, cost-head i (token_kind w) [] (is_blank (token_kind w)), covered-few text (token_start tokens i) (token_end (word_at tokens i)))
  cost-laid i (next_word {w = w} {ws = ws} k g m l) h s =
      let z : token_end (word_at tokens i) ≡ token_end w = ap token_end (from-head tokens i w ws h) in
      let f : token_end w ≡ token_start tokens (suc i) = sym (start-next tokens i ∙ z) in
      omega (arith, cost-laid (suc i) l (from_tail tokens i w ws h) f, cost-head i (token_kind w) (row_from text tokens (suc i) ws) (is_blank (token_kind w)), covered-few text (token_start tokens i) (token_end (word_at tokens i)))

-- What values may take that are made of a row: no more than one word for each token and one for each byte of the text.
pub row-cost : (text tokens : List ℕ) → Laid (length text) 0 tokens → cost (row text tokens) ≤ length tokens + length text
row-cost text tokens l = omega (arith, cost-laid text tokens 0 l (from_all tokens) (start_first tokens))

-- A row has no more tokens than there are words.
pub row-short : (text tokens ws : List ℕ) (i : ℕ) → length (row_from text tokens i ws) ≤ length ws
unfolding row_from
row-short text tokens [] i = omega arith
row-short text tokens (w ∷ ws) i = go (is_blank (token_kind w)) (row-short text tokens ws (suc i))
  where
    go : (b : Bool) → length (row_from text tokens (suc i) ws) ≤ length ws
        → length (cond b (row_from text tokens (suc i) ws) (token (token_kind w) (lexeme text tokens i) ∷ row_from text tokens (suc i) ws)) ≤ suc (length ws)
    go true h = omega arith
    go false h = omega arith

-- ---- the two rows

kind-known : (tokens : List ℕ) (i w : ℕ) (ws : List ℕ) → From tokens i (w ∷ ws) → token_kind (word_at tokens i) ≡ token_kind w
kind-known tokens i w ws h = ap token_kind (from-head tokens i w ws h)

-- A row that begins with no error token.
abbrev Sound : List Seen → Type 0
Sound [] = Unit {0}
Sound (good i k ∷ rest) = Unit {0}
Sound (bad i k ∷ rest) = ⊥
Sound (stray ∷ rest) = ⊥

clean-sound : {xs : List Seen} → Clean xs → Sound xs
clean-sound clean = tt
clean-sound (also c) = tt

-- Where all are read, the abstract run's row stands ahead as the chart's does.
module _ (s : Setting) where
  abbrev Stands : List Seen → Type 0
  Stands xs = Ahead s xs (lexemes s.text s.tokens xs)

  ahead-from : {limit at : ℕ} {ws : List ℕ} (i : ℕ) → Laid limit at ws → From s.tokens i ws → i + length ws ≡ length s.tokens → Clean (seen_from s.tokens i (length ws)) → Stands (seen_from s.tokens i (length ws))
  unfolding seen_from lexemes
  ahead-from i (last_word {w = w} k e l) h q c = unfold is_trivia lex_error in (rw (kind-known s.tokens i w [] h ∙ k) eof-ahead)
  ahead-from i (next_word {w = w} {ws = ws} k g m l) h q c =
      go (token_kind (word_at s.tokens i)) refl (is_trivia (token_kind (word_at s.tokens i))) (lex_error (token_kind (word_at s.tokens i))) refl (rw (kind-known s.tokens i w ws h) k) c
      (ahead-from (suc i) l (from_tail s.tokens i w ws h) (omega arith))
    where
      go : (kind : ℕ) → token_kind (word_at s.tokens i) ≡ kind → (t : Bool) (x : LexError) → lex_error kind ≡ x → eqb kind Token.Eof ≡ false → Clean (seen t x i kind (seen_from s.tokens (suc i) (length ws)))
          → (Clean (seen_from s.tokens (suc i) (length ws)) → Stands (seen_from s.tokens (suc i) (length ws))) → Stands (seen t x i kind (seen_from s.tokens (suc i) (length ws)))
      go kind p true None y n c ih = ih c
      go kind p true (Some error) y n c ih = absurd (clean-sound c)
      go kind p false None y n (also c) ih = rw n (next {i = i} (omega arith) p n y (ih c))
      go kind p false (Some error) y n c ih = absurd (clean-sound c)

  pub rows-ahead : {limit : ℕ} → Laid limit 0 s.tokens → Clean (seen_from s.tokens 0 (length s.tokens)) → Ahead s (seen_from s.tokens 0 (length s.tokens)) (row s.text s.tokens)
  rows-ahead l c = rw (rows_same s.text s.tokens c) (ahead-from 0 l (from_all s.tokens) (omega arith) c)

-- An error token is a part of the chart's row.
error-shows : (k : ℕ) (error : ErrorToken) → lex_error k ≡ Some error → is_blank k ≡ false
unfolding is_blank lex_error
error-shows k error e = go (eqb k Token.Whitespace) (eqb k Token.LineComment) (eqb k Token.BlockComment) (eqb k Token.Eof) refl refl refl refl
  where
    go : (a b c d : Bool) → eqb k Token.Whitespace ≡ a → eqb k Token.LineComment ≡ b → eqb k Token.BlockComment ≡ c → eqb k Token.Eof ≡ d → (a || b || c || d) ≡ false
    go true b c d f g h i = absurd (let z = rw (eqb-true k Token.Whitespace f) at e in let y : ◌≡◌ {A = ℕ} 0 1 = cc in omega arith)
    go false true c d f g h i = absurd (let z = rw (eqb-true k Token.LineComment g) at e in let y : ◌≡◌ {A = ℕ} 0 1 = cc in omega arith)
    go false false true d f g h i = absurd (let z = rw (eqb-true k Token.BlockComment h) at e in let y : ◌≡◌ {A = ℕ} 0 1 = cc in omega arith)
    go false false false true f g h i = absurd (let z = rw (eqb-true k Token.Eof i) at e in let y : ◌≡◌ {A = ℕ} 0 1 = cc in omega arith)
    go false false false false f g h i = refl

module _ (text tokens : List ℕ) where
  clean-from : (ws : List ℕ) (i : ℕ) → From tokens i ws → NoErrors (row_from text tokens i ws) → Clean (seen_from tokens i (length ws))
  unfolding seen_from row_from
  clean-from [] i h c = clean
  clean-from (w ∷ ws) i h c =
      let z : token_kind w ≡ token_kind (word_at tokens i) = sym (kind-known tokens i w ws h) in
      let c' : NoErrors (cond (is_blank (token_kind (word_at tokens i))) (row_from text tokens (suc i) ws) (token (token_kind (word_at tokens i)) (lexeme text tokens i) ∷ row_from text tokens (suc i) ws)) = rw z at c in
      go (token_kind (word_at tokens i)) (is_trivia (token_kind (word_at tokens i))) (lex_error (token_kind (word_at tokens i))) (is_blank (token_kind (word_at tokens i))) refl refl c'
      (clean-from ws (suc i) (from_tail tokens i w ws h))
    where
      go : (k : ℕ) (t : Bool) (x : LexError) (b : Bool) → lex_error k ≡ x → is_blank k ≡ b → NoErrors (cond b (row_from text tokens (suc i) ws) (token k (lexeme text tokens i) ∷ row_from text tokens (suc i) ws))
          → (NoErrors (row_from text tokens (suc i) ws) → Clean (seen_from tokens (suc i) (length ws))) → Clean (seen t x i k (seen_from tokens (suc i) (length ws)))
      go k true None true e f c ih = ih c
      go k true None false e f (no-error-more n c) ih = ih c
      go k false None true e f c ih = also (ih c)
      go k false None false e f (no-error-more n c) ih = also (ih c)
      go k t (Some error) true e f c ih = absurd (true≢false (sym f ∙ error-shows k error e))
      go k t (Some error) false e f (no-error-more n c) ih = absurd (let z : ◌≡◌ {A = ℕ} 0 1 = cc in omega arith)

  -- Where none of the chart's row is an error, all tokens are read.
  pub row-clean : NoErrors (row text tokens) → Clean (seen_from tokens 0 (length tokens))
  row-clean = clean-from tokens 0 (from_all tokens)

-- ---- a row that was passed up to its end

no_end : {i k : ℕ} {rest : List Seen} → AtEnd (good i k ∷ rest) → k ≡ Token.Eof
no_end eof-left = refl

end-sound : {xs : List Seen} → AtEnd xs → Sound xs
end-sound nothing_left = tt
end-sound eof-left = tt

passed-sound : {xs left : List Seen} → Passed xs left → Sound left → Sound xs
passed-sound none_passed h = h
passed-sound (one-passed p) h = tt

module _ (tokens : List ℕ) where
  passed-from : {limit at : ℕ} {ws : List ℕ} {left : List Seen} (i : ℕ) → Laid limit at ws → From tokens i ws → AtEnd left → Passed (seen_from tokens i (length ws)) left → Clean (seen_from tokens i (length ws))
  unfolding seen_from
  passed-from i (last_word {w = w} k e l) h a p = unfold is_trivia lex_error in (rw (kind-known tokens i w [] h ∙ k) (also clean))
  passed-from i (next_word {w = w} {ws = ws} k g m l) h a p =
      go (token_kind (word_at tokens i)) (is_trivia (token_kind (word_at tokens i))) (lex_error (token_kind (word_at tokens i))) (rw (kind-known tokens i w ws h) k) a p
      (passed-from (suc i) l (from_tail tokens i w ws h) a)
    where
      go : {left : List Seen} (kind : ℕ) (t : Bool) (x : LexError) → eqb kind Token.Eof ≡ false → AtEnd left → Passed (seen t x i kind (seen_from tokens (suc i) (length ws))) left
          → (Passed (seen_from tokens (suc i) (length ws)) left → Clean (seen_from tokens (suc i) (length ws))) → Clean (seen t x i kind (seen_from tokens (suc i) (length ws)))
      go kind true None n a p ih = ih p
      go kind true (Some error) n a p ih = absurd (passed-sound p (end-sound a))
      go kind false None n a none_passed ih = absurd (true≢false (sym (eq-eqb kind Token.Eof (no_end a)) ∙ n))
      go kind false None n a (one-passed p) ih = also (ih p)
      go kind false (Some error) n a p ih = absurd (passed-sound p (end-sound a))

  -- A row that was passed up to Eof is read whole.
  pub passed-clean : {limit : ℕ} {left : List Seen} → Laid limit 0 tokens → Passed (seen_from tokens 0 (length tokens)) left → AtEnd left → Clean (seen_from tokens 0 (length tokens))
  passed-clean l p a = passed-from 0 l (from_all tokens) a p

-- ---- all of it, of a text that was lexed

-- The tokens that the parser is given.
abbrev pub given : List ℕ → ℕ → ℕ → List ℕ
given text lent n = take n (lexed_words text lent)

module _ (text : List ℕ) (lent n : ℕ) (e : lexed text lent ≡ done (n ∷ [])) where
  -- Offsets of values fit into payloads.
  pub given-cost : cost (row text (given text lent n)) < 2 ^ 26
  given-cost = omega (arith, row-cost text (given text lent n) (lexed-laid text lent n e), lexed-length text lent n e, tokens-few text lent n e, text-short text lent n e)

  -- No token is past the last number.
  pub given-limit : token_limit (given text lent n) ≡ length (given text lent n)
  unfolding token_limit
  given-limit = omega (arith, lexed-length text lent n e, tokens-few text lent n e)

  -- Where all are read, both rows stand ahead alike.
  pub given-ahead : (end bound : ℕ) (readers : ReadersA) (rows : Readers) → Clean (seen_from (given text lent n) 0 (length (given text lent n)))
      → Ahead (record { text = text; tokens = given text lent n; end = end; bound = bound; readers = readers; rows = rows }) (seen_from (given text lent n) 0 (length (given text lent n))) (row text (given text lent n))
  given-ahead end bound readers rows = rows-ahead (record { text = text; tokens = given text lent n; end = end; bound = bound; readers = readers; rows = rows }) (lexed-laid text lent n e)

  -- All are read where the row was passed up to its end.
  pub given-clean : {left : List Seen} → Passed (seen_from (given text lent n) 0 (token_limit (given text lent n))) left → AtEnd left → Clean (seen_from (given text lent n) 0 (length (given text lent n)))
  given-clean p a = passed-clean (given text lent n) (lexed-laid text lent n e) (rw given-limit at p) a
