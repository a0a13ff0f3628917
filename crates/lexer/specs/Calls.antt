-- Laws of what the public calls answer and leave, by case.
use Rattle.std.specs.Prelude.{◌≡◌, refl, Bool, true, false, cond, ℕ, zero, suc, ◌+◌, ◌-◌, ◌≤◌, ◌<◌, ltb, length, get_or, take, drop, replicate}
use Rattle.std.proofs.Common.{sym, ◌∙◌, ap, arith, sub-one, take_at}
use mathlib.Core.List.{List, [], ◌∷◌, ◌++◌, map}
use borrow.Author.Tests.{ltb-false, lt-ltb, le-ltb, le-leb, lt-leb}
use Rattle.std.proofs.lemmas.List.{length-map}
use Rattle.std.proofs.lemmas.List.Edits.{sets, sets-eq}
use Rattle.std.proofs.Math.Seq.{length-sets}
use Rattle.std.specs.Prelude.{Ok, Err}
use Rattle.std.specs.Result.{result_unwrap_or}
use Rattle.words.specs.Refusal
use Rattle.words.specs.Refusal.{number}
use Rattle.words.specs.declared.refusal.Refused.{Refused}
use Rattle.words.specs.Answer.{Answer, done, refused}
use Rattle.words.specs.Words.{token_end}
use Rattle.utf8.specs.Utf8.{Checked, checked}
use Rattle.utf8.specs.Laws.{bad-offset}
use Rattle.utf8.specs.declared.NotUtf8.{NotUtf8}
use Rattle.scan.specs.Lexer.{longest_text, tokens_of, word}
use Rattle.lexer.specs.Lex.{Lexed, answer, not_utf8, lexed, lexed_words, start_of, covers, spelling_of, spelling_start, Begins}
use Rattle.lexer.specs.Walk.{cleared, tokens-count}

pub cleared-all : (ws : List ℕ) → cleared ws 0 ≡ replicate (length ws) 0
cleared-all ws = let e : length ws - 0 ≡ length ws = omega arith in ap (λ (n : ℕ). replicate n 0) e

-- Words stored from the front, and 0 behind them.
stored : (vs ws : List ℕ) (n : ℕ) → length vs ≡ n → n ≤ length ws → cleared (sets ws 0 vs) n ≡ vs ++ replicate (length ws - n) 0
stored vs ws n e h =
    let f : 0 + length vs ≤ length ws = omega arith in
    let s = sets-eq vs ws 0 f in
    ap (λ (k : ℕ). take n (sets ws 0 vs) ++ replicate (k - n) 0) (length-sets ws 0 vs)
    ∙ ap (λ (x : List ℕ). x ++ replicate (length ws - n) 0) (ap (take n) s ∙ take_at vs _ n e)

-- A refusal leaves 0 in every word.
pub refused-words : (text : List ℕ) (lent number place : ℕ) → lexed text lent ≡ refused number place → lexed_words text lent ≡ replicate lent 0
unfolding lexed_words
refused-words text lent number place e = rw e

done-words : (text : List ℕ) (lent : ℕ) (counts : List ℕ) → lexed text lent ≡ done counts
    → lexed_words text lent ≡ map word (tokens_of text) ++ replicate (lent - length (map word (tokens_of text))) 0
unfolding lexed_words
done-words text lent counts e = rw e

-- What is counted, before the rest is cleared.
pub record Counted (text lent out : List ℕ) (r : Lexed) : Type 0 where
  pub answered : answer r ≡ lexed text (length lent)
  pub words : (n : ℕ) → r ≡ Ok n → (length (tokens_of text) ≡ n) × (n ≤ length lent) × (out ≡ sets lent 0 (map word (tokens_of text)))

module _ (text ws out : List ℕ) where
  abbrev lent : ℕ
  lent = length ws

  refusal : (r : Refused) → refused (number r.refusal) r.place ≡ lexed text lent → Counted text ws out (Err r)
  refusal r e = record { answered = e; words = λ n f. absurd (let z : ◌≡◌ {A = ℕ} 0 1 = cc in omega arith) }

  pub too_long : (r : Refused) → longest_text < length text → ((number r.refusal) ≡ Refusal.TooLong) × (r.place ≡ longest_text) → Counted text ws out (Err r)
  unfolding lexed
  too_long r h (en, ep) = refusal r (rw (lt-ltb longest_text (length text) h, en, ep))

  module _ (h : length text ≤ longest_text) where
    pub not-utf8 : (e : NotUtf8) (r : Refused) → checked text ≡ Err e → ((number r.refusal) ≡ not_utf8 e.way) × (r.place ≡ e.at) → Counted text ws out (Err r)
    unfolding lexed
    not-utf8 e r g (en, ep) = refusal r (rw (le-ltb longest_text (length text) h, g, en, ep))

    module _ (g : checked text ≡ Ok tt) (n : ℕ) (en : n ≡ length (tokens_of text)) where
      pub no_room : (r : Refused) → lent < n → ((number r.refusal) ≡ Refusal.TokensDontFit) × (r.place ≡ n) → Counted text ws out (Err r)
      unfolding lexed
      no_room r f (er, ep) = refusal r (rw (le-ltb longest_text (length text) h, g, lt-ltb lent (length (tokens_of text)) (omega arith), er, ep, en))

      pub room : n ≤ lent → out ≡ sets ws 0 (map word (tokens_of text)) → Counted text ws out (Ok n)
      unfolding lexed
      room f o =
          record {
            answered = rw (le-ltb longest_text (length text) h, g, ← en, le-ltb lent n f);
            words = λ m e. let k : n ≡ m = cc in (sym en ∙ k, omega arith, o);
          }

-- The words that are left once the rest is cleared.
pub left-words : (text ws ws' : List ℕ) (r : Lexed) → length ws' ≡ length ws → Counted text ws ws' r → cleared ws' (result_unwrap_or r 0) ≡ lexed_words text (length ws)
left-words text ws ws' (Err r) k c =
    cleared-all ws' ∙ (ap (λ (n : ℕ). replicate n 0) k ∙ sym (refused-words text (length ws) (number r.refusal) r.place (sym c.answered)))
left-words text ws ws' (Ok n) k c =
    let (e, f, o) = c.words n refl in
    let vs = map word (tokens_of text) in
    let l : length vs ≡ n = length-map (tokens_of text) word ∙ e in
    ap (λ (x : List ℕ). cleared x n) o ∙ (stored vs ws n l f
    ∙ (ap (λ (j : ℕ). vs ++ replicate (length ws - j) 0) (sym l) ∙ sym (done-words text (length ws) (n ∷ []) (sym c.answered))))

-- Whether a token covers a part of the text, by the tests in turn.
module _ (text tokens : List ℕ) (n : ℕ) where
  pub past_words : length tokens ≤ n → covers text tokens n ≡ false
  unfolding covers
  past_words h = rw (le-ltb n (length tokens) h)

  module _ (h : n < length tokens) (start end : ℕ) (es : start ≡ start_of tokens n) (ee : end ≡ token_end (get_or tokens n 0)) where
    pub falling : end < start → covers text tokens n ≡ false
    unfolding covers
    falling g = rw (lt-ltb n (length tokens) h, ← es, ← ee, lt-leb start end g)

    module _ (f : start ≤ end) where
      pub past-text : length text < end → covers text tokens n ≡ false
      unfolding covers
      past-text g = rw (lt-ltb n (length tokens) h, ← es, ← ee, le-leb start end f, lt-leb end (length text) g)

      -- The part of a token, and where it begins.
      pub covered : end ≤ length text → (part whole : ℕ × ℕ) → Begins part whole start
          → (take (end - start) (drop start text) ≡ spelling_of text tokens n) × Begins part whole (spelling_start text tokens n)
      unfolding covers spelling_of spelling_start
      covered g part whole b =
          rw (lt-ltb n (length tokens) h, ← es, ← ee, le-leb start end f, le-leb end (length text) g) (refl, b)

  -- The empty part, and where it begins.
  pub empty : covers text tokens n ≡ false → (bytes : List ℕ) → length bytes ≡ 0 → (part whole : ℕ × ℕ) → Begins part whole 0
      → (bytes ≡ spelling_of text tokens n) × Begins part whole (spelling_start text tokens n)
  unfolding spelling_of spelling_start
  empty h [] e part whole b = rw h (refl, b)
  empty h (x ∷ bytes) e part whole b = absurd (omega arith)

pub start-next : (tokens : List ℕ) (n : ℕ) → (n ≡ 0 → ⊥) → token_end (get_or tokens (n - 1) 0) ≡ start_of tokens n
start-next tokens zero h = absurd (h refl)
start-next tokens (suc n) h = rw sub-one

-- Whatever lexing answers, its values are small.
data Small : Answer → Type 0 where
  counted : {n : ℕ} → n ≤ 65537 → Small (done (n ∷ []))
  placed : {number place : ℕ} → place ≤ 65537 → Small (refused number place)

lexed-small : (text : List ℕ) (lent : ℕ) → Small (lexed text lent)
unfolding lexed
lexed-small text lent = long (ltb longest_text (length text)) refl
  where
    fit : (t : Bool) → length text ≤ longest_text
        → Small (cond t (refused Refusal.TokensDontFit (length (tokens_of text))) (done (length (tokens_of text) ∷ [])))
    fit true h = let f = tokens-count text in placed {place = length (tokens_of text)} (omega arith)
    fit false h = let f = tokens-count text in counted {n = length (tokens_of text)} (omega arith)

    good : (c : Checked) → checked text ≡ c → length text ≤ longest_text
        → Small (elim c [ Err e ↦ refused (not_utf8 e.way) e.at | Ok u ↦ cond (ltb lent (length (tokens_of text))) (refused Refusal.TokensDontFit (length (tokens_of text))) (done (length (tokens_of text) ∷ [])) ])
    good (Ok u) e h = fit (ltb lent (length (tokens_of text))) h
    good (Err r) e h = let f = bad-offset text r e in placed {place = r.at} (omega arith)

    long : (t : Bool) → ltb longest_text (length text) ≡ t
        → Small (cond t (refused Refusal.TooLong longest_text) (elim (checked text) [ Err e ↦ refused (not_utf8 e.way) e.at | Ok u ↦ cond (ltb lent (length (tokens_of text))) (refused Refusal.TokensDontFit (length (tokens_of text))) (done (length (tokens_of text) ∷ [])) ]))
    long true e = placed {place = longest_text} (omega arith)
    long false e = good (checked text) refl (ltb-false longest_text (length text) e)

pub place-small : (text : List ℕ) (lent number place : ℕ) → refused number place ≡ lexed text lent → place ≤ 65537
place-small text lent number place e = go (lexed-small text lent) e
  where
    go : {a : Answer} → Small a → refused number place ≡ a → place ≤ 65537
    go (counted h) e = let z : ◌≡◌ {A = ℕ} 0 1 = cc in omega arith
    go (placed {place = p} h) e = let f : place ≡ p = cc in omega arith
