-- Laws of the tokens of a text, read from an offset on, and of the words that lexing leaves.
use Rattle.std.specs.Prelude.{◌≡◌, refl, Bool, true, false, cond, ℕ, zero, suc, pred, ◌+◌, ◌-◌, ◌*◌, ◌≤◌, ◌<◌, length, get_or, take, drop, set, replicate}
use Rattle.std.proofs.Common.{sym, ◌∙◌, ap, add-zero, add-one, arith, drop_of_length-le, length-drop, length-set, drop-drop, take_all, take-suc-set}
use mathlib.Core.List.{List, [], ◌∷◌, ◌++◌, map, append-nil, append_assoc}
use Rattle.std.proofs.Math.Seq.{drop-nil}
use Rattle.std.proofs.lemmas.List.Edits.{sets}
use Rattle.words.specs.Token as TokenKind
use Rattle.scan.specs.declared.Token.{Token}
use Rattle.scan.specs.Lexer.{from, token_at, tokens_from, has_mark, tokens_of, word}
use Rattle.scan.specs.Marked.{unmarked, behind-mark, mark-within}
use Rattle.scan.specs.Laws.{ended, rest-cons}
use Rattle.scan.specs.Fits.{token-fits}

-- The tokens from an offset on.
abbrev pub rest : List ℕ → ℕ → List Token
rest text at = tokens_from at 0 (drop at text)

skip : (s : List ℕ) (at k : ℕ) → k ≤ length s → tokens_from at k s ≡ tokens_from (at + k) 0 (drop k s)
unfolding tokens_from
skip [] at k h =
    let e : at ≡ at + k = omega arith in
    rw (drop-nil k) (ap (λ (x : ℕ). ended TokenKind.Eof x ∷ []) e)
skip (b ∷ s) at zero h = ap (λ (x : ℕ). tokens_from x 0 (b ∷ s)) (sym (add-zero at))
skip (b ∷ s) at (suc k) h =
    let e : suc at + k ≡ at + suc k = omega arith in
    skip s (suc at) k (omega arith) ∙ ap (λ (x : ℕ). tokens_from x 0 (drop k s)) e

-- The token at an offset inside the text: it takes some bytes and ends inside the text, and the other tokens begin there.
pub record Stepped (text : List ℕ) (at : ℕ) (t : Token) : Type 0 where
  pub on : at < t.end
  pub within : t.end ≤ length text
  pub tokens : tokens_from at 0 (drop at text) ≡ t ∷ tokens_from t.end 0 (drop t.end text)

-- the tokens behind a token of suc k bytes
behind : (text : List ℕ) (at b : ℕ) (s : List ℕ) (n : ℕ) → drop at text ≡ b ∷ s → 1 ≤ n → n ≤ suc (length s)
    → tokens_from (suc at) (pred n) s ≡ tokens_from (at + n) 0 (drop (at + n) text)
behind text at b s zero d h g = absurd (omega arith)
behind text at b s (suc k) d h g =
    let e : suc at + k ≡ at + suc k = omega arith in
    let z : drop k s ≡ drop (at + suc k) text = ap (drop (suc k)) (sym d) ∙ drop-drop (suc k) at text in
    skip s (suc at) k (omega arith)
    ∙ (ap (λ (x : ℕ). tokens_from x 0 (drop k s)) e ∙ ap (λ (x : List ℕ). tokens_from (at + suc k) 0 x) z)

pub stepped : (text : List ℕ) (at : ℕ) (t : Token) → at < length text → t ≡ from at (token_at (drop at text)) → Stepped text at t
stepped text at t h e = rw (e, rest-cons text at h) (go (get_or text at 0) (drop (at + 1) text) (rest-cons text at h))
  where
    go : (b : ℕ) (s : List ℕ) → drop at text ≡ b ∷ s → Stepped text at (from at (token_at (b ∷ s)))
    go b s d =
        let f = token-fits b s in
        let l : suc (length s) ≡ length text - at = ap length (sym d) ∙ length-drop at text in
        record {
          on = omega (arith, f.some);
          within = omega (arith, f.within);
          tokens = ap (tokens_from at 0) d ∙ (unfold tokens_from in
              (ap (λ (x : List Token). from at (token_at (b ∷ s)) ∷ x) (behind text at b s (token_at (b ∷ s)).len d f.some f.within)));
        }

pub over : (text : List ℕ) (at : ℕ) → length text ≤ at → tokens_from at 0 (drop at text) ≡ ended TokenKind.Eof at ∷ []
unfolding tokens_from
over text at h = rw (drop_of_length-le text h)

-- The words up to `i` and 0 from there on.
abbrev pub cleared : List ℕ → ℕ → List ℕ
cleared ws i = take i ws ++ replicate (length ws - i) 0

pub cleared-over : (ws : List ℕ) (i : ℕ) (t : List ℕ) → length ws ≤ i → cleared ws i ≡ t → ws ≡ t
cleared-over ws i t h p =
    let e : length ws - i ≡ 0 = omega arith in
    sym (append-nil ws) ∙ (rw (take_all i ws h, e) at p)

pub cleared-next : (ws : List ℕ) (i : ℕ) (t : List ℕ) → i < length ws → cleared ws i ≡ t → cleared (set ws i 0) (i + 1) ≡ t
cleared-next ws i t h p =
    let e : length ws - i ≡ suc (length ws - (i + 1)) = omega arith in
    rw (add-one i, take-suc-set ws i 0 h, length-set) (append_assoc (take i ws) (0 ∷ []) _ ∙ (rw (e, add-one i) at p))

-- A function tells the tokens of a text: at each offset inside it may be called, and gives the token there.
pub record Tells (text : List ℕ) (pre : ℕ → Type 0) (post : ℕ → Token → Type 0) : Type 0 where
  pub callable : (at : ℕ) → at < length text → pre at
  pub right : (at : ℕ) (t : Token) → at < length text → post at t → t ≡ from at (token_at (drop at text))

-- Filling: the tokens from `at` on, put from the n-th word on, make of the words what those from `start` on make of the lent ones, from the word
-- `first` on.
pub record Filling (text lent : List ℕ) (start first : ℕ) (ws : List ℕ) (at n : ℕ) : Type 0 where
  pub within : at ≤ length text
  pub few : n ≤ at
  pub count : n + length (rest text at) ≡ first + length (rest text start)
  pub words : sets ws n (map word (rest text at)) ≡ sets lent first (map word (rest text start))
  pub kept : length ws ≡ length lent

pub filling-first : (text lent : List ℕ) (start first : ℕ) → start ≤ length text → first ≤ start → Filling text lent start first lent start first
filling-first text lent start first h g = record { within = h; few = g; count = refl; words = refl; kept = refl }

module _ (text lent : List ℕ) (start first : ℕ) (ws : List ℕ) (at n : ℕ) (f : Filling text lent start first ws at n) where
  pub filling-next : (t : Token) (w : ℕ) (ws' : List ℕ) → at < length text → t ≡ from at (token_at (drop at text)) → w ≡ word t → ws' ≡ set ws n w
      → Filling text lent start first ws' t.end (n + 1)
  filling-next t w ws' h et ew es =
      let s = stepped text at t h et in
      record {
        within = s.within;
        few = omega (arith, f.few, s.on);
        count = let c = rw s.tokens at f.count in omega arith;
        words = rw (es, ew, add-one n) (rw s.tokens at f.words);
        kept = rw es (length-set ws n w ∙ f.kept);
      }

  pub filling-last : (w : ℕ) (ws' : List ℕ) → length text ≤ at → w ≡ word (ended TokenKind.Eof at) → ws' ≡ set ws n w
      → (n + 1 ≡ first + length (rest text start)) × (ws' ≡ sets lent first (map word (rest text start)))
  filling-last w ws' h ew es = (rw (over text at h) at f.count, es ∙ (rw ew (rw (over text at h) at f.words)))

-- A text has at most one token for each byte, and Eof.
tokens-few : (s : List ℕ) (at k : ℕ) → length (tokens_from at k s) ≤ suc (length s)
unfolding tokens_from
tokens-few [] at k = omega arith
tokens-few (b ∷ s) at zero = let h = tokens-few s (suc at) (pred (token_at (b ∷ s)).len) in omega arith
tokens-few (b ∷ s) at (suc k) = let h = tokens-few s (suc at) k in omega arith

pub tokens-count : (text : List ℕ) → length (tokens_of text) ≤ suc (length text)
tokens-count text = go (has_mark text) refl
  where
    go : (t : Bool) → has_mark text ≡ t → length (tokens_of text) ≤ suc (length text)
    go true e = rw (behind-mark text e) (omega (arith, tokens-few (drop 3 text) 3 0, length-drop 3 text, mark-within text e))
    go false e = rw (unmarked text e) (tokens-few text 0 0)

-- A byte order mark in front as a token, if there is one; the others begin behind it.
unfoldable pub marks : List ℕ → List Token
marks text = cond (has_mark text) (ended TokenKind.Whitespace 3 ∷ []) []

module _ (text lent : List ℕ) where
  pub one-mark : has_mark text ≡ true → (w : ℕ) (ws : List ℕ) → w ≡ word (ended TokenKind.Whitespace 3) → ws ≡ set lent 0 w → (1 ≡ length (marks text)) × (ws ≡ sets lent 0 (map word (marks text)))
  unfolding marks
  one-mark e w ws ew es = rw e (refl, es ∙ rw ew)

  pub no-marks : has_mark text ≡ false → (0 ≡ length (marks text)) × (lent ≡ sets lent 0 (map word (marks text)))
  unfolding marks
  no-marks e = rw e (refl, refl)

pub mark-inside : (text : List ℕ) (first : ℕ) → first ≡ length (marks text) → 3 * first ≤ length text
unfolding marks
mark-inside text first h = go (has_mark text) refl
  where
    go : (t : Bool) → has_mark text ≡ t → 3 * first ≤ length text
    go true e = let k : first ≡ 1 = rw e at h in omega (arith, mark-within text e)
    go false e = let k : first ≡ 0 = rw e at h in omega arith

-- The whole: the mark's word, where there is one, and those of the tokens behind it.
pub filled : (text lent ws out : List ℕ) (first n : ℕ) → (first ≡ length (marks text)) × (ws ≡ sets lent 0 (map word (marks text)))
    → (n ≡ first + length (rest text (3 * first))) × (out ≡ sets ws first (map word (rest text (3 * first))))
    → (n ≡ length (tokens_of text)) × (out ≡ sets lent 0 (map word (tokens_of text)))
unfolding marks
filled text lent ws out first n (ef, ew) (en, eo) = go (has_mark text) refl
  where
    go : (t : Bool) → has_mark text ≡ t → (n ≡ length (tokens_of text)) × (out ≡ sets lent 0 (map word (tokens_of text)))
    go true e =
        let k : first ≡ 1 = rw e at ef in
        let l : ws ≡ set lent 0 (word (ended TokenKind.Whitespace 3)) = rw e at ew in
        let m : n ≡ 1 + length (rest text 3) = rw k at en in
        let o : out ≡ sets ws 1 (map word (rest text 3)) = rw k at eo in
        rw (behind-mark text e) (omega (arith, m), o ∙ rw l)
    go false e =
        let k : first ≡ 0 = rw e at ef in
        let l : ws ≡ lent = rw e at ew in
        let m : n ≡ 0 + length (rest text 0) = rw k at en in
        let o : out ≡ sets ws 0 (map word (rest text 0)) = rw k at eo in
        rw (unmarked text e) (omega (arith, m), o ∙ rw l)
