-- A token's spelling, as crate lexer gives it and as crate literals defines it.
use Rattle.std.specs.Prelude.{◌≡◌, refl, Bool, true, false, cond, ◌&&◌, List, [], ◌∷◌, ℕ, zero, suc, ◌+◌, ◌-◌, ◌≤◌, ◌<◌, ltb, leb, length, get_or, take, drop}
use Rattle.std.proofs.Common.{sym, ◌∙◌, ap, arith, ltb-true, ltb-false, leb-true, take-add, drop_at, length-take-le}
use Rattle.std.proofs.Math.Dec.{leb-zero}
use Rattle.std.proofs.Math.ListN.{get_or-eq_default}
use Rattle.std.proofs.Math.Seq.{slice, slice_empty}
use Rattle.words.specs.Token
use Rattle.words.specs.Words.{token_word, token_end, pack, low}
use Rattle.lexer.specs.Lex.{start_of, covers, spelling_of}
use Rattle.literals.specs.Spelling.{span, word_at, token_start, covered, spelling}

-- Which word stands past the last one doesn't matter before it.
pub within : (ws : List ℕ) (n a b : ℕ) → n < length ws → get_or ws n a ≡ get_or ws n b
within [] n a b h = absurd (omega arith)
within (w ∷ ws) zero a b h = refl
within (w ∷ ws) (suc n) a b h = within ws n a b (omega arith)

pub start-same : (tokens : List ℕ) (n : ℕ) → n < length tokens → start_of tokens n ≡ token_start tokens n
unfolding token_start
start-same tokens zero h = refl
start-same tokens (suc n) h = ap token_end (within tokens n 0 (token_word Token.Eof 0) (omega arith))

-- Nothing ends at 0.
covered_none : (text : List ℕ) (start : ℕ) → covered text (span start 0) ≡ []
unfolding covered
covered_none text start = go (leb start 0) refl
  where
    go : (t : Bool) → leb start 0 ≡ t → cond (t && leb 0 (length text)) (slice start 0 text) [] ≡ []
    go false e = refl
    go true e =
        let z : start ≡ 0 = omega (arith, leb-true start 0 e) in
        rw (leb-zero (length text), z) (slice_empty 0 text)

pub last_end : token_end (token_word Token.Eof 0) ≡ 0
unfolding pack low
last_end = refl

spelled-past : (text tokens : List ℕ) (n : ℕ) → length tokens ≤ n → spelling text tokens n ≡ []
spelled-past text tokens n h = rw (get_or-eq_default tokens (token_word Token.Eof 0) {n = n} h, last_end) (covered_none text (token_start tokens n))

part_same : (text : List ℕ) (f t : ℕ) → f ≤ t → t ≤ length text → take (t - f) (drop f text) ≡ slice f t text
part_same text f t h g =
    let e : t ≡ f + (t - f) = omega arith in
    sym (ap (λ (n : ℕ). drop f (take n text)) e ∙ (ap (drop f) (take-add f (t - f) text) ∙ drop_at (take f text) (take (t - f) (drop f text)) f (length-take-le f text (omega arith))))

covered_same : (text : List ℕ) (f t : ℕ) → cond (leb f t && leb t (length text)) (take (t - f) (drop f text)) [] ≡ covered text (span f t)
unfolding covered
covered_same text f t = go (leb f t) (leb t (length text)) refl refl
  where
    go : (a b : Bool) → leb f t ≡ a → leb t (length text) ≡ b → cond (a && b) (take (t - f) (drop f text)) [] ≡ cond (a && b) (slice f t text) []
    go true true h g = part_same text f t (leb-true f t h) (leb-true t (length text) g)
    go true false h g = refl
    go false b h g = refl

pub spelled : (text tokens : List ℕ) (n : ℕ) → spelling_of text tokens n ≡ spelling text tokens n
unfolding spelling_of covers
spelled text tokens n = go (ltb n (length tokens)) refl
  where
    go : (t : Bool) → ltb n (length tokens) ≡ t → spelling_of text tokens n ≡ spelling text tokens n
    go true e =
        let h = ltb-true n (length tokens) e in
        rw (e, start-same tokens n h, within tokens n 0 (token_word Token.Eof 0) h) (covered_same text (token_start tokens n) (token_end (word_at tokens n)))
    go false e = rw e (sym (spelled-past text tokens n (ltb-false n (length tokens) e)))
