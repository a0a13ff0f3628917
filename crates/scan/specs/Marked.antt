-- Laws of a text with a byte order mark in front, and of one without (01, W4).
use Rattle.std.specs.Prelude.{◌≡◌, refl, List, [], ◌∷◌, ◌++◌, map, Bool, true, false, ◌&&◌, ℕ, zero, suc, pred, ◌+◌, ◌≤◌, eqb, length, get_or, drop}
use Rattle.std.proofs.Common.{sym, ap, arith, eq-eqb, ne_eqb, eqb-true}
use Rattle.std.proofs.lemmas.Bool.{eqb-false}
use Rattle.words.specs.Token as TokenKind
use Rattle.scan.specs.declared.Token.{Token}
use Rattle.utf8.specs.Utf8.{has, follow, sequence_by, table, lead_bits, joined, code_point, character_at}
use Rattle.scan.specs.Bytes.{digit, upper, lower, ident_start, ident_part, blank, is_digit}
use Rattle.scan.specs.Lexer.{lexeme, from, longest, rules, punctuation, keywords, others, matched, classed, run, invalid_char, spelled, token_at, tokens_from, mark, has_mark, tokens_of}
use Rattle.scan.specs.Longest.{and-true}
use Rattle.scan.specs.Fits.{spelled-within}
use Rattle.scan.specs.Laws.{ended}

-- Without a mark the tokens are those from the text's start on.
pub unmarked : (text : List ℕ) → has_mark text ≡ false → tokens_of text ≡ tokens_from 0 0 text
unfolding tokens_of
unmarked text e = rw e

-- With one they are the mark and those from behind it on.
pub behind-mark : (text : List ℕ) → has_mark text ≡ true → tokens_of text ≡ ended TokenKind.Whitespace 3 ∷ tokens_from 3 0 (drop 3 text)
unfolding tokens_of
behind-mark text e = rw e

eqb_swap : (m n : ℕ) → eqb m n ≡ eqb n m
eqb_swap m n = go (eqb m n) refl
  where
    go : (t : Bool) → eqb m n ≡ t → t ≡ eqb n m
    go true e = sym (eq-eqb n m (sym (eqb-true m n e)))
    go false e = sym (ne_eqb n m (λ h. eqb-false m n e (sym h)))

-- The mark by its bytes: past the text there is 0, which none of them is.
pub mark-bytes : (text : List ℕ) → has_mark text ≡ (eqb 0xEF (get_or text 0 0) && (eqb 0xBB (get_or text 1 0) && eqb 0xBF (get_or text 2 0)))
unfolding has_mark spelled
mark-bytes [] = refl
mark-bytes (a ∷ []) = refl
mark-bytes (a ∷ b ∷ []) = refl
mark-bytes (a ∷ b ∷ c ∷ s) = rw (and-true (eqb 0xBF c))

-- The test in code, which holds the three bytes in `a`, `b` and `c`.
module _ (text : List ℕ) (a : ℕ) (first : a ≡ get_or text 0 0) where
  pub no-mark : (a ≡ 0xEF → ⊥) → false ≡ has_mark text
  no-mark h = rw (mark-bytes text, ← first, ne_eqb 0xEF a (λ e. h (sym e)))

  module _ (b : ℕ) (second : b ≡ get_or text 1 0) (ea : a ≡ 0xEF) where
    pub no-mark-either : (b ≡ 0xBB → ⊥) → false ≡ has_mark text
    no-mark-either h = rw (mark-bytes text, ← first, ← second, eq-eqb 0xEF a (sym ea), ne_eqb 0xBB b (λ e. h (sym e)))

    pub mark-or-not : (c : ℕ) → c ≡ get_or text 2 0 → b ≡ 0xBB → eqb c 0xBF ≡ has_mark text
    mark-or-not c third eb = rw (mark-bytes text, ← first, ← second, ← third, eq-eqb 0xEF a (sym ea), eq-eqb 0xBB b (sym eb)) (eqb_swap c 0xBF)

pub mark-within : (text : List ℕ) → has_mark text ≡ true → 3 ≤ length text
unfolding has_mark
mark-within text e = spelled-within mark text e

-- A token that ends so many bytes later.
abbrev pub moved : ℕ → Token → Token
moved n t = ended t.kind (t.end + n)

-- Tokens read from a later offset on, of the same rest of a text, end as much later.
pub tokens-moved : (n : ℕ) (s : List ℕ) (at skip : ℕ) → tokens_from (at + n) skip s ≡ map (moved n) (tokens_from at skip s)
unfolding tokens_from
tokens-moved n [] at skip = refl
tokens-moved n (b ∷ s) at zero =
    let l = token_at (b ∷ s) in
    let e : at + n + l.len ≡ at + l.len + n = omega arith in
    let f : suc (at + n) ≡ suc at + n = omega arith in
    rw (e, f) (ap (λ (ts : List Token). moved n (from at l) ∷ ts) (tokens-moved n s (suc at) (pred l.len)))
tokens-moved n (b ∷ s) at (suc skip) =
    let f : suc (at + n) ≡ suc at + n = omega arith in
    rw f (tokens-moved n s (suc at) skip)

-- The tokens of a text behind a mark: those of the text by itself, three bytes later.
pub marked : (t : List ℕ) → tokens_of (mark ++ t) ≡ ended TokenKind.Whitespace 3 ∷ map (moved 3) (tokens_from 0 0 t)
unfolding tokens_of has_mark spelled
marked t = ap (λ (ts : List Token). ended TokenKind.Whitespace 3 ∷ ts) (tokens-moved 3 t 0 0)

-- "elsewhere it is read as before" (01, W4): a token that begins with it is an invalid character of three bytes.
pub elsewhere : (t : List ℕ) → token_at (mark ++ t) ≡ lexeme TokenKind.InvalidCharError 3
unfolding token_at longest rules punctuation keywords others matched spelled classed run ident_start ident_part blank digit upper lower is_digit invalid_char has follow sequence_by table lead_bits joined code_point character_at
elsewhere t = refl
