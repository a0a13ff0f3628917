-- The definition's row of tokens and the chart's: where no error token is among them, they are the same tokens.
use Rattle.std.specs.Prelude.{◌≡◌, Bool, ◌||◌, eqb, length, get_or}
use Rattle.std.proofs.Math.Path.{refl}
use Rattle.std.proofs.Common.{sym, zero-add}
use Rattle.std.proofs.Math.Bool.{true, false, cond}
use mathlib.Core.List.{List, [], ◌∷◌}
use Prim.Native.Nat.{ℕ, suc, ◌+◌, ◌<◌}
use native.Mathlib.Omega.{arith}
use Rattle.std.proofs.Math.Nat.{add-zero}
use Rattle.words.specs.Token
use Rattle.words.specs.Token.{is_trivia, lex_error, LexError}
use Rattle.words.specs.declared.error_token.ErrorToken.TheVariants as Case
use Rattle.std.specs.Prelude.{Some, None}
use Rattle.words.specs.Words.{token_kind}
use Rattle.literals.specs.Spelling.{word_at, spelling}
use Rattle.definition.specs.Quiet.{word-inside}
use Rattle.definition.specs.Abstract.{Seen, good, bad, stray, seen}
use Rattle.definition.specs.Abstract.{row_from as seen_from}
use Rattle.chart.specs.Row.{Lexeme, RowToken, token, is_blank, row_from, row}

-- All tokens of a row are read: none is an error.
pub data Clean : List Seen → Type 0 where
  clean : Clean []
  also : {i k : ℕ} {row : List Seen} → Clean row → Clean (good i k ∷ row)

abbrev NoError : List Seen → Type 0
NoError [] = Unit {0}
NoError (good i k ∷ row) = Unit {0}
NoError (bad i k ∷ row) = ⊥
NoError (stray ∷ row) = ⊥

no-error : {row : List Seen} → Clean row → NoError row
no-error clean = tt
no-error (also c) = tt

-- What is trivia and no error is no part of a row; what is no trivia is a part, but Eof.
trivia-blank : (k : ℕ) → is_trivia k ≡ true → lex_error k ≡ None → is_blank k ≡ true
unfolding is_trivia lex_error is_blank
trivia-blank k = go (eqb k Token.Whitespace) (eqb k Token.LineComment) (eqb k Token.BlockComment) (eqb k Token.InvalidCharError) (eqb k Token.MalformedIdentError) (eqb k Token.UnclosedBlockCommentError) (eqb k Token.AtWithoutIdentError) (eqb k Token.MultilineStringError) (eqb k Token.UnclosedStringError) (eqb k Token.Eof)
  where
    go : (a b c d e f g h i j : Bool) → (a || b || c || d || e || f || g) ≡ true
        → cond d (Some Case.InvalidChar) (cond e (Some Case.MalformedIdent) (cond h (Some Case.MultilineString) (cond f (Some Case.UnclosedBlockComment) (cond i (Some Case.UnclosedString) (cond g (Some Case.AtWithoutIdent) None))))) ≡ None
        → (a || b || c || j) ≡ true
    go true b c d e f g h i j t n = refl
    go false true c d e f g h i j t n = refl
    go false false true d e f g h i j t n = refl
    go false false false true e f g h i j t n = absurd (let z : ◌≡◌ {A = ℕ} 0 1 = cc in omega arith)
    go false false false false true f g h i j t n = absurd (let z : ◌≡◌ {A = ℕ} 0 1 = cc in omega arith)
    go false false false false false true g true i j t n = absurd (let z : ◌≡◌ {A = ℕ} 0 1 = cc in omega arith)
    go false false false false false true g false i j t n = absurd (let z : ◌≡◌ {A = ℕ} 0 1 = cc in omega arith)
    go false false false false false false true true i j t n = absurd (let z : ◌≡◌ {A = ℕ} 0 1 = cc in omega arith)
    go false false false false false false true false true j t n = absurd (let z : ◌≡◌ {A = ℕ} 0 1 = cc in omega arith)
    go false false false false false false true false false j t n = absurd (let z : ◌≡◌ {A = ℕ} 0 1 = cc in omega arith)
    go false false false false false false false h i j t n = absurd (let z : ◌≡◌ {A = ℕ} 0 1 = cc in omega arith)

other-blank : (k : ℕ) → is_trivia k ≡ false → is_blank k ≡ eqb k Token.Eof
unfolding is_trivia is_blank
other-blank k = go (eqb k Token.Whitespace) (eqb k Token.LineComment) (eqb k Token.BlockComment) (eqb k Token.InvalidCharError) (eqb k Token.MalformedIdentError) (eqb k Token.UnclosedBlockCommentError) (eqb k Token.AtWithoutIdentError) (eqb k Token.Eof)
  where
    go : (a b c d e f g j : Bool) → (a || b || c || d || e || f || g) ≡ false → (a || b || c || j) ≡ j
    go true b c d e f g j t = absurd (let z : ◌≡◌ {A = ℕ} 0 1 = cc in omega arith)
    go false true c d e f g j t = absurd (let z : ◌≡◌ {A = ℕ} 0 1 = cc in omega arith)
    go false false true d e f g j t = absurd (let z : ◌≡◌ {A = ℕ} 0 1 = cc in omega arith)
    go false false false d e f g j t = refl

module _ (text tokens : List ℕ) where
  abbrev pub lexeme : ℕ → Lexeme
  lexeme i = record { number = i; spelling = spelling text tokens i }

  -- The chart's tokens for a row of the definition.
  unfoldable pub lexemes : List Seen → List RowToken
  lexemes [] = []
  lexemes (good i k ∷ row) = cond (eqb k Token.Eof) (lexemes row) (token k (lexeme i) ∷ lexemes row)
  lexemes (bad i k ∷ row) = token k (lexeme i) ∷ lexemes row
  lexemes (stray ∷ row) = lexemes row

  -- The tokens of the words `ws`, which stand from number i on.
  same_row : (ws : List ℕ) (i : ℕ) → ((j : ℕ) → j < length ws → word_at tokens (i + j) ≡ get_or ws j 0) → Clean (seen_from tokens i (length ws)) → row_from text tokens i ws ≡ lexemes (seen_from tokens i (length ws))
  unfolding row_from seen_from lexemes
  same_row [] i h c = refl
  same_row (w ∷ ws) i h c =
      let first : word_at tokens i ≡ w = rw add-zero at (h 0 (omega arith)) in
      let k = token_kind (word_at tokens i) in
      rw (← first)
      (go k (is_trivia k) (lex_error k) refl refl c
      (same_row ws (suc i) (λ j l. let e : suc i + j ≡ i + suc j = omega arith in rw e (h (suc j) (omega arith)))))
    where
      go : (k : ℕ) (t : Bool) (x : LexError) → is_trivia k ≡ t → lex_error k ≡ x → Clean (seen t x i k (seen_from tokens (suc i) (length ws)))
          → (Clean (seen_from tokens (suc i) (length ws)) → row_from text tokens (suc i) ws ≡ lexemes (seen_from tokens (suc i) (length ws)))
          → cond (is_blank k) (row_from text tokens (suc i) ws) (token k (lexeme i) ∷ row_from text tokens (suc i) ws) ≡ lexemes (seen t x i k (seen_from tokens (suc i) (length ws)))
      go k true None t x c ih = rw (trivia-blank k t x) (ih c)
      go k true (Some error) t x c ih = absurd (no-error c)
      go k false None t x (also c) ih = rw (other-blank k t, ih c)
      go k false (Some error) t x c ih = absurd (no-error c)

  -- The row of all tokens.
  pub rows_same : Clean (seen_from tokens 0 (length tokens)) → row text tokens ≡ lexemes (seen_from tokens 0 (length tokens))
  rows_same c = same_row tokens 0 (λ j l. rw (zero-add j) (sym (word-inside tokens j l))) c
