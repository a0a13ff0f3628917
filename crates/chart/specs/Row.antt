-- The row of a text: what the chart derives.
use Rattle.std.specs.Prelude.{Bool, true, false, cond, ◌||◌, List, [], ◌∷◌, ℕ, suc, eqb}
use Rattle.words.specs.Words.{token_kind}
use Rattle.literals.specs.Spelling.{spelling}
use Rattle.words.specs.Token

-- What a token is besides its kind: its spelling, and its number among all tokens of the text. The number is there for laws alone: no rule of the
-- chart and no tree looks at it.
pub record Lexeme : Type 0 where
  pub number : ℕ
  pub spelling : List ℕ

pub data RowToken : Type 0 where
  token : ℕ → Lexeme → RowToken

-- What is no part of a row: "Whitespace, line comments, closed block comments and Eof; error tokens stay in it" (01, The wall chart).
unfoldable pub is_blank : ℕ → Bool
is_blank kind = eqb kind Token.Whitespace || eqb kind Token.LineComment || eqb kind Token.BlockComment || eqb kind Token.Eof

-- The tokens of the words `ws`, the first of which is token `i` of all the words.
unfoldable pub row_from : List ℕ → List ℕ → ℕ → List ℕ → List RowToken
row_from text tokens i [] = []
row_from text tokens i (w ∷ ws) =
    cond (is_blank (token_kind w))
    (row_from text tokens (suc i) ws)
    (token (token_kind w) (record { number = i; spelling = spelling text tokens i }) ∷ row_from text tokens (suc i) ws)

-- "The row is the text's tokens as the definition of demand 2 gives them, without Whitespace, line comments, closed block comments and Eof"
-- (01, The wall chart).
abbrev pub row : List ℕ → List ℕ → List RowToken
row text tokens = row_from text tokens 0 tokens

-- Whether a row begins with a token of this kind.
unfoldable pub begins : ℕ → List RowToken → Bool
begins K [] = false
begins K (token k v ∷ xs) = eqb k K

-- Whether no token is left.
unfoldable pub is_over : List RowToken → Bool
is_over [] = true
is_over (x ∷ xs) = false
