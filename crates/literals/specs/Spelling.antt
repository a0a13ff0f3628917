-- Where a token stands in the text, how it is spelled, and which token was the first to be spelled so.
use Rattle.std.specs.Prelude.{Bool, true, false, cond, ◌&&◌, List, [], ◌∷◌, ℕ, zero, suc, ◌+◌, eqb, leb, length, get_or}
use Rattle.std.proofs.Math.Seq.{slice}
use Rattle.words.specs.Token
use Rattle.words.specs.Words.{token_word, token_kind, token_end}
use Rattle.literals.specs.declared.Span.{Span}

abbrev pub span : ℕ → ℕ → Span
span start end = record { start = start; end = end }

-- The word of the token with this number. Past the words stands an Eof that ends at 0.
abbrev pub word_at : List ℕ → ℕ → ℕ
word_at tokens i = get_or tokens i (token_word Token.Eof 0)

-- `Lexed::token_src_start` of lexer.rs: a token starts where the one before it ends.
unfoldable pub token_start : List ℕ → ℕ → ℕ
token_start tokens zero = 0
token_start tokens (suc i) = token_end (word_at tokens i)

-- `Lexed::token_src_span` of lexer.rs.
abbrev pub token_span : List ℕ → ℕ → Span
token_span tokens i = span (token_start tokens i) (token_end (word_at tokens i))

-- The part of the text that a span covers. "Ends that fall or pass the text, give the empty part" (01, lexer.rs).
unfoldable pub covered : List ℕ → Span → List ℕ
covered text p = cond (leb p.start p.end && leb p.end (length text)) (slice p.start p.end text) []

-- "A token's spelling is the part of the lent text that it covers ..; a token number past the words, .. give the empty part" (01, lexer.rs).
abbrev pub spelling : List ℕ → List ℕ → ℕ → List ℕ
spelling text tokens i = covered text (token_span tokens i)

-- Whether two spellings are the same bytes.
unfoldable pub alike : List ℕ → List ℕ → Bool
alike [] [] = true
alike [] (b ∷ t) = false
alike (a ∷ s) [] = false
alike (a ∷ s) (b ∷ t) = eqb a b && alike s t

-- The number of the first token of a kind that is spelled `name`, among `ws`, the words from token `i` on, which start at offset `start`.
-- Where there is none, the number past the last.
unfoldable pub first_from : List ℕ → ℕ → List ℕ → ℕ → ℕ → List ℕ → ℕ
first_from text kind name i start [] = i
first_from text kind name i start (w ∷ ws) =
    elim (eqb (token_kind w) kind && alike (covered text (span start (token_end w))) name) [
      | true ↦ i
      | false ↦ first_from text kind name (i + 1) (token_end w) ws
    ]

-- "The number of the first Identifier token spelled alike, BuiltinName the same among its own" (01, Words that are lent):
-- of the tokens of this kind, the first that is spelled as token `i` is.
abbrev pub first_alike : List ℕ → List ℕ → ℕ → ℕ → ℕ
first_alike text tokens kind i = first_from text kind (spelling text tokens i) 0 0 tokens
