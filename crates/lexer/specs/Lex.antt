-- What the public calls answer and leave, from document 01.
use Rattle.std.specs.Prelude.{◌≡◌, List, [], ◌∷◌, map, Bool, cond, ◌&&◌, ℕ, zero, suc, ◌+◌, ◌-◌, ltb, leb, length, get_or, take, drop}
use Rattle.std.specs.Prelude.{Ok, Err, Result}
use Rattle.words.specs.Refusal
use Rattle.words.specs.Refusal.{number}
use Rattle.words.specs.declared.refusal.Refused.{Refused}
use Rattle.words.specs.Words.{token_end}
use Rattle.words.specs.Answer.{Answer, done, refused, left}
use Rattle.utf8.specs.Utf8.{checked}
use Rattle.utf8.specs.declared.Way.{Way}
use Rattle.utf8.specs.declared.Way.TheVariants.{NoStart, NotAllowed, Cut}
use Rattle.scan.specs.Lexer.{longest_text, tokens_of, word}

-- "Refusal 1 keeps a byte that starts no sequence (RFC 3629)." "It refuses with 9 where a later byte of a sequence isn't allowed, and with 10 where
-- the text ends inside a sequence that was right so far." (01, W1)
abbrev pub not_utf8 : Way → ℕ
not_utf8 NoStart = Refusal.NotUtf8Start
not_utf8 NotAllowed = Refusal.NotUtf8Later
not_utf8 Cut = Refusal.NotUtf8Cut

-- The number and values that document 01 has for an answer.
abbrev pub Lexed : Type 0
Lexed = Result ℕ Refused

abbrev pub answer : Lexed → Answer
answer (Ok n) = done (n ∷ [])
answer (Err r) = refused (number r.refusal) r.place

-- "Order: 2, 1, 4." "Lexing alone gives only 2, 1, 4." "01's order treats all three as it treated 1" (01, W1).
-- "2 over 65,536 bytes (65,536)", "1 not UTF-8 (offset where the first bad sequence starts)",
-- "4 tokens don't fit (words needed, Eof included)"; `lent` is how many words are lent.
unfoldable pub lexed : List ℕ → ℕ → Answer
lexed text lent =
    cond (ltb longest_text (length text)) (refused Refusal.TooLong longest_text)
    (elim (checked text) [
      | Err e ↦ refused (not_utf8 e.way) e.at
      | Ok u ↦ cond (ltb lent (length (tokens_of text))) (refused Refusal.TokensDontFit (length (tokens_of text))) (done (length (tokens_of text) ∷ []))
    ])

-- The words that it leaves.
unfoldable pub lexed_words : List ℕ → ℕ → List ℕ
lexed_words text lent = left (lexed text lent) (map word (tokens_of text)) lent

-- Where token n starts: where the one before it ends.
abbrev pub start_of : List ℕ → ℕ → ℕ
start_of tokens zero = 0
start_of tokens (suc n) = token_end (get_or tokens n 0)

-- Whether token n is among the words, and covers a part of the text.
unfoldable pub covers : List ℕ → List ℕ → ℕ → Bool
covers text tokens n =
    let end = token_end (get_or tokens n 0) in
    ltb n (length tokens) && (leb (start_of tokens n) end && leb end (length text))

-- "A token's spelling is the part of the lent text that it covers ..; a token number past the words, or ends that fall or
-- pass the text, give the empty part."
unfoldable pub spelling_of : List ℕ → List ℕ → ℕ → List ℕ
spelling_of text tokens n =
    let start = start_of tokens n in
    cond (covers text tokens n) (take (token_end (get_or tokens n 0) - start) (drop start text)) []

-- Where that part begins in the text; the empty part, at the text's first byte.
unfoldable pub spelling_start : List ℕ → List ℕ → ℕ → ℕ
spelling_start text tokens n = cond (covers text tokens n) (start_of tokens n) 0

-- A part begins so many bytes into the whole: in the same block, at an offset so much greater.
abbrev pub Begins : ℕ × ℕ → ℕ × ℕ → ℕ → Type 0
Begins part whole n = (part.0 ≡ whole.0) × (part.1 ≡ whole.1 + n)
