-- What the parser's functions are lent as the text: the text itself, or, where it has more bytes than any text, a copy of the text with a
-- table of names behind it.
use Rattle.std.specs.Prelude.{◌≡◌, Bool, cond, ◌&&◌, ◌||◌, List, ℕ, ◌+◌, ◌*◌, ◌/◌, ◌≤◌, eqb, ltb, length, get_or}
use Rattle.std.proofs.Common.{le-ltb}
use Rattle.words.specs.Token
use Rattle.words.specs.Words.{token_kind, token_end}
use Rattle.literals.specs.Spelling.{word_at, first_alike}

-- No text has more bytes (01, Refusals), so the table begins there.
abbrev pub table_start : ℕ
table_start = 65536

-- The place of a token's name in the table goes by where the token ends: names end at least two bytes apart, so each has a place of its own.
-- Places count from 1.
abbrev pub slot_of : ℕ → ℕ
slot_of word = (token_end word + 1) / 2

abbrev pub slot_at : List ℕ → ℕ → ℕ
slot_at tokens i = slot_of (word_at tokens i)

-- What the table says at a place: two bytes, the low one first.
abbrev pub entry : List ℕ → ℕ → ℕ
entry source slot = get_or source (65534 + 2 * slot) 0 + 256 * get_or source (65535 + 2 * slot) 0

abbrev pub is_name : ℕ → Bool
is_name kind = eqb kind Token.Identifier || eqb kind Token.BuiltinName

-- Whether there is a table, and token `i` is a name of this kind.
unfoldable pub is_told : List ℕ → List ℕ → ℕ → ℕ → Bool
is_told source tokens kind i = ltb table_start (length source) && (is_name kind && eqb (token_kind (word_at tokens i)) kind)

-- The first token of a kind that is spelled as token `i`: from the table, or found by looking at all tokens.
unfoldable pub first_of : List ℕ → List ℕ → ℕ → ℕ → ℕ
first_of source tokens kind i = cond (is_told source tokens kind i) (entry source (slot_at tokens i)) (first_alike source tokens kind i)

-- The table of a source is right: it says what looking at all tokens finds.
abbrev pub Right : List ℕ → List ℕ → Type 0
Right source tokens = (kind i : ℕ) → first_of source tokens kind i ≡ first_alike source tokens kind i

-- Where there is no table, none is wrong.
pub plain-right : (text tokens : List ℕ) → length text ≤ table_start → Right text tokens
unfolding first_of is_told
plain-right text tokens h kind i = rw (le-ltb table_start (length text) h)
