-- What string tokens decode to: `decode_string_token` and `decode_hex_token` of strings.rs.
use Rattle.std.proofs.Math.Option.{Option, none, some}
use Rattle.std.specs.Prelude.{Bool, true, false, cond, ◌||◌, List, [], ◌∷◌, ◌++◌, ℕ, zero, suc, ◌+◌, ◌-◌, ◌*◌, eqb, length, take, drop}
use Rattle.words.specs.Report
use Rattle.words.specs.Value
use Rattle.words.specs.Words.{value_head}
use Rattle.utf8.specs.Utf8.{character_at}
use Rattle.std.specs.Prelude.{Some, None}
use Rattle.literals.specs.declared.Span.{Span}
use Rattle.literals.specs.Spelling.{span}
use Rattle.literals.specs.Numbers.{nibble}

-- A step of decoding: a byte of the value, or a report with its kind, detail and place.
pub data Event : Type 0 where
  byte : ℕ → Event
  report : ℕ → ℕ → Span → Event

-- The bytes that decoding gives.
unfoldable pub bytes_of : List Event → List ℕ
bytes_of [] = []
bytes_of (byte b ∷ es) = b ∷ bytes_of es
bytes_of (report k d p ∷ es) = bytes_of es

-- A character of the source: its code point and the bytes that it covers.
pub record Char : Type 0 where
  pub code : ℕ
  pub place : Span

abbrev pub char : ℕ → ℕ → ℕ → Char
char c start end = record { code = c; place = span start end }

-- The characters of a part of the text from offset `at` on, whose first `skip` bytes belong to the one before.
-- In UTF-8 there is always a character; elsewhere a byte that begins none stands for itself.
unfoldable pub characters_from : ℕ → ℕ → List ℕ → List Char
characters_from at skip [] = []
characters_from at (suc skip) (b ∷ s) = characters_from (at + 1) skip s
characters_from at zero (b ∷ s) =
    elim (character_at (b ∷ s)) [
      | Some c ↦ char c.code_point at (at + c.length) ∷ characters_from (at + 1) (c.length - 1) s
      | None ↦ char b at (at + 1) ∷ characters_from (at + 1) 0 s
    ]

-- What stands between the quotes of a token's spelling: `opening` bytes stand before it, and one after.
abbrev pub between : ℕ → List ℕ → List ℕ
between opening s = take (length s - (opening + 1)) (drop opening s)

-- Where characters that come one after the other end, the first `n` of `cs`, after one that ends at `end`.
unfoldable pub end_after : ℕ → ℕ → List Char → ℕ
end_after end zero cs = end
end_after end (suc n) [] = end
end_after end (suc n) (c ∷ cs) = end_after c.place.end n cs

-- What a backslash and the characters that it takes stand for, and the offset where they end.
pub record Piece : Type 0 where
  pub event : Event
  pub end : ℕ

abbrev pub piece : Event → ℕ → Piece
piece e n = record { event = e; end = n }

-- The escapes of one character: n r t 0 \ and ".
unfoldable pub escape : ℕ → Option ℕ
escape c =
    cond (eqb c 110) (some 10)
    (cond (eqb c 114) (some 13)
    (cond (eqb c 116) (some 9)
    (cond (eqb c 48) (some 0)
    (cond (eqb c 92) (some 92)
    (cond (eqb c 34) (some 34) none)))))

-- What the characters after `\x` count as: two digits, or none.
unfoldable pub two_digits : List Char → Option ℕ
two_digits [] = none
two_digits (d ∷ []) = none
two_digits (d ∷ e ∷ cs) =
    elim (nibble d.code) [
      | some h ↦ elim (nibble e.code) [ some l ↦ some (16 * h + l) | none ↦ none ]
      | none ↦ none
    ]

-- A backslash at the offset `at`, and the characters after it: `one` is where the first of them ends, `three` where the third does or the last that is
-- left. "A bad `\x` has already taken two characters, or as many as are left" (01, strings.rs).
-- A backslash at the end, where the Rust panics, is a report over its one byte (01, Known exceptions).
unfoldable pub escaped : ℕ → List Char → Piece
escaped at [] = piece (report Report.BackslashAtEnd 0 (span at (at + 1))) (at + 1)
escaped at (e ∷ cs) =
    let one = e.place.end in
    let three = end_after one 2 cs in
    elim (escape e.code) [
      | some b ↦ piece (byte b) one
      | none ↦ elim (eqb e.code 120) [
        | true ↦ elim (two_digits cs) [ some b ↦ piece (byte b) three | none ↦ piece (report Report.BadHexEscape 0 (span at three)) three ]
        | false ↦ piece (report Report.UnknownEscape e.code (span at one)) one
      ]
    ]

-- What stands between the quotes of a `"` token, from the offset `at` on; its first `taken` bytes belong to the escape before. "non-ASCII characters
-- now stand in the value as their UTF-8 bytes, without a report" (01, W7): each byte but a backslash stands for itself. No byte of a longer character is one.
unfoldable pub decoded_from : ℕ → ℕ → List ℕ → List Event
decoded_from at taken [] = []
decoded_from at (suc taken) (b ∷ s) = decoded_from (at + 1) taken s
decoded_from at zero (b ∷ s) =
    let p = escaped at (characters_from (at + 1) 0 s) in
    cond (eqb b 92) (p.event ∷ decoded_from (at + 1) (p.end - (at + 1)) s) (byte b ∷ decoded_from (at + 1) 0 s)

-- `decode_string_token`: the spelling of a `"` token that covers the span `token`.
unfoldable pub decode_string : Span → List ℕ → List Event
decode_string token s = decoded_from (token.start + 1) 0 (between 1 s)

-- "In a hex string a bad digit counts 0, only the first is reported" (01, strings.rs): the first in each token.
unfoldable pub bad_digit : Bool → Char → List Event
bad_digit already c = elim (nibble c.code) [ some d ↦ [] | none ↦ cond already [] (report Report.NonHexDigit c.code c.place ∷ []) ]

unfoldable pub is_bad : Char → Bool
is_bad c = elim (nibble c.code) [ some d ↦ false | none ↦ true ]

unfoldable pub digit_or0 : Char → ℕ
digit_or0 c = elim (nibble c.code) [ some d ↦ d | none ↦ 0 ]

-- The characters of a `hex"` token that covers the span `token`; `already`: a bad digit was reported.
-- "A lone last digit is dropped with a report" (01, strings.rs).
unfoldable pub hex_from : Span → Bool → List Char → List Event
hex_from token already [] = []
hex_from token already (c ∷ []) = bad_digit already c ++ (report Report.OddDigits 0 token ∷ [])
hex_from token already (c ∷ d ∷ cs) =
    bad_digit already c
    ++ (bad_digit (already || is_bad c) d
    ++ (byte (16 * digit_or0 c + digit_or0 d) ∷ hex_from token (already || is_bad c || is_bad d) cs))

-- `decode_hex_token`.
unfoldable pub decode_hex : Span → List ℕ → List Event
decode_hex token s = hex_from token false (characters_from (token.start + 4) 0 (between 4 s))

-- "Bytes four to a word, first lowest, padded with 0" (01, Words that are lent).
unfoldable pub fours : List ℕ → List ℕ
fours [] = []
fours (a ∷ []) = a ∷ []
fours (a ∷ b ∷ []) = (a + 256 * b) ∷ []
fours (a ∷ b ∷ c ∷ []) = (a + 256 * (b + 256 * c)) ∷ []
fours (a ∷ b ∷ c ∷ d ∷ s) = (a + 256 * (b + 256 * (c + 256 * d))) ∷ fours s

-- "Value: top 2 bits .. 2 for a string; low 30 the .. byte count" (01, Words that are lent).
unfoldable pub string_value : List ℕ → List ℕ
string_value s = value_head Value.String (length s) ∷ fours s
