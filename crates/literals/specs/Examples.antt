-- Worked cases of the definitions: those of 01, and corners of strings.rs.
use Rattle.std.specs.Prelude.{◌≡◌, refl, cond, List, [], ◌∷◌, ◌++◌, map, ℕ, suc, ◌+◌, eqb, get_or, length}
use Rattle.std.proofs.Math.Option.{Option, none, some}
use Prim.Native.Char.{code}
use Prim.Native.String.{String}
use Rattle.std.proofs.Common.{lit≤}
use Rattle.words.specs.Order.{counted}
use Rattle.words.specs.Report
use Rattle.words.specs.Words.{pack}
use Rattle.utf8.specs.Utf8
use Rattle.literals.specs.Spelling.{span}
use Rattle.literals.specs.Numbers.{nibble, digits, limbs_within, number_value}
use Rattle.literals.specs.Written.{written_within, written, read_back}
use Rattle.literals.specs.Strings.{Event, byte, report, characters_from, end_after, escape, two_digits, escaped, decoded_from, decode_string, bad_digit, is_bad, digit_or0, hex_from, decode_hex}

abbrev ascii : String → List ℕ
ascii String.[] = []
ascii (String.◌∷◌ c s) = code c ∷ ascii s

string : List ℕ → List Event
unfolding nibble Utf8.has Utf8.follow Utf8.sequence_by Utf8.table Utf8.lead_bits Utf8.joined Utf8.code_point Utf8.character_at characters_from end_after escape two_digits escaped decoded_from decode_string
string s = decode_string (span 10 (10 + length s)) s

hex : List ℕ → List Event
unfolding nibble Utf8.has Utf8.follow Utf8.sequence_by Utf8.table Utf8.lead_bits Utf8.joined Utf8.code_point Utf8.character_at characters_from bad_digit is_bad digit_or0 hex_from decode_hex
hex s = decode_hex (span 10 (10 + length s)) s

-- ---- digits and escapes, read a second way

-- The characters of digits, by what they count.
abbrev small : List ℕ
small = ascii "0123456789abcdef"

abbrev large : List ℕ
large = ascii "0123456789ABCDEF"

-- The place of a character in a row of them, counted from `n`.
abbrev place_from : ℕ → List ℕ → ℕ → Option ℕ
place_from n [] c = none
place_from n (x ∷ s) c = cond (eqb c x) (some n) (place_from (suc n) s c)

abbrev bytes : List ℕ
bytes = counted 0 256

-- The 22 digits of radix 16 count what their places say, and no other byte is a digit.
all_digits : map nibble bytes ≡ map (λ c. elim (place_from 0 small c) [ some d ↦ some d | none ↦ place_from 0 large c ]) bytes
unfolding nibble
all_digits = refl

-- The six escapes of one character give these bytes, and no other byte is such an escape.
all-escapes : map escape bytes ≡ map (λ c. elim (place_from 0 (ascii "nrt0\\\"") c) [ some i ↦ some (get_or (10 ∷ 13 ∷ 9 ∷ 0 ∷ 92 ∷ 34 ∷ []) i 0) | none ↦ none ]) bytes
unfolding escape
all-escapes = refl

-- All of them in one string, and `\x` with small and large digits.
escaped-string : string (ascii "\"\\n\\r\\t\\0\\\\\\\"\\x00\\x7e\\xFf\"")
    ≡ map byte (10 ∷ 13 ∷ 9 ∷ 0 ∷ 92 ∷ 34 ∷ 0 ∷ 126 ∷ 255 ∷ [])
unfolding string
escaped-string = refl

-- ---- numbers written out and read back, in the three radices

decimal : (n : ℕ) → digits 10 0 (written small 10 n) ≡ n
unfolding nibble
decimal = read_back small refl 10 (lit≤ tt) (lit≤ tt)

hexadecimal-small : (n : ℕ) → digits 16 0 (written small 16 n) ≡ n
unfolding nibble
hexadecimal-small = read_back small refl 16 (lit≤ tt) (lit≤ tt)

hexadecimal-large : (n : ℕ) → digits 16 0 (written large 16 n) ≡ n
unfolding nibble
hexadecimal-large = read_back large refl 16 (lit≤ tt) (lit≤ tt)

binary : (n : ℕ) → digits 2 0 (written small 2 n) ≡ n
unfolding nibble
binary = read_back small refl 2 (lit≤ tt) (lit≤ tt)

-- What is written is what one expects.
written_out : (written small 10 65536 ≡ ascii "65536") × (written large 16 48879 ≡ ascii "BEEF") × (written small 2 10 ≡ ascii "1010") × (written small 10 0 ≡ ascii "0")
unfolding written_within
written_out = (refl, refl, refl, refl)

-- ---- strings

-- P8 of 01.
p8 : string (ascii "\"a\\x41\"") ≡ byte 97 ∷ byte 65 ∷ []
unfolding string
p8 = refl

-- "`"\x1\\"`: the Rust panics on the last backslash; here kinds 12 and 16, no bytes." (01, Known exceptions.)
known-exception : string (ascii "\"\\x1\\\\\"") ≡ report Report.BadHexEscape 0 (span 11 15) ∷ report Report.BackslashAtEnd 0 (span 15 16) ∷ []
unfolding string
known-exception = refl

-- A bad `\x` takes as many characters as are left.
cut_short : string (ascii "\"\\x\"") ≡ report Report.BadHexEscape 0 (span 11 13) ∷ []
unfolding string
cut_short = refl

-- P9 of 01.
p9 : hex (ascii "hex\"4g\"") ≡ report Report.NonHexDigit 103 (span 15 16) ∷ byte 64 ∷ []
unfolding hex
p9 = refl

-- P10 of 01.
p10 : hex (ascii "hex\"4\"") ≡ report Report.OddDigits 0 (span 10 16) ∷ []
unfolding hex
p10 = refl

-- `"épinette"` (01, W7): the bytes that the script has.
accents : string (0x22 ∷ 0xC3 ∷ 0xA9 ∷ ascii "pinette\"") ≡ map byte (0xC3 ∷ 0xA9 ∷ ascii "pinette")
unfolding string
accents = refl

-- Behind a backslash, and where `\x` takes it, `é` is no part of the value; in a hex string it is a bad digit.
accents-escaped : (string (0x22 ∷ 0x5C ∷ 0xC3 ∷ 0xA9 ∷ 0x61 ∷ 0x22 ∷ []) ≡ report Report.UnknownEscape 0xE9 (span 11 14) ∷ byte 0x61 ∷ [])
    × (string (ascii "\"\\x4" ++ (0xC3 ∷ 0xA9 ∷ 0xC3 ∷ 0xA9 ∷ 0x22 ∷ [])) ≡ report Report.BadHexEscape 0 (span 11 16) ∷ byte 0xC3 ∷ byte 0xA9 ∷ [])
    × (hex (ascii "hex\"" ++ (0xC3 ∷ 0xA9 ∷ 0xC3 ∷ 0xA9 ∷ 0x22 ∷ [])) ≡ report Report.NonHexDigit 0xE9 (span 14 16) ∷ byte 0 ∷ [])
unfolding string hex
accents-escaped = (refl, refl, refl)

-- Nothing at all, and tokens that lexing never makes.
no-quotes : (string [] ≡ []) × (hex (0xC3 ∷ 0xA9 ∷ []) ≡ []) × (string (0x22 ∷ 0xC3 ∷ 0x22 ∷ []) ≡ byte 0xC3 ∷ [])
unfolding string hex
no-quotes = (refl, refl, refl)

number : ℕ → List ℕ → List ℕ
unfolding nibble digits limbs_within number_value pack
number radix s = number_value (digits radix 0 s)

zero-none : number 10 (ascii "0_0") ≡ 0x40000000 ∷ []
unfolding number
zero-none = refl

two-limbs : number 16 (ascii "1_0000_0002") ≡ 0x40000002 ∷ 2 ∷ 1 ∷ []
unfolding number
two-limbs = refl
