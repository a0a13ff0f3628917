-- UTF-8 as RFC 3629 gives it: what a text of bytes begins with, whether it is well-formed, and its characters.
use Rattle.std.specs.Prelude.{ℕ, zero, suc, ◌+◌, ◌-◌, ◌*◌, ◌%◌, Bool, cond, ◌&&◌, List, [], ◌∷◌, length, take, leb}
use Rattle.std.specs.Prelude.{Option, Some, None, Result}
use Rattle.std.specs.declared.result.Result.TheVariants.{Ok, Err}
use Rattle.utf8.specs.declared.Way.{Way}
use Rattle.utf8.specs.declared.Way.TheVariants.{NoStart, NotAllowed, Cut}
use Rattle.utf8.specs.declared.NotUtf8.{NotUtf8}
use Rattle.utf8.specs.declared.Character.{Character}

infix 70 ◌‥◌
infix 55 ◌then◌
-- A range of bytes, with both of its ends.
pub record Range : Type 0 where
  pub lo : ℕ
  pub hi : ℕ

abbrev pub ◌‥◌ : ℕ → ℕ → Range
a ‥ b = record { lo = a; hi = b }

-- A row of the table: the range of the first byte, and those of the bytes after it, in order.
pub record Row : Type 0 where
  pub lead : Range
  pub more : List Range

abbrev pub ◌then◌ : Range → List Range → Row
r then rs = record { lead = r; more = rs }

-- "UTF8-tail = %x80-BF"
abbrev pub tail : Range
tail = 0x80 ‥ 0xBF

-- Section 4:
-- "UTF8-1 = %x00-7F"
-- "UTF8-2 = %xC2-DF UTF8-tail"
-- "UTF8-3 = %xE0 %xA0-BF UTF8-tail / %xE1-EC 2( UTF8-tail ) / %xED %x80-9F UTF8-tail / %xEE-EF 2( UTF8-tail )"
-- "UTF8-4 = %xF0 %x90-BF 2( UTF8-tail ) / %xF1-F3 3( UTF8-tail ) / %xF4 %x80-8F 2( UTF8-tail )"
unfoldable pub table : List Row
table =
    (0x00 ‥ 0x7F then []) ∷
    (0xC2 ‥ 0xDF then tail ∷ []) ∷
    (0xE0 ‥ 0xE0 then 0xA0 ‥ 0xBF ∷ tail ∷ []) ∷
    (0xE1 ‥ 0xEC then tail ∷ tail ∷ []) ∷
    (0xED ‥ 0xED then 0x80 ‥ 0x9F ∷ tail ∷ []) ∷
    (0xEE ‥ 0xEF then tail ∷ tail ∷ []) ∷
    (0xF0 ‥ 0xF0 then 0x90 ‥ 0xBF ∷ tail ∷ tail ∷ []) ∷
    (0xF1 ‥ 0xF3 then tail ∷ tail ∷ tail ∷ []) ∷
    (0xF4 ‥ 0xF4 then 0x80 ‥ 0x8F ∷ tail ∷ tail ∷ []) ∷
    []

unfoldable pub has : Range → ℕ → Bool
has r b = leb r.lo b && leb b r.hi

-- One sequence: right with its length, or wrong.
abbrev pub Sequence : Type 0
Sequence = Result ℕ Way

-- A text: well-formed, or how and at which offset its first wrong sequence is.
abbrev pub Checked : Type 0
Checked = Result (Unit {0}) NotUtf8

abbrev pub bad : Way → ℕ → Checked
bad way at = Err (record { way = way; at = at })

-- A character by its code point and its length.
abbrev pub character : ℕ → ℕ → Character
character code_point length = record { code_point = code_point; length = length }

-- The bytes `s` held to the ranges, left to right, after `n` bytes that are right.
unfoldable pub follow : ℕ → List Range → List ℕ → Sequence
follow n [] s = Ok n
follow n (r ∷ rs) [] = Err Cut
follow n (r ∷ rs) (b ∷ s) = cond (has r b) (follow (suc n) rs s) (Err NotAllowed)

-- The sequence that the byte `b` begins, with `s` after it, by the row whose first range has `b`.
unfoldable pub sequence_by : List Row → ℕ → List ℕ → Sequence
sequence_by [] b s = Err NoStart
sequence_by (row ∷ rows) b s = cond (has row.lead b) (follow 1 row.more s) (sequence_by rows b s)

abbrev pub sequence : ℕ → List ℕ → Sequence
sequence = sequence_by table

-- A text from the offset `at` on, of which `skip` bytes belong to a sequence that is right.
-- "UTF8-octets = *( UTF8-char )"
unfoldable pub checked_from : (at skip : ℕ) → List ℕ → Checked
checked_from at skip [] = Ok tt
checked_from at (suc skip) (b ∷ s) = checked_from (suc at) skip s
checked_from at zero (b ∷ s) = elim (sequence b s) [ Ok n ↦ checked_from (suc at) (n - 1) s | Err way ↦ bad way at ]

abbrev pub checked : List ℕ → Checked
checked = checked_from 0 0

-- Section 3, the bits x of the first byte, by the number of bytes after it:
-- "0xxxxxxx", "110xxxxx 10xxxxxx", "1110xxxx 10xxxxxx 10xxxxxx", "11110xxx 10xxxxxx 10xxxxxx 10xxxxxx"
unfoldable pub lead_bits : ℕ → ℕ → ℕ
lead_bits zero b = b % 128
lead_bits (suc zero) b = b % 32
lead_bits (suc (suc zero)) b = b % 16
lead_bits (suc (suc (suc more))) b = b % 8

-- Each byte after the first adds its six.
unfoldable pub joined : ℕ → List ℕ → ℕ
joined c [] = c
joined c (b ∷ s) = joined (c * 64 + b % 64) s

unfoldable pub code_point : List ℕ → ℕ
code_point [] = 0
code_point (b ∷ s) = joined (lead_bits (length s) b) s

-- The character that a text begins with.
unfoldable pub character_at : List ℕ → Option Character
character_at [] = None
character_at (b ∷ s) = elim (sequence b s) [ Ok n ↦ Some (character (code_point (take n (b ∷ s))) n) | Err way ↦ None ]
