-- Where an offset is, as people count: lines end at newlines, and a column is a character.
use Rattle.std.specs.Prelude.{ℕ, ◌+◌, ◌-◌, Bool, cond, ◌||◌, List, [], ◌∷◌, reverse, eqb, ltb, length, take, drop}
use Rattle.scan.specs.Lexer.{has_mark}
use Rattle.position.specs.declared.Position.{Position}
use Rattle.position.specs.declared.Extent.{Extent}

abbrev pub is_newline : ℕ → Bool
is_newline b = eqb b 10

-- A byte begins a character unless it is a later byte of a sequence of UTF-8, 128 to 191.
abbrev pub is_start : ℕ → Bool
is_start b = ltb b 128 || ltb 191 b

-- How many bytes pass a test.
unfoldable pub count : (ℕ → Bool) → List ℕ → ℕ
count test [] = 0
count test (b ∷ s) = cond (test b) 1 0 + count test s

-- The bytes up to the first newline, which is left out.
unfoldable pub until_newline : List ℕ → List ℕ
until_newline [] = []
until_newline (b ∷ s) = cond (is_newline b) [] (b ∷ until_newline s)

-- The bytes before an offset, nearest first. An offset past the text is that of the text's end.
unfoldable pub before : List ℕ → ℕ → List ℕ
before text offset = reverse (take offset text)

-- "newlines before the offset, characters since the last", both counted from 1; of the bytes before the offset.
unfoldable pub position_after : List ℕ → Position
position_after s = record { line = 1 + count is_newline s; column = 1 + count is_start (until_newline s) }

unfoldable pub position_in : List ℕ → ℕ → Position
position_in text offset = position_after (before text offset)

-- Where the line of an offset starts: behind the last newline before the offset.
unfoldable pub line_start : List ℕ → ℕ → ℕ
line_start text offset = length (before text offset) - length (until_newline (before text offset))

-- Where it ends: at the next newline, or with the text. A carriage return is a character of its line.
unfoldable pub line_end : List ℕ → ℕ → ℕ
line_end text offset = length (before text offset) + length (until_newline (drop offset text))

unfoldable pub line_in : List ℕ → ℕ → Extent
line_in text offset = record { start = line_start text offset; end = line_end text offset }

-- A byte order mark in front is no part of the first line (01, W4): the line and its columns begin behind it, and offsets in it are the line's first.
unfoldable pub mark_length : List ℕ → ℕ
mark_length text = cond (has_mark text) 3 0

abbrev pub behind_mark : List ℕ → List ℕ
behind_mark text = drop (mark_length text) text

unfoldable pub position_of : List ℕ → ℕ → Position
position_of text offset = position_in (behind_mark text) (offset - mark_length text)

abbrev pub moved_by : ℕ → Extent → Extent
moved_by n x = record { start = n + x.start; end = n + x.end }

unfoldable pub source_line : List ℕ → ℕ → Extent
source_line text offset = moved_by (mark_length text) (line_in (behind_mark text) (offset - mark_length text))

-- The offset behind so many newlines; the text's end where it has fewer.
unfoldable pub behind : List ℕ → ℕ → ℕ
behind [] n = 0
behind (b ∷ s) n = cond (eqb n 0) 0 (1 + behind s (n - cond (is_newline b) 1 0))

unfoldable pub line_behind : List ℕ → ℕ → Extent
line_behind text newlines = source_line text (behind text newlines)
