-- Places in "ä(LF)b" and behind it, and the lines of "a(CR)(LF)(LF)b".
use Rattle.std.specs.Prelude.{◌≡◌, refl, List, [], ◌∷◌, ℕ}
use Rattle.scan.specs.Lexer.{has_mark, spelled}
use Rattle.position.specs.Position.{count, until_newline, before, position_after, position_in, position_of, line_start, line_end, line_in, source_line, mark_length, behind, line_behind}
use Rattle.position.specs.declared.Position.{Position}
use Rattle.position.specs.declared.Extent.{Extent}

at-line : ℕ → ℕ → Position
at-line l c = record { line = l; column = c }

from-to : ℕ → ℕ → Extent
from-to s e = record { start = s; end = e }

two : List ℕ
two = 0xC3 ∷ 0xA4 ∷ 10 ∷ 0x62 ∷ []

three : List ℕ
three = 0x61 ∷ 13 ∷ 10 ∷ 10 ∷ 0x62 ∷ []

-- The newline is the second character of the first line.
newline : position_of two 2 ≡ at-line 1 2
unfolding count until_newline before position_after position_in position_of mark_length has_mark spelled at-line two
newline = refl

second-line : position_of two 3 ≡ at-line 2 1
unfolding count until_newline before position_after position_in position_of mark_length has_mark spelled at-line two
second-line = refl

past-the-text : position_of two 9 ≡ at-line 2 2
unfolding count until_newline before position_after position_in position_of mark_length has_mark spelled at-line two
past-the-text = refl

-- "(mark)b(LF)": the mark is no part of the line.
marked : List ℕ
marked = 0xEF ∷ 0xBB ∷ 0xBF ∷ 0x62 ∷ 10 ∷ []

behind-the-mark : (position_of marked 3 ≡ at-line 1 1) × (position_of marked 4 ≡ at-line 1 2) × (source_line marked 0 ≡ from-to 3 4)
unfolding count until_newline before position_after position_in position_of line_start line_end line_in source_line mark_length has_mark spelled at-line from-to marked
behind-the-mark = (refl, refl, refl)

-- A carriage return belongs to its line.
of-the-first : source_line three 1 ≡ from-to 0 2
unfolding until_newline before line_start line_end line_in source_line mark_length has_mark spelled from-to three
of-the-first = refl

empty-line : line_behind three 1 ≡ from-to 3 3
unfolding until_newline before line_start line_end line_in source_line mark_length has_mark spelled behind line_behind from-to three
empty-line = refl

too_many : line_behind three 7 ≡ from-to 4 5
unfolding until_newline before line_start line_end line_in source_line mark_length has_mark spelled behind line_behind from-to three
too_many = refl
