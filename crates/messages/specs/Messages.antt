-- Which sentence a report has, and what the sentence is about; which characters a terminal obeys.
use Rattle.std.specs.Prelude.{ℕ, ◌+◌, Bool, cond, ◌||◌, eqb, leb, Option, Some, None}
use Rattle.words.specs.Report.{LexerError, Unexpected, MissingToken, MissingSpecific, NonAscii, UnknownEscape, NonHexDigit, BackslashAtEnd}
use Rattle.words.specs.ErrorToken.{InvalidChar, AtWithoutIdent}
use Rattle.scan.specs.Bytes.{within}
use Rattle.messages.specs.declared.Subject.{Subject}
use Rattle.messages.specs.declared.Subject.TheVariants.{Token, Character, Covered}

-- "1 lexer error (detail: order in `ErrorToken` from 0)" (01, Words that are lent): an invalid character is named, and the report has it by its span alone.
unfoldable pub error_subject : ℕ → Option Subject
error_subject detail = cond (eqb detail InvalidChar) (Some Covered) None

-- "2 unexpected (found token); 3 `emit_missing_token`, 4 `emit_missing_specific` (wanted token); .. 13 unknown escape (character);
-- 14 non-hex digit (character); .. Other details are 0." (01, Words that are lent)
unfoldable pub subject_of : ℕ → ℕ → Option Subject
subject_of kind detail =
    cond (eqb kind LexerError) (error_subject detail)
    (cond (eqb kind Unexpected) (Some (Token detail))
    (cond (eqb kind MissingToken) (Some (Token detail))
    (cond (eqb kind MissingSpecific) (Some (Token detail))
    (cond (eqb kind UnknownEscape) (Some (Character detail))
    (cond (eqb kind NonHexDigit) (Some (Character detail)) None)))))

-- The table of sentences has a line for each kind, under its number, and 0 for what is none or never made: "Report kind 11 is never made again."
-- (01, W7). Behind these it has one for each lexer error, "order in `ErrorToken` from 0", and a detail above them has the line of kind 1.
unfoldable pub sentence_of : ℕ → ℕ → ℕ
sentence_of kind detail =
    cond (leb kind BackslashAtEnd)
    (cond (eqb kind NonAscii) 0
    (cond (eqb kind LexerError)
    (cond (leb detail AtWithoutIdent) (BackslashAtEnd + 1 + detail) kind)
    kind))
    0

-- The control characters but the tab (U+0000 to U+001F, U+007F to U+009F), and Unicode's that part lines or turn the direction of
-- writing (U+2028 to U+202E, U+2066 to U+2069).
unfoldable pub is_control : ℕ → Bool
is_control c =
    within 0 0x08 c || (within 0x0A 0x1F c || (within 0x7F 0x9F c || (within 0x2028 0x202E c || within 0x2066 0x2069 c)))
