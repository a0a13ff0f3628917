-- What a lexer error was, the detail of a report of kind 1: "order in `ErrorToken` from 0" (01, Words that are lent); `ErrorToken` of lexer.rs.
use Rattle.std.specs.Prelude.{ℕ}
use Rattle.words.specs.declared.error_token.ErrorToken.{ErrorToken}
use Rattle.words.specs.declared.error_token.ErrorToken.TheVariants as Case

abbrev pub InvalidChar : ℕ
InvalidChar = 0

abbrev pub MalformedIdent : ℕ
MalformedIdent = 1

abbrev pub MultilineString : ℕ
MultilineString = 2

abbrev pub UnclosedBlockComment : ℕ
UnclosedBlockComment = 3

abbrev pub UnclosedString : ℕ
UnclosedString = 4

abbrev pub AtWithoutIdent : ℕ
AtWithoutIdent = 5

-- The number of each case.
abbrev pub error_number : ErrorToken → ℕ
error_number Case.InvalidChar = InvalidChar
error_number Case.MalformedIdent = MalformedIdent
error_number Case.MultilineString = MultilineString
error_number Case.UnclosedBlockComment = UnclosedBlockComment
error_number Case.UnclosedString = UnclosedString
error_number Case.AtWithoutIdent = AtWithoutIdent
