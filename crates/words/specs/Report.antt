-- The kinds of a report, 1 to 16 (01, Words that are lent).
use Rattle.std.specs.Prelude.{ℕ}

abbrev pub LexerError : ℕ
LexerError = 1

abbrev pub Unexpected : ℕ
Unexpected = 2

abbrev pub MissingToken : ℕ
MissingToken = 3

abbrev pub MissingSpecific : ℕ
MissingSpecific = 4

abbrev pub BuiltinAsName : ℕ
BuiltinAsName = 5

abbrev pub FieldAfterMethod : ℕ
FieldAfterMethod = 6

abbrev pub StarInGroup : ℕ
StarInGroup = 7

abbrev pub PathInGroup : ℕ
PathInGroup = 8

abbrev pub EmptyGroup : ℕ
EmptyGroup = 9

abbrev pub NeedlessBraces : ℕ
NeedlessBraces = 10

-- Reserved: "Report kind 11 is never made again." (01, W7)
abbrev pub NonAscii : ℕ
NonAscii = 11

abbrev pub BadHexEscape : ℕ
BadHexEscape = 12

abbrev pub UnknownEscape : ℕ
UnknownEscape = 13

abbrev pub NonHexDigit : ℕ
NonHexDigit = 14

abbrev pub OddDigits : ℕ
OddDigits = 15

abbrev pub BackslashAtEnd : ℕ
BackslashAtEnd = 16
