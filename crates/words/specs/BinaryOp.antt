-- The payload of a BinaryExpr: "operators by enum order" (01, Words that are lent); `BinaryOp` of cst/mod.rs.
use Rattle.std.specs.Prelude.{ℕ}

abbrev pub Or : ℕ
Or = 0

abbrev pub And : ℕ
And = 1

abbrev pub DoubleEquals : ℕ
DoubleEquals = 2

abbrev pub BangEquals : ℕ
BangEquals = 3

abbrev pub LessThan : ℕ
LessThan = 4

abbrev pub GreaterThan : ℕ
GreaterThan = 5

abbrev pub LessEquals : ℕ
LessEquals = 6

abbrev pub GreaterEquals : ℕ
GreaterEquals = 7

abbrev pub Pipe : ℕ
Pipe = 8

abbrev pub Caret : ℕ
Caret = 9

abbrev pub Ampersand : ℕ
Ampersand = 10

abbrev pub ShiftLeft : ℕ
ShiftLeft = 11

abbrev pub ShiftRight : ℕ
ShiftRight = 12

abbrev pub Plus : ℕ
Plus = 13

abbrev pub Minus : ℕ
Minus = 14

abbrev pub PlusPercent : ℕ
PlusPercent = 15

abbrev pub MinusPercent : ℕ
MinusPercent = 16

abbrev pub Star : ℕ
Star = 17

abbrev pub Slash : ℕ
Slash = 18

abbrev pub Percent : ℕ
Percent = 19

abbrev pub StarPercent : ℕ
StarPercent = 20

abbrev pub PlusSlash : ℕ
PlusSlash = 21

abbrev pub MinusSlash : ℕ
MinusSlash = 22

abbrev pub LessSlash : ℕ
LessSlash = 23

abbrev pub GreaterSlash : ℕ
GreaterSlash = 24
