-- The kinds of a token: "declaration order in `Token` from 0, Eof 81" (01, Words that are lent); `Token` of lexer.rs.
use Rattle.std.specs.Prelude.{ℕ, Bool, cond, ◌||◌, eqb, Option, Some, None}
use Rattle.words.specs.declared.error_token.ErrorToken.{ErrorToken}
use Rattle.words.specs.declared.error_token.ErrorToken.TheVariants as Case

abbrev pub Semicolon : ℕ
Semicolon = 0

abbrev pub Comma : ℕ
Comma = 1

abbrev pub Colon : ℕ
Colon = 2

abbrev pub Dot : ℕ
Dot = 3

abbrev pub Dollar : ℕ
Dollar = 4

abbrev pub LeftCurly : ℕ
LeftCurly = 5

abbrev pub RightCurly : ℕ
RightCurly = 6

abbrev pub LeftRound : ℕ
LeftRound = 7

abbrev pub RightRound : ℕ
RightRound = 8

abbrev pub LeftSquare : ℕ
LeftSquare = 9

abbrev pub RightSquare : ℕ
RightSquare = 10

abbrev pub DoubleColon : ℕ
DoubleColon = 11

abbrev pub FatArrow : ℕ
FatArrow = 12

abbrev pub Equals : ℕ
Equals = 13

abbrev pub Plus : ℕ
Plus = 14

abbrev pub PlusPercent : ℕ
PlusPercent = 15

abbrev pub Minus : ℕ
Minus = 16

abbrev pub MinusPercent : ℕ
MinusPercent = 17

abbrev pub Star : ℕ
Star = 18

abbrev pub StarPercent : ℕ
StarPercent = 19

abbrev pub Slash : ℕ
Slash = 20

abbrev pub PlusSlash : ℕ
PlusSlash = 21

abbrev pub MinusSlash : ℕ
MinusSlash = 22

abbrev pub LessSlash : ℕ
LessSlash = 23

abbrev pub GreaterSlash : ℕ
GreaterSlash = 24

abbrev pub Percent : ℕ
Percent = 25

abbrev pub DoubleEquals : ℕ
DoubleEquals = 26

abbrev pub BangEquals : ℕ
BangEquals = 27

abbrev pub LessThan : ℕ
LessThan = 28

abbrev pub GreaterThan : ℕ
GreaterThan = 29

abbrev pub LessEquals : ℕ
LessEquals = 30

abbrev pub GreaterEquals : ℕ
GreaterEquals = 31

abbrev pub Bang : ℕ
Bang = 32

abbrev pub AmperAmper : ℕ
AmperAmper = 33

abbrev pub PipePipe : ℕ
PipePipe = 34

abbrev pub Ampersand : ℕ
Ampersand = 35

abbrev pub Pipe : ℕ
Pipe = 36

abbrev pub Caret : ℕ
Caret = 37

abbrev pub Tilde : ℕ
Tilde = 38

abbrev pub ShiftLeft : ℕ
ShiftLeft = 39

abbrev pub ShiftRight : ℕ
ShiftRight = 40

abbrev pub If : ℕ
If = 41

abbrev pub Else : ℕ
Else = 42

abbrev pub Fn : ℕ
Fn = 43

abbrev pub Eager : ℕ
Eager = 44

abbrev pub Let : ℕ
Let = 45

abbrev pub Mut : ℕ
Mut = 46

abbrev pub Const : ℕ
Const = 47

abbrev pub Init : ℕ
Init = 48

abbrev pub Run : ℕ
Run = 49

abbrev pub Struct : ℕ
Struct = 50

abbrev pub Tuple : ℕ
Tuple = 51

abbrev pub Return : ℕ
Return = 52

abbrev pub Comptime : ℕ
Comptime = 53

abbrev pub Inline : ℕ
Inline = 54

abbrev pub While : ℕ
While = 55

abbrev pub True : ℕ
True = 56

abbrev pub False : ℕ
False = 57

abbrev pub And : ℕ
And = 58

abbrev pub Or : ℕ
Or = 59

abbrev pub Pub : ℕ
Pub = 60

abbrev pub Use : ℕ
Use = 61

abbrev pub As : ℕ
As = 62

abbrev pub Match : ℕ
Match = 63

abbrev pub SelfType : ℕ
SelfType = 64

abbrev pub Identifier : ℕ
Identifier = 65

abbrev pub BuiltinName : ℕ
BuiltinName = 66

abbrev pub DecimalLiteral : ℕ
DecimalLiteral = 67

abbrev pub HexLiteral : ℕ
HexLiteral = 68

abbrev pub BinLiteral : ℕ
BinLiteral = 69

abbrev pub LooseStringLiteral : ℕ
LooseStringLiteral = 70

abbrev pub LooseHexStringLiteral : ℕ
LooseHexStringLiteral = 71

abbrev pub Whitespace : ℕ
Whitespace = 72

abbrev pub LineComment : ℕ
LineComment = 73

abbrev pub BlockComment : ℕ
BlockComment = 74

abbrev pub AtWithoutIdentError : ℕ
AtWithoutIdentError = 75

abbrev pub InvalidCharError : ℕ
InvalidCharError = 76

abbrev pub MalformedIdentError : ℕ
MalformedIdentError = 77

abbrev pub MultilineStringError : ℕ
MultilineStringError = 78

abbrev pub UnclosedBlockCommentError : ℕ
UnclosedBlockCommentError = 79

abbrev pub UnclosedStringError : ℕ
UnclosedStringError = 80

abbrev pub Eof : ℕ
Eof = 81

-- `Token::is_trivia` of lexer.rs. Two of the error tokens are none: MultilineStringError and UnclosedStringError.
unfoldable pub is_trivia : ℕ → Bool
is_trivia kind =
    eqb kind Whitespace
    || eqb kind LineComment
    || eqb kind BlockComment
    || eqb kind InvalidCharError
    || eqb kind MalformedIdentError
    || eqb kind UnclosedBlockCommentError
    || eqb kind AtWithoutIdentError

-- What a token that is a lexer error was.
abbrev pub LexError : Type 0
LexError = Option ErrorToken

-- `Token::lex_error` of lexer.rs, arm by arm.
unfoldable pub lex_error : ℕ → LexError
lex_error kind =
    cond (eqb kind InvalidCharError) (Some Case.InvalidChar)
    (cond (eqb kind MalformedIdentError) (Some Case.MalformedIdent)
    (cond (eqb kind MultilineStringError) (Some Case.MultilineString)
    (cond (eqb kind UnclosedBlockCommentError) (Some Case.UnclosedBlockComment)
    (cond (eqb kind UnclosedStringError) (Some Case.UnclosedString)
    (cond (eqb kind AtWithoutIdentError) (Some Case.AtWithoutIdent)
    None)))))
