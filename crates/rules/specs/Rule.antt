-- The rules of the tables, from lexer.rs: the class of a byte, the state after a byte, the kind of the token that ends in a state. They are
-- "a table of 256 byte classes and a table of states by classes" (01, W6); a state stands for the beginnings of tokens from which all tokens go
-- on alike. Classes and states have printable codes, so that the tables can be read: 48 is `0`, 97 is `a`.
use Rattle.std.specs.Prelude.{List, [], ◌∷◌, ◌++◌, map, Bool, cond, ◌||◌, ℕ, zero, suc, ◌-◌, eqb, get_or}
use Rattle.words.specs.Token as TokenKind
use Rattle.scan.specs.Bytes.{ascii, Class, within, digit, ident_start, ident_part, blank, is_digit}
use Rattle.scan.specs.Lexer.{Fixed, punctuation}
use Rattle.scan.specs.Longest.{same}

-- ------------------------------------------------------------------ classes

-- The columns: bytes that some rule names alone, then digits, hexadecimal letters, other letters, blanks, then the bytes of the fixed
-- spellings, `@` and `"`. A byte has the first class that it is of; a byte of none is of the last, `?`.
unfoldable pub columns : List Class
columns =
    map eqb (ascii "hexb_01") ++ (digit ∷ is_digit 16 ∷ ident_start ∷ blank ∷ map eqb (ascii ":=+-*/%<>!&|@\";,.${}()[]^~"))

-- a byte of each class
unfoldable pub members : List ℕ
members = ascii "hexb_019az :=+-*/%<>!&|@\";,.${}()[]^~?"

abbrev pub first_of : List Class → ℕ → ℕ → ℕ
first_of [] n b = n
first_of (q ∷ qs) n b = cond (q b) n (first_of qs (suc n) b)

unfoldable pub class_of : ℕ → ℕ
class_of b = first_of columns 48 b

abbrev pub member : ℕ → ℕ
member c = get_or members (c - 48) 0

-- ------------------------------------------------------------------ states

-- The states that go on have the codes `a` to `z`; all others are ends: a fixed spelling that none goes on from, or the beginning of a
-- string or a comment. `-`: the byte is not of the token.
abbrev pub goes_on : ℕ → Bool
goes_on q = within 97 122 q

abbrev pub stop : ℕ
stop = 45

-- nothing yet
abbrev pub start : ℕ
start = 97

abbrev pub blanks : ℕ
blanks = 98

-- a name, and one that is `h`, `he`, `hex` so far
abbrev pub name : ℕ
name = 99

abbrev pub name_h : ℕ
name_h = 100

abbrev pub name_he : ℕ
name_he = 101

abbrev pub name_hex : ℕ
name_hex = 102

-- `@`, and a builtin's name
abbrev pub at_sign : ℕ
at_sign = 103

abbrev pub builtin : ℕ
builtin = 104

-- numbers: `0`, decimal, `0x`, `0b`, hexadecimal, binary, and one with a wrong letter or digit
abbrev pub zero_alone : ℕ
zero_alone = 105

abbrev pub decimal : ℕ
decimal = 106

abbrev pub zero_x : ℕ
zero_x = 107

abbrev pub zero_b : ℕ
zero_b = 108

abbrev pub hexadecimal : ℕ
hexadecimal = 109

abbrev pub binary : ℕ
binary = 110

abbrev pub malformed : ℕ
malformed = 111

abbrev pub numeric : ℕ → Bool
numeric q = within 105 111 q

-- the bytes that begin spellings of one and of two bytes, `:` to `|`
abbrev pub operator : ℕ → Bool
operator q = within 112 122 q

-- `"`, `hex"`, `//`, `/*`
abbrev pub quote : ℕ
quote = 49

abbrev pub hex_quote : ℕ
hex_quote = 50

abbrev pub line : ℕ
line = 51

abbrev pub block : ℕ
block = 52

-- The state in which each fixed spelling ends, in the order of `punctuation`.
unfoldable pub marks : List ℕ
marks = ascii ";,p.${}()[]ABqrCsDtEuFGHI%JKvwLMxNOyz^~PQ"

-- after a byte that a name goes on with, or not; the same of a number, where a digit of another radix or a letter is wrong
abbrev pub part : ℕ → ℕ → ℕ
part q b = cond (ident_part b) q stop

abbrev pub digits : ℕ → Class → ℕ → ℕ
digits q p b = cond (p b || eqb b 95) q (part malformed b)

-- one byte of a spelling, or another
abbrev pub one : ℕ → ℕ → (ℕ → ℕ) → ℕ → ℕ
one a q f b = cond (eqb a b) q (f b)

-- the state in which a fixed spelling ends
abbrev pub mark_of : List Fixed → List ℕ → List ℕ → ℕ
mark_of [] ms w = stop
mark_of (f ∷ fs) [] w = stop
mark_of (f ∷ fs) (m ∷ ms) w = cond (same f.spelling w) m (mark_of fs ms w)

-- after an operator's byte `a`: that of the fixed spelling which the two are
abbrev pub paired : ℕ → ℕ → ℕ
paired a b = mark_of punctuation marks (a ∷ b ∷ [])

-- The state after the byte, by the state before it, `a` to `z`.
unfoldable pub rows : List (ℕ → ℕ)
rows =
    -- a: nothing yet; `h`, `0`, `@` and `"` have states of their own
    one 104 name_h (one 48 zero_alone (one 64 at_sign (one 34 quote
    (λ b. cond (ident_start b) name (cond (digit b) decimal (cond (blank b) blanks
    (mark_of punctuation marks (b ∷ []))))))))
    -- b: blanks
    ∷ (λ b. cond (blank b) blanks stop)
    -- c: a name
    ∷ part name
    -- d: `h`, with `e` `he`
    ∷ one 101 name_he (part name)
    -- e: `he`, with `x` `hex`
    ∷ one 120 name_hex (part name)
    -- f: `hex`, with `"` the beginning of a string
    ∷ one 34 hex_quote (part name)
    -- g: `@`
    ∷ (λ b. cond (ident_start b) builtin stop)
    -- h: a builtin's name
    ∷ part builtin
    -- i: `0`, with `x` or `b` a prefix
    ∷ one 120 zero_x (one 98 zero_b (digits decimal (is_digit 10)))
    -- j: a decimal number
    ∷ digits decimal (is_digit 10)
    -- k: `0x`
    ∷ (λ b. cond (is_digit 16 b) hexadecimal (part malformed b))
    -- l: `0b`
    ∷ (λ b. cond (is_digit 2 b) binary (part malformed b))
    -- m: a hexadecimal number
    ∷ digits hexadecimal (is_digit 16)
    -- n: a binary number
    ∷ digits binary (is_digit 2)
    -- o: a malformed number
    ∷ part malformed
    -- p: `:`
    ∷ paired 58
    -- q: `=`
    ∷ paired 61
    -- r: `+`
    ∷ paired 43
    -- s: `-`
    ∷ paired 45
    -- t: `*`
    ∷ paired 42
    -- u: `/`; `//` and `/*` begin comments
    ∷ one 47 line (one 42 block (paired 47))
    -- v: `<`
    ∷ paired 60
    -- w: `>`
    ∷ paired 62
    -- x: `!`
    ∷ paired 33
    -- y: `&`
    ∷ paired 38
    -- z: `|`
    ∷ paired 124
    ∷ []

abbrev pub row_at : List (ℕ → ℕ) → ℕ → ℕ → ℕ
row_at [] n b = stop
row_at (r ∷ rs) zero b = r b
row_at (r ∷ rs) (suc n) b = row_at rs n b

unfoldable pub after : ℕ → ℕ → ℕ
after q b = row_at rows (q - 97) b

-- ------------------------------------------------------------------ kinds

-- what stands beside a key in two lists
abbrev pub beside : List ℕ → List ℕ → ℕ → ℕ → ℕ
beside [] vs other k = other
beside (x ∷ xs) [] other k = other
beside (x ∷ xs) (v ∷ vs) other k = cond (eqb x k) v (beside xs vs other k)

-- The kind of the token that ends in a state; Eof where its spelling or what follows says it: a name, a string, a comment, nothing.
unfoldable pub kind_of : ℕ → ℕ
kind_of q =
    beside (marks ++ ascii "ghbijklomn")
    (map (λ f. f.kind) punctuation
    ++ (TokenKind.AtWithoutIdentError ∷ TokenKind.BuiltinName ∷ TokenKind.Whitespace
    ∷ TokenKind.DecimalLiteral ∷ TokenKind.DecimalLiteral ∷ TokenKind.MalformedIdentError ∷ TokenKind.MalformedIdentError
    ∷ TokenKind.MalformedIdentError ∷ TokenKind.HexLiteral ∷ TokenKind.BinLiteral ∷ []))
    TokenKind.Eof q
