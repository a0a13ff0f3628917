-- Bytes of ASCII characters, and the classes of bytes that the lexer's patterns name.
use Rattle.std.specs.Prelude.{List, [], ◌∷◌, Bool, false, cond, ◌&&◌, ◌||◌, ℕ, ◌+◌, ◌-◌, leb, ltb, eqb}
use Prim.Native.Char.{code}
use Prim.Native.String.{String}

-- The bytes of a text of ASCII characters, so that spellings stand as they are written.
abbrev pub ascii : String → List ℕ
ascii String.[] = []
ascii (String.◌∷◌ c s) = code c ∷ ascii s

-- A class of bytes.
abbrev pub Class : Type 0
Class = ℕ → Bool

abbrev pub none : Class
none b = false

abbrev pub within : ℕ → ℕ → Class
within lo hi b = leb lo b && leb b hi

-- [0-9]
unfoldable pub digit : Class
digit = within 48 57

-- [A-Z] and [a-z]
unfoldable pub upper : Class
upper = within 65 90

unfoldable pub lower : Class
lower = within 97 122

-- [a-zA-Z_]
unfoldable pub ident_start : Class
ident_start b = lower b || (upper b || eqb b 95)

-- [a-zA-Z0-9_]
unfoldable pub ident_part : Class
ident_part b = ident_start b || digit b

-- [ \t\n\r]
unfoldable pub blank : Class
blank b = eqb b 32 || (eqb b 9 || (eqb b 10 || eqb b 13))

-- Rust's `char::is_digit`: `0` to `9` count 0 to 9, and a letter, small or capital, 10 and up.
unfoldable pub is_digit : ℕ → Class
is_digit radix b =
    cond (digit b) (ltb (b - 48) radix)
    (cond (upper b) (ltb (b - 65 + 10) radix)
    (cond (lower b) (ltb (b - 97 + 10) radix) false))
