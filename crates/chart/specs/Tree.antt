-- Trees, as far as two of them can differ: a node's kind with its flags and its operator, its name, number or bytes, and its children.
use Rattle.std.specs.Prelude.{Bool, true, false, cond, List, [], ◌∷◌, ℕ, ◌+◌, drop}
use Rattle.literals.specs.Spelling.{span}
use Rattle.literals.specs.Numbers.{digits}
use Rattle.literals.specs.Strings.{Event, byte, report, decode_string, decode_hex}
use Rattle.words.specs.Node
use Rattle.words.specs.Flag
use Rattle.chart.specs.Row.{Lexeme}

-- What a node says besides its kind.
-- "A name is a token's spelling, a number what its digits make in its radix, string bytes what decoding the neighbouring strings gives" (01, The wall chart).
pub data Value : Type 0 where
  -- Flags as bits, or an operator, as in the payload of the node's word; 0 where a kind has neither.
  flags : ℕ → Value
  name : List ℕ → Value
  number : ℕ → Value
  bytes : List ℕ → Value

mutual
  pub data Tree : Type 0 where
    node : ℕ → Value → Trees → Tree

  -- Neighbours, from left to right.
  pub data Trees : Type 0 where
    none : Trees
    ◌▸◌ : Tree → Trees → Trees

infixr 40 ◌▸◌
-- One row of neighbours after the other.
unfoldable pub ◌⊕◌ : Trees → Trees → Trees
none ⊕ us = us
(t ▸ ts) ⊕ us = t ▸ (ts ⊕ us)

infixr 40 ◌⊕◌
-- A node with children: its kind, its flags or operator.
unfoldable pub branch : ℕ → ℕ → Trees → Trees
branch kind f ts = node kind (flags f) ts ▸ none

abbrev pub leaf : ℕ → Value → Trees
leaf kind v = node kind v none ▸ none

-- A list node with what it holds, and the neighbours after it.
abbrev pub listed : ℕ → Trees → Trees → Trees
listed kind us after = node kind (flags 0) us ▸ after

-- What a flag adds to the payload.
unfoldable pub flag : Bool → ℕ → ℕ
flag b n = cond b n 0

abbrev pub let_flags : Bool → Bool → Bool → ℕ
let_flags comptime mutable typed = flag comptime Flag.LetStmt-comptime + flag mutable Flag.LetStmt-mutable + flag typed Flag.LetStmt-typed

abbrev pub named : Lexeme → Trees
named v = leaf Node.Identifier (name v.spelling)

abbrev pub builtin_named : Lexeme → Trees
builtin_named v = leaf Node.BuiltinName (name v.spelling)

-- The payload of a ParamAnyType is that of a name.
abbrev pub any_type : Lexeme → Trees
any_type v = leaf Node.ParamAnyType (name v.spelling)

-- A number in its radix; `prefix` characters stand before its digits.
abbrev pub numeral : ℕ → ℕ → Lexeme → Trees
numeral radix prefix v = leaf Node.NumLiteral (number (digits radix 0 (drop prefix v.spelling)))

-- What a string token decodes to. The place is that of reports alone, and no rule holds a string with a report.
abbrev pub decoded : Lexeme → List Event
decoded v = decode_string (span 0 0) v.spelling

abbrev pub decoded_hex : Lexeme → List Event
decoded_hex v = decode_hex (span 0 0) v.spelling

-- "strings must decode without a report" (01, The wall chart).
unfoldable pub quiet : List Event → Bool
quiet [] = true
quiet (byte b ∷ es) = quiet es
quiet (report k d p ∷ es) = false

abbrev pub string_tree : List ℕ → Trees
string_tree bs = leaf Node.StringLiteral (bytes bs)
