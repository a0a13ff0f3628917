-- Worked cases: P6 to P12 of 01, and rows that have no tree.
use Rattle.std.specs.Prelude.{◌≡◌, refl, true, ℕ, suc, ◌+◌}
use Rattle.std.proofs.Common.{sym, ◌∙◌, subst, inl, inr, lit≤}
use mathlib.Core.List.{List, [], ◌∷◌, ◌++◌, reverse}
use Rattle.literals.specs.Spelling.{spelling}
use Prim.Native.Char.{code}
use Prim.Native.String.{String}
use Rattle.utf8.specs.Utf8
use Rattle.literals.specs.Spelling
use Rattle.literals.specs.Numbers
use Rattle.literals.specs.Strings
use Rattle.words.specs.Words
use Rattle.words.specs.Words.{token_word}
use Rattle.words.specs.Token
use Rattle.words.specs.Node
use Rattle.words.specs.UnaryOp
use Rattle.words.specs.BinaryOp
use Rattle.chart.specs.Row.{Lexeme, RowToken, begins, token, row, row_from, is_blank}
use Rattle.chart.specs.Tree.{Trees, ◌⊕◌, branch, listed, named, number, none, leaf, string_tree, quiet}
use Rattle.chart.specs.Chart
use Rattle.chart.specs.Chart.{Operator, operator, this, other, level, binary_tree, is_block_like, Derives, file}
use Rattle.chart.specs.Parser.{within, lookup, operator_of, Outcome, if, on, bind, try, on_level, on_op, push, read_list, read_fields, read_on, read_else_ifs, read_round, read_struct, read_operand, read_prefix, read_level, read_expression, read_comptime, read_statement, read_statements, read_block, readers, read_declaration, read_declarations, read_file, parse, ok, nothing, failed, deep, prepend, read_strings}
use Rattle.chart.specs.Outcome.{not-fail}
use Rattle.chart.proofs.Sound.{lower}
use Rattle.chart.proofs.Complete.{complete}

abbrev ascii : String → List ℕ
ascii String.[] = []
ascii (String.◌∷◌ c s) = code c ∷ ascii s

-- `parse` with all that it is made of open, so that it computes.
computed : ℕ → List RowToken → Outcome
unfolding parse read_file readers read_level read_prefix read_block read_operand read_round read_struct read_comptime read_else_ifs read_fields read_list read_on on_op on_level read_declarations read_declaration read_statements read_statement read_expression begins on if bind try operator_of lookup within is_block_like push Numbers.nibble Numbers.digits Utf8.has Utf8.follow Utf8.sequence_by Utf8.table Utf8.lead_bits Utf8.joined Utf8.code_point Utf8.character_at Strings.characters_from Strings.end_after Strings.escape Strings.two_digits Strings.escaped Strings.decoded_from Strings.decode_string Strings.bad_digit Strings.is_bad Strings.digit_or0 Strings.hex_from Strings.decode_hex Strings.bytes_of quiet prepend read_strings
computed depth xs = parse depth xs

-- A token whose number and spelling don't matter.
sign : ℕ → RowToken
sign kind = token kind (record { number = 0; spelling = [] })

-- A name of one letter, with its token number.
abbrev letter : ℕ → ℕ → Lexeme
letter i c = record { number = i; spelling = c ∷ [] }

-- `const z = `, an expression and `;`.
abbrev constant : List RowToken → List RowToken
constant xs = sign Token.Const ∷ token Token.Identifier (letter 2 122) ∷ sign Token.Equals ∷ xs ++ (sign Token.Semicolon ∷ [])

constant_tree : Trees → Trees
constant_tree t = branch Node.File 0 (branch Node.ConstDecl 0 (named (letter 2 122) ⊕ t) ⊕ none)

-- P6: `a - b - c` groups left.
abbrev p6-row : List RowToken
p6-row = token Token.Identifier (letter 6 97) ∷ sign Token.Minus ∷ token Token.Identifier (letter 10 98) ∷ sign Token.Minus ∷ token Token.Identifier (letter 14 99) ∷ []

abbrev p6-tree : Trees
p6-tree = binary_tree BinaryOp.Minus (binary_tree BinaryOp.Minus (named (letter 6 97)) (named (letter 10 98))) (named (letter 14 99))

p6 : computed 5 (constant p6-row) ≡ ok (constant_tree p6-tree) []
unfolding sign constant_tree computed
p6 = refl

-- The same by the rules alone, with no parser: a name is of every level; `a - b` is of the level of sums, and so is `a - b - c`, with `c` of the next.
p6-by-rules : Derives file (constant p6-row) [] (constant_tree p6-tree)
unfolding sign constant_tree
p6-by-rules =
    Chart.file-rule
    (Chart.declarations-more
    (Chart.const-untyped (lower 7 0 (lit≤ tt) (Chart.sum (other this) (Chart.sum (other this) (Chart.tighter a-name) a-name) a-name)))
    Chart.declarations-end)
  where
    a-name : {v : Lexeme} {xs : List RowToken} → Derives (level true 8) (token Token.Identifier v ∷ xs) xs (named v)
    a-name = Chart.tighter (Chart.unprefixed (Chart.standalone Chart.name))

-- Comparisons group left too: `a < b < c`.
chain : computed 5 (constant (token Token.Identifier (letter 6 97) ∷ sign Token.LessThan ∷ token Token.Identifier (letter 10 98) ∷ sign Token.LessThan ∷ token Token.Identifier (letter 14 99) ∷ []))
    ≡ ok (constant_tree (binary_tree BinaryOp.LessThan (binary_tree BinaryOp.LessThan (named (letter 6 97)) (named (letter 10 98))) (named (letter 14 99)))) []
unfolding sign constant_tree computed
chain = refl

-- One operator of each level, from the loosest.
abbrev loosest : List Operator
loosest =
    operator Token.Or BinaryOp.Or ∷ operator Token.And BinaryOp.And ∷ operator Token.DoubleEquals BinaryOp.DoubleEquals
    ∷ operator Token.Pipe BinaryOp.Pipe ∷ operator Token.Caret BinaryOp.Caret ∷ operator Token.Ampersand BinaryOp.Ampersand
    ∷ operator Token.ShiftLeft BinaryOp.ShiftLeft ∷ operator Token.Plus BinaryOp.Plus ∷ operator Token.Star BinaryOp.Star ∷ []

-- Names with these operators between them, from the name of this number on: `a or b and c ..`.
abbrev between : ℕ → List Operator → List RowToken
between i [] = token Token.Identifier (letter i (97 + i)) ∷ []
between i (operator o op ∷ r) = token Token.Identifier (letter i (97 + i)) ∷ sign o ∷ between (suc i) r

-- Each operator holds all that stands right of it.
abbrev rightward : ℕ → List Operator → Trees
rightward i [] = named (letter i (97 + i))
rightward i (operator o op ∷ r) = binary_tree op (named (letter i (97 + i))) (rightward (suc i) r)

-- Each operator holds all that stands left of it, `t` before the first.
abbrev leftward : ℕ → Trees → List Operator → Trees
leftward i t [] = t
leftward i t (operator o op ∷ r) = leftward (suc i) (binary_tree op t (named (letter i (97 + i)))) r

nine : computed 12 (constant (between 0 loosest)) ≡ ok (constant_tree (rightward 0 loosest)) []
unfolding sign constant_tree computed
nine = refl

nine-back : computed 12 (constant (between 0 (reverse loosest))) ≡ ok (constant_tree (leftward 1 (named (letter 0 97)) (reverse loosest))) []
unfolding sign constant_tree computed reverse
nine-back = refl

-- P7: `-a.b` negates the member.
p7 : computed 5 (constant (sign Token.Minus ∷ token Token.Identifier (letter 7 97) ∷ sign Token.Dot ∷ token Token.Identifier (letter 9 98) ∷ []))
    ≡ ok (constant_tree (branch Node.UnaryExpr UnaryOp.Minus (branch Node.MemberExpr 0 (named (letter 7 97) ⊕ named (letter 9 98))))) []
unfolding sign constant_tree computed
p7 = refl

-- `init`, and a block of these tokens.
abbrev in_block : List RowToken → List RowToken
in_block xs = sign Token.Init ∷ sign Token.LeftCurly ∷ xs ++ (sign Token.RightCurly ∷ [])

abbrev block_tree : Trees → Trees → Trees
block_tree us e = branch Node.File 0 (branch Node.InitBlock 0 (listed Node.StatementsList us e) ⊕ none)

-- P11: `init { {} (a) }` is one call.
p11 : computed 9 (in_block (sign Token.LeftCurly ∷ sign Token.RightCurly ∷ sign Token.LeftRound ∷ token Token.Identifier (letter 8 97) ∷ sign Token.RightRound ∷ []))
    ≡ ok (block_tree none (branch Node.CallExpr 0 (branch Node.Block 0 (listed Node.StatementsList none none) ⊕ named (letter 8 97)))) []
unfolding sign computed
p11 = refl

-- P12: `init { comptime {} (a) }` is a block, then a ParenExpr.
p12 : computed 9 (in_block (sign Token.Comptime ∷ sign Token.LeftCurly ∷ sign Token.RightCurly ∷ sign Token.LeftRound ∷ token Token.Identifier (letter 10 97) ∷ sign Token.RightRound ∷ []))
    ≡ ok (block_tree (branch Node.ComptimeBlock 0 (listed Node.StatementsList none none) ⊕ none) (branch Node.ParenExpr 0 (named (letter 10 97)))) []
unfolding sign computed
p12 = refl

-- A row that the parser refuses has no tree.
refused : (depth : ℕ) (xs : List RowToken) → parse depth xs ≡ failed → (t : Trees) → ¬ Derives file xs [] t
refused depth xs e t D = elim (complete xs t D depth) [ inl q ↦ not-fail (sym e ∙ q) | inr q ↦ absurd (failed-deep (sym e ∙ q)) ]
  where
    IsFailed : Outcome → Type 0
    IsFailed failed = Unit {0}
    IsFailed deep = ⊥
    IsFailed nothing = ⊥
    IsFailed (ok t ys) = ⊥

    failed-deep : failed ≡ deep → ⊥
    failed-deep e = subst IsFailed e tt

-- `init { a b }`: a statement without `;` that isn't the last.
no-semicolon : (t : Trees) → ¬ Derives file (in_block (token Token.Identifier (letter 4 97) ∷ token Token.Identifier (letter 6 98) ∷ [])) [] t
unfolding sign computed
no-semicolon = refused 9 _ refl

-- `init { if a {} {} }`: a condition has no field list, so `{}` is its block, and the second `{}` a field list of the If.
condition : computed 9 (in_block (sign Token.If ∷ token Token.Identifier (letter 6 97) ∷ sign Token.LeftCurly ∷ sign Token.RightCurly ∷ sign Token.LeftCurly ∷ sign Token.RightCurly ∷ []))
    ≡ ok (block_tree none (branch Node.StructLit 0 (branch Node.If 0 (named (letter 6 97) ⊕ (branch Node.Block 0 (listed Node.StatementsList none none) ⊕ listed Node.ElseIfBranchList none none)) ⊕ none))) []
unfolding sign computed
condition = refl

-- An error token is in no rule.
error-token : (t : Trees) → ¬ Derives file (constant (sign Token.MalformedIdentError ∷ [])) [] t
unfolding sign computed
error-token = refused 9 _ refl

-- A name is never a builtin's: `const @z = 1;`.
builtin-as-name : (t : Trees) → ¬ Derives file (sign Token.Const ∷ sign Token.BuiltinName ∷ sign Token.Equals ∷ sign Token.True ∷ sign Token.Semicolon ∷ []) [] t
unfolding sign computed
builtin-as-name = refused 9 _ refl

-- A token that is spelled so.
spelled : ℕ → String → RowToken
spelled kind s = token kind (record { number = 0; spelling = ascii s })

-- P8: `"a\x41" hex"42"` is one literal with the bytes 97, 65, 66.
p8 : computed 5 (constant (spelled Token.LooseStringLiteral "\"a\\x41\"" ∷ spelled Token.LooseHexStringLiteral "hex\"42\"" ∷ []))
    ≡ ok (constant_tree (string_tree (97 ∷ 65 ∷ 66 ∷ []))) []
unfolding sign spelled constant_tree computed
p8 = refl

-- P9 and P10: strings that decode with a report have no tree.
p9 : (t : Trees) → ¬ Derives file (constant (spelled Token.LooseHexStringLiteral "hex\"4g\"" ∷ [])) [] t
unfolding sign spelled computed
p9 = refused 9 _ refl

p10 : (t : Trees) → ¬ Derives file (constant (spelled Token.LooseHexStringLiteral "hex\"4\"" ∷ [])) [] t
unfolding sign spelled computed
p10 = refused 9 _ refl

-- W7: `const a = "épinette";`, where `é` is C3 A9. The value has the bytes that stand between the quotes.
abbrev spruce : List ℕ
spruce = 0xC3 ∷ 0xA9 ∷ ascii "pinette"

abbrev spruce-row : List RowToken
spruce-row =
    sign Token.Const ∷ token Token.Identifier (letter 2 97) ∷ sign Token.Equals
    ∷ token Token.LooseStringLiteral (record { number = 6; spelling = 0x22 ∷ spruce ++ (0x22 ∷ []) }) ∷ sign Token.Semicolon ∷ []

abbrev spruce-tree : Trees
spruce-tree = branch Node.File 0 (branch Node.ConstDecl 0 (named (letter 2 97) ⊕ string_tree spruce) ⊕ none)

accents : computed 5 spruce-row ≡ ok spruce-tree []
unfolding sign computed
accents = refl

-- The same by the rules alone.
accents-by-rules : Derives file spruce-row [] spruce-tree
unfolding sign Strings.decoded_from Strings.decode_string Strings.bytes_of quiet
accents-by-rules =
    Chart.file-rule
    (Chart.declarations-more
    (Chart.const-untyped (lower 8 0 (lit≤ tt) (Chart.tighter (Chart.unprefixed (Chart.standalone (Chart.string refl Chart.strings-end))))))
    Chart.declarations-end)

-- Behind a backslash `é` is an unknown escape, so there is no tree.
accent-escaped : (t : Trees) → ¬ Derives file (constant (token Token.LooseStringLiteral (record { number = 6; spelling = 0x22 ∷ 0x5C ∷ 0xC3 ∷ 0xA9 ∷ 0x22 ∷ [] }) ∷ [])) [] t
unfolding sign computed
accent-escaped = refused 9 _ refl

-- `0x1_F` is the number 31.
hexadecimal : computed 5 (constant (spelled Token.HexLiteral "0x1_F" ∷ [])) ≡ ok (constant_tree (leaf Node.NumLiteral (number 31))) []
unfolding sign spelled constant_tree computed
hexadecimal = refl

-- "With 256: refusal 3": brackets need one reading more than there are of them, here two.
abbrev brackets : List RowToken
brackets = constant (sign Token.LeftRound ∷ token Token.Identifier (letter 7 97) ∷ sign Token.RightRound ∷ [])

deep-enough : computed 2 brackets ≡ ok (constant_tree (branch Node.ParenExpr 0 (named (letter 7 97)))) []
unfolding sign constant_tree computed
deep-enough = refl

too-deep : computed 1 brackets ≡ deep
unfolding sign computed
too-deep = refl

-- The row of `a/**/ #`: blanks and the closed comment are left out, the error token stays; token numbers are those of all tokens.
row-of-tokens : row (ascii "a/**/ #") (token_word Token.Identifier 1 ∷ token_word Token.BlockComment 5 ∷ token_word Token.Whitespace 6 ∷ token_word Token.InvalidCharError 7 ∷ token_word Token.Eof 7 ∷ [])
    ≡ token Token.Identifier (letter 0 97) ∷ token Token.InvalidCharError (letter 3 35) ∷ []
unfolding row_from is_blank Words.pack Words.high Words.low Spelling.token_start Spelling.covered
row-of-tokens = refl
