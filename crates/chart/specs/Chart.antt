-- The grammar of scripts: 01's section "The wall chart", rule for rule. A rule says what row of tokens a tree has, and nothing of how it is found.
use Rattle.std.specs.Prelude.{◌≡◌, Bool, true, false, ◌||◌, ℕ, suc, ◌+◌, eqb}
use mathlib.Core.List.{List, [], ◌∷◌, ◌++◌, flatten}
use Rattle.literals.specs.Strings.{bytes_of}
use Rattle.words.specs.Token
use Rattle.words.specs.Node
use Rattle.words.specs.Flag
use Rattle.words.specs.UnaryOp
use Rattle.words.specs.BinaryOp
use Rattle.chart.specs.Row.{Lexeme, RowToken, begins, token}
use Rattle.chart.specs.Tree.{Trees, ◌⊕◌, branch, listed, flag, let_flags, named, builtin_named, any_type, numeral, decoded, decoded_hex, quiet, string_tree, node, none, ◌▸◌}

-- A token kind, and the operator that it stands for.
pub data Operator : Type 0 where
  operator : ℕ → ℕ → Operator

-- "Levels from loosest, each grouping left: or; and; six comparisons; `|`; `^`; `&`; shifts; `+ - +% -% `; `* / % *% +/ -/ </ >/`." (01, The
-- wall chart.) The operators of each level; `Derives` has its rule.
abbrev pub ors : List Operator
ors = operator Token.Or BinaryOp.Or ∷ []

abbrev pub ands : List Operator
ands = operator Token.And BinaryOp.And ∷ []

abbrev pub comparisons : List Operator
comparisons =
    operator Token.DoubleEquals BinaryOp.DoubleEquals ∷ operator Token.BangEquals BinaryOp.BangEquals
    ∷ operator Token.LessThan BinaryOp.LessThan ∷ operator Token.GreaterThan BinaryOp.GreaterThan
    ∷ operator Token.LessEquals BinaryOp.LessEquals ∷ operator Token.GreaterEquals BinaryOp.GreaterEquals
    ∷ []

abbrev pub pipes : List Operator
pipes = operator Token.Pipe BinaryOp.Pipe ∷ []

abbrev pub carets : List Operator
carets = operator Token.Caret BinaryOp.Caret ∷ []

abbrev pub ampersands : List Operator
ampersands = operator Token.Ampersand BinaryOp.Ampersand ∷ []

abbrev pub shifts : List Operator
shifts = operator Token.ShiftLeft BinaryOp.ShiftLeft ∷ operator Token.ShiftRight BinaryOp.ShiftRight ∷ []

abbrev pub sums : List Operator
sums =
    operator Token.Plus BinaryOp.Plus ∷ operator Token.Minus BinaryOp.Minus
    ∷ operator Token.PlusPercent BinaryOp.PlusPercent ∷ operator Token.MinusPercent BinaryOp.MinusPercent
    ∷ []

abbrev pub products : List Operator
products =
    operator Token.Star BinaryOp.Star ∷ operator Token.Slash BinaryOp.Slash
    ∷ operator Token.Percent BinaryOp.Percent ∷ operator Token.StarPercent BinaryOp.StarPercent
    ∷ operator Token.PlusSlash BinaryOp.PlusSlash ∷ operator Token.MinusSlash BinaryOp.MinusSlash
    ∷ operator Token.LessSlash BinaryOp.LessSlash ∷ operator Token.GreaterSlash BinaryOp.GreaterSlash
    ∷ []

abbrev pub levels : List (List Operator)
levels = ors ∷ ands ∷ comparisons ∷ pipes ∷ carets ∷ ampersands ∷ shifts ∷ sums ∷ products ∷ []

-- A token of kind `o` is one of these operators, the one with the payload `op`.
pub data OneOf : List Operator → ℕ → ℕ → Type 0 where
  this : {o op : ℕ} {r : List Operator} → OneOf (operator o op ∷ r) o op
  other : {o op : ℕ} {x : Operator} {r : List Operator} → OneOf r o op → OneOf (x ∷ r) o op

-- Whether a kind of token is that of one of these operators.
unfoldable pub is_among : List Operator → ℕ → Bool
is_among [] kind = false
is_among (operator k op ∷ r) kind = eqb kind k || is_among r kind

-- "a binary operator" (01, The wall chart): one of any level.
unfoldable pub is_binary : ℕ → Bool
is_binary kind = is_among (flatten levels) kind

-- The level after the nine, of prefix operators.
abbrev pub prefix_level : ℕ
prefix_level = 9

-- "Nodes as in the Rust, lists and Operator included": the Operator stands between the operands.
unfoldable pub binary_tree : ℕ → Trees → Trees → Trees
binary_tree op t u = branch Node.BinaryExpr op (t ⊕ (branch Node.Operator 0 none ⊕ u))

-- "a Block, If or Match" (01, The wall chart).
unfoldable pub is_block_like : Trees → Bool
is_block_like none = false
is_block_like (node k v ts ▸ us) = eqb k Node.Block || (eqb k Node.If || eqb k Node.Match)

-- "`.`, `(`, `{`, `=`, `;` or a binary operator" (01, The wall chart).
abbrev pub continuing : ℕ → Bool
continuing k =
    eqb k Token.Dot
    || (eqb k Token.LeftRound
    || (eqb k Token.LeftCurly
    || (eqb k Token.Equals
    || (eqb k Token.Semicolon
    || is_binary k))))

-- Whether one of these is next.
unfoldable pub continues : List RowToken → Bool
continues [] = false
continues (token k v ∷ xs) = continuing k

-- What there are rules for. The `Bool` of `level` and `postfix` says whether a field list in braces is allowed: "Conditions, match subjects,
-- return types and struct index types don't allow it, nor do their operands; inside brackets or blocks it is allowed again" (01, The wall chart).
-- Those of `binding` and `binding_name` say whether the let is comptime, and mutable; that of `import` whether it is public.
pub data Nonterminal : Type 0 where
  file declarations declaration : Nonterminal
  import : Bool → Nonterminal
  path items item : Nonterminal
  level : Bool → ℕ → Nonterminal
  postfix : Bool → Nonterminal
  operand strings expressions types fields else_ifs arms arm signature parameters parameter parameter_type struct_body methods : Nonterminal
  block statements statement : Nonterminal
  binding : Bool → Nonterminal
  binding_name : Bool → Bool → Nonterminal

-- "The chart derives a row of tokens when a tree made by these rules has just that row as its tokens, from left to right" (01, The wall chart).
-- `Derives n xs ys ts`: by the rules for `n`, the trees `ts` have as their tokens those of the row `xs` up to the row `ys`, which is left.
-- So a row `xs` is derived with its tree where `Derives file xs [] ts`; `ys` is always an end of `xs` (`Errors.splits`). A list's tokens are those
-- after its opening one, its closing one included. `level true 0` is any expression, `level false 0` one without a field list of its own.
pub data Derives : Nonterminal → List RowToken → List RowToken → Trees → Type 0 where
  -- Over each group stands a line with its rules in short: `|` stands between two ways, an empty way is left blank; NAME, NUMBER, STRING and BUILTIN
  -- are tokens; `expr` is `level true 0`, `expr!` is `level false 0`.
  -- ---- Declarations.
  -- file = declarations;  declarations = | declaration declarations
  -- File: declarations.
  file-rule : {xs : List RowToken} {us : Trees}
      → Derives declarations xs [] us
      → Derives file xs [] (branch Node.File 0 us)
  -- None is left at the end of the row.
  declarations-end : Derives declarations [] [] none
  -- A declaration, then the others.
  declarations-more : {xs ys zs : List RowToken} {t us : Trees}
      → Derives declaration xs ys t
      → Derives declarations ys zs us
      → Derives declarations xs zs (t ⊕ us)
  -- declaration = init block | run block | const NAME = expr ; | const NAME : expr = expr ; | use import | pub use import
  -- `init` block.
  init : {v : Lexeme} {xs ys : List RowToken} {b : Trees}
      → Derives block xs ys b
      → Derives declaration (token Token.Init v ∷ xs) ys (branch Node.InitBlock 0 b)
  -- `run` block.
  run : {v : Lexeme} {xs ys : List RowToken} {b : Trees}
      → Derives block xs ys b
      → Derives declaration (token Token.Run v ∷ xs) ys (branch Node.RunBlock 0 b)
  -- `const` name, optional `:` type, `=` expression `;`: without the type.
  const-untyped : {u v w z : Lexeme} {xs ys : List RowToken} {t : Trees}
      → Derives (level true 0) xs (token Token.Semicolon z ∷ ys) t
      → Derives declaration (token Token.Const u ∷ token Token.Identifier v ∷ token Token.Equals w ∷ xs) ys (branch Node.ConstDecl 0 (named v ⊕ t))
  -- The same with `:` type.
  const-typed : {u v w y z : Lexeme} {xs ys zs : List RowToken} {s t : Trees}
      → Derives (level true 0) xs (token Token.Equals y ∷ ys) s
      → Derives (level true 0) ys (token Token.Semicolon z ∷ zs) t
      → Derives declaration (token Token.Const u ∷ token Token.Identifier v ∷ token Token.Colon w ∷ xs) zs (branch Node.ConstDecl Flag.ConstDecl-typed (named v ⊕ (s ⊕ t)))
  -- Optional `pub`, `use` path, and what follows it: without `pub`.
  use-private : {v : Lexeme} {xs ys : List RowToken} {t : Trees}
      → Derives (import false) xs ys t
      → Derives declaration (token Token.Use v ∷ xs) ys t
  -- With `pub`.
  use-public : {u v : Lexeme} {xs ys : List RowToken} {t : Trees}
      → Derives (import true) xs ys t
      → Derives declaration (token Token.Pub u ∷ token Token.Use v ∷ xs) ys t
  -- import = path ; | path as NAME ; | path :: * ; | path :: { item , items ;
  -- A path, then `;`.
  import-path : {p : Bool} {u : Lexeme} {xs ys : List RowToken} {t : Trees}
      → Derives path xs (token Token.Semicolon u ∷ ys) t
      → Derives (import p) xs ys (branch Node.ImportDecl (flag p Flag.ImportDecl-public) t)
  -- A path, then `as` name `;`. The path is a node of its own here, as in the Rust.
  import-as : {p : Bool} {u v w : Lexeme} {xs ys : List RowToken} {t : Trees}
      → Derives path xs (token Token.As u ∷ token Token.Identifier v ∷ token Token.Semicolon w ∷ ys) t
      → Derives (import p) xs ys (branch Node.ImportAsDecl (flag p Flag.ImportAsDecl-public) (branch Node.ImportPath 0 t ⊕ named v))
  -- A path, then `::` `*` `;`.
  import-all : {p : Bool} {u v w : Lexeme} {xs ys : List RowToken} {t : Trees}
      → Derives path xs (token Token.DoubleColon u ∷ token Token.Star v ∷ token Token.Semicolon w ∷ ys) t
      → Derives (import p) xs ys (branch Node.ImportDecl (flag p Flag.ImportDecl-public + Flag.ImportDecl-glob) t)
  -- A path, then `::` with two or more names in braces, and `;`: one and a comma, then one or more.
  import-group : {p : Bool} {u v w a : Lexeme} {xs ys zs ws : List RowToken} {t i us : Trees}
      → Derives path xs (token Token.DoubleColon u ∷ token Token.LeftCurly v ∷ ys) t
      → Derives item ys (token Token.Comma a ∷ zs) i
      → Derives items zs (token Token.Semicolon w ∷ ws) us
      → Derives (import p) xs ws (branch Node.ImportGroupDecl (flag p Flag.ImportGroupDecl-public) (t ⊕ (i ⊕ us)))
  -- path = NAME | NAME :: path
  -- A path: names with `::` between them. The last one.
  path-last : {v : Lexeme} {xs : List RowToken} → Derives path (token Token.Identifier v ∷ xs) xs (named v)
  -- A name, `::` and the rest of the path.
  path-more : {v w : Lexeme} {xs ys : List RowToken} {t : Trees}
      → Derives path xs ys t
      → Derives path (token Token.Identifier v ∷ token Token.DoubleColon w ∷ xs) ys (named v ⊕ t)
  -- items = item } | item , } | item , items;  item = NAME | NAME as NAME
  -- The names of a group after its first, up to `}`; a comma may trail. The last one.
  items-last : {v : Lexeme} {xs ys : List RowToken} {t : Trees}
      → Derives item xs (token Token.RightCurly v ∷ ys) t
      → Derives items xs ys t
  -- The last name, a comma after it.
  items-trailing : {v w : Lexeme} {xs ys : List RowToken} {t : Trees}
      → Derives item xs (token Token.Comma v ∷ token Token.RightCurly w ∷ ys) t
      → Derives items xs ys t
  -- A name, a comma, and more names.
  items_more : {v : Lexeme} {xs ys zs : List RowToken} {t us : Trees}
      → Derives item xs (token Token.Comma v ∷ ys) t
      → Derives items ys zs us
      → Derives items xs zs (t ⊕ us)
  -- A name of a group, with optional `as`: without it.
  item-plain : {v : Lexeme} {xs : List RowToken}
      → Derives item (token Token.Identifier v ∷ xs) xs (branch Node.ImportGroupItem 0 (named v))
  -- Name `as` name.
  item-as : {u v w : Lexeme} {xs : List RowToken}
      → Derives item (token Token.Identifier u ∷ token Token.As v ∷ token Token.Identifier w ∷ xs) xs (branch Node.ImportGroupItem 0 (named u ⊕ named w))
  -- ---- Levels, prefix and postfix.
  -- level k = level k OPERATOR level (k + 1) | level (k + 1), for k from 0 to 8, with the operators of level k
  -- One rule for each level, from the loosest. Each groups left: what stands left of its operator is of the level itself, what stands right is of
  -- the next, which is tighter. (In the comparison's own text of the grammar, differential/derive/src/chart.txt, these are the lines from `expr~`
  -- to `product~`.)
  -- Level 0: or.
  or : {m : Bool} {o op : ℕ} {v : Lexeme} {xs ys zs : List RowToken} {t u : Trees}
      → OneOf ors o op
      → Derives (level m 0) xs (token o v ∷ ys) t
      → Derives (level m 1) ys zs u
      → Derives (level m 0) xs zs (binary_tree op t u)
  -- Level 1: and.
  and : {m : Bool} {o op : ℕ} {v : Lexeme} {xs ys zs : List RowToken} {t u : Trees}
      → OneOf ands o op
      → Derives (level m 1) xs (token o v ∷ ys) t
      → Derives (level m 2) ys zs u
      → Derives (level m 1) xs zs (binary_tree op t u)
  -- Level 2: six comparisons.
  comparison : {m : Bool} {o op : ℕ} {v : Lexeme} {xs ys zs : List RowToken} {t u : Trees}
      → OneOf comparisons o op
      → Derives (level m 2) xs (token o v ∷ ys) t
      → Derives (level m 3) ys zs u
      → Derives (level m 2) xs zs (binary_tree op t u)
  -- Level 3: `|`.
  pipe : {m : Bool} {o op : ℕ} {v : Lexeme} {xs ys zs : List RowToken} {t u : Trees}
      → OneOf pipes o op
      → Derives (level m 3) xs (token o v ∷ ys) t
      → Derives (level m 4) ys zs u
      → Derives (level m 3) xs zs (binary_tree op t u)
  -- Level 4: `^`.
  caret : {m : Bool} {o op : ℕ} {v : Lexeme} {xs ys zs : List RowToken} {t u : Trees}
      → OneOf carets o op
      → Derives (level m 4) xs (token o v ∷ ys) t
      → Derives (level m 5) ys zs u
      → Derives (level m 4) xs zs (binary_tree op t u)
  -- Level 5: `&`.
  ampersand : {m : Bool} {o op : ℕ} {v : Lexeme} {xs ys zs : List RowToken} {t u : Trees}
      → OneOf ampersands o op
      → Derives (level m 5) xs (token o v ∷ ys) t
      → Derives (level m 6) ys zs u
      → Derives (level m 5) xs zs (binary_tree op t u)
  -- Level 6: shifts.
  shift : {m : Bool} {o op : ℕ} {v : Lexeme} {xs ys zs : List RowToken} {t u : Trees}
      → OneOf shifts o op
      → Derives (level m 6) xs (token o v ∷ ys) t
      → Derives (level m 7) ys zs u
      → Derives (level m 6) xs zs (binary_tree op t u)
  -- Level 7: `+ - +% -% `.
  sum : {m : Bool} {o op : ℕ} {v : Lexeme} {xs ys zs : List RowToken} {t u : Trees}
      → OneOf sums o op
      → Derives (level m 7) xs (token o v ∷ ys) t
      → Derives (level m 8) ys zs u
      → Derives (level m 7) xs zs (binary_tree op t u)
  -- Level 8: `* / % *% +/ -/ </ >/`.
  product : {m : Bool} {o op : ℕ} {v : Lexeme} {xs ys zs : List RowToken} {t u : Trees}
      → OneOf products o op
      → Derives (level m 8) xs (token o v ∷ ys) t
      → Derives (level m prefix_level) ys zs u
      → Derives (level m 8) xs zs (binary_tree op t u)
  -- What is of the next level is of this one too.
  tighter : {m : Bool} {k : ℕ} {xs ys : List RowToken} {t : Trees}
      → Derives (level m (suc k)) xs ys t
      → Derives (level m k) xs ys t
  -- level 9 = - level 9 | ! level 9 | ~ level 9 | postfix
  -- Then prefix `- ! ~`, which may follow one another: `-`.
  minus : {m : Bool} {v : Lexeme} {xs ys : List RowToken} {t : Trees}
      → Derives (level m prefix_level) xs ys t
      → Derives (level m prefix_level) (token Token.Minus v ∷ xs) ys (branch Node.UnaryExpr UnaryOp.Minus t)
  -- Prefix `!`.
  bang : {m : Bool} {v : Lexeme} {xs ys : List RowToken} {t : Trees}
      → Derives (level m prefix_level) xs ys t
      → Derives (level m prefix_level) (token Token.Bang v ∷ xs) ys (branch Node.UnaryExpr UnaryOp.Bang t)
  -- Prefix `~`.
  tilde : {m : Bool} {v : Lexeme} {xs ys : List RowToken} {t : Trees}
      → Derives (level m prefix_level) xs ys t
      → Derives (level m prefix_level) (token Token.Tilde v ∷ xs) ys (branch Node.UnaryExpr UnaryOp.Tilde t)
  -- Or no prefix operator.
  unprefixed : {m : Bool} {xs ys : List RowToken} {t : Trees}
      → Derives (postfix m) xs ys t
      → Derives (level m prefix_level) xs ys t
  -- postfix = operand | postfix . NAME | postfix ( expressions | postfix { fields (the last where allowed)
  -- Then postfix `.name`.
  member : {m : Bool} {v w : Lexeme} {xs ys : List RowToken} {t : Trees}
      → Derives (postfix m) xs (token Token.Dot v ∷ token Token.Identifier w ∷ ys) t
      → Derives (postfix m) xs ys (branch Node.MemberExpr 0 (t ⊕ named w))
  -- A call.
  call : {m : Bool} {v : Lexeme} {xs ys zs : List RowToken} {t us : Trees}
      → Derives (postfix m) xs (token Token.LeftRound v ∷ ys) t
      → Derives expressions ys zs us
      → Derives (postfix m) xs zs (branch Node.CallExpr 0 (t ⊕ us))
  -- Where allowed, a field list in braces.
  struct-literal : {v : Lexeme} {xs ys zs : List RowToken} {t us : Trees}
      → Derives (postfix true) xs (token Token.LeftCurly v ∷ ys) t
      → Derives fields ys zs us
      → Derives (postfix true) xs zs (branch Node.StructLit 0 (t ⊕ us))
  -- An operand.
  standalone : {m : Bool} {xs ys : List RowToken} {t : Trees}
      → Derives operand xs ys t
      → Derives (postfix m) xs ys t
  -- ---- Operands.
  -- operand = true | false | NUMBER | STRING strings | Self | NAME | BUILTIN | ( ) | ( expr ) | ( expr , expressions | comptime block
  --     | eager fn signature | fn signature | struct { struct_body | struct expr! { struct_body (where expr! doesn't begin with `{`)
  --     | tuple { types | block | if expr! block else_ifs | match expr! { arms
  -- Operands are those of `try_parse_standalone_expr`. First `true`.
  true-literal : {v : Lexeme} {xs : List RowToken}
      → Derives operand (token Token.True v ∷ xs) xs (branch Node.BoolLiteral Flag.BoolLiteral-true none)
  -- `false`.
  false-literal : {v : Lexeme} {xs : List RowToken}
      → Derives operand (token Token.False v ∷ xs) xs (branch Node.BoolLiteral 0 none)
  -- A number in radix 10.
  decimal : {v : Lexeme} {xs : List RowToken}
      → Derives operand (token Token.DecimalLiteral v ∷ xs) xs (numeral 10 0 v)
  -- A number in radix 16, after `0x`.
  hexadecimal : {v : Lexeme} {xs : List RowToken}
      → Derives operand (token Token.HexLiteral v ∷ xs) xs (numeral 16 2 v)
  -- A number in radix 2, after `0b`.
  binary-number : {v : Lexeme} {xs : List RowToken}
      → Derives operand (token Token.BinLiteral v ∷ xs) xs (numeral 2 2 v)
  -- Neighbouring strings make one literal, and must decode without a report.
  string : {v : Lexeme} {xs ys : List RowToken} {bs : List ℕ}
      → quiet (decoded v) ≡ true
      → Derives strings xs ys (string_tree bs)
      → Derives operand (token Token.LooseStringLiteral v ∷ xs) ys (string_tree (bytes_of (decoded v) ++ bs))
  -- The same where the first is a `hex"` string.
  hex-string : {v : Lexeme} {xs ys : List RowToken} {bs : List ℕ}
      → quiet (decoded_hex v) ≡ true
      → Derives strings xs ys (string_tree bs)
      → Derives operand (token Token.LooseHexStringLiteral v ∷ xs) ys (string_tree (bytes_of (decoded_hex v) ++ bs))
  -- strings = | STRING strings
  -- No more strings.
  strings-end : {xs : List RowToken} → Derives strings xs xs (string_tree [])
  -- One more `"` string.
  strings-more : {v : Lexeme} {xs ys : List RowToken} {bs : List ℕ}
      → quiet (decoded v) ≡ true
      → Derives strings xs ys (string_tree bs)
      → Derives strings (token Token.LooseStringLiteral v ∷ xs) ys (string_tree (bytes_of (decoded v) ++ bs))
  -- One more `hex"` string.
  strings-more-hex : {v : Lexeme} {xs ys : List RowToken} {bs : List ℕ}
      → quiet (decoded_hex v) ≡ true
      → Derives strings xs ys (string_tree bs)
      → Derives strings (token Token.LooseHexStringLiteral v ∷ xs) ys (string_tree (bytes_of (decoded_hex v) ++ bs))
  -- `Self`.
  self_type : {v : Lexeme} {xs : List RowToken}
      → Derives operand (token Token.SelfType v ∷ xs) xs (branch Node.SelfType 0 none)
  -- A name.
  name : {v : Lexeme} {xs : List RowToken} → Derives operand (token Token.Identifier v ∷ xs) xs (named v)
  -- A builtin's name, which is an operand and nothing else.
  builtin-name : {v : Lexeme} {xs : List RowToken}
      → Derives operand (token Token.BuiltinName v ∷ xs) xs (builtin_named v)
  -- `()` is a tuple.
  unit : {v w : Lexeme} {xs : List RowToken}
      → Derives operand (token Token.LeftRound v ∷ token Token.RightRound w ∷ xs) xs (branch Node.TupleLit 0 none)
  -- An expression in brackets. Inside brackets a field list is allowed again.
  paren : {v w : Lexeme} {xs ys : List RowToken} {t : Trees}
      → Derives (level true 0) xs (token Token.RightRound w ∷ ys) t
      → Derives operand (token Token.LeftRound v ∷ xs) ys (branch Node.ParenExpr 0 t)
  -- `(e,)` is a tuple, and so are more elements.
  tuple : {v w : Lexeme} {xs ys zs : List RowToken} {t us : Trees}
      → Derives (level true 0) xs (token Token.Comma w ∷ ys) t
      → Derives expressions ys zs us
      → Derives operand (token Token.LeftRound v ∷ xs) zs (branch Node.TupleLit 0 (t ⊕ us))
  -- `comptime` block.
  comptime-block : {v : Lexeme} {xs ys : List RowToken} {b : Trees}
      → Derives block xs ys b
      → Derives operand (token Token.Comptime v ∷ xs) ys (branch Node.ComptimeBlock 0 b)
  -- `eager fn`.
  eager-function : {v w : Lexeme} {xs ys : List RowToken} {t : Trees}
      → Derives signature xs ys t
      → Derives operand (token Token.Eager v ∷ token Token.Fn w ∷ xs) ys (branch Node.FnDef Flag.FnDef-eager t)
  -- `fn`.
  function : {v : Lexeme} {xs ys : List RowToken} {t : Trees}
      → Derives signature xs ys t
      → Derives operand (token Token.Fn v ∷ xs) ys (branch Node.FnDef 0 t)
  -- `struct` with its body in braces.
  struct : {v w : Lexeme} {xs ys : List RowToken} {t : Trees}
      → Derives struct_body xs ys t
      → Derives operand (token Token.Struct v ∷ token Token.LeftCurly w ∷ xs) ys (branch Node.StructDef 0 (branch Node.StructBody 0 t))
  -- `struct` with an index type, which doesn't allow a field list and doesn't begin with `{`.
  indexed-struct : {v w : Lexeme} {xs ys zs : List RowToken} {t u : Trees}
      → begins Token.LeftCurly xs ≡ false
      → Derives (level false 0) xs (token Token.LeftCurly w ∷ ys) t
      → Derives struct_body ys zs u
      → Derives operand (token Token.Struct v ∷ xs) zs (branch Node.StructDef 0 (t ⊕ branch Node.StructBody 0 u))
  -- `tuple` with types in braces.
  tuple_type : {v w : Lexeme} {xs ys : List RowToken} {t : Trees}
      → Derives types xs ys t
      → Derives operand (token Token.Tuple v ∷ token Token.LeftCurly w ∷ xs) ys (branch Node.TupleType 0 t)
  -- A block.
  bare-block : {v : Lexeme} {xs ys : List RowToken} {b : Trees}
      → Derives block (token Token.LeftCurly v ∷ xs) ys b
      → Derives operand (token Token.LeftCurly v ∷ xs) ys (branch Node.Block 0 b)
  -- `if` condition block, and its `else` parts. Conditions don't allow a field list.
  conditional : {v : Lexeme} {xs ys zs ws : List RowToken} {c b e : Trees}
      → Derives (level false 0) xs ys c
      → Derives block ys zs b
      → Derives else_ifs zs ws e
      → Derives operand (token Token.If v ∷ xs) ws (branch Node.If 0 (c ⊕ (branch Node.Block 0 b ⊕ e)))
  -- `match` subject, and arms in braces. Match subjects don't allow a field list.
  match : {v w : Lexeme} {xs ys zs : List RowToken} {c a : Trees}
      → Derives (level false 0) xs (token Token.LeftCurly w ∷ ys) c
      → Derives arms ys zs a
      → Derives operand (token Token.Match v ∷ xs) zs (branch Node.Match 0 (c ⊕ branch Node.MatchArmList 0 a))
  -- ---- What operands hold.
  -- expressions = ) | expr ) | expr , expressions;  types = } | expr } | expr , types
  -- Expressions up to `)`: the arguments of a call, the elements of a tuple after its first comma. Commas may trail, and there may be none.
  expressions-end : {v : Lexeme} {xs : List RowToken}
      → Derives expressions (token Token.RightRound v ∷ xs) xs none
  -- The last one, and `)`.
  expressions-last : {v : Lexeme} {xs ys : List RowToken} {t : Trees}
      → Derives (level true 0) xs (token Token.RightRound v ∷ ys) t
      → Derives expressions xs ys t
  -- An expression, a comma, and the rest.
  expressions-more : {v : Lexeme} {xs ys zs : List RowToken} {t us : Trees}
      → Derives (level true 0) xs (token Token.Comma v ∷ ys) t
      → Derives expressions ys zs us
      → Derives expressions xs zs (t ⊕ us)
  -- The types of a `tuple`, up to `}`. Commas may trail, and there may be none.
  types-end : {v : Lexeme} {xs : List RowToken} → Derives types (token Token.RightCurly v ∷ xs) xs none
  -- The last type, and `}`.
  types-last : {v : Lexeme} {xs ys : List RowToken} {t : Trees}
      → Derives (level true 0) xs (token Token.RightCurly v ∷ ys) t
      → Derives types xs ys t
  -- A type, a comma, and the rest.
  types_more : {v : Lexeme} {xs ys zs : List RowToken} {t us : Trees}
      → Derives (level true 0) xs (token Token.Comma v ∷ ys) t
      → Derives types ys zs us
      → Derives types xs zs (t ⊕ us)
  -- fields = } | NAME : expr } | NAME : expr , fields
  -- A field list, up to `}`: name `:` expression. Commas may trail, and there may be none.
  fields-end : {v : Lexeme} {xs : List RowToken} → Derives fields (token Token.RightCurly v ∷ xs) xs none
  -- The last field, and `}`.
  fields-last : {v w u : Lexeme} {xs ys : List RowToken} {t : Trees}
      → Derives (level true 0) xs (token Token.RightCurly u ∷ ys) t
      → Derives fields (token Token.Identifier v ∷ token Token.Colon w ∷ xs) ys (branch Node.FieldAssign 0 (named v ⊕ t))
  -- A field, a comma, and the rest.
  fields-more : {v w u : Lexeme} {xs ys zs : List RowToken} {t us : Trees}
      → Derives (level true 0) xs (token Token.Comma u ∷ ys) t
      → Derives fields ys zs us
      → Derives fields (token Token.Identifier v ∷ token Token.Colon w ∷ xs) zs (branch Node.FieldAssign 0 (named v ⊕ t) ⊕ us)
  -- else_ifs = | else block | else if expr! block else_ifs
  -- After the block of an `if`: any number of `else if` condition block, then perhaps `else` block. None.
  else-none : {xs : List RowToken} → Derives else_ifs xs xs (listed Node.ElseIfBranchList none none)
  -- `else` block, which stands after the list.
  else-block : {v : Lexeme} {xs ys : List RowToken} {b : Trees}
      → Derives block xs ys b
      → Derives else_ifs (token Token.Else v ∷ xs) ys (listed Node.ElseIfBranchList none (branch Node.Block 0 b))
  -- `else if` condition block, one more in front of the list. Conditions don't allow a field list.
  else-if : {v w : Lexeme} {xs ys zs ws : List RowToken} {c b us e : Trees}
      → Derives (level false 0) xs ys c
      → Derives block ys zs b
      → Derives else_ifs zs ws (listed Node.ElseIfBranchList us e)
      → Derives else_ifs (token Token.Else v ∷ token Token.If w ∷ xs) ws (listed Node.ElseIfBranchList (branch Node.ElseIfBranch 0 (c ⊕ branch Node.Block 0 b) ⊕ us) e)
  -- arms = } | arm } | arm , arms;  arm = else => expr | else NAME => expr | expr => expr
  -- Arms up to `}`. Commas may trail, and there may be none.
  arms_end : {v : Lexeme} {xs : List RowToken} → Derives arms (token Token.RightCurly v ∷ xs) xs none
  -- The last arm, and `}`.
  arms_last : {v : Lexeme} {xs ys : List RowToken} {t : Trees}
      → Derives arm xs (token Token.RightCurly v ∷ ys) t
      → Derives arms xs ys t
  -- An arm, a comma, and the rest.
  arms_more : {v : Lexeme} {xs ys zs : List RowToken} {t us : Trees}
      → Derives arm xs (token Token.Comma v ∷ ys) t
      → Derives arms ys zs us
      → Derives arms xs zs (t ⊕ us)
  -- An arm: `else` with an optional name, or a key; then `=>` and an expression. Field lists are allowed, as the Rust has it. `else` alone.
  arm-else : {v w : Lexeme} {xs ys : List RowToken} {t : Trees}
      → Derives (level true 0) xs ys t
      → Derives arm (token Token.Else v ∷ token Token.FatArrow w ∷ xs) ys (branch Node.MatchFallbackArm 0 t)
  -- `else` name `=>` expression.
  arm-else-name : {v u w : Lexeme} {xs ys : List RowToken} {t : Trees}
      → Derives (level true 0) xs ys t
      → Derives arm (token Token.Else v ∷ token Token.Identifier u ∷ token Token.FatArrow w ∷ xs) ys (branch Node.MatchFallbackArm Flag.MatchFallbackArm-binding (named u ⊕ t))
  -- Key `=>` expression.
  arm-key : {v : Lexeme} {xs ys zs : List RowToken} {t u : Trees}
      → Derives (level true 0) xs (token Token.FatArrow v ∷ ys) t
      → Derives (level true 0) ys zs u
      → Derives arm xs zs (branch Node.MatchArm 0 (t ⊕ u))
  -- signature = ( parameters expr! block;  parameters = ) | parameter ) | parameter , parameters
  -- Parameters in brackets, return type, block. Return types don't allow a field list.
  signature-rule : {v : Lexeme} {xs ys zs ws : List RowToken} {p t b : Trees}
      → Derives parameters xs ys p
      → Derives (level false 0) ys zs t
      → Derives block zs ws b
      → Derives signature (token Token.LeftRound v ∷ xs) ws (branch Node.ParamList 0 p ⊕ (t ⊕ branch Node.Block 0 b))
  -- Parameters up to `)`. Commas may trail, and there may be none.
  parameters-end : {v : Lexeme} {xs : List RowToken}
      → Derives parameters (token Token.RightRound v ∷ xs) xs none
  -- The last parameter, and `)`.
  parameters-last : {v : Lexeme} {xs ys : List RowToken} {t : Trees}
      → Derives parameter xs (token Token.RightRound v ∷ ys) t
      → Derives parameters xs ys t
  -- A parameter, a comma, and the rest.
  parameters-more : {v : Lexeme} {xs ys zs : List RowToken} {t us : Trees}
      → Derives parameter xs (token Token.Comma v ∷ ys) t
      → Derives parameters ys zs us
      → Derives parameters xs zs (t ⊕ us)
  -- parameter = NAME : parameter_type | comptime NAME : parameter_type;  parameter_type = $ NAME | expr
  -- A parameter: optional `comptime`, name `:` type. Without `comptime`.
  parameter-plain : {v w : Lexeme} {xs ys : List RowToken} {t : Trees}
      → Derives parameter_type xs ys t
      → Derives parameter (token Token.Identifier v ∷ token Token.Colon w ∷ xs) ys (branch Node.Parameter 0 (named v ⊕ t))
  -- `comptime` name `:` type.
  parameter-comptime : {u v w : Lexeme} {xs ys : List RowToken} {t : Trees}
      → Derives parameter_type xs ys t
      → Derives parameter (token Token.Comptime u ∷ token Token.Identifier v ∷ token Token.Colon w ∷ xs) ys (branch Node.ComptimeParameter 0 (named v ⊕ t))
  -- The type of a parameter is `$` name, or an expression.
  type-any : {v w : Lexeme} {xs : List RowToken}
      → Derives parameter_type (token Token.Dollar v ∷ token Token.Identifier w ∷ xs) xs (any_type w)
  -- An expression as a type.
  type-expression : {xs ys : List RowToken} {t : Trees}
      → Derives (level true 0) xs ys t
      → Derives parameter_type xs ys t
  -- struct_body = methods | NAME : expr methods | NAME : expr , struct_body
  -- The body of a struct up to `}`. "Fields come before methods; a comma between fields is needed, after the last
  -- optional; none follows a method." (01, The wall chart.) No more fields.
  struct-methods : {xs ys : List RowToken} {t : Trees} → Derives methods xs ys t → Derives struct_body xs ys t
  -- The last field, name `:` type, without a comma; then methods.
  struct-field-last : {v w : Lexeme} {xs ys zs : List RowToken} {t us : Trees}
      → Derives (level true 0) xs ys t
      → Derives methods ys zs us
      → Derives struct_body (token Token.Identifier v ∷ token Token.Colon w ∷ xs) zs (branch Node.FieldDef 0 (named v ⊕ t) ⊕ us)
  -- A field, a comma, and the rest.
  struct-field-more : {v w u : Lexeme} {xs ys zs : List RowToken} {t us : Trees}
      → Derives (level true 0) xs (token Token.Comma u ∷ ys) t
      → Derives struct_body ys zs us
      → Derives struct_body (token Token.Identifier v ∷ token Token.Colon w ∷ xs) zs (branch Node.FieldDef 0 (named v ⊕ t) ⊕ us)
  -- methods = } | fn NAME signature methods | eager fn NAME signature methods
  -- Methods up to `}`; no comma follows a method. None.
  methods-end : {v : Lexeme} {xs : List RowToken} → Derives methods (token Token.RightCurly v ∷ xs) xs none
  -- `fn` name, signature, and the rest.
  methods-fn : {v w : Lexeme} {xs ys zs : List RowToken} {t us : Trees}
      → Derives signature xs ys t
      → Derives methods ys zs us
      → Derives methods (token Token.Fn v ∷ token Token.Identifier w ∷ xs) zs (branch Node.MethodDef 0 (named w ⊕ t) ⊕ us)
  -- `eager fn` name, signature, and the rest.
  methods-eager : {u v w : Lexeme} {xs ys zs : List RowToken} {t us : Trees}
      → Derives signature xs ys t
      → Derives methods ys zs us
      → Derives methods (token Token.Eager u ∷ token Token.Fn v ∷ token Token.Identifier w ∷ xs) zs (branch Node.MethodDef Flag.MethodDef-eager (named w ⊕ t) ⊕ us)
  -- ---- Blocks and statements.
  -- block = { statements;  statements = } | statement statements | expr } | comptime block }
  -- A block: its statements in braces.
  block-rule : {v : Lexeme} {xs ys : List RowToken} {b : Trees}
      → Derives statements xs ys b
      → Derives block (token Token.LeftCurly v ∷ xs) ys b
  -- Statements up to `}`, in a list. No more, and no closing expression.
  statements-end : {v : Lexeme} {xs : List RowToken}
      → Derives statements (token Token.RightCurly v ∷ xs) xs (listed Node.StatementsList none none)
  -- A statement, one more in front of the list.
  statements-more : {xs ys zs : List RowToken} {t us e : Trees}
      → Derives statement xs ys t
      → Derives statements ys zs (listed Node.StatementsList us e)
      → Derives statements xs zs (listed Node.StatementsList (t ⊕ us) e)
  -- "An expression without `;` is last in its block, unless it is a Block, If or Match; one that is last is the closing expression, outside the
  -- statement list." (01, The wall chart.)
  -- An expression that begins with `comptime` begins `comptime {`, and has rules of its own as a statement or closing expression.
  closing : {v : Lexeme} {xs ys : List RowToken} {t : Trees}
      → begins Token.Comptime xs ≡ false
      → Derives (level true 0) xs (token Token.RightCurly v ∷ ys) t
      → Derives statements xs ys (listed Node.StatementsList none t)
  -- "A statement or closing expression that begins `comptime {` ends at its `}`" (01, The wall chart): the closing one.
  closing-comptime : {v w : Lexeme} {xs ys : List RowToken} {b : Trees}
      → Derives block xs (token Token.RightCurly v ∷ ys) b
      → Derives statements (token Token.Comptime w ∷ xs) ys (listed Node.StatementsList none (branch Node.ComptimeBlock 0 b))
  -- statement = while expr! block | inline while expr! block | return expr ; | comptime block ; | comptime block | comptime let binding
  --     | let binding | expr ; | expr = expr ; | expr (a Block, If or Match)
  -- Statements as in `try_parse_stmt`. `while` condition block; conditions don't allow a field list.
  while : {v : Lexeme} {xs ys zs : List RowToken} {c b : Trees}
      → Derives (level false 0) xs ys c
      → Derives block ys zs b
      → Derives statement (token Token.While v ∷ xs) zs (branch Node.WhileStmt 0 (c ⊕ branch Node.Block 0 b))
  -- `inline while` condition block.
  inline-while : {u v : Lexeme} {xs ys zs : List RowToken} {c b : Trees}
      → Derives (level false 0) xs ys c
      → Derives block ys zs b
      → Derives statement (token Token.Inline u ∷ token Token.While v ∷ xs) zs (branch Node.InlineWhileStmt 0 (c ⊕ branch Node.Block 0 b))
  -- `return` expression `;`.
  return : {v w : Lexeme} {xs ys : List RowToken} {t : Trees}
      → Derives (level true 0) xs (token Token.Semicolon w ∷ ys) t
      → Derives statement (token Token.Return v ∷ xs) ys (branch Node.ReturnStmt 0 t)
  -- "A statement .. that begins `comptime {` ends at its `}`, or a `;` after it, and needs no `;` in mid-block either." (01, The wall chart.)
  -- With the `;`.
  comptime-semicolon : {v w : Lexeme} {xs ys : List RowToken} {b : Trees}
      → Derives block xs (token Token.Semicolon v ∷ ys) b
      → Derives statement (token Token.Comptime w ∷ xs) ys (branch Node.ComptimeBlock 0 b)
  -- The same in mid-block without `;`: it isn't the last, which a `}` follows.
  comptime-mid : {w : Lexeme} {xs ys : List RowToken} {b : Trees}
      → Derives block xs ys b
      → begins Token.RightCurly ys ≡ false
      → Derives statement (token Token.Comptime w ∷ xs) ys (branch Node.ComptimeBlock 0 b)
  -- `comptime let`.
  comptime-let : {v w : Lexeme} {xs ys : List RowToken} {t : Trees}
      → Derives (binding true) xs ys t
      → Derives statement (token Token.Comptime v ∷ token Token.Let w ∷ xs) ys t
  -- `let`.
  let_rule : {v : Lexeme} {xs ys : List RowToken} {t : Trees}
      → Derives (binding false) xs ys t
      → Derives statement (token Token.Let v ∷ xs) ys t
  -- Expression `;`. One that begins with `comptime` has rules of its own.
  semicolon : {v : Lexeme} {xs ys : List RowToken} {t : Trees}
      → begins Token.Comptime xs ≡ false
      → Derives (level true 0) xs (token Token.Semicolon v ∷ ys) t
      → Derives statement xs ys t
  -- Expression `=` expression `;`. One that begins with `comptime` has rules of its own.
  assign : {v w : Lexeme} {xs ys zs : List RowToken} {t u : Trees}
      → begins Token.Comptime xs ≡ false
      → Derives (level true 0) xs (token Token.Equals v ∷ ys) t
      → Derives (level true 0) ys (token Token.Semicolon w ∷ zs) u
      → Derives statement xs zs (branch Node.AssignStmt 0 (t ⊕ u))
  -- A Block, If or Match needs no `;`: "Such a one in mid-block isn't followed by `.`, `(`, `{`, `=`, `;` or a binary operator" (01, The wall chart),
  -- nor by the `}` that would make it the last.
  mid-block : {xs ys : List RowToken} {t : Trees}
      → Derives (level true 0) xs ys t
      → is_block_like t ≡ true
      → continues ys ≡ false
      → begins Token.RightCurly ys ≡ false
      → Derives statement xs ys t
  -- binding = mut binding_name | binding_name;  binding_name = NAME = expr ; | NAME : expr = expr ;
  -- After `let`: optional `mut`. With it.
  binding-mut : {c : Bool} {v : Lexeme} {xs ys : List RowToken} {t : Trees}
      → Derives (binding_name c true) xs ys t
      → Derives (binding c) (token Token.Mut v ∷ xs) ys t
  -- Without `mut`.
  binding-fixed : {c : Bool} {xs ys : List RowToken} {t : Trees}
      → Derives (binding_name c false) xs ys t
      → Derives (binding c) xs ys t
  -- Name, optional `:` type, `=` expression `;`: without the type.
  binding-untyped : {c m : Bool} {v w u : Lexeme} {xs ys : List RowToken} {t : Trees}
      → Derives (level true 0) xs (token Token.Semicolon u ∷ ys) t
      → Derives (binding_name c m) (token Token.Identifier v ∷ token Token.Equals w ∷ xs) ys (branch Node.LetStmt (let_flags c m false) (named v ⊕ t))
  -- The same with `:` type.
  binding-typed : {c m : Bool} {v w u z : Lexeme} {xs ys zs : List RowToken} {s t : Trees}
      → Derives (level true 0) xs (token Token.Equals u ∷ ys) s
      → Derives (level true 0) ys (token Token.Semicolon z ∷ zs) t
      → Derives (binding_name c m) (token Token.Identifier v ∷ token Token.Colon w ∷ xs) zs (branch Node.LetStmt (let_flags c m true) (named v ⊕ (s ⊕ t)))
