-- Expressions: parser/mod.rs, sections "EXPRESSION PARSING (PRATT)" and "EXPRESSION PARSING".
-- `try_parse_expr` and `parse_expr` stand first here, and `try_parse_standalone_expr` after the readers that it calls.
use Rattle.std.specs.Prelude.{Bool, true, false, not, ◌&&◌, ◌||◌, List, [], ◌∷◌, ℕ, eqb, ltb}
use Rattle.std.proofs.Math.Option.{Option, none, some}
use Rattle.words.specs.Token
use Rattle.words.specs.Node
use Rattle.words.specs.Flag
use Rattle.words.specs.BinaryOp
use Rattle.words.specs.UnaryOp
use Rattle.words.specs.Report
use Rattle.definition.specs.declared.Mode.{Mode}
use Rattle.definition.specs.declared.Mode.TheVariants.{AllowAll, NoPostFixCurlyBrace}
use Rattle.definition.specs.declared.Unfinished.{Unfinished}
use Rattle.definition.specs.Prog.{Turn, again, stop, Prog, give, ◌>>=◌, ◌>>◌, loop, whether◌then◌else◌, when, peek, pass, position, here, intern, emit, close_at_start, enter_expr, enter_block}
use Rattle.definition.specs.Tokens.{contains, check, eat, if_eat◌then◌else◌, if_check◌then◌else◌, eof, emit_unexpected, expect, expect_check_recovery, skip_until_recovery_token, parse_delimited}
use Rattle.definition.specs.Nodes.{alloc_node_from, skip_trivia_start, alloc_node, close_node, update_kind, push_child, alloc_last_token_as_node, error_node, flag, try_parse_num_literal, try_parse_ident, try_parse_builtin_name, expect_ident}
use Rattle.definition.specs.Strings.{try_parse_string_literal}

infixr 11 ◌or_else◌
-- `mode.allows_struct_literal()`
abbrev pub allows_struct_literal : Mode → Bool
allows_struct_literal AllowAll = true
allows_struct_literal NoPostFixCurlyBrace = false

-- `OpPriority::ZERO`, UNARY_PRIORITY, MEMBER_PRIORITY, FN_CALL_PRIORITY and STRUCT_LITERAL_PRIORITY.
abbrev pub zero_priority : ℕ
zero_priority = 0

abbrev pub unary_priority : ℕ
unary_priority = 19

abbrev pub member_priority : ℕ
member_priority = 21

abbrev pub fn_call_priority : ℕ
fn_call_priority = 21

abbrev pub struct_literal_priority : ℕ
struct_literal_priority = 21

-- ---- operators

-- A binary operator: its token, its left and its right priority, and its number in `BinaryOp`.
pub record Binary : Type 0 where
  pub token : ℕ
  pub left : ℕ
  pub right : ℕ
  pub op : ℕ

abbrev pub binary : ℕ → ℕ → ℕ → ℕ → Binary
binary token left right op = record { token = token; left = left; right = right; op = op }

unfoldable pub binaries : List Binary
binaries =
    binary Token.Or 1 2 BinaryOp.Or
    ∷ binary Token.And 3 4 BinaryOp.And
    ∷ binary Token.DoubleEquals 5 6 BinaryOp.DoubleEquals
    ∷ binary Token.BangEquals 5 6 BinaryOp.BangEquals
    ∷ binary Token.LessThan 5 6 BinaryOp.LessThan
    ∷ binary Token.GreaterThan 5 6 BinaryOp.GreaterThan
    ∷ binary Token.LessEquals 5 6 BinaryOp.LessEquals
    ∷ binary Token.GreaterEquals 5 6 BinaryOp.GreaterEquals
    ∷ binary Token.Pipe 7 8 BinaryOp.Pipe
    ∷ binary Token.Caret 9 10 BinaryOp.Caret
    ∷ binary Token.Ampersand 11 12 BinaryOp.Ampersand
    ∷ binary Token.ShiftLeft 13 14 BinaryOp.ShiftLeft
    ∷ binary Token.ShiftRight 13 14 BinaryOp.ShiftRight
    ∷ binary Token.Plus 15 16 BinaryOp.Plus
    ∷ binary Token.Minus 15 16 BinaryOp.Minus
    ∷ binary Token.PlusPercent 15 16 BinaryOp.PlusPercent
    ∷ binary Token.MinusPercent 15 16 BinaryOp.MinusPercent
    ∷ binary Token.Star 17 18 BinaryOp.Star
    ∷ binary Token.Slash 17 18 BinaryOp.Slash
    ∷ binary Token.Percent 17 18 BinaryOp.Percent
    ∷ binary Token.StarPercent 17 18 BinaryOp.StarPercent
    ∷ binary Token.PlusSlash 17 18 BinaryOp.PlusSlash
    ∷ binary Token.MinusSlash 17 18 BinaryOp.MinusSlash
    ∷ binary Token.LessSlash 17 18 BinaryOp.LessSlash
    ∷ binary Token.GreaterSlash 17 18 BinaryOp.GreaterSlash
    ∷ []

unfoldable pub binary_of : List Binary → ℕ → Option Binary
binary_of [] token = none
binary_of (b ∷ bs) token = elim (eqb token b.token) [ true ↦ some b | false ↦ binary_of bs token ]

unfoldable pub check_binary_op : Prog (Option Binary)
check_binary_op = do
  token ← peek
  give (binary_of binaries token)

-- The prefix operators, by their number in `UnaryOp`; each has the priority 19.
unfoldable pub unary_of : ℕ → Option ℕ
unary_of token =
    elim (eqb token Token.Minus) [
      | true ↦ some UnaryOp.Minus
      | false ↦ elim (eqb token Token.Bang) [
        | true ↦ some UnaryOp.Bang
        | false ↦ elim (eqb token Token.Tilde) [ true ↦ some UnaryOp.Tilde | false ↦ none ]
      ]
    ]

unfoldable pub eat_unary : Prog (Option ℕ)
eat_unary = do
  token ← peek
  elim (unary_of token) [
    | some op ↦ do
      pass
      give (some op)
    | none ↦ give none
  ]

-- ---- expressions

-- `.unwrap_or_else(|| { self.emit_unexpected(); .. })`: the node, or a report and an Error node.
unfoldable pub unwrap_or_error : Option ℕ → Prog ℕ
unwrap_or_error (some node) = give node
unwrap_or_error none = do
  emit_unexpected
  error_node

unfoldable pub try_parse_expr : Mode → Prog (Option ℕ)
try_parse_expr mode = enter_expr mode zero_priority

unfoldable pub parse_expr : Mode → Prog ℕ
parse_expr mode = do
  found ← try_parse_expr mode
  unwrap_or_error found

-- `self.parse_block(self.current_token_index(), NodeKind::Block)`
unfoldable pub block_here : Prog ℕ
block_here = do
  start ← position
  enter_block start Node.Block

-- A child where there is one.
unfoldable pub push_option : Unfinished → Option ℕ → Prog Unfinished
push_option parent none = give parent
push_option parent (some child) = push_child parent child

-- What closes a node after a list: "at an `else` or a closing expression the span end of the list before it becomes that node's start"
-- (01, parser/mod.rs).
unfoldable pub push_closing : Unfinished → ℕ → Option ℕ → Prog Unfinished
push_closing parent list none = give parent
push_closing parent list (some child) = do
  close_at_start list child
  push_child parent child

-- ---- if

-- The else-if branches so far, and the else block.
pub record ElseIfs : Type 0 where
  pub list : Unfinished
  pub else_body : Option ℕ

unfoldable pub else_if_branch : ElseIfs → ℕ → Prog (Turn ElseIfs)
else_if_branch e start = do
  branch ← alloc_node_from start Node.ElseIfBranch 0
  condition ← parse_expr NoPostFixCurlyBrace
  branch ← push_child branch condition
  body ← block_here
  branch ← push_child branch body
  node ← close_node branch
  list ← push_child e.list node
  give (again (record { list = list; else_body = none }))

unfoldable pub else_turn : ElseIfs → Prog (Turn ElseIfs)
else_turn e =
    if_check Token.Else then (do
      start ← position
      expect Token.Else
      if_eat Token.If then else_if_branch e start else do
        body ← block_here
        give (stop (record { list = e.list; else_body = some body })))
    else give (stop e)

unfoldable pub conditional : ℕ → Prog ℕ
conditional start = do
  if' ← alloc_node_from start Node.If 0
  condition ← parse_expr NoPostFixCurlyBrace
  if' ← push_child if' condition
  body ← block_here
  if' ← push_child if' body
  list ← alloc_node Node.ElseIfBranchList 0
  e ← loop (record { list = list; else_body = none }) else_turn
  else_ifs ← close_node e.list
  if' ← push_child if' else_ifs
  if' ← push_closing if' else_ifs e.else_body
  close_node if'

-- `if self.eat(token) { return Some(p); }`, and the same with `check`.
unfoldable pub eats : ℕ → Prog ℕ → Prog (Option ℕ)
eats token p =
    if_eat token then (do
      node ← p
      give (some node))
    else give none

unfoldable pub checks : ℕ → Prog ℕ → Prog (Option ℕ)
checks token p =
    if_check token then (do
      node ← p
      give (some node))
    else give none

unfoldable pub try_parse_conditional : Prog (Option ℕ)
try_parse_conditional = do
  start ← position
  eats Token.If (conditional start)

-- ---- match

unfoldable pub fallback_arm : ℕ → Prog Unfinished
fallback_arm start = do
  arm ← alloc_node_from start Node.MatchFallbackArm 0
  binding ← try_parse_ident
  elim binding [
    | some name ↦ do
      update_kind arm Node.MatchFallbackArm Flag.MatchFallbackArm-binding
      push_child arm name
    | none ↦ give arm
  ]

unfoldable pub keyed_arm : Prog Unfinished
keyed_arm = do
  arm ← alloc_node Node.MatchArm 0
  key ← parse_expr AllowAll
  push_child arm key

unfoldable pub arm_turn : Unfinished → Prog (Turn Unfinished)
arm_turn arms = do
  closed ← check Token.RightCurly
  ended ← eof
  whether closed || ended then give (stop arms) else do
    start ← position
    arm ← if_eat Token.Else then fallback_arm start else keyed_arm
    expect Token.FatArrow
    body ← parse_expr AllowAll
    arm ← push_child arm body
    node ← close_node arm
    arms ← push_child arms node
    if_eat Token.Comma then give (again arms) else give (stop arms)

unfoldable pub match_expr : ℕ → Prog ℕ
match_expr start = do
  match ← alloc_node_from start Node.Match 0
  subject ← parse_expr NoPostFixCurlyBrace
  match ← push_child match subject
  arms ← alloc_node Node.MatchArmList 0
  expect Token.LeftCurly
  arms ← loop arms arm_turn
  expect Token.RightCurly
  node ← close_node arms
  match ← push_child match node
  close_node match

unfoldable pub try_parse_match : Prog (Option ℕ)
try_parse_match = do
  start ← position
  eats Token.Match (match_expr start)

-- ---- functions

-- A type that is `$` and a name.
unfoldable pub any_type : Prog ℕ
any_type = do
  start ← position
  expect Token.Dollar
  named ← expect Token.Identifier
  whether named
      then (do
        ident ← intern Token.Identifier
        u ← alloc_node_from start Node.ParamAnyType ident
        close_node u)
      else do
        u ← alloc_node_from start Node.Error 0
        close_node u

-- A parameter up to its name; none where no parameter begins.
unfoldable pub parameter_name : Prog (Option Unfinished)
parameter_name = do
  start ← position
  if_eat Token.Comptime
      then (do
        parameter ← alloc_node_from start Node.ComptimeParameter 0
        name ← expect_ident
        parameter ← push_child parameter name
        give (some parameter))
      else if_eat Token.Identifier
      then (do
        parameter ← alloc_node_from start Node.Parameter 0
        ident ← intern Token.Identifier
        name ← alloc_last_token_as_node Node.Identifier ident
        parameter ← push_child parameter name
        give (some parameter))
      else give none

unfoldable pub parse_parameter : Unfinished → Prog (Option Unfinished)
parse_parameter list = do
  found ← parameter_name
  elim found [
    | none ↦ give none
    | some parameter ↦ do
      expect Token.Colon
      type ← if_check Token.Dollar then any_type else parse_expr AllowAll
      parameter ← push_child parameter type
      node ← close_node parameter
      list ← push_child list node
      give (some list)
  ]

unfoldable pub parse_function_signature_and_body : Unfinished → Prog Unfinished
parse_function_signature_and_body function = do
  list ← alloc_node Node.ParamList 0
  list ← parse_delimited Token.LeftRound Token.RightRound Token.Comma parse_parameter list
  parameters ← close_node list
  function ← push_child function parameters
  type ← parse_expr NoPostFixCurlyBrace
  function ← push_child function type
  body ← block_here
  push_child function body

unfoldable pub parse_function_def : ℕ → Bool → Prog ℕ
parse_function_def start eager = do
  function ← alloc_node_from start Node.FnDef (flag eager Flag.FnDef-eager)
  function ← parse_function_signature_and_body function
  close_node function

unfoldable pub parse_method_def : Prog ℕ
parse_method_def = do
  start ← position
  eager ← eat Token.Eager
  expect Token.Fn
  method ← alloc_node_from start Node.MethodDef (flag eager Flag.MethodDef-eager)
  name ← expect_ident
  method ← push_child method name
  method ← parse_function_signature_and_body method
  close_node method

-- ---- structs and tuple types

unfoldable pub parse_struct_field : Prog ℕ
parse_struct_field = do
  field ← alloc_node Node.FieldDef 0
  name ← try_parse_ident
  field ← push_option field name
  expect Token.Colon
  type ← parse_expr AllowAll
  field ← push_child field type
  close_node field

-- The members so far, and `seen_method`.
pub record Members : Type 0 where
  pub body : Unfinished
  pub seen_method : Bool

abbrev pub members : Unfinished → Bool → Members
members body seen_method = record { body = body; seen_method = seen_method }

unfoldable pub field_turn : Members → Prog (Turn Members)
field_turn s = do
  when s.seen_method do
    place ← here
    emit Report.FieldAfterMethod 0 place
  field ← parse_struct_field
  body ← push_child s.body field
  next ← peek
  whether contains (Token.RightCurly ∷ Token.Eof ∷ Token.Eager ∷ Token.Fn ∷ []) next then give (again (members body s.seen_method)) else do
    expect_check_recovery Token.Comma (Token.Identifier ∷ Token.Eager ∷ Token.Fn ∷ [])
    give (again (members body s.seen_method))

unfoldable pub method_turn : Members → Prog (Turn Members)
method_turn s = do
  method ← parse_method_def
  body ← push_child s.body method
  give (again (members body true))

unfoldable pub no_member_turn : Members → Prog (Turn Members)
no_member_turn s = do
  emit_unexpected
  error ← alloc_node Node.Error 0
  pass
  skip_until_recovery_token (Token.RightCurly ∷ Token.Eager ∷ Token.Fn ∷ Token.Identifier ∷ [])
  node ← close_node error
  body ← push_child s.body node
  give (again (members body s.seen_method))

unfoldable pub member_turn : Members → Prog (Turn Members)
member_turn s = do
  ended ← eof
  closed ← check Token.RightCurly
  whether ended || closed then give (stop s) else do
    eager ← check Token.Eager
    fn ← check Token.Fn
    whether eager || fn then method_turn s
        else if_check Token.Identifier then field_turn s
        else no_member_turn s

unfoldable pub parse_struct_def : ℕ → Prog ℕ
parse_struct_def start = do
  struct ← alloc_node_from start Node.StructDef 0
  index ← if_check Token.LeftCurly then give none else try_parse_expr NoPostFixCurlyBrace
  struct ← push_option struct index
  body ← alloc_node Node.StructBody 0
  expect Token.LeftCurly
  s ← loop (members body false) member_turn
  expect Token.RightCurly
  node ← close_node s.body
  struct ← push_child struct node
  close_node struct

-- An element that is an expression: of a tuple type, or an argument of a call.
unfoldable pub expr_element : Unfinished → Prog (Option Unfinished)
expr_element list = do
  found ← try_parse_expr AllowAll
  elim found [
    | none ↦ give none
    | some node ↦ do
      list ← push_child list node
      give (some list)
  ]

unfoldable pub parse_tuple_type : ℕ → Prog ℕ
parse_tuple_type start = do
  tuple ← alloc_node_from start Node.TupleType 0
  tuple ← parse_delimited Token.LeftCurly Token.RightCurly Token.Comma expr_element tuple
  close_node tuple

-- ---- operands

unfoldable pub tuple_turn : Unfinished → Prog (Turn Unfinished)
tuple_turn tuple =
    if_check Token.RightRound then give (stop tuple) else do
      element ← parse_expr AllowAll
      tuple ← push_child tuple element
      if_eat Token.Comma then give (again tuple) else give (stop tuple)

-- After `(`: "`()` and `(e,)` are tuples" (01, The wall chart).
unfoldable pub paren_or_tuple : ℕ → Prog ℕ
paren_or_tuple start =
    if_eat Token.RightRound then (do
      tuple ← alloc_node_from start Node.TupleLit 0
      close_node tuple)
    else do
      u ← alloc_node_from start Node.ParenExpr 0
      inner ← parse_expr AllowAll
      u ← push_child u inner
      u ← if_eat Token.Comma
          then (do
            update_kind u Node.TupleLit 0
            loop u tuple_turn)
          else give u
      expect Token.RightRound
      close_node u

-- `if let Some(node) = p { return Some(node); }`, and then q.
abbrev pub ◌or_else◌ : Prog (Option ℕ) → Prog (Option ℕ) → Prog (Option ℕ)
◌or_else◌ p q = do
  found ← p
  elim found [ some node ↦ give (some node) | none ↦ q ]

unfoldable pub num_literal : Prog (Option ℕ)
num_literal = do
  found ← try_parse_num_literal
  elim found [
    | none ↦ give none
    | some offset ↦ do
      node ← alloc_last_token_as_node Node.NumLiteral offset
      give (some node)
  ]

unfoldable pub eager_function : ℕ → Prog ℕ
eager_function start = do
  expect Token.Fn
  parse_function_def start true

unfoldable pub try_parse_standalone_expr : Prog (Option ℕ)
try_parse_standalone_expr = do
  start ← position
  eats Token.True (alloc_last_token_as_node Node.BoolLiteral Flag.BoolLiteral-true)
      or_else eats Token.False (alloc_last_token_as_node Node.BoolLiteral 0)
      or_else num_literal
      or_else try_parse_string_literal
      or_else eats Token.SelfType (alloc_last_token_as_node Node.SelfType 0)
      or_else try_parse_ident
      or_else try_parse_builtin_name
      or_else eats Token.LeftRound (paren_or_tuple start)
      or_else eats Token.Comptime (enter_block start Node.ComptimeBlock)
      or_else eats Token.Eager (eager_function start)
      or_else eats Token.Fn (parse_function_def start false)
      or_else eats Token.Struct (parse_struct_def start)
      or_else eats Token.Tuple (parse_tuple_type start)
      or_else checks Token.LeftCurly block_here
      or_else try_parse_conditional
      or_else try_parse_match

-- ---- try_parse_expr_min_bp

-- The name after a dot.
unfoldable pub access_name : Prog ℕ
access_name = do
  found ← try_parse_ident
  elim found [
    | some ident ↦ give ident
    | none ↦ do
      emit_unexpected
      error ← alloc_node Node.Error 0
      next ← peek
      when (not (contains (Token.Semicolon ∷ Token.RightCurly ∷ Token.LeftRound ∷ Token.Eof ∷ []) next)) pass
      close_node error
  ]

unfoldable pub member_expr : ℕ → ℕ → Prog ℕ
member_expr start expr = do
  member ← alloc_node_from start Node.MemberExpr 0
  member ← push_child member expr
  name ← access_name
  member ← push_child member name
  close_node member

unfoldable pub call_expr : ℕ → ℕ → Prog ℕ
call_expr start expr = do
  call ← alloc_node_from start Node.CallExpr 0
  call ← push_child call expr
  call ← parse_delimited Token.LeftRound Token.RightRound Token.Comma expr_element call
  close_node call

unfoldable pub field_assign : Unfinished → Prog (Option Unfinished)
field_assign literal =
    if_check Token.Identifier then (do
      field ← alloc_node Node.FieldAssign 0
      name ← try_parse_ident
      field ← push_option field name
      expect Token.Colon
      value ← parse_expr AllowAll
      field ← push_child field value
      node ← close_node field
      literal ← push_child literal node
      give (some literal))
    else give none

unfoldable pub struct_lit : ℕ → ℕ → Prog ℕ
struct_lit start expr = do
  literal ← alloc_node_from start Node.StructLit 0
  literal ← push_child literal expr
  literal ← parse_delimited Token.LeftCurly Token.RightCurly Token.Comma field_assign literal
  close_node literal

unfoldable pub binary_expr : Mode → ℕ → ℕ → Binary → Prog ℕ
binary_expr mode start expr b = do
  u ← alloc_node Node.Operator 0
  pass
  operator ← close_node u
  u ← alloc_node_from start Node.BinaryExpr b.op
  u ← push_child u expr
  u ← push_child u operator
  found ← enter_expr mode b.right
  operand ← unwrap_or_error found
  u ← push_child u operand
  close_node u

-- "An operator whose left priority is below the wanted one ends the loop, so equal levels group left" (01, parser/mod.rs).
unfoldable pub binary_step : Mode → ℕ → ℕ → ℕ → Prog (Option ℕ)
binary_step mode min_bp start expr = do
  found ← check_binary_op
  elim found [
    | none ↦ give none
    | some b ↦
        whether ltb b.left min_bp then give none else do
          node ← binary_expr mode start expr b
          give (some node)
  ]

-- What is tried only under a condition.
abbrev pub only_if : Bool → Prog (Option ℕ) → Prog (Option ℕ)
only_if b p = whether b then p else give none

-- One turn of the loop: what goes on from the expression so far (`continue`), or the end (`break`).
unfoldable pub expr_turn : Mode → ℕ → ℕ → ℕ → Prog (Turn ℕ)
expr_turn mode min_bp start expr = do
  found ← only_if (ltb min_bp member_priority) (eats Token.Dot (member_expr start expr))
      or_else only_if (ltb min_bp fn_call_priority) (checks Token.LeftRound (call_expr start expr))
      or_else only_if (allows_struct_literal mode && ltb min_bp struct_literal_priority) (checks Token.LeftCurly (struct_lit start expr))
      or_else binary_step mode min_bp start expr
  elim found [ some node ↦ give (again node) | none ↦ give (stop expr) ]

unfoldable pub unary_expr : Mode → ℕ → ℕ → Prog (Option ℕ)
unary_expr mode start op = do
  unary ← alloc_node_from start Node.UnaryExpr op
  found ← enter_expr mode unary_priority
  operand ← unwrap_or_error found
  unary ← push_child unary operand
  node ← close_node unary
  give (some node)

unfoldable pub try_parse_expr_min_bp : Mode → ℕ → Prog (Option ℕ)
try_parse_expr_min_bp mode min_bp = do
  start ← skip_trivia_start
  unary ← eat_unary
  (first : Option ℕ) ← elim unary [ some op ↦ unary_expr mode start op | none ↦ try_parse_standalone_expr ]
  elim first [
    | none ↦ give none
    | some expr ↦ do
      node ← loop expr (expr_turn mode min_bp start)
      give (some node)
  ]
