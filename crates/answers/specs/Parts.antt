-- Parts of the definition's programs that are functions of their own in the code, and the answers as the definition has them.
use Rattle.std.specs.Prelude.{Bool, true, false, not, ◌||◌, [], ◌∷◌, ℕ, eqb}
use Rattle.std.proofs.Math.Option.{Option, none, some}
use Rattle.words.specs.Token
use Rattle.words.specs.Node
use Rattle.words.specs.Flag
use Rattle.words.specs.Report
use Rattle.definition.specs.declared.Unfinished.{Unfinished}
use Rattle.definition.specs.Prog.{Turn, again, stop, Prog, Act, give, ◌>>=◌, ◌>>◌, whether◌then◌else◌, when, peek, pass, here, before, intern, emit}
use Rattle.definition.specs.Tokens.{contains, check, eat, emit_unexpected, expect, expect_check_recovery, skip_until_recovery_token, stmt_recovery}
use Rattle.definition.specs.Nodes.{alloc_node_from, alloc_node, close_node, push_child, alloc_last_token_as_node, try_parse_ident, try_parse_builtin_name, expect_ident}
use Rattle.definition.specs.Strings.{try_parse_string_literal}
use Rattle.definition.specs.Expressions.{Binary, unwrap_or_error, push_closing, eats, ◌or_else◌, num_literal, Members, members}
use Rattle.definition.specs.Statements.{Body, body, statement, end_expr_or_stmt, end_expr, nothing}
use Rattle.definition.specs.Statements.{StmtResult as Result}
use Rattle.std.specs.Prelude.{Option as Maybe, Some, None}
use Rattle.cst.specs.Cst.{maybe}
use Rattle.answers.specs.declared.Binary.{Binary as Operator}
use Rattle.answers.specs.declared.StmtResult.{StmtResult}
use Rattle.answers.specs.declared.StmtResult.TheVariants.{Statement, EndExprOrStmt, EndExpr}
use Rattle.answers.specs.declared.Ended.{Ended}

-- ---- answers

abbrev pub element : Maybe Unfinished → Option Unfinished
element (Some u) = some u
element None = none

abbrev pub operator : Maybe Operator → Option Binary
operator (Some b) = some (record { token = b.token; left = b.left; right = b.right; op = b.op })
operator None = none

-- ---- reports

abbrev pub emit_here : ℕ → Act
emit_here kind = do
  place ← here
  emit kind 0 place

abbrev pub emit_before : ℕ → ℕ → Act
emit_before kind detail = do
  place ← before
  emit kind detail place

abbrev pub missing_semicolon : Act
missing_semicolon = emit_before Report.MissingSpecific Token.Semicolon

abbrev pub note_field : Bool → Act
note_field seen = when seen (emit_here Report.FieldAfterMethod)

-- ---- tokens

abbrev pub one_of : ℕ → ℕ → Prog Bool
one_of first second = do
  a ← check first
  b ← check second
  give (a || b)

abbrev pub only_eat : Bool → ℕ → Prog Bool
only_eat tried token = whether tried then eat token else give false

abbrev pub only_check : Bool → ℕ → Prog Bool
only_check tried token = whether tried then check token else give false

abbrev pub past_semicolon : Act
past_semicolon = do
  next ← peek
  when (eqb next Token.Semicolon) pass

-- ---- nodes

abbrev pub push_close : Unfinished → ℕ → Prog ℕ
push_close u child = do
  u ← push_child u child
  close_node u

abbrev pub end_stmt : Unfinished → ℕ → Prog Result
end_stmt u child = do
  u ← push_child u child
  expect Token.Semicolon
  node ← close_node u
  give (statement node)

abbrev pub close_into : Unfinished → Unfinished → Prog ℕ
close_into list parent = do
  node ← close_node list
  parent ← push_child parent node
  close_node parent

abbrev pub close_if : Unfinished → Unfinished → Option ℕ → Prog ℕ
close_if list parent closing = do
  node ← close_node list
  parent ← push_child parent node
  parent ← push_closing parent node closing
  close_node parent

abbrev pub close_block : Unfinished → Unfinished → Option ℕ → Prog ℕ
close_block list parent closing = do
  node ← close_node list
  parent ← push_child parent node
  parent ← push_closing parent node closing
  expect Token.RightCurly
  close_node parent

abbrev pub add_element : Unfinished → ℕ → Unfinished → Prog (Option Unfinished)
add_element u child list = do
  u ← push_child u child
  node ← close_node u
  list ← push_child list node
  give (some list)

abbrev pub close_operand : Unfinished → Option ℕ → Prog ℕ
close_operand u found = do
  operand ← unwrap_or_error found
  u ← push_child u operand
  close_node u

abbrev pub open_binary : ℕ → ℕ → ℕ → Prog Unfinished
open_binary start left op = do
  u ← alloc_node Node.Operator 0
  pass
  operator ← close_node u
  u ← alloc_node_from start Node.BinaryExpr op
  u ← push_child u left
  push_child u operator

-- ---- operands

-- The alternatives of `try_parse_standalone_expr` in groups, each grouped from the left (`or_assoc` in Rules).
abbrev pub boolean : Prog (Option ℕ)
boolean = eats Token.True (alloc_last_token_as_node Node.BoolLiteral Flag.BoolLiteral-true) or_else eats Token.False (alloc_last_token_as_node Node.BoolLiteral 0)

abbrev pub literal : Prog (Option ℕ)
literal = (boolean or_else num_literal) or_else try_parse_string_literal

abbrev pub named : Prog (Option ℕ)
named =
    (eats Token.SelfType (alloc_last_token_as_node Node.SelfType 0)
    or_else try_parse_ident)
    or_else try_parse_builtin_name

abbrev pub no_access_name : Prog ℕ
no_access_name = do
  emit_unexpected
  error ← alloc_node Node.Error 0
  next ← peek
  when (not (contains (Token.Semicolon ∷ Token.RightCurly ∷ Token.LeftRound ∷ Token.Eof ∷ []) next)) pass
  close_node error

-- ---- parameters and members

abbrev pub error_from : ℕ → Prog ℕ
error_from start = do
  u ← alloc_node_from start Node.Error 0
  close_node u

abbrev pub comptime_parameter : ℕ → Prog (Option Unfinished)
comptime_parameter start = do
  parameter ← alloc_node_from start Node.ComptimeParameter 0
  name ← expect_ident
  parameter ← push_child parameter name
  give (some parameter)

abbrev pub plain_parameter : ℕ → Prog (Option Unfinished)
plain_parameter start = do
  parameter ← alloc_node_from start Node.Parameter 0
  ident ← intern Token.Identifier
  name ← alloc_last_token_as_node Node.Identifier ident
  parameter ← push_child parameter name
  give (some parameter)

abbrev pub separate : Members → Prog (Turn Members)
separate s = do
  next ← peek
  whether contains (Token.RightCurly ∷ Token.Eof ∷ Token.Eager ∷ Token.Fn ∷ []) next then give (again (members s.body s.seen_method)) else do
    expect_check_recovery Token.Comma (Token.Identifier ∷ Token.Eager ∷ Token.Fn ∷ [])
    give (again (members s.body s.seen_method))

-- ---- statements

abbrev pub stmt_result : Maybe StmtResult → Result
stmt_result (Some (Statement n)) = statement n
stmt_result (Some (EndExprOrStmt n)) = end_expr_or_stmt n
stmt_result (Some (EndExpr n)) = end_expr n
stmt_result None = nothing

abbrev pub comptime_error : ℕ → Prog Result
comptime_error start = do
  emit_unexpected
  skip_until_recovery_token stmt_recovery
  next ← peek
  when (eqb next Token.Semicolon) pass
  error ← alloc_node_from start Node.Error 0
  node ← close_node error
  give (statement node)

abbrev pub turn_of : Bool → Body → Turn Body
turn_of true b = stop b
turn_of false b = again b

abbrev pub ended_turn : Ended → Turn Body
ended_turn e = turn_of e.last (body e.list (maybe e.closing))
