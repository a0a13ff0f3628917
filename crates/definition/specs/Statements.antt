-- Statements and blocks: parser/mod.rs, section "STATEMENT PARSING".
use Rattle.std.specs.Prelude.{Bool, true, false, not, ◌||◌, [], ◌∷◌, ℕ, ◌+◌, eqb}
use Rattle.std.proofs.Math.Option.{Option, none, some}
use Rattle.words.specs.Token
use Rattle.words.specs.Node
use Rattle.words.specs.Flag
use Rattle.words.specs.Report
use Rattle.definition.specs.declared.Mode.TheVariants.{AllowAll, NoPostFixCurlyBrace}
use Rattle.definition.specs.declared.Unfinished.{Unfinished}
use Rattle.definition.specs.Prog.{Turn, again, stop, Prog, give, ◌>>=◌, ◌>>◌, loop, whether◌then◌else◌, when, peek, pass, position, before, emit, kind_of, enter_block}
use Rattle.definition.specs.Tokens.{stmt_recovery, contains, check, eat, if_eat◌then◌else◌, if_check◌then◌else◌, eof, emit_unexpected, expect, skip_until_recovery_token}
use Rattle.definition.specs.Nodes.{alloc_node_from, alloc_node, close_node, update_kind, push_child, flag, expect_ident}
use Rattle.definition.specs.Expressions.{try_parse_expr, parse_expr, block_here, push_option, push_closing, eats}

unfoldable pub while_stmt : ℕ → ℕ → Prog ℕ
while_stmt start kind = do
  while ← alloc_node_from start kind 0
  condition ← parse_expr NoPostFixCurlyBrace
  while ← push_child while condition
  body ← block_here
  while ← push_child while body
  close_node while

unfoldable pub try_parse_while : ℕ → Prog (Option ℕ)
try_parse_while start =
    if_eat Token.Inline then (do
      expect Token.While
      node ← while_stmt start Node.InlineWhileStmt
      give (some node))
    else eats Token.While (while_stmt start Node.WhileStmt)

abbrev pub let_flags : Bool → Bool → Bool → ℕ
let_flags comptime mutable typed = flag comptime Flag.LetStmt-comptime + (flag mutable Flag.LetStmt-mutable + flag typed Flag.LetStmt-typed)

unfoldable pub parse_let_stmt : ℕ → Bool → Prog ℕ
parse_let_stmt start comptime = do
  mutable ← eat Token.Mut
  let' ← alloc_node_from start Node.LetStmt (let_flags comptime mutable false)
  name ← expect_ident
  let' ← push_child let' name
  typed ← eat Token.Colon
  let' ← whether typed
      then (do
        type ← parse_expr AllowAll
        push_child let' type)
      else give let'
  update_kind let' Node.LetStmt (let_flags comptime mutable typed)
  expect Token.Equals
  assign ← parse_expr AllowAll
  let' ← push_child let' assign
  expect Token.Semicolon
  close_node let'

-- `Option<StmtResult>`
pub data StmtResult : Type 0 where
  statement end_expr_or_stmt end_expr : ℕ → StmtResult
  nothing : StmtResult

-- `expr_requires_semi_as_stmt` of cst/mod.rs, of a kind that an expression has.
unfoldable pub requires_semi : ℕ → Bool
requires_semi kind = not (contains (Node.ComptimeBlock ∷ Node.Block ∷ Node.If ∷ Node.Match ∷ Node.Error ∷ []) kind)

unfoldable pub return_stmt : ℕ → Prog StmtResult
return_stmt start = do
  return ← alloc_node_from start Node.ReturnStmt 0
  expr ← parse_expr AllowAll
  return ← push_child return expr
  expect Token.Semicolon
  node ← close_node return
  give (statement node)

unfoldable pub let_stmt : ℕ → Bool → Prog StmtResult
let_stmt start comptime = do
  node ← parse_let_stmt start comptime
  give (statement node)

-- After `comptime`. "A statement or closing expression that begins `comptime {` ends at its `}`, or a `;` after it" (01, The wall chart).
unfoldable pub comptime_stmt : ℕ → Prog StmtResult
comptime_stmt start =
    if_check Token.LeftCurly then (do
      block ← enter_block start Node.ComptimeBlock
      if_eat Token.Semicolon then give (statement block) else give (end_expr_or_stmt block))
    else if_eat Token.Let then let_stmt start true
    else do
      emit_unexpected
      skip_until_recovery_token stmt_recovery
      next ← peek
      when (eqb next Token.Semicolon) pass
      error ← alloc_node_from start Node.Error 0
      node ← close_node error
      give (statement node)

unfoldable pub assign_stmt : ℕ → ℕ → Prog StmtResult
assign_stmt start expr = do
  assign ← alloc_node_from start Node.AssignStmt 0
  assign ← push_child assign expr
  rhs ← parse_expr AllowAll
  assign ← push_child assign rhs
  expect Token.Semicolon
  node ← close_node assign
  give (statement node)

unfoldable pub expr_stmt : ℕ → Prog StmtResult
expr_stmt start = do
  found ← try_parse_expr AllowAll
  elim found [
    | none ↦ give nothing
    | some expr ↦
        if_eat Token.Equals then assign_stmt start expr
        else if_eat Token.Semicolon then give (statement expr)
        else do
          kind ← kind_of expr
          whether requires_semi kind then give (end_expr expr) else give (end_expr_or_stmt expr)
  ]

unfoldable pub try_parse_stmt : Prog StmtResult
try_parse_stmt = do
  start ← position
  while ← try_parse_while start
  elim while [
    | some node ↦ give (statement node)
    | none ↦
        if_eat Token.Return then return_stmt start
        else if_eat Token.Comptime then comptime_stmt start
        else if_eat Token.Let then let_stmt start false
        else expr_stmt start
  ]

-- The statements so far, and `end_expr`.
pub record Body : Type 0 where
  pub list : Unfinished
  pub closing : Option ℕ

abbrev pub body : Unfinished → Option ℕ → Body
body list closing = record { list = list; closing = closing }

unfoldable pub end_expr_turn : Unfinished → ℕ → Prog (Turn Body)
end_expr_turn list expr = do
  closed ← check Token.RightCurly
  ended ← eof
  whether closed || ended then give (stop (body list (some expr))) else do
    place ← before
    emit Report.MissingSpecific Token.Semicolon place
    list ← push_child list expr
    give (again (body list none))

-- An `end_expr` that something follows is a statement.
unfoldable pub stmt_turn : Body → Prog (Turn Body)
stmt_turn b =
    if_check Token.RightCurly then give (stop b) else do
      result ← try_parse_stmt
      elim result [
        | nothing ↦ do
          emit_unexpected
          give (stop b)
        | statement stmt ↦ do
          list ← push_option b.list b.closing
          list ← push_child list stmt
          give (again (body list none))
        | end_expr_or_stmt expr ↦ do
          list ← push_option b.list b.closing
          give (again (body list (some expr)))
        | end_expr expr ↦ do
          list ← push_option b.list b.closing
          end_expr_turn list expr
      ]

unfoldable pub parse_block : ℕ → ℕ → Prog ℕ
parse_block start kind = do
  block ← alloc_node_from start kind 0
  expect Token.LeftCurly
  list ← alloc_node Node.StatementsList 0
  b ← loop (body list none) stmt_turn
  node ← close_node b.list
  block ← push_child block node
  block ← push_closing block node b.closing
  expect Token.RightCurly
  close_node block
