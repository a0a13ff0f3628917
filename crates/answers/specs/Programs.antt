-- The readers' programs in the steps that the code takes, one for each reader whose steps are grouped otherwise than the definition's.
use Rattle.std.specs.Prelude.{Bool, false, ℕ}
use Rattle.std.proofs.Math.Option.{Option, none, some}
use Rattle.words.specs.Token
use Rattle.words.specs.Node
use Rattle.definition.specs.declared.Unfinished.{Unfinished}
use Rattle.definition.specs.declared.Mode.{Mode}
use Rattle.definition.specs.declared.Mode.TheVariants.{AllowAll, NoPostFixCurlyBrace}
use Rattle.definition.specs.Prog.{Turn, again, stop, Prog, give, ◌>>=◌, ◌>>◌, loop, whether◌then◌else◌, position, enter_expr, enter_block}
use Rattle.definition.specs.Tokens.{if_check◌then◌else◌, expect}
use Rattle.definition.specs.Nodes.{alloc_node_from, alloc_node, close_node, push_child}
use Rattle.definition.specs.Expressions.{try_parse_expr, parse_expr, block_here, ElseIfs, else_turn, else_if_branch, arm_turn, parse_parameter, parse_function_signature_and_body, parse_function_def, members, member_turn, parse_struct_def, expr_element, parse_tuple_type, tuple_turn, paren_or_tuple, eager_function, try_parse_standalone_expr, try_parse_conditional, try_parse_match, call_expr, field_assign, struct_lit, eats, checks, ◌or_else◌, expr_turn, unary_priority}
use Rattle.definition.specs.Statements.{while_stmt, let_flags, return_stmt, assign_stmt, expr_stmt, let_stmt, comptime_stmt, statement, body, stmt_turn}
use Rattle.definition.specs.Statements.{StmtResult as Result}
use Rattle.stream.specs.Delimited.{elements}
use Rattle.answers.specs.Same.{Ways, over, way, tokens_of, taken}
use Rattle.answers.specs.Parts.{add_element, close_operand, close_if, close_block, push_close, end_stmt}
use Rattle.answers.specs.Steps.{Going, Right, Prefix, Goes_on, Bracket, Parameter, Elsewise, Afterwards, eat_first, prefixed, close_unary, infixed, member, call, literal_of, nowhere, postfix_kind, simple, empty, opened, paren_start, paren_comma, open_list, end_list, end_node, end_body, open_method, missing, any_typed, wants, param_head, open_body, open_named, open_call, no_else, else_if, else_last, else_kind, open_arms, open_let, let_equals, end_let, open_assign, assigns, whole, open_block}

-- An expression that no `{` goes on from, and a block.
abbrev pub guarded : Unfinished → Prog Unfinished
guarded u = do
  condition ← parse_expr NoPostFixCurlyBrace
  u ← push_child u condition
  body ← block_here
  push_child u body

-- What stands between `struct` and `{`.
abbrev pub indexed : Prog (Option ℕ)
indexed = if_check Token.LeftCurly then give none else try_parse_expr NoPostFixCurlyBrace

abbrev pub typing : Unfinished → Bool → Prog Unfinished
typing let' typed =
    whether typed
    then (do
      type ← parse_expr AllowAll
      push_child let' type)
    else give let'

abbrev pub method_steps : Prog ℕ
method_steps = do
  method ← open_method
  method ← parse_function_signature_and_body method
  close_node method

abbrev pub sign_steps : Unfinished → Prog Unfinished
sign_steps function = do
  list ← open_list Node.ParamList Token.LeftRound
  list ← elements Token.RightRound Token.Comma parse_parameter list
  function ← end_list Token.RightRound list function
  guarded function

abbrev pub record_steps : ℕ → Prog ℕ
record_steps start = do
  struct ← alloc_node_from start Node.StructDef 0
  index ← indexed
  b ← open_body struct index
  all ← loop (members b.inner false) member_turn
  end_body all.body b.outer

abbrev pub field_steps : Prog ℕ
field_steps = do
  field ← open_named Node.FieldDef
  type ← parse_expr AllowAll
  push_close field type

abbrev pub types_steps : ℕ → Prog ℕ
types_steps start = do
  tuple ← alloc_node_from start Node.TupleType 0
  expect Token.LeftCurly
  tuple ← elements Token.RightCurly Token.Comma expr_element tuple
  end_node Token.RightCurly tuple

abbrev pub call_steps : ℕ → ℕ → Prog ℕ
call_steps start expr = do
  u ← open_call start Node.CallExpr expr Token.LeftRound
  u ← elements Token.RightRound Token.Comma expr_element u
  end_node Token.RightRound u

abbrev pub literal_steps : ℕ → ℕ → Prog ℕ
literal_steps start expr = do
  u ← open_call start Node.StructLit expr Token.LeftCurly
  u ← elements Token.RightCurly Token.Comma field_assign u
  end_node Token.RightCurly u

-- after its first token was looked at
abbrev pub init_steps : Unfinished → Prog (Option Unfinished)
init_steps list = do
  field ← open_named Node.FieldAssign
  value ← parse_expr AllowAll
  add_element field value list

abbrev pub cond_steps : ℕ → Prog ℕ
cond_steps start = do
  if' ← alloc_node_from start Node.If 0
  if' ← guarded if'
  list ← alloc_node Node.ElseIfBranchList 0
  e ← loop (record { list = list; else_body = none }) else_turn
  close_if e.list if' e.else_body

abbrev pub elif_steps : ElseIfs → ℕ → Prog (Turn ElseIfs)
elif_steps e start = do
  branch ← alloc_node_from start Node.ElseIfBranch 0
  branch ← guarded branch
  node ← close_node branch
  list ← push_child e.list node
  give (again (record { list = list; else_body = none }))

abbrev pub select_steps : ℕ → Prog ℕ
select_steps start = do
  match ← alloc_node_from start Node.Match 0
  subject ← parse_expr NoPostFixCurlyBrace
  b ← open_arms match subject
  arms ← loop b.inner arm_turn
  end_body arms b.outer

abbrev pub while_steps : ℕ → ℕ → Prog ℕ
while_steps start kind = do
  while ← alloc_node_from start kind 0
  while ← guarded while
  close_node while

abbrev pub let_steps : ℕ → Bool → Prog ℕ
let_steps start comptime = do
  h ← open_let start comptime
  let' ← typing h.node h.typed
  let_equals let' (let_flags comptime h.mutable h.typed)
  assign ← parse_expr AllowAll
  end_let let' assign

abbrev pub assign_steps : ℕ → ℕ → Prog Result
assign_steps start expr = do
  assign ← open_assign start expr
  rhs ← parse_expr AllowAll
  end_stmt assign rhs

abbrev pub block_steps : ℕ → ℕ → Prog ℕ
block_steps start kind = do
  b ← open_block start kind
  all ← loop (body b.inner none) stmt_turn
  close_block all.list b.outer all.closing

abbrev pub comma_rest : Goes_on → Prog ℕ
comma_rest g = do
  u ← whether g.on then loop g.node tuple_turn else give g.node
  end_node Token.RightRound u

abbrev pub bracket_rest : Bracket → Prog ℕ
bracket_rest b =
    elim b [
      | empty node ↦ give node
      | opened u ↦ do
        inner ← parse_expr AllowAll
        g ← paren_comma u inner
        comma_rest g
    ]

abbrev pub paren_steps : ℕ → Prog ℕ
paren_steps start = do
  b ← paren_start start
  bracket_rest b

abbrev pub param_rest : Unfinished → Parameter → Prog (Option Unfinished)
param_rest list h =
    elim h [
      | missing ↦ give none
      | any_typed parameter type ↦ add_element parameter type list
      | wants parameter ↦ do
        type ← parse_expr AllowAll
        add_element parameter type list
    ]

abbrev pub param_steps : Unfinished → Prog (Option Unfinished)
param_steps list = do
  h ← param_head
  param_rest list h

abbrev pub else_rest : ElseIfs → Elsewise → Prog (Turn ElseIfs)
else_rest e k =
    elim k [
      | no_else ↦ give (stop e)
      | else_if start ↦ else_if_branch e start
      | else_last ↦ do
        body ← block_here
        give (stop (record { list = e.list; else_body = some body }))
    ]

abbrev pub else_steps : ElseIfs → Prog (Turn ElseIfs)
else_steps e = do
  k ← else_kind
  else_rest e k

abbrev pub after_rest : ℕ → ℕ → Afterwards → Prog Result
after_rest start expr a = elim a [ assigns ↦ assign_stmt start expr | whole result ↦ give result ]

-- Alternatives that each begin with a token.
abbrev pub answers : Prog ℕ → Prog (Option ℕ)
answers p = do
  node ← p
  give (some node)

pub data Alternatives : Type 1 where
  no_more : Alternatives
  alternative : ℕ → Prog ℕ → Alternatives → Alternatives

abbrev pub ways_of : Alternatives → Ways (Option ℕ)
ways_of no_more = over
ways_of (alternative token p l) = way token (answers p) (ways_of l)

abbrev pub alternatives : Alternatives → Prog (Option ℕ) → Prog (Option ℕ)
alternatives no_more q = q
alternatives (alternative token p l) q = eats token p or_else alternatives l q

abbrev pub operand_ways : ℕ → Alternatives
operand_ways start =
    alternative Token.LeftRound (paren_or_tuple start)
    (alternative Token.Comptime (enter_block start Node.ComptimeBlock)
    (alternative Token.Eager (eager_function start)
    (alternative Token.Fn (parse_function_def start false)
    (alternative Token.Struct (parse_struct_def start)
    (alternative Token.Tuple (parse_tuple_type start) no_more)))))

abbrev pub branching : Prog (Option ℕ)
branching = checks Token.LeftCurly block_here or_else try_parse_conditional or_else try_parse_match

abbrev pub operand_rest : ℕ → Option ℕ → Prog (Option ℕ)
operand_rest start found =
    elim found [
      | some node ↦ give (some node)
      | none ↦ do
        i ← eat_first (tokens_of (ways_of (operand_ways start)))
        taken (ways_of (operand_ways start)) branching i
    ]

abbrev pub operand_steps : Prog (Option ℕ)
operand_steps = do
  start ← position
  found ← simple
  operand_rest start found

abbrev pub stmt_ways : ℕ → Ways Result
stmt_ways start =
    way Token.Inline (do
      expect Token.While
      node ← while_stmt start Node.InlineWhileStmt
      give (statement node))
    (way Token.While (do
      node ← while_stmt start Node.WhileStmt
      give (statement node))
    (way Token.Return (return_stmt start)
    (way Token.Comptime (comptime_stmt start)
    (way Token.Let (let_stmt start false) over))))

abbrev pub stmt_steps : Prog Result
stmt_steps = do
  start ← position
  i ← eat_first (tokens_of (stmt_ways start))
  taken (stmt_ways start) (expr_stmt start) i

abbrev pub postfix_rest : ℕ → ℕ → Going → Prog (Option ℕ)
postfix_rest start expr k =
    elim k [
      | member node ↦ give (some node)
      | call ↦ answers (call_expr start expr)
      | literal_of ↦ answers (struct_lit start expr)
      | nowhere ↦ give none
    ]

abbrev pub postfix_steps : Mode → ℕ → ℕ → ℕ → Prog (Option ℕ)
postfix_steps mode min_bp start expr = do
  k ← postfix_kind mode min_bp start expr
  postfix_rest start expr k

abbrev pub infix_rest : Mode → ℕ → Option Right → Prog (Turn ℕ)
infix_rest mode expr o =
    elim o [
      | none ↦ give (stop expr)
      | some r ↦ do
        found ← enter_expr mode r.priority
        node ← close_operand r.node found
        give (again node)
    ]

abbrev pub turn_rest : Mode → ℕ → ℕ → ℕ → Option ℕ → Prog (Turn ℕ)
turn_rest mode min_bp start expr found =
    elim found [
      | some node ↦ give (again node)
      | none ↦ do
        o ← infixed min_bp start expr
        infix_rest mode expr o
    ]

abbrev pub turn_steps : Mode → ℕ → ℕ → ℕ → Prog (Turn ℕ)
turn_steps mode min_bp start expr = do
  found ← postfix_steps mode min_bp start expr
  turn_rest mode min_bp start expr found

abbrev pub first_rest : Mode → Prefix → Prog (Option ℕ)
first_rest mode h =
    elim h.unary [
      | some u ↦ do
        found ← enter_expr mode unary_priority
        close_unary u found
      | none ↦ try_parse_standalone_expr
    ]

abbrev pub last_rest : Mode → ℕ → ℕ → Option ℕ → Prog (Option ℕ)
last_rest mode min_bp start first =
    elim first [
      | none ↦ give none
      | some expr ↦ do
        node ← loop expr (expr_turn mode min_bp start)
        give (some node)
    ]

abbrev pub expr_steps : Mode → ℕ → Prog (Option ℕ)
expr_steps mode min_bp = do
  h ← prefixed
  first ← first_rest mode h
  last_rest mode min_bp h.start first
