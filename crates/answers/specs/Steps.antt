-- The steps of a reader that lie between two calls of readers, as programs; and the answers as the definition has them.
use Rattle.std.specs.Prelude.{Bool, true, false, ◌&&◌, List, [], ◌∷◌, ℕ, suc, ltb}
use Rattle.std.proofs.Math.Option.{Option, none, some}
use Rattle.std.specs.Prelude.{Option as Maybe, Some, None}
use Rattle.words.specs.Token
use Rattle.words.specs.Node
use Rattle.words.specs.Flag
use Rattle.definition.specs.declared.Mode.{Mode}
use Rattle.definition.specs.declared.Unfinished.{Unfinished}
use Rattle.definition.specs.Prog.{Turn, again, stop, Prog, Act, give, ◌>>=◌, ◌>>◌, whether◌then◌else◌, when, position, kind_of}
use Rattle.definition.specs.Tokens.{check, eat, if_eat◌then◌else◌, if_check◌then◌else◌, emit_unexpected, expect}
use Rattle.definition.specs.Nodes.{alloc_node_from, skip_trivia_start, alloc_node, close_node, update_kind, push_child, flag, try_parse_ident, expect_ident}
use Rattle.definition.specs.Expressions.{allows_struct_literal, member_priority, fn_call_priority, struct_literal_priority, check_binary_op, eat_unary, push_option, member_expr, any_type, parameter_name, Members, members, ◌or_else◌}
use Rattle.definition.specs.Statements.{requires_semi, let_flags, statement, end_expr_or_stmt, end_expr, nothing, Body, body, end_expr_turn}
use Rattle.definition.specs.Statements.{StmtResult as Result}
use Rattle.answers.specs.Parts.{element, stmt_result, literal, named, only_eat, only_check, close_operand, open_binary, close_into, separate}
use Rattle.answers.specs.declared.Longer.{Longer}
use Rattle.answers.specs.declared.Prefixed.{Prefixed}
use Rattle.answers.specs.declared.Infixed.{Infixed}
use Rattle.answers.specs.declared.Goes.{Goes}
use Rattle.answers.specs.declared.Goes.TheVariants.{Member, Call, Literal}
use Rattle.answers.specs.declared.Brackets.{Brackets}
use Rattle.answers.specs.declared.Brackets.TheVariants.{Empty, Open}
use Rattle.answers.specs.declared.Param.{Param}
use Rattle.answers.specs.declared.Param.TheVariants.{Any, Wants}
use Rattle.answers.specs.declared.Else.{Else}
use Rattle.answers.specs.declared.Else.TheVariants.{If, Last}
use Rattle.answers.specs.declared.LetHead.{LetHead}
use Rattle.answers.specs.declared.After.{After}
use Rattle.answers.specs.declared.After.TheVariants.{Assign, Whole}

-- ---- tokens

-- The first of some tokens that is next is passed; its place among them is answered, or their number.
unfoldable pub eat_first : List ℕ → Prog ℕ
eat_first [] = give 0
eat_first (t ∷ ts) =
    if_eat t then give 0 else do
      i ← eat_first ts
      give (suc i)

-- ---- expressions

pub record Prefix : Type 0 where
  pub start : ℕ
  pub unary : Option Unfinished

abbrev pub prefix : ℕ → Option Unfinished → Prefix
prefix start unary = record { start = start; unary = unary }

abbrev pub prefix_of : Prefixed → Prefix
prefix_of p = prefix p.start (element p.it)

abbrev pub prefixed : Prog Prefix
prefixed = do
  start ← skip_trivia_start
  unary ← eat_unary
  elim unary [
    | some op ↦ do
      u ← alloc_node_from start Node.UnaryExpr op
      give (prefix start (some u))
    | none ↦ give (prefix start none)
  ]

abbrev pub close_unary : Unfinished → Option ℕ → Prog (Option ℕ)
close_unary u found = do
  node ← close_operand u found
  give (some node)

-- A binary expression up to its right operand, and that one's priority.
pub record Right : Type 0 where
  pub node : Unfinished
  pub priority : ℕ

abbrev pub right : Unfinished → ℕ → Right
right node priority = record { node = node; priority = priority }

abbrev pub right_of : Option Unfinished → ℕ → Option Right
right_of none priority = none
right_of (some u) priority = some (right u priority)

abbrev pub infix_of : Infixed → Option Right
infix_of i = right_of (element i.it) i.right

abbrev pub infixed : ℕ → ℕ → ℕ → Prog (Option Right)
infixed min_bp start expr = do
  found ← check_binary_op
  elim found [
    | none ↦ give none
    | some b ↦
        whether ltb b.left min_bp then give none else do
          u ← open_binary start expr b.op
          give (some (right u b.right))
  ]

-- What goes on from an expression and is no binary operator.
pub data Going : Type 0 where
  member : ℕ → Going
  call literal_of nowhere : Going

abbrev pub postfix_of : Maybe Goes → Going
postfix_of (Some (Member n)) = member n
postfix_of (Some Call) = call
postfix_of (Some Literal) = literal_of
postfix_of None = nowhere

abbrev pub postfix_kind : Mode → ℕ → ℕ → ℕ → Prog Going
postfix_kind mode min_bp start expr = do
  dot ← only_eat (ltb min_bp member_priority) Token.Dot
  whether dot
      then (do
        node ← member_expr start expr
        give (member node))
      else do
        round ← only_check (ltb min_bp fn_call_priority) Token.LeftRound
        whether round then give call else do
          curly ← only_check (allows_struct_literal mode && ltb min_bp struct_literal_priority) Token.LeftCurly
          whether curly then give literal_of else give nowhere

abbrev pub simple : Prog (Option ℕ)
simple = literal or_else named

-- After `(`.
pub data Bracket : Type 0 where
  empty : ℕ → Bracket
  opened : Unfinished → Bracket

abbrev pub paren_of : Brackets → Bracket
paren_of (Empty n) = empty n
paren_of (Open u) = opened u

abbrev pub paren_start : ℕ → Prog Bracket
paren_start start =
    if_eat Token.RightRound then (do
      tuple ← alloc_node_from start Node.TupleLit 0
      node ← close_node tuple
      give (empty node))
    else do
      u ← alloc_node_from start Node.ParenExpr 0
      give (opened u)

-- A node, and whether what is read goes on.
pub record Goes_on : Type 0 where
  pub node : Unfinished
  pub on : Bool

abbrev pub goes : Unfinished → Bool → Goes_on
goes node on = record { node = node; on = on }

abbrev pub more_of : Longer → Goes_on
more_of m = goes m.it m.on

abbrev pub paren_comma : Unfinished → ℕ → Prog Goes_on
paren_comma u inner = do
  u ← push_child u inner
  comma ← eat Token.Comma
  when comma (update_kind u Node.TupleLit 0)
  give (goes u comma)

abbrev pub more : Unfinished → ℕ → Prog Goes_on
more list node = do
  list ← push_child list node
  comma ← eat Token.Comma
  give (goes list comma)

-- ---- nodes and their lists

abbrev pub open_list : ℕ → ℕ → Prog Unfinished
open_list kind opener = do
  list ← alloc_node kind 0
  expect opener
  give list

abbrev pub end_list : ℕ → Unfinished → Unfinished → Prog Unfinished
end_list terminator list parent = do
  expect terminator
  node ← close_node list
  push_child parent node

abbrev pub end_node : ℕ → Unfinished → Prog ℕ
end_node terminator u = do
  expect terminator
  close_node u

abbrev pub end_body : Unfinished → Unfinished → Prog ℕ
end_body list parent = do
  expect Token.RightCurly
  close_into list parent

-- A node and a list in it, both open.
pub record Both : Type 0 where
  pub outer : Unfinished
  pub inner : Unfinished

abbrev pub two : Unfinished → Unfinished → Both
two outer inner = record { outer = outer; inner = inner }

-- ---- functions

abbrev pub open_fn : ℕ → Bool → Prog Unfinished
open_fn start eager = alloc_node_from start Node.FnDef (flag eager Flag.FnDef-eager)

abbrev pub open_method : Prog Unfinished
open_method = do
  start ← position
  eager ← eat Token.Eager
  expect Token.Fn
  method ← alloc_node_from start Node.MethodDef (flag eager Flag.MethodDef-eager)
  name ← expect_ident
  push_child method name

-- A parameter up to its type.
pub data Parameter : Type 0 where
  missing : Parameter
  any_typed : Unfinished → ℕ → Parameter
  wants : Unfinished → Parameter

abbrev pub param_of : Maybe Param → Parameter
param_of None = missing
param_of (Some (Any u n)) = any_typed u n
param_of (Some (Wants u)) = wants u

abbrev pub param_head : Prog Parameter
param_head = do
  found ← parameter_name
  elim found [
    | none ↦ give missing
    | some parameter ↦ do
      expect Token.Colon
      dollar ← check Token.Dollar
      whether dollar
          then (do
            type ← any_type
            give (any_typed parameter type))
          else give (wants parameter)
  ]

-- ---- structs

abbrev pub open_body : Unfinished → Option ℕ → Prog Both
open_body struct index = do
  struct ← push_option struct index
  list ← open_list Node.StructBody Token.LeftCurly
  give (two struct list)

abbrev pub after_field : Unfinished → Bool → ℕ → Prog (Turn Members)
after_field b seen field = do
  b ← push_child b field
  separate (members b seen)

abbrev pub open_named : ℕ → Prog Unfinished
open_named kind = do
  field ← alloc_node kind 0
  name ← try_parse_ident
  field ← push_option field name
  expect Token.Colon
  give field

abbrev pub open_call : ℕ → ℕ → ℕ → ℕ → Prog Unfinished
open_call start kind expr opener = do
  u ← alloc_node_from start kind 0
  u ← push_child u expr
  expect opener
  give u

-- ---- if and match

pub data Elsewise : Type 0 where
  no_else : Elsewise
  else_if : ℕ → Elsewise
  else_last : Elsewise

abbrev pub else_of : Maybe Else → Elsewise
else_of None = no_else
else_of (Some (If start)) = else_if start
else_of (Some Last) = else_last

abbrev pub else_kind : Prog Elsewise
else_kind =
    if_check Token.Else then (do
      start ← position
      expect Token.Else
      if_eat Token.If then give (else_if start) else give else_last)
    else give no_else

abbrev pub open_arms : Unfinished → ℕ → Prog Both
open_arms match subject = do
  match ← push_child match subject
  list ← open_list Node.MatchArmList Token.LeftCurly
  give (two match list)

abbrev pub arm_turn : Bool → Unfinished → Turn Unfinished
arm_turn true u = again u
arm_turn false u = stop u

abbrev pub end_arm : Unfinished → ℕ → Unfinished → Prog (Turn Unfinished)
end_arm arm value arms = do
  arm ← push_child arm value
  node ← close_node arm
  arms ← push_child arms node
  if_eat Token.Comma then give (again arms) else give (stop arms)

-- ---- statements

-- A `let` up to the colon of its type.
pub record Let : Type 0 where
  pub node : Unfinished
  pub mutable : Bool
  pub typed : Bool

abbrev pub let_begun : Unfinished → Bool → Bool → Let
let_begun node mutable typed = record { node = node; mutable = mutable; typed = typed }

abbrev pub let_of : LetHead → Let
let_of h = let_begun h.it h.mutable h.typed

abbrev pub open_let : ℕ → Bool → Prog Let
open_let start comptime = do
  mutable ← eat Token.Mut
  let' ← alloc_node_from start Node.LetStmt (let_flags comptime mutable false)
  name ← expect_ident
  let' ← push_child let' name
  typed ← eat Token.Colon
  give (let_begun let' mutable typed)

abbrev pub let_equals : Unfinished → ℕ → Act
let_equals u payload = do
  update_kind u Node.LetStmt payload
  expect Token.Equals
  give tt

abbrev pub end_let : Unfinished → ℕ → Prog ℕ
end_let u value = do
  u ← push_child u value
  expect Token.Semicolon
  close_node u

abbrev pub open_assign : ℕ → ℕ → Prog Unfinished
open_assign start expr = do
  assign ← alloc_node_from start Node.AssignStmt 0
  push_child assign expr

-- What an expression is at the start of a statement.
pub data Afterwards : Type 0 where
  assigns : Afterwards
  whole : Result → Afterwards

abbrev pub after_of : After → Afterwards
after_of Assign = assigns
after_of (Whole r) = whole (stmt_result (Some r))

abbrev pub after_expr : ℕ → Prog Afterwards
after_expr expr =
    if_eat Token.Equals then give assigns
    else if_eat Token.Semicolon then give (whole (statement expr))
    else do
      kind ← kind_of expr
      whether requires_semi kind then give (whole (end_expr expr)) else give (whole (end_expr_or_stmt expr))

abbrev pub add_stmt : Unfinished → Option ℕ → Result → Prog (Turn Body)
add_stmt stmts closing result =
    elim result [
      | nothing ↦ do
        emit_unexpected
        give (stop (body stmts closing))
      | statement stmt ↦ do
        list ← push_option stmts closing
        list ← push_child list stmt
        give (again (body list none))
      | end_expr_or_stmt expr ↦ do
        list ← push_option stmts closing
        give (again (body list (some expr)))
      | end_expr expr ↦ do
        list ← push_option stmts closing
        end_expr_turn list expr
    ]

abbrev pub open_block : ℕ → ℕ → Prog Both
open_block start kind = do
  block ← alloc_node_from start kind 0
  expect Token.LeftCurly
  list ← alloc_node Node.StatementsList 0
  give (two block list)
