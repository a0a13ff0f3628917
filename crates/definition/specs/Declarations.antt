-- Declarations: parser/mod.rs, section "TOP-LEVEL DECLARATIONS". The readers that `parse_decl` calls stand before it.
use Rattle.std.specs.Prelude.{Bool, true, false, not, ℕ, ◌+◌, eqb}
use Rattle.std.proofs.Math.Option.{Option, none, some}
use Rattle.words.specs.Token
use Rattle.words.specs.Node
use Rattle.words.specs.Flag
use Rattle.words.specs.Report
use Rattle.definition.specs.declared.Mode.TheVariants.{AllowAll}
use Rattle.definition.specs.declared.Unfinished.{Unfinished}
use Rattle.definition.specs.Prog.{Turn, again, stop, Prog, Act, give, ◌>>=◌, ◌>>◌, loop, whether◌then◌else◌, when, peek, pass, position, here, before, emit, enter_block}
use Rattle.definition.specs.Tokens.{const_def_expr_recovery, check, if_eat◌then◌else◌, if_check◌then◌else◌, eof, emit_unexpected, skip_until_decl_start, expect, expect_check_recovery, parse_delimited}
use Rattle.definition.specs.Nodes.{alloc_node_from, alloc_node, close_node, update_kind, push_child, flag, expect_ident}
use Rattle.definition.specs.Expressions.{parse_expr}

-- ---- imports

unfoldable pub path_turn : Unit {0} → Prog (Turn (Unit {0}))
path_turn _ =
    if_eat Token.DoubleColon then
    (if_check Token.Identifier then (do
      pass
      give (again tt))
    else give (stop tt))
    else give (stop tt)

-- The first token of the name (`path_start`) is the one before the cursor where the name was just read.
unfoldable pub parse_import_group_item : Prog ℕ
parse_import_group_item = do
  item ← alloc_node Node.ImportGroupItem 0
  name ← expect_ident
  place ← before
  item ← push_child item name
  path ← check Token.DoubleColon
  when path do
    loop tt path_turn
    emit Report.PathInGroup 0 place
  item ← if_eat Token.As
      then (do
        alias ← expect_ident
        push_child item alias)
      else give item
  close_node item

-- The group so far, and `item_count`.
pub record Group : Type 0 where
  pub node : Unfinished
  pub count : ℕ

unfoldable pub group_item : Group → Prog (Option Group)
group_item g =
    if_eat Token.Star then (do
      place ← before
      emit Report.StarInGroup 0 place
      give (some (record { node = g.node; count = g.count + 1 })))
    else if_check Token.Identifier then (do
      item ← parse_import_group_item
      node ← push_child g.node item
      give (some (record { node = node; count = g.count + 1 })))
    else give none

unfoldable pub parse_import_group : Unfinished → Prog ℕ
parse_import_group group = do
  peek
  brace ← here
  g ← parse_delimited Token.LeftCurly Token.RightCurly Token.Comma group_item (record { node = group; count = 0 })
  when (eqb g.count 0) (emit Report.EmptyGroup 0 brace)
  when (eqb g.count 1) (emit Report.NeedlessBraces 0 brace)
  expect Token.Semicolon
  close_node g.node

-- The path so far, and the whole declaration's node where the loop returns one.
pub record ImportSoFar : Type 0 where
  pub path : Unfinished
  pub whole : Option ℕ

unfoldable pub glob_import : Bool → Unfinished → Prog (Turn ImportSoFar)
glob_import public path = do
  update_kind path Node.ImportDecl (flag public Flag.ImportDecl-public + Flag.ImportDecl-glob)
  expect Token.Semicolon
  node ← close_node path
  give (stop (record { path = path; whole = some node }))

unfoldable pub group_import : Bool → Unfinished → Prog (Turn ImportSoFar)
group_import public path = do
  update_kind path Node.ImportGroupDecl (flag public Flag.ImportGroupDecl-public)
  node ← parse_import_group path
  give (stop (record { path = path; whole = some node }))

unfoldable pub import_turn : Bool → ImportSoFar → Prog (Turn ImportSoFar)
import_turn public p =
    if_eat Token.DoubleColon then
    (if_eat Token.Star then glob_import public p.path
    else if_check Token.LeftCurly then group_import public p.path
    else do
      ident ← expect_ident
      path ← push_child p.path ident
      give (again (record { path = path; whole = none })))
    else give (stop p)

unfoldable pub import_as : ℕ → Bool → Unfinished → Prog ℕ
import_as start public path = do
  update_kind path Node.ImportPath 0
  node ← close_node path
  import ← alloc_node_from start Node.ImportAsDecl (flag public Flag.ImportAsDecl-public)
  import ← push_child import node
  expect Token.As
  name ← expect_ident
  import ← push_child import name
  expect Token.Semicolon
  close_node import

unfoldable pub parse_import_decl : ℕ → Bool → Prog ℕ
parse_import_decl start public = do
  path ← alloc_node_from start Node.ImportDecl (flag public Flag.ImportDecl-public)
  ident ← expect_ident
  path ← push_child path ident
  p ← loop (record { path = path; whole = none }) (import_turn public)
  elim p.whole [
    | some node ↦ give node
    | none ↦ if_eat Token.Semicolon then close_node p.path else import_as start public p.path
  ]

-- ---- constants

unfoldable pub parse_const_decl : ℕ → Prog ℕ
parse_const_decl start = do
  const ← alloc_node_from start Node.ConstDecl 0
  name ← expect_ident
  const ← push_child const name
  const ← if_eat Token.Colon
      then (do
        update_kind const Node.ConstDecl Flag.ConstDecl-typed
        type ← parse_expr AllowAll
        push_child const type)
      else give const
  expect_check_recovery Token.Equals const_def_expr_recovery
  expr ← parse_expr AllowAll
  const ← push_child const expr
  expect_check_recovery Token.Semicolon const_def_expr_recovery
  close_node const

-- ---- the file

-- No declaration: a report, tokens that are skipped, and an Error node.
unfoldable pub no_decl : ℕ → Act → Prog ℕ
no_decl start skip = do
  emit_unexpected
  skip
  error ← alloc_node_from start Node.Error 0
  close_node error

unfoldable pub skip_unless_eof : Act
skip_unless_eof = do
  ended ← eof
  when (not ended) skip_until_decl_start

unfoldable pub parse_decl : Prog ℕ
parse_decl = do
  start ← position
  if_eat Token.Init then enter_block start Node.InitBlock
      else if_eat Token.Run then enter_block start Node.RunBlock
      else if_eat Token.Const then parse_const_decl start
      else if_eat Token.Pub then (if_eat Token.Use then parse_import_decl start true else no_decl start skip_unless_eof)
      else if_eat Token.Use then parse_import_decl start false
      else no_decl start skip_until_decl_start

unfoldable pub decl_turn : Unfinished → Prog (Turn Unfinished)
decl_turn file = do
  ended ← eof
  whether ended then give (stop file) else do
    decl ← parse_decl
    file ← push_child file decl
    give (again file)

unfoldable pub parse_file : Prog ℕ
parse_file = do
  file ← alloc_node Node.File 0
  file ← loop file decl_turn
  close_node file
