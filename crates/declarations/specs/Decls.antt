-- The parts of the readers of declarations, and their programs in the steps that the code takes.
use Rattle.std.specs.Prelude.{Bool, true, false, List, ℕ}
use Rattle.words.specs.Token
use Rattle.words.specs.Node
use Rattle.words.specs.Flag
use Rattle.definition.specs.declared.Mode.TheVariants.{AllowAll}
use Rattle.definition.specs.declared.Unfinished.{Unfinished}
use Rattle.definition.specs.Prog.{Prog, Act, give, ◌>>=◌, ◌>>◌, position, enter_block, eval}
use Rattle.definition.specs.Tokens.{const_def_expr_recovery, if_eat◌then◌else◌, skip_until_decl_start, expect_check_recovery}
use Rattle.definition.specs.Nodes.{alloc_node_from, close_node, update_kind, push_child, expect_ident}
use Rattle.definition.specs.Expressions.{parse_expr}
use Rattle.definition.specs.Declarations.{parse_import_decl, parse_const_decl, no_decl, skip_unless_eof, parse_decl}
use Rattle.stream.specs.Delimited.{bind-bind}
use Rattle.answers.specs.Steps.{eat_first}
use Rattle.answers.specs.Same.{Same, Ways, over, way, tokens_of, taken, then_same, ways-same}

abbrev pub open_const : ℕ → Prog Unfinished
open_const start = do
  const ← alloc_node_from start Node.ConstDecl 0
  name ← expect_ident
  push_child const name

abbrev pub const_type : Unfinished → Prog Unfinished
const_type const =
    if_eat Token.Colon then (do
      update_kind const Node.ConstDecl Flag.ConstDecl-typed
      type ← parse_expr AllowAll
      push_child const type)
    else give const

abbrev pub end_const : Unfinished → ℕ → Prog ℕ
end_const const expr = do
  const ← push_child const expr
  expect_check_recovery Token.Semicolon const_def_expr_recovery
  close_node const

abbrev pub const_steps : ℕ → Prog ℕ
const_steps start = do
  const ← open_const start
  const ← const_type const
  expect_check_recovery Token.Equals const_def_expr_recovery
  expr ← parse_expr AllowAll
  end_const const expr

-- What is skipped where no declaration begins: after `pub` the text may have ended.
abbrev pub skipping : Bool → Act
skipping true = skip_unless_eof
skipping false = skip_until_decl_start

-- After `pub`.
abbrev pub public_decl : ℕ → Prog ℕ
public_decl start = if_eat Token.Use then parse_import_decl start true else no_decl start skip_unless_eof

abbrev pub decl_ways : ℕ → Ways ℕ
decl_ways start =
    way Token.Init (enter_block start Node.InitBlock)
    (way Token.Run (enter_block start Node.RunBlock)
    (way Token.Const (parse_const_decl start)
    (way Token.Pub (public_decl start)
    (way Token.Use (parse_import_decl start false) over))))

abbrev pub decl_steps : Prog ℕ
decl_steps = do
  start ← position
  i ← eat_first (tokens_of (decl_ways start))
  taken (decl_ways start) (no_decl start skip_until_decl_start) i

module _ {text tokens : List ℕ} {d : ℕ} where
  pub const-same : (start : ℕ) → Same text tokens d (const_steps start) (parse_const_decl start)
  unfolding eval parse_const_decl
  const-same start = record { is = λ s n. simp bind-bind }

  pub decl-same : Same text tokens d decl_steps parse_decl
  unfolding parse_decl
  decl-same = then_same position (λ start. ways-same (decl_ways start) (no_decl start skip_until_decl_start))
