-- Nodes, number literals and names: parser/mod.rs from `alloc_node_from` to `try_parse_num_literal`, and from `try_parse_ident` to
-- `expect_ident`.
use Rattle.std.specs.Prelude.{Bool, cond, not, ℕ, pred, eqb, drop}
use Rattle.std.proofs.Math.Option.{Option, none, some}
use Rattle.words.specs.Token
use Rattle.words.specs.Node
use Rattle.words.specs.Report
use Rattle.literals.specs.Numbers.{digits, number_value}
use Rattle.definition.specs.declared.Unfinished.{Unfinished}
use Rattle.definition.specs.Prog.{Prog, Act, give, ◌>>=◌, ◌>>◌, when, peek, pass, position, here, spelling, intern, marked, emit_and_mark, alloc, close_at, set_kind, link, value}
use Rattle.definition.specs.Tokens.{if_eat◌then◌else◌, if_check◌then◌else◌, emit_unexpected}

-- A `NodeKind` is two numbers here: the kind and its payload.
unfoldable pub alloc_node_from : ℕ → ℕ → ℕ → Prog Unfinished
alloc_node_from start kind payload = do
  node ← alloc start kind payload
  give (record { node = node; last = 0 })

unfoldable pub skip_trivia_start : Prog ℕ
skip_trivia_start = do
  peek
  position

unfoldable pub alloc_node : ℕ → ℕ → Prog Unfinished
alloc_node kind payload = do
  start ← position
  alloc_node_from start kind payload

unfoldable pub close_node_at : Unfinished → ℕ → Prog ℕ
close_node_at u end = do
  close_at u.node end
  give u.node

unfoldable pub close_node : Unfinished → Prog ℕ
close_node u = do
  end ← position
  close_node_at u end

unfoldable pub update_kind : Unfinished → ℕ → ℕ → Act
update_kind u kind payload = set_kind u.node kind payload

unfoldable pub push_child : Unfinished → ℕ → Prog Unfinished
push_child parent child = do
  link parent.node parent.last child
  give (record { node = parent.node; last = child })

unfoldable pub alloc_last_token_as_node : ℕ → ℕ → Prog ℕ
alloc_last_token_as_node kind payload = do
  end ← position
  u ← alloc_node_from (pred end) kind payload
  close_node u

-- `let error = self.alloc_node(NodeKind::Error); self.close_node(error)`
unfoldable pub error_node : Prog ℕ
error_node = do
  u ← alloc_node Node.Error 0
  close_node u

-- What a flag adds to a payload.
abbrev pub flag : Bool → ℕ → ℕ
flag set bit = cond set bit 0

-- The radix of a number token, and the length of its prefix.
pub record Radix : Type 0 where
  pub radix : ℕ
  pub prefix : ℕ

unfoldable pub radix_of : ℕ → Option Radix
radix_of token =
    cond (eqb token Token.DecimalLiteral) (some (record { radix = 10; prefix = 0 }))
    (cond (eqb token Token.HexLiteral) (some (record { radix = 16; prefix = 2 }))
    (cond (eqb token Token.BinLiteral) (some (record { radix = 2; prefix = 2 })) none))

-- It answers the offset of the value, which is made where the token is passed.
unfoldable pub try_parse_num_literal : Prog (Option ℕ)
try_parse_num_literal = do
  token ← peek
  elim (radix_of token) [
    | none ↦ give none
    | some r ↦ do
      source ← spelling
      pass
      offset ← value (number_value (digits r.radix 0 (drop r.prefix source)))
      give (some offset)
  ]

unfoldable pub try_parse_ident : Prog (Option ℕ)
try_parse_ident =
    if_eat Token.Identifier then (do
      ident ← intern Token.Identifier
      node ← alloc_last_token_as_node Node.Identifier ident
      give (some node))
    else give none

unfoldable pub try_parse_builtin_name : Prog (Option ℕ)
try_parse_builtin_name =
    if_eat Token.BuiltinName then (do
      ident ← intern Token.BuiltinName
      node ← alloc_last_token_as_node Node.BuiltinName ident
      give (some node))
    else give none

unfoldable pub expect_ident : Prog ℕ
expect_ident = do
  found ← try_parse_ident
  elim found [
    | some ident ↦ give ident
    | none ↦
        if_check Token.BuiltinName then (do
          at_last_unexpected ← marked
          when (not at_last_unexpected) do
            place ← here
            emit_and_mark Report.BuiltinAsName 0 place
          pass
          alloc_last_token_as_node Node.Error 0)
        else do
          emit_unexpected
          error_node
  ]
