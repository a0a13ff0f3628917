-- String literals: `try_parse_string_literal` of parser/strings.rs. What a token decodes to stands in the crate literals.
use Rattle.std.specs.Prelude.{◌||◌, List, [], ◌∷◌, ◌++◌, ℕ, eqb}
use Rattle.std.proofs.Math.Option.{Option, none, some}
use Rattle.words.specs.Token
use Rattle.words.specs.Node
use Rattle.literals.specs.Strings.{Event, byte, report, bytes_of, decode_string, decode_hex, string_value}
use Rattle.definition.specs.Prog.{Turn, again, stop, Prog, Act, give, ◌>>=◌, ◌>>◌, loop, whether◌then◌else◌, peek, pass, position, here, spelling, emit, value}
use Rattle.definition.specs.Nodes.{alloc_node_from, skip_trivia_start, close_node_at}

-- The reports of decoding, in their order.
unfoldable pub emit_events : List Event → Act
emit_events [] = give tt
emit_events (byte b ∷ es) = emit_events es
emit_events (report kind detail place ∷ es) = do
  emit kind detail place
  emit_events es

-- `string_buf`, and the token number past the last string token.
pub record StringBuf : Type 0 where
  pub bytes : List ℕ
  pub end : Option ℕ

-- A string token that decodes so is passed.
unfoldable pub decode_token : StringBuf → List Event → Prog (Turn StringBuf)
decode_token b events = do
  emit_events events
  pass
  end ← position
  give (again (record { bytes = b.bytes ++ bytes_of events; end = some end }))

unfoldable pub string_turn : StringBuf → Prog (Turn StringBuf)
string_turn b = do
  token ← peek
  place ← here
  source ← spelling
  whether eqb token Token.LooseStringLiteral then decode_token b (decode_string place source)
      else whether eqb token Token.LooseHexStringLiteral then decode_token b (decode_hex place source)
      else whether eqb token Token.MultilineStringError || eqb token Token.UnclosedStringError then decode_token b []
      else give (stop b)

-- "Neighbouring strings, trivia between them, make one literal" (01, strings.rs). The value comes before the node.
unfoldable pub try_parse_string_literal : Prog (Option ℕ)
try_parse_string_literal = do
  start ← skip_trivia_start
  b ← loop (record { bytes = []; end = none }) string_turn
  elim b.end [
    | none ↦ give none
    | some end ↦ do
      offset ← value (string_value b.bytes)
      u ← alloc_node_from start Node.StringLiteral offset
      node ← close_node_at u end
      give (some node)
  ]
