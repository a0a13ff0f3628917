-- Worked cases: free of reports, the words that parsing leaves hold the tree that the parser of rows makes; where there is a report it makes none.
use Rattle.std.specs.Prelude.{◌≡◌, refl, Bool, true, false, cond, List, [], ◌∷◌, ◌++◌, ℕ, ◌+◌, eqb, get_or}
use Rattle.std.proofs.Math.Option.{Option}
use Prim.Native.Char.{code}
use Prim.Native.String.{String}
use Rattle.utf8.specs.Utf8
use Rattle.words.specs.Token
use Rattle.words.specs.Words
use Rattle.words.specs.Words.{token_word}
use Rattle.words.specs.Answer.{Answer, done, refused}
use Rattle.literals.specs.Spelling
use Rattle.literals.specs.Numbers
use Rattle.literals.specs.Strings
use Rattle.definition.specs.Parse.{Parsed}
use Rattle.definition.specs.Computed.{computed}
use Rattle.chart.specs.Row.{row, row_from, is_blank, begins}
use Rattle.chart.specs.Tree
use Rattle.chart.specs.Tree.{Trees}
use Rattle.chart.specs.Chart
use Rattle.chart.specs.Parser
use Rattle.chart.specs.Parser.{Outcome, ok, nothing, failed, deep, parse}
use Rattle.tree.specs.Stored
use Rattle.tree.specs.Stored.{stored}

abbrev ascii : String → List ℕ
ascii String.[] = []
ascii (String.◌∷◌ c s) = code c ∷ ascii s

-- A text, and its tokens.
record Script : Type 0 where
  text : List ℕ
  tokens : List ℕ

-- The tokens' kinds with their lengths, made words, from an offset on.
record Piece : Type 0 where
  kind : ℕ
  size : ℕ

abbrev piece : ℕ → ℕ → Piece
piece kind size = record { kind = kind; size = size }

token_words : ℕ → List Piece → List ℕ
token_words at [] = token_word Token.Eof at ∷ []
token_words at (p ∷ ps) = token_word p.kind (at + p.size) ∷ token_words (at + p.size) ps

abbrev blank : Piece
blank = piece Token.Whitespace 1

-- `const z = `, an expression and `;`.
constant : String → List Piece → Script
constant s ps =
    record {
      text = ascii "const z = " ++ (ascii s ++ ascii ";");
      tokens = token_words 0
          (piece Token.Const 5 ∷ blank ∷ piece Token.Identifier 1 ∷ blank ∷ piece Token.Equals 1 ∷ blank ∷ ps ++ (piece Token.Semicolon 1 ∷ []));
    }

-- P6 to P12 of 01.
scripts : List Script
scripts =
    constant "a - b - c" (piece Token.Identifier 1 ∷ blank ∷ piece Token.Minus 1 ∷ blank ∷ piece Token.Identifier 1 ∷ blank ∷ piece Token.Minus 1 ∷ blank ∷ piece Token.Identifier 1 ∷ [])
    ∷ constant "-a.b" (piece Token.Minus 1 ∷ piece Token.Identifier 1 ∷ piece Token.Dot 1 ∷ piece Token.Identifier 1 ∷ [])
    ∷ constant "\"a\\x41\" hex\"42\"" (piece Token.LooseStringLiteral 7 ∷ blank ∷ piece Token.LooseHexStringLiteral 7 ∷ [])
    ∷ constant "hex\"4g\"" (piece Token.LooseHexStringLiteral 7 ∷ [])
    ∷ constant "hex\"4\"" (piece Token.LooseHexStringLiteral 6 ∷ [])
    ∷ record {
      text = ascii "init { {} (a) }";
      tokens = token_words 0
          (piece Token.Init 4
          ∷ blank
          ∷ piece Token.LeftCurly 1
          ∷ blank
          ∷ piece Token.LeftCurly 1
          ∷ piece Token.RightCurly 1
          ∷ blank
          ∷ piece Token.LeftRound 1
          ∷ piece Token.Identifier 1
          ∷ piece Token.RightRound 1
          ∷ blank
          ∷ piece Token.RightCurly 1
          ∷ []);
    }
    ∷ record {
      text = ascii "init { comptime {} (a) }";
      tokens = token_words 0
          (piece Token.Init 4
          ∷ blank
          ∷ piece Token.LeftCurly 1
          ∷ blank
          ∷ piece Token.Comptime 8
          ∷ blank
          ∷ piece Token.LeftCurly 1
          ∷ piece Token.RightCurly 1
          ∷ blank
          ∷ piece Token.LeftRound 1
          ∷ piece Token.Identifier 1
          ∷ piece Token.RightRound 1
          ∷ blank
          ∷ piece Token.RightCurly 1
          ∷ []);
    }
    ∷ []

-- The tree in the words that parsing leaves, where it makes no report.
tree_in : Script → Parsed → Answer → Option Trees
tree_in s p (done counts) = cond (eqb (get_or counts 2 0) 0) (stored s.text s.tokens p.words.nodes p.words.values (get_or counts 0 0)) Option.none
tree_in s p (refused number place) = Option.none

parsed_tree : Script → Option Trees
parsed_tree s = let p = computed s.text s.tokens 60 8 9 in tree_in s p p.answer

-- The tree that the parser of rows makes of the whole row.
whole : Outcome → Option Trees
whole (ok t []) = Option.some t
whole (ok t (x ∷ xs)) = Option.none
whole nothing = Option.none
whole failed = Option.none
whole deep = Option.none

chart_tree : Script → Option Trees
chart_tree s = whole (parse 256 (row s.text s.tokens))

each : (Script → Option Trees) → List Script → List (Option Trees)
each f [] = []
each f (s ∷ ss) = f s ∷ each f ss

-- The two with a report, `hex"4g"` and `hex"4"`, have none.
has : Option Trees → Bool
has (Option.some t) = true
has Option.none = false

tests : List (Option Trees) → List Bool
tests [] = []
tests (t ∷ ts) = has t ∷ tests ts

there : tests (each parsed_tree scripts) ≡ true ∷ true ∷ true ∷ false ∷ false ∷ true ∷ true ∷ []
unfolding has tests token_words constant scripts tree_in parsed_tree whole chart_tree each computed stored Stored.word_bytes Stored.where-so Stored.is_name Stored.value_at Stored.said Stored.joined Stored.trees_from Words.pack Words.high Words.low Spelling.token_start Spelling.covered row_from is_blank begins Tree.◌⊕◌ Tree.branch Tree.flag Tree.quiet Parser.within Parser.lookup Parser.operator_of Chart.binary_tree Chart.is_block_like Parser.parse Parser.read_file Parser.readers Parser.read_level Parser.read_prefix Parser.read_block Parser.read_operand Parser.read_round Parser.read_struct Parser.read_comptime Parser.read_else_ifs Parser.read_fields Parser.read_list Parser.read_on Parser.on_op Parser.on_level Parser.read_declarations Parser.read_declaration Parser.read_statements Parser.read_statement Parser.read_expression Parser.read_strings Parser.prepend Parser.on Parser.if Parser.bind Parser.try Parser.push Numbers.nibble Numbers.digits Utf8.has Utf8.follow Utf8.sequence_by Utf8.table Utf8.lead_bits Utf8.joined Utf8.code_point Utf8.character_at Strings.characters_from Strings.end_after Strings.escape Strings.two_digits Strings.escaped Strings.decoded_from Strings.decode_string Strings.bad_digit Strings.is_bad Strings.digit_or0 Strings.hex_from Strings.decode_hex Strings.bytes_of
there = refl

agree : each parsed_tree scripts ≡ each chart_tree scripts
unfolding token_words constant scripts tree_in parsed_tree whole chart_tree each computed stored Stored.word_bytes Stored.where-so Stored.is_name Stored.value_at Stored.said Stored.joined Stored.trees_from Words.pack Words.high Words.low Spelling.token_start Spelling.covered row_from is_blank begins Tree.◌⊕◌ Tree.branch Tree.flag Tree.quiet Parser.within Parser.lookup Parser.operator_of Chart.binary_tree Chart.is_block_like Parser.parse Parser.read_file Parser.readers Parser.read_level Parser.read_prefix Parser.read_block Parser.read_operand Parser.read_round Parser.read_struct Parser.read_comptime Parser.read_else_ifs Parser.read_fields Parser.read_list Parser.read_on Parser.on_op Parser.on_level Parser.read_declarations Parser.read_declaration Parser.read_statements Parser.read_statement Parser.read_expression Parser.read_strings Parser.prepend Parser.on Parser.if Parser.bind Parser.try Parser.push Numbers.nibble Numbers.digits Utf8.has Utf8.follow Utf8.sequence_by Utf8.table Utf8.lead_bits Utf8.joined Utf8.code_point Utf8.character_at Strings.characters_from Strings.end_after Strings.escape Strings.two_digits Strings.escaped Strings.decoded_from Strings.decode_string Strings.bad_digit Strings.is_bad Strings.digit_or0 Strings.hex_from Strings.decode_hex Strings.bytes_of
agree = refl
