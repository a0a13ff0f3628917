-- P1 to P12 of 01, read whole: counts and all words are the Rust's, as a run of it gave them; the parent of each node is derived from its links.
use Rattle.std.specs.Prelude.{◌≡◌, refl, List, [], ◌∷◌, map, ℕ, length}
use Prim.Native.String.{String}
use Rattle.words.specs.Token
use Rattle.words.specs.Words
use Rattle.words.specs.Answer.{done}
use Rattle.utf8.specs.Utf8
use Rattle.scan.specs.Bytes
use Rattle.scan.specs.Bytes.{ascii}
use Rattle.scan.specs.Lexer
use Rattle.lexer.specs.Lex.{lexed, lexed_words}
use Rattle.literals.specs.Spelling
use Rattle.literals.specs.Numbers
use Rattle.literals.specs.Strings as Decoding
use Rattle.definition.specs.Prog
use Rattle.definition.specs.Tokens
use Rattle.definition.specs.Nodes
use Rattle.definition.specs.Strings
use Rattle.definition.specs.Expressions
use Rattle.definition.specs.Statements
use Rattle.definition.specs.Declarations
use Rattle.definition.specs.Parse
use Rattle.definition.specs.Parse.{parsed}
use Rattle.reader.specs.Read.{Read, reads, after, after_lexing}

-- A text, and what reading it gives.
record Case : Type 0 where
  text : List ℕ
  read : Read

-- The counts of nodes and reports; those of tokens and value words are the lengths of their lists.
case : String → ℕ → ℕ → List ℕ → List ℕ → List ℕ → List ℕ → Case
case s nodes reports ts ns vs rs =
    record {
      text = ascii s;
      read = record { answer = done (length ts ∷ nodes ∷ length vs ∷ reports ∷ []); tokens = ts; nodes = ns; values = vs; reports = rs };
    }

cases : List Case
cases =
    -- P1: "empty text: Eof, File 0 to 0".
    case "" 1 0
    (2717908992 ∷ [])
    (0 ∷ 0 ∷ 0 ∷ 0 ∷ 0 ∷ 0 ∷ [])
    ([])
    ([])
    -- P2: "`/**/` one comment".
    ∷ case "/**/" 1 0
    (2483027972 ∷ 2717908996 ∷ [])
    (0 ∷ 0 ∷ 1 ∷ 0 ∷ 0 ∷ 0 ∷ [])
    ([])
    ([])
    -- P3: "`/*/*/` one UnclosedBlockCommentError".
    ∷ case "/*/*/" 1 1
    (2650800133 ∷ 2717908997 ∷ [])
    (0 ∷ 0 ∷ 1 ∷ 0 ∷ 0 ∷ 0 ∷ [])
    ([])
    (67108867 ∷ 0 ∷ 5 ∷ [])
    -- P4: "`0xg` one MalformedIdentError".
    ∷ case "0xg" 1 1
    (2583691267 ∷ 2717908995 ∷ [])
    (0 ∷ 0 ∷ 1 ∷ 0 ∷ 0 ∷ 0 ∷ [])
    ([])
    (67108865 ∷ 0 ∷ 3 ∷ [])
    -- P5: "`==>` is `==`, `>`".
    ∷ case "==>" 2 1
    (872415234 ∷ 973078531 ∷ 2717908995 ∷ [])
    (0 ∷ 0 ∷ 2 ∷ 0 ∷ 1 ∷ 0 ∷ 3288334336 ∷ 0 ∷ 2 ∷ 0 ∷ 0 ∷ 0 ∷ [])
    ([])
    (134217754 ∷ 0 ∷ 2 ∷ [])
    -- P6: "`a - b - c` groups left".
    ∷ case "const z = a - b - c;" 10 0
    (1577058309 ∷ 2415919110 ∷ 2181038087 ∷ 2415919112 ∷ 436207625 ∷ 2415919114 ∷ 2181038091 ∷ 2415919116 ∷ 536870925 ∷ 2415919118 ∷ 2181038095 ∷ 2415919120 ∷ 536870929 ∷ 2415919122 ∷ 2181038099 ∷ 20 ∷ 2717909012 ∷ [])
    (0 ∷ 0 ∷ 16 ∷ 0 ∷ 1 ∷ 0 ∷ 67108864 ∷ 0 ∷ 16 ∷ 0 ∷ 2 ∷ 0 ∷ 2415919106 ∷ 2 ∷ 3 ∷ 8 ∷ 0 ∷ 1 ∷ 2415919110 ∷ 6 ∷ 7 ∷ 4 ∷ 0 ∷ 5 ∷ 2952790016 ∷ 8 ∷ 9 ∷ 6 ∷ 0 ∷ 5 ∷ 1006632974 ∷ 6 ∷ 12 ∷ 7 ∷ 3 ∷ 8 ∷ 2415919114 ∷ 10 ∷ 11 ∷ 0 ∷ 0 ∷ 5 ∷ 2952790016 ∷ 12 ∷ 13 ∷ 9 ∷ 0 ∷ 8 ∷ 1006632974 ∷ 6 ∷ 15 ∷ 0 ∷ 5 ∷ 1 ∷ 2415919118 ∷ 14 ∷ 15 ∷ 0 ∷ 0 ∷ 8 ∷ [])
    ([])
    ([])
    -- P7: "`-a.b` negates the member".
    ∷ case "const z = -a.b;" 7 0
    (1577058309 ∷ 2415919110 ∷ 2181038087 ∷ 2415919112 ∷ 436207625 ∷ 2415919114 ∷ 536870923 ∷ 2181038092 ∷ 100663309 ∷ 2181038094 ∷ 15 ∷ 2717909007 ∷ [])
    (0 ∷ 0 ∷ 11 ∷ 0 ∷ 1 ∷ 0 ∷ 67108864 ∷ 0 ∷ 11 ∷ 0 ∷ 2 ∷ 0 ∷ 2415919106 ∷ 2 ∷ 3 ∷ 3 ∷ 0 ∷ 1 ∷ 1073741824 ∷ 6 ∷ 10 ∷ 0 ∷ 5 ∷ 1 ∷ 2415919111 ∷ 7 ∷ 8 ∷ 6 ∷ 0 ∷ 5 ∷ 1275068416 ∷ 7 ∷ 10 ∷ 0 ∷ 4 ∷ 3 ∷ 2415919113 ∷ 9 ∷ 10 ∷ 0 ∷ 0 ∷ 5 ∷ [])
    ([])
    ([])
    -- P8: "`"a\x41" hex"42"`: bytes 97, 65, 66".
    ∷ case "const z = \"a\\x41\" hex\"42\";" 4 0
    (1577058309 ∷ 2415919110 ∷ 2181038087 ∷ 2415919112 ∷ 436207625 ∷ 2415919114 ∷ 2348810257 ∷ 2415919122 ∷ 2382364697 ∷ 26 ∷ 2717909018 ∷ [])
    (0 ∷ 0 ∷ 10 ∷ 0 ∷ 1 ∷ 0 ∷ 67108864 ∷ 0 ∷ 10 ∷ 0 ∷ 2 ∷ 0 ∷ 2415919106 ∷ 2 ∷ 3 ∷ 3 ∷ 0 ∷ 1 ∷ 2281701376 ∷ 6 ∷ 9 ∷ 0 ∷ 0 ∷ 1 ∷ [])
    (2147483651 ∷ 4342113 ∷ [])
    ([])
    -- P9: "`hex"4g"`: byte 64, kind 14".
    ∷ case "const z = hex\"4g\";" 4 1
    (1577058309 ∷ 2415919110 ∷ 2181038087 ∷ 2415919112 ∷ 436207625 ∷ 2415919114 ∷ 2382364689 ∷ 18 ∷ 2717909010 ∷ [])
    (0 ∷ 0 ∷ 8 ∷ 0 ∷ 1 ∷ 0 ∷ 67108864 ∷ 0 ∷ 8 ∷ 0 ∷ 2 ∷ 0 ∷ 2415919106 ∷ 2 ∷ 3 ∷ 3 ∷ 0 ∷ 1 ∷ 2281701376 ∷ 6 ∷ 7 ∷ 0 ∷ 0 ∷ 1 ∷ [])
    (2147483649 ∷ 64 ∷ [])
    (939524199 ∷ 15 ∷ 16 ∷ [])
    -- P10: "`hex"4"`: no bytes, kind 15".
    ∷ case "const z = hex\"4\";" 4 1
    (1577058309 ∷ 2415919110 ∷ 2181038087 ∷ 2415919112 ∷ 436207625 ∷ 2415919114 ∷ 2382364688 ∷ 17 ∷ 2717909009 ∷ [])
    (0 ∷ 0 ∷ 8 ∷ 0 ∷ 1 ∷ 0 ∷ 67108864 ∷ 0 ∷ 8 ∷ 0 ∷ 2 ∷ 0 ∷ 2415919106 ∷ 2 ∷ 3 ∷ 3 ∷ 0 ∷ 1 ∷ 2281701376 ∷ 6 ∷ 7 ∷ 0 ∷ 0 ∷ 1 ∷ [])
    (2147483648 ∷ [])
    (1006632960 ∷ 10 ∷ 16 ∷ [])
    -- P11: "`init { {} (a) }`: one call".
    ∷ case "init { {} (a) }" 7 0
    (1610612740 ∷ 2415919109 ∷ 167772166 ∷ 2415919111 ∷ 167772168 ∷ 201326601 ∷ 2415919114 ∷ 234881035 ∷ 2181038092 ∷ 268435469 ∷ 2415919118 ∷ 201326607 ∷ 2717909007 ∷ [])
    (0 ∷ 0 ∷ 12 ∷ 0 ∷ 1 ∷ 0 ∷ 402653184 ∷ 0 ∷ 12 ∷ 0 ∷ 2 ∷ 0 ∷ 3019898880 ∷ 3 ∷ 4 ∷ 5 ∷ 0 ∷ 1 ∷ 603979776 ∷ 4 ∷ 6 ∷ 6 ∷ 4 ∷ 5 ∷ 3019898880 ∷ 5 ∷ 5 ∷ 0 ∷ 0 ∷ 3 ∷ 1207959552 ∷ 4 ∷ 10 ∷ 0 ∷ 3 ∷ 1 ∷ 2415919112 ∷ 8 ∷ 9 ∷ 0 ∷ 0 ∷ 5 ∷ [])
    ([])
    ([])
    -- P12: "`init { comptime {} (a) }`: a block, then a ParenExpr".
    ∷ case "init { comptime {} (a) }" 7 0
    (1610612740 ∷ 2415919109 ∷ 167772166 ∷ 2415919111 ∷ 1778384911 ∷ 2415919120 ∷ 167772177 ∷ 201326610 ∷ 2415919123 ∷ 234881044 ∷ 2181038101 ∷ 268435478 ∷ 2415919127 ∷ 201326616 ∷ 2717909016 ∷ [])
    (0 ∷ 0 ∷ 14 ∷ 0 ∷ 1 ∷ 0 ∷ 402653184 ∷ 0 ∷ 14 ∷ 0 ∷ 2 ∷ 0 ∷ 3019898880 ∷ 3 ∷ 9 ∷ 5 ∷ 3 ∷ 1 ∷ 536870912 ∷ 4 ∷ 8 ∷ 0 ∷ 4 ∷ 2 ∷ 3019898880 ∷ 7 ∷ 7 ∷ 0 ∷ 0 ∷ 3 ∷ 1140850688 ∷ 9 ∷ 12 ∷ 0 ∷ 6 ∷ 1 ∷ 2415919114 ∷ 10 ∷ 11 ∷ 0 ∷ 0 ∷ 5 ∷ [])
    ([])
    ([])
    ∷ []

-- Just as many words are lent as are needed.
given : Case → Read
given c = reads c.text (record { tokens = length c.read.tokens; nodes = length c.read.nodes; values = length c.read.values; reports = length c.read.reports })

expected : Case → Read
expected c = c.read

p1-to-p12 : map given cases ≡ map expected cases
unfolding case cases given expected reads after after_lexing lexed lexed_words Utf8.checked_from Lexer.has_mark Lexer.tokens_of Lexer.tokens_from Lexer.token_at Lexer.longest Lexer.rules Lexer.punctuation Lexer.keywords Lexer.others Lexer.matched Lexer.spelled Lexer.classed Lexer.run Bytes.ident_start Bytes.ident_part Bytes.blank Bytes.digit Bytes.upper Bytes.lower Bytes.is_digit Lexer.line_comment Lexer.block_comment Lexer.number Lexer.string Lexer.invalid_char parsed Token.is_trivia Token.lex_error Words.pack Words.high Words.low Utf8.table Utf8.has Utf8.follow Utf8.sequence_by Utf8.lead_bits Utf8.joined Utf8.code_point Utf8.character_at Spelling.token_start Spelling.covered Spelling.alike Spelling.first_from Numbers.nibble Numbers.digits Numbers.limbs_within Numbers.number_value Decoding.bytes_of Decoding.characters_from Decoding.end_after Decoding.escape Decoding.two_digits Decoding.escaped Decoding.decoded_from Decoding.decode_string Decoding.bad_digit Decoding.is_bad Decoding.digit_or0 Decoding.hex_from Decoding.decode_hex Decoding.fours Decoding.string_value Prog.advanced Prog.reported Prog.allocated Prog.word_of Prog.stored Prog.linked Prog.valued Prog.iter Prog.kind_at Prog.passed Prog.skipped Prog.eval Prog.tower Tokens.contains Tokens.check Tokens.eat Tokens.eof Tokens.emit_unexpected Tokens.skip_turn Tokens.skip_until_recovery_token Tokens.skip_until_decl_start Tokens.expect Tokens.expect_check_recovery Tokens.delimited_turn Tokens.parse_delimited Nodes.alloc_node_from Nodes.skip_trivia_start Nodes.alloc_node Nodes.close_node_at Nodes.close_node Nodes.update_kind Nodes.push_child Nodes.alloc_last_token_as_node Nodes.error_node Nodes.radix_of Nodes.try_parse_num_literal Nodes.try_parse_ident Nodes.try_parse_builtin_name Nodes.expect_ident Strings.emit_events Strings.decode_token Strings.string_turn Strings.try_parse_string_literal Expressions.binaries Expressions.binary_of Expressions.check_binary_op Expressions.unary_of Expressions.eat_unary Expressions.unwrap_or_error Expressions.try_parse_expr Expressions.parse_expr Expressions.block_here Expressions.push_option Expressions.push_closing Expressions.else_if_branch Expressions.else_turn Expressions.conditional Expressions.eats Expressions.checks Expressions.try_parse_conditional Expressions.fallback_arm Expressions.keyed_arm Expressions.arm_turn Expressions.match_expr Expressions.try_parse_match Expressions.any_type Expressions.parameter_name Expressions.parse_parameter Expressions.parse_function_signature_and_body Expressions.parse_function_def Expressions.parse_method_def Expressions.parse_struct_field Expressions.field_turn Expressions.method_turn Expressions.no_member_turn Expressions.member_turn Expressions.parse_struct_def Expressions.expr_element Expressions.parse_tuple_type Expressions.tuple_turn Expressions.paren_or_tuple Expressions.num_literal Expressions.eager_function Expressions.try_parse_standalone_expr Expressions.access_name Expressions.member_expr Expressions.call_expr Expressions.field_assign Expressions.struct_lit Expressions.binary_expr Expressions.binary_step Expressions.expr_turn Expressions.unary_expr Expressions.try_parse_expr_min_bp Statements.while_stmt Statements.try_parse_while Statements.parse_let_stmt Statements.requires_semi Statements.return_stmt Statements.let_stmt Statements.comptime_stmt Statements.assign_stmt Statements.expr_stmt Statements.try_parse_stmt Statements.end_expr_turn Statements.stmt_turn Statements.parse_block Declarations.path_turn Declarations.parse_import_group_item Declarations.group_item Declarations.parse_import_group Declarations.glob_import Declarations.group_import Declarations.import_turn Declarations.import_as Declarations.parse_import_decl Declarations.parse_const_decl Declarations.no_decl Declarations.skip_unless_eof Declarations.parse_decl Declarations.decl_turn Declarations.parse_file Parse.token_limit Parse.parsed_to Parse.parsed_within
p1-to-p12 = refl
