-- `parsed` with all that it is made of open, so that it computes: for worked cases.
use Rattle.std.specs.Prelude.{List, ℕ}
use Rattle.words.specs.Token
use Rattle.words.specs.Words
use Rattle.utf8.specs.Utf8
use Rattle.literals.specs.Spelling
use Rattle.literals.specs.Numbers
use Rattle.literals.specs.Strings as Decoding
use Rattle.definition.specs.Prog
use Rattle.definition.specs.Tokens
use Rattle.definition.specs.Nodes
use Rattle.definition.specs.Strings
use Rattle.definition.specs.Expressions
use Rattle.definition.specs.Statements
use Rattle.definition.specs.Declarations
use Rattle.definition.specs.Parse
use Rattle.definition.specs.Parse.{Parsed, parsed}

unfoldable pub computed : List ℕ → List ℕ → ℕ → ℕ → ℕ → Parsed
unfolding parsed Token.is_trivia Token.lex_error Words.pack Words.high Words.low Utf8.table Utf8.has Utf8.follow Utf8.sequence_by Utf8.lead_bits Utf8.joined Utf8.code_point Utf8.character_at Spelling.token_start Spelling.covered Spelling.alike Spelling.first_from Numbers.nibble Numbers.digits Numbers.limbs_within Numbers.number_value Decoding.bytes_of Decoding.characters_from Decoding.end_after Decoding.escape Decoding.two_digits Decoding.escaped Decoding.decoded_from Decoding.decode_string Decoding.bad_digit Decoding.is_bad Decoding.digit_or0 Decoding.hex_from Decoding.decode_hex Decoding.fours Decoding.string_value Prog.advanced Prog.reported Prog.allocated Prog.word_of Prog.stored Prog.linked Prog.valued Prog.iter Prog.kind_at Prog.passed Prog.skipped Prog.eval Prog.tower Tokens.contains Tokens.check Tokens.eat Tokens.eof Tokens.emit_unexpected Tokens.skip_turn Tokens.skip_until_recovery_token Tokens.skip_until_decl_start Tokens.expect Tokens.expect_check_recovery Tokens.delimited_turn Tokens.parse_delimited Nodes.alloc_node_from Nodes.skip_trivia_start Nodes.alloc_node Nodes.close_node_at Nodes.close_node Nodes.update_kind Nodes.push_child Nodes.alloc_last_token_as_node Nodes.error_node Nodes.radix_of Nodes.try_parse_num_literal Nodes.try_parse_ident Nodes.try_parse_builtin_name Nodes.expect_ident Strings.emit_events Strings.decode_token Strings.string_turn Strings.try_parse_string_literal Expressions.binaries Expressions.binary_of Expressions.check_binary_op Expressions.unary_of Expressions.eat_unary Expressions.unwrap_or_error Expressions.try_parse_expr Expressions.parse_expr Expressions.block_here Expressions.push_option Expressions.push_closing Expressions.else_if_branch Expressions.else_turn Expressions.conditional Expressions.eats Expressions.checks Expressions.try_parse_conditional Expressions.fallback_arm Expressions.keyed_arm Expressions.arm_turn Expressions.match_expr Expressions.try_parse_match Expressions.any_type Expressions.parameter_name Expressions.parse_parameter Expressions.parse_function_signature_and_body Expressions.parse_function_def Expressions.parse_method_def Expressions.parse_struct_field Expressions.field_turn Expressions.method_turn Expressions.no_member_turn Expressions.member_turn Expressions.parse_struct_def Expressions.expr_element Expressions.parse_tuple_type Expressions.tuple_turn Expressions.paren_or_tuple Expressions.num_literal Expressions.eager_function Expressions.try_parse_standalone_expr Expressions.access_name Expressions.member_expr Expressions.call_expr Expressions.field_assign Expressions.struct_lit Expressions.binary_expr Expressions.binary_step Expressions.expr_turn Expressions.unary_expr Expressions.try_parse_expr_min_bp Statements.while_stmt Statements.try_parse_while Statements.parse_let_stmt Statements.requires_semi Statements.return_stmt Statements.let_stmt Statements.comptime_stmt Statements.assign_stmt Statements.expr_stmt Statements.try_parse_stmt Statements.end_expr_turn Statements.stmt_turn Statements.parse_block Declarations.path_turn Declarations.parse_import_group_item Declarations.group_item Declarations.parse_import_group Declarations.glob_import Declarations.group_import Declarations.import_turn Declarations.import_as Declarations.parse_import_decl Declarations.parse_const_decl Declarations.no_decl Declarations.skip_unless_eof Declarations.parse_decl Declarations.decl_turn Declarations.parse_file Parse.token_limit Parse.parsed_to Parse.parsed_within
computed text tokens nodes values reports = parsed text tokens nodes values reports
