-- What the readers' programs are made of. Of every command but `intern` nothing is asked. A name is looked up right after its token was
-- passed; a turn of a loop that goes on has passed a token.
use Rattle.std.specs.Prelude.{◌≡◌, Bool, not, List, [], ℕ, suc, ◌<◌, pred, T, eqb}
use Rattle.std.proofs.Common.{sym, ◌∙◌, ap, add-one, lt-ltb, eqb-true}
use Rattle.std.proofs.Math.Bool.{true, false}
use Rattle.std.proofs.Math.Option.{Option, none, some}
use Rattle.words.specs.Token
use Rattle.words.specs.Words.{token_kind}
use Rattle.literals.specs.declared.Span.{Span}
use Rattle.literals.specs.Spelling as Source
use Rattle.literals.specs.Strings.{Event, decode_string, decode_hex}
use Rattle.literals.specs.Reserved.{is_made, Others, no-others, other_byte, other-report}
use Rattle.literals.proofs.Reserved.{string-others, hex-others}
use Rattle.definition.specs.declared.Cursor.{Cursor}
use Rattle.definition.specs.declared.State.{State}
use Rattle.definition.specs.declared.Mode.{Mode}
use Rattle.definition.specs.declared.Unfinished.{Unfinished}
use Rattle.definition.specs.Prog.{Turn, Prog, Act, Give, Then, Branch, Loop, peek, pass, position, here, before, spelling, intern, marked, emit, emit_and_mark, alloc, close_at, close_at_start, set_kind, link, kind_of, value, enter_expr, enter_block, Memory, Readers, kind_at, passed, eval}
use Rattle.definition.specs.Tokens.{Delimited, check, eat, eof, emit_unexpected, skip_turn, skip_until_recovery_token, skip_until_decl_start, expect, expect_check_recovery, delimited_turn, parse_delimited}
use Rattle.definition.specs.Nodes.{radix_of, alloc_node_from, skip_trivia_start, alloc_node, close_node_at, close_node, update_kind, push_child, alloc_last_token_as_node, error_node, try_parse_num_literal, try_parse_ident, try_parse_builtin_name, expect_ident}
use Rattle.definition.specs.Strings.{StringBuf, emit_events, decode_token, string_turn, try_parse_string_literal}
use Rattle.definition.specs.Expressions.{Binary, unary_of, ElseIfs, Members, ◌or_else◌, check_binary_op, eat_unary, unwrap_or_error, try_parse_expr, parse_expr, block_here, push_option, push_closing, else_if_branch, else_turn, conditional, eats, checks, try_parse_conditional, fallback_arm, keyed_arm, arm_turn, match_expr, try_parse_match, any_type, parameter_name, parse_parameter, parse_function_signature_and_body, parse_function_def, parse_method_def, parse_struct_field, field_turn, method_turn, no_member_turn, member_turn, parse_struct_def, expr_element, parse_tuple_type, tuple_turn, paren_or_tuple, num_literal, eager_function, try_parse_standalone_expr, access_name, member_expr, call_expr, field_assign, struct_lit, binary_expr, binary_step, expr_turn, unary_expr, try_parse_expr_min_bp}
use Rattle.definition.specs.Statements.{statement, end_expr_or_stmt, end_expr, nothing, Body, while_stmt, try_parse_while, parse_let_stmt, return_stmt, let_stmt, comptime_stmt, assign_stmt, expr_stmt, try_parse_stmt, end_expr_turn, stmt_turn, parse_block}
use Rattle.definition.specs.Declarations.{Group, ImportSoFar, path_turn, parse_import_group_item, group_item, parse_import_group, glob_import, group_import, import_turn, import_as, parse_import_decl, parse_const_decl, no_decl, skip_unless_eof, parse_decl, decl_turn, parse_file}
use Rattle.definition.proofs.Mono.{Steady, mono}
use Rattle.definition.proofs.Progress as Progress
use Rattle.definition.proofs.Progress.{Holds, yields, onward, weaken, is_again, Forward, Moves}

-- Programs that answer true only where they have just passed a token of the kind, and programs that leave the cursor where it is.
pub data Passes (k : ℕ) : Prog Bool → Type 1 where
  by-eat : Passes k (eat k)
  by-expect : Passes k (expect k)

pub data Stays : Prog Unfinished → Type 1 where
  by-alloc : (start kind payload : ℕ) → Stays (alloc_node_from start kind payload)

pub data ProperOf : (A : Type 0) → Prog A → Type 1 where
  proper-give : {A : Type 0} {a : A} → ProperOf _ (Give a)
  thens : {A B : Type 0} {p : Prog A} {f : A → Prog B} → ProperOf _ p → ((a : A) → ProperOf _ (f a)) → ProperOf _ (Then p f)
  branches : {A : Type 0} {p q : Prog A} {b : Bool} → ProperOf _ p → ProperOf _ q → ProperOf _ (Branch b p q)
  loops : {S : Type 0} {body : S → Prog (Turn S)} {x : S} → ((y : S) → ProperOf _ (body y))
      → ((text tokens : List ℕ) (bound : ℕ) (r : Readers) (calm : Steady r) (ahead : Forward text tokens r) (y : S) → Moves text tokens bound r calm ahead is_again (body y))
      → ProperOf _ (Loop x body)
  -- A name, where its token was just passed, and where a node was made in between.
  names : {B : Type 0} {k : ℕ} {g : Prog Bool} {f : ℕ → Prog B} {q : Prog B} → Passes k g → T (not (eqb k Token.Eof)) → ProperOf _ g → ((i : ℕ) → ProperOf _ (f i)) → ProperOf _ q
      → ProperOf _ (Then g (λ found. Branch found (Then (intern k) f) q))
  names-later : {B : Type 0} {k : ℕ} {g : Prog Bool} {h : Prog Unfinished} {f : Unfinished → ℕ → Prog B} {q : Prog B} → Passes k g → T (not (eqb k Token.Eof)) → Stays h
      → ProperOf _ g → ProperOf _ h → ((u : Unfinished) (i : ℕ) → ProperOf _ (f u i)) → ProperOf _ q
      → ProperOf _ (Then g (λ found. Branch found (Then h (λ u. Then (intern k) (f u))) q))
  proper-peek : ProperOf _ peek
  proper-pass : ProperOf _ pass
  proper-position : ProperOf _ position
  proper-here : ProperOf _ here
  proper-before : ProperOf _ before
  proper-spelling : ProperOf _ spelling
  proper-marked : ProperOf _ marked
  -- "Report kind 11 is never made again." (01, W7)
  emits : {k d : ℕ} {p : Span} → T (is_made k) → ProperOf _ (emit k d p)
  emits-marked : {k d : ℕ} {p : Span} → T (is_made k) → ProperOf _ (emit_and_mark k d p)
  proper-alloc : {start k payload : ℕ} → ProperOf _ (alloc start k payload)
  proper-close_at : {i end : ℕ} → ProperOf _ (close_at i end)
  proper-close_at_start : {i j : ℕ} → ProperOf _ (close_at_start i j)
  proper-set_kind : {i k payload : ℕ} → ProperOf _ (set_kind i k payload)
  proper-link : {parent last child : ℕ} → ProperOf _ (link parent last child)
  proper-kind_of : {i : ℕ} → ProperOf _ (kind_of i)
  proper-value : {ws : List ℕ} → ProperOf _ (value ws)
  proper-enter_expr : {mode : Mode} {min : ℕ} → ProperOf _ (enter_expr mode min)
  proper-enter_block : {start k : ℕ} → ProperOf _ (enter_block start k)

abbrev pub Proper : {A : Type 0} → Prog A → Type 1
Proper {A} p = ProperOf A p

-- The same as functions, which find more of their arguments.
proper-then : {A B : Type 0} {p : Prog A} {f : A → Prog B} → Proper p → ((a : A) → Proper (f a)) → Proper (Then p f)
proper-then = thens

proper-branch : {A : Type 0} {p q : Prog A} {b : Bool} → Proper p → Proper q → Proper (Branch b p q)
proper-branch = branches

proper-name : {B : Type 0} {k : ℕ} {g : Prog Bool} {f : ℕ → Prog B} {q : Prog B} → Passes k g → T (not (eqb k Token.Eof)) → Proper g → ((i : ℕ) → Proper (f i)) → Proper q
    → Proper (Then g (λ found. Branch found (Then (intern k) f) q))
proper-name = names

proper-emit : {k d : ℕ} {p : Span} → T (is_made k) → Proper (emit k d p)
proper-emit = emits

proper-emit_and_mark : {k d : ℕ} {p : Span} → T (is_made k) → Proper (emit_and_mark k d p)
proper-emit_and_mark = emits-marked

-- What is asked of a kind that is written out.
asked : Unit {0}
asked = tt

module _ {S : Type 0} (body : S → Prog (Turn S)) (h : (y : S) → Proper (body y))
    (g : (text tokens : List ℕ) (bound : ℕ) (r : Readers) (calm : Steady r) (ahead : Forward text tokens r) (y : S) → Moves text tokens bound r calm ahead is_again (body y)) where
  proper-loop : {x : S} → Proper (Loop x body)
  proper-loop = loops h g

pub proper-option : {A B : Type 0} {p : A → Prog B} {q : Prog B} (o : Option A) → ((a : A) → Proper (p a)) → Proper q → Proper {A = B} (elim o [ some a ↦ p a | none ↦ q ])
proper-option (some a) x y = x a
proper-option none x y = y

ruleset rules = (proper-then, proper-branch, proper-give, proper-peek, proper-pass, proper-position, proper-here, proper-before, proper-spelling, proper-marked, proper-emit, proper-emit_and_mark, proper-alloc, proper-close_at, proper-close_at_start, proper-set_kind, proper-link, proper-kind_of, proper-value, proper-enter_expr, proper-enter_block, asked)

-- ---- the programs

check-proper : (token : ℕ) → Proper (check token)
unfolding check
check-proper token = search rules depth 40

pub eat-proper : (token : ℕ) → Proper (eat token)
unfolding eat
eat-proper token = search (rules, check-proper) depth 40

eof-proper : Proper eof
unfolding eof
eof-proper = search (rules, check-proper) depth 40

emit_unexpected-proper : Proper emit_unexpected
unfolding emit_unexpected
emit_unexpected-proper = search rules depth 40

skip_turn-proper : (recovery : List ℕ) (x : Unit {0}) → Proper (skip_turn recovery x)
unfolding skip_turn
skip_turn-proper recovery x = search (rules, eof-proper) depth 40

skip_until_recovery_token-proper : (recovery : List ℕ) → Proper (skip_until_recovery_token recovery)
unfolding skip_until_recovery_token
skip_until_recovery_token-proper recovery = search (rules, proper-loop (skip_turn recovery) (skip_turn-proper recovery) (λ text tokens bound r calm ahead. Progress.skip-turn text tokens bound r calm ahead recovery)) depth 40

skip_until_decl_start-proper : Proper skip_until_decl_start
unfolding skip_until_decl_start
skip_until_decl_start-proper = search (rules, skip_until_recovery_token-proper) depth 40

pub expect-proper : (token : ℕ) → Proper (expect token)
unfolding expect
expect-proper token = search (rules, eat-proper, emit_unexpected-proper) depth 40

expect_check_recovery-proper : (token : ℕ) (recovery : List ℕ) → Proper (expect_check_recovery token recovery)
unfolding expect_check_recovery
expect_check_recovery-proper token recovery = search (rules, eat-proper, emit_unexpected-proper) depth 40

delimited_turn-proper : {S : Type 0} (terminator delimiter : ℕ) (element : S → Prog (Option S)) → ((x : S) → Proper (element x)) → (d : Delimited S) → Proper (delimited_turn terminator delimiter element d)
unfolding delimited_turn
delimited_turn-proper terminator delimiter element h d = proper-then (h d.list) (elim [
  | some list ↦ search (rules, eat-proper) depth 40
  | none ↦ search (rules, check-proper, eof-proper, emit_unexpected-proper) depth 40
])

parse_delimited-proper : {S : Type 0} (opener terminator delimiter : ℕ) (element : S → Prog (Option S)) → T (not (eqb delimiter Token.Eof)) → ((x : S) → Proper (element x)) → (first : S) → Proper (parse_delimited opener terminator delimiter element first)
unfolding parse_delimited
parse_delimited-proper opener terminator delimiter element e h first =
    search (rules, expect-proper, proper-loop (delimited_turn terminator delimiter element) (delimited_turn-proper terminator delimiter element h) (λ text tokens bound r calm ahead. Progress.delimited-turn text tokens bound r calm ahead terminator delimiter e element)) depth 40

alloc_node_from-proper : (start : ℕ) (kind : ℕ) (payload : ℕ) → Proper (alloc_node_from start kind payload)
unfolding alloc_node_from
alloc_node_from-proper start kind payload = search rules depth 40

skip_trivia_start-proper : Proper skip_trivia_start
unfolding skip_trivia_start
skip_trivia_start-proper = search rules depth 40

alloc_node-proper : (kind : ℕ) (payload : ℕ) → Proper (alloc_node kind payload)
unfolding alloc_node
alloc_node-proper kind payload = search (rules, alloc_node_from-proper) depth 40

close_node_at-proper : (u : Unfinished) (end : ℕ) → Proper (close_node_at u end)
unfolding close_node_at
close_node_at-proper u end = search rules depth 40

close_node-proper : (u : Unfinished) → Proper (close_node u)
unfolding close_node
close_node-proper u = search (rules, close_node_at-proper) depth 40

update_kind-proper : (u : Unfinished) (kind : ℕ) (payload : ℕ) → Proper (update_kind u kind payload)
unfolding update_kind
update_kind-proper u kind payload = search rules depth 40

push_child-proper : (parent : Unfinished) (child : ℕ) → Proper (push_child parent child)
unfolding push_child
push_child-proper parent child = search rules depth 40

alloc_last_token_as_node-proper : (kind : ℕ) (payload : ℕ) → Proper (alloc_last_token_as_node kind payload)
unfolding alloc_last_token_as_node
alloc_last_token_as_node-proper kind payload = search (rules, alloc_node_from-proper, close_node-proper) depth 40

error_node-proper : Proper error_node
unfolding error_node
error_node-proper = search (rules, alloc_node-proper, close_node-proper) depth 40

try_parse_num_literal-proper : Proper try_parse_num_literal
unfolding try_parse_num_literal
try_parse_num_literal-proper = proper-then proper-peek (λ k. proper-option (radix_of k) (λ x. search rules depth 40) proper-give)

try_parse_ident-proper : Proper try_parse_ident
unfolding try_parse_ident
try_parse_ident-proper = proper-name by-eat tt (eat-proper _) (λ ident. search (rules, alloc_last_token_as_node-proper) depth 40) proper-give

try_parse_builtin_name-proper : Proper try_parse_builtin_name
unfolding try_parse_builtin_name
try_parse_builtin_name-proper = proper-name by-eat tt (eat-proper _) (λ ident. search (rules, alloc_last_token_as_node-proper) depth 40) proper-give

expect_ident-proper : Proper expect_ident
unfolding expect_ident
expect_ident-proper = proper-then try_parse_ident-proper (elim [ some ident ↦ proper-give | none ↦ search (rules, check-proper, emit_unexpected-proper, alloc_last_token_as_node-proper, error_node-proper) depth 40 ])

emit_events-proper : {es : List Event} → Others es → Proper (emit_events es)
unfolding emit_events
emit_events-proper no-others = proper-give
emit_events-proper (other_byte h) = emit_events-proper h
emit_events-proper (other-report t h) = proper-then (proper-emit t) (λ _. emit_events-proper h)

decode_token-proper : (b : StringBuf) (events : List Event) → Others events → Proper (decode_token b events)
unfolding decode_token
decode_token-proper b events h = proper-then (emit_events-proper h) (λ _. search rules depth 40)

string-token-proper : (b : StringBuf) (p : Span) (s : List ℕ) → Proper (decode_token b (decode_string p s))
string-token-proper b p s = decode_token-proper b (decode_string p s) (string-others p s)

hex-token-proper : (b : StringBuf) (p : Span) (s : List ℕ) → Proper (decode_token b (decode_hex p s))
hex-token-proper b p s = decode_token-proper b (decode_hex p s) (hex-others p s)

no-token-proper : (b : StringBuf) → Proper (decode_token b [])
no-token-proper b = decode_token-proper b [] no-others

string_turn-proper : (b : StringBuf) → Proper (string_turn b)
unfolding string_turn
string_turn-proper b = search (rules, string-token-proper, hex-token-proper, no-token-proper) depth 40

try_parse_string_literal-proper : Proper try_parse_string_literal
unfolding try_parse_string_literal
try_parse_string_literal-proper =
    proper-then skip_trivia_start-proper (λ start. proper-then (proper-loop string_turn string_turn-proper Progress.string-turn) (λ b. proper-option b.end (λ end. search (rules, alloc_node_from-proper, close_node_at-proper) depth 40) proper-give))

check_binary_op-proper : Proper check_binary_op
unfolding check_binary_op
check_binary_op-proper = search rules depth 40

eat_unary-proper : Proper eat_unary
unfolding eat_unary
eat_unary-proper = proper-then proper-peek (λ k. proper-option (unary_of k) (λ x. search rules) proper-give)

unwrap_or_error-proper : (o : Option ℕ) → Proper (unwrap_or_error o)
unfolding unwrap_or_error
unwrap_or_error-proper (some node) = proper-give
unwrap_or_error-proper none = search (rules, emit_unexpected-proper, error_node-proper)

try_parse_expr-proper : (mode : Mode) → Proper (try_parse_expr mode)
unfolding try_parse_expr
try_parse_expr-proper mode = search rules depth 40

parse_expr-proper : (mode : Mode) → Proper (parse_expr mode)
unfolding parse_expr
parse_expr-proper mode = search (rules, unwrap_or_error-proper, try_parse_expr-proper) depth 40

block_here-proper : Proper block_here
unfolding block_here
block_here-proper = search rules depth 40

push_option-proper : (parent : Unfinished) (o : Option ℕ) → Proper (push_option parent o)
unfolding push_option
push_option-proper parent none = proper-give
push_option-proper parent (some child) = push_child-proper parent child

push_closing-proper : (parent : Unfinished) (list : ℕ) (o : Option ℕ) → Proper (push_closing parent list o)
unfolding push_closing
push_closing-proper parent list none = proper-give
push_closing-proper parent list (some child) = search (rules, push_child-proper)

else_if_branch-proper : (e : ElseIfs) (start : ℕ) → Proper (else_if_branch e start)
unfolding else_if_branch
else_if_branch-proper e start = search (rules, alloc_node_from-proper, close_node-proper, push_child-proper, parse_expr-proper, block_here-proper) depth 40

else_turn-proper : (e : ElseIfs) → Proper (else_turn e)
unfolding else_turn
else_turn-proper e = search (rules, check-proper, eat-proper, expect-proper, block_here-proper, else_if_branch-proper) depth 40

conditional-proper : (start : ℕ) → Proper (conditional start)
unfolding conditional
conditional-proper start = search (rules, proper-loop else_turn else_turn-proper Progress.else-turn, alloc_node_from-proper, alloc_node-proper, close_node-proper, push_child-proper, parse_expr-proper, block_here-proper, push_closing-proper) depth 40

eats-proper : (token : ℕ) (p : Prog ℕ) → Proper p → Proper (eats token p)
unfolding eats
eats-proper token p h = search (rules, eat-proper)

checks-proper : (token : ℕ) (p : Prog ℕ) → Proper p → Proper (checks token p)
unfolding checks
checks-proper token p h = search (rules, check-proper)

try_parse_conditional-proper : Proper try_parse_conditional
unfolding try_parse_conditional
try_parse_conditional-proper = proper-then proper-position (λ start. eats-proper _ _ (conditional-proper start))

fallback_arm-proper : (start : ℕ) → Proper (fallback_arm start)
unfolding fallback_arm
fallback_arm-proper start = proper-then (alloc_node_from-proper _ _ _) (λ arm. proper-then try_parse_ident-proper (elim [ some name ↦ search (rules, update_kind-proper, push_child-proper) | none ↦ proper-give ]))

keyed_arm-proper : Proper keyed_arm
unfolding keyed_arm
keyed_arm-proper = search (rules, alloc_node-proper, push_child-proper, parse_expr-proper) depth 40

arm_turn-proper : (arms : Unfinished) → Proper (arm_turn arms)
unfolding arm_turn
arm_turn-proper arms = search (rules, eat-proper, check-proper, eof-proper, expect-proper, close_node-proper, push_child-proper, parse_expr-proper, fallback_arm-proper, keyed_arm-proper) depth 40

match_expr-proper : (start : ℕ) → Proper (match_expr start)
unfolding match_expr
match_expr-proper start = search (rules, proper-loop arm_turn arm_turn-proper Progress.arm-turn, expect-proper, alloc_node_from-proper, alloc_node-proper, close_node-proper, push_child-proper, parse_expr-proper) depth 40

try_parse_match-proper : Proper try_parse_match
unfolding try_parse_match
try_parse_match-proper = proper-then proper-position (λ start. eats-proper _ _ (match_expr-proper start))

any_type-proper : Proper any_type
unfolding any_type
any_type-proper =
    proper-then proper-position (λ start. proper-then (expect-proper _) (λ _. proper-name by-expect tt (expect-proper _) (λ ident. search (rules, alloc_node_from-proper, close_node-proper) depth 40) (search (rules, alloc_node_from-proper, close_node-proper) depth 40)))

parameter_name-proper : Proper parameter_name
unfolding parameter_name
parameter_name-proper =
    proper-then proper-position (λ start. proper-then (eat-proper _) (λ found. proper-branch (search (rules, alloc_node_from-proper, push_child-proper, expect_ident-proper) depth 40)
    (names-later by-eat tt (by-alloc start _ _) (eat-proper _) (alloc_node_from-proper _ _ _) (λ parameter ident. search (rules, push_child-proper, alloc_last_token_as_node-proper) depth 40) proper-give)))

parse_parameter-proper : (list : Unfinished) → Proper (parse_parameter list)
unfolding parse_parameter
parse_parameter-proper list = proper-then parameter_name-proper (elim [ some parameter ↦ search (rules, check-proper, expect-proper, close_node-proper, push_child-proper, parse_expr-proper, any_type-proper) depth 40 | none ↦ proper-give ])

parse_function_signature_and_body-proper : (function : Unfinished) → Proper (parse_function_signature_and_body function)
unfolding parse_function_signature_and_body
parse_function_signature_and_body-proper function = search (rules, parse_delimited-proper Token.LeftRound Token.RightRound Token.Comma parse_parameter tt parse_parameter-proper, alloc_node-proper, close_node-proper, push_child-proper, parse_expr-proper, block_here-proper) depth 40

parse_function_def-proper : (start : ℕ) (eager : Bool) → Proper (parse_function_def start eager)
unfolding parse_function_def
parse_function_def-proper start eager = search (rules, alloc_node_from-proper, close_node-proper, parse_function_signature_and_body-proper) depth 40

parse_method_def-proper : Proper parse_method_def
unfolding parse_method_def
parse_method_def-proper = search (rules, eat-proper, expect-proper, alloc_node_from-proper, close_node-proper, push_child-proper, expect_ident-proper, parse_function_signature_and_body-proper) depth 40

parse_struct_field-proper : Proper parse_struct_field
unfolding parse_struct_field
parse_struct_field-proper = search (rules, expect-proper, alloc_node-proper, close_node-proper, push_child-proper, try_parse_ident-proper, parse_expr-proper, push_option-proper) depth 40

field_turn-proper : (s : Members) → Proper (field_turn s)
unfolding field_turn
field_turn-proper s = search (rules, expect_check_recovery-proper, push_child-proper, parse_struct_field-proper) depth 40

method_turn-proper : (s : Members) → Proper (method_turn s)
unfolding method_turn
method_turn-proper s = search (rules, push_child-proper, parse_method_def-proper) depth 40

no_member_turn-proper : (s : Members) → Proper (no_member_turn s)
unfolding no_member_turn
no_member_turn-proper s = search (rules, emit_unexpected-proper, skip_until_recovery_token-proper, alloc_node-proper, close_node-proper, push_child-proper) depth 40

member_turn-proper : (s : Members) → Proper (member_turn s)
unfolding member_turn
member_turn-proper s = search (rules, check-proper, eof-proper, field_turn-proper, method_turn-proper, no_member_turn-proper) depth 40

parse_struct_def-proper : (start : ℕ) → Proper (parse_struct_def start)
unfolding parse_struct_def
parse_struct_def-proper start = search (rules, proper-loop member_turn member_turn-proper Progress.member-turn, check-proper, expect-proper, alloc_node_from-proper, alloc_node-proper, close_node-proper, push_child-proper, try_parse_expr-proper, push_option-proper) depth 40

expr_element-proper : (list : Unfinished) → Proper (expr_element list)
unfolding expr_element
expr_element-proper list = proper-then (try_parse_expr-proper _) (elim [ some node ↦ search (rules, push_child-proper) | none ↦ proper-give ])

parse_tuple_type-proper : (start : ℕ) → Proper (parse_tuple_type start)
unfolding parse_tuple_type
parse_tuple_type-proper start = search (rules, parse_delimited-proper Token.LeftCurly Token.RightCurly Token.Comma expr_element tt expr_element-proper, alloc_node_from-proper, close_node-proper) depth 40

tuple_turn-proper : (tuple : Unfinished) → Proper (tuple_turn tuple)
unfolding tuple_turn
tuple_turn-proper tuple = search (rules, check-proper, eat-proper, push_child-proper, parse_expr-proper) depth 40

paren_or_tuple-proper : (start : ℕ) → Proper (paren_or_tuple start)
unfolding paren_or_tuple
paren_or_tuple-proper start = search (rules, proper-loop tuple_turn tuple_turn-proper Progress.tuple-turn, eat-proper, expect-proper, alloc_node_from-proper, close_node-proper, update_kind-proper, push_child-proper, parse_expr-proper) depth 40

num_literal-proper : Proper num_literal
unfolding num_literal
num_literal-proper = proper-then try_parse_num_literal-proper (elim [ some offset ↦ search (rules, alloc_last_token_as_node-proper) | none ↦ proper-give ])

eager_function-proper : (start : ℕ) → Proper (eager_function start)
unfolding eager_function
eager_function-proper start = search (rules, expect-proper, parse_function_def-proper) depth 40

or-else : {p q : Prog (Option ℕ)} → Proper p → Proper q → Proper (p or_else q)
or-else x y = proper-then x (elim [ some node ↦ proper-give | none ↦ y ])

try_parse_standalone_expr-proper : Proper try_parse_standalone_expr
unfolding try_parse_standalone_expr
try_parse_standalone_expr-proper =
    proper-then proper-position (λ start.
    or-else (eats-proper _ _ (alloc_last_token_as_node-proper _ _))
    (or-else (eats-proper _ _ (alloc_last_token_as_node-proper _ _))
    (or-else num_literal-proper
    (or-else try_parse_string_literal-proper
    (or-else (eats-proper _ _ (alloc_last_token_as_node-proper _ _))
    (or-else try_parse_ident-proper
    (or-else try_parse_builtin_name-proper
    (or-else (eats-proper _ _ (paren_or_tuple-proper start))
    (or-else (eats-proper _ _ proper-enter_block)
    (or-else (eats-proper _ _ (eager_function-proper start))
    (or-else (eats-proper _ _ (parse_function_def-proper start false))
    (or-else (eats-proper _ _ (parse_struct_def-proper start))
    (or-else (eats-proper _ _ (parse_tuple_type-proper start))
    (or-else (checks-proper _ _ block_here-proper)
    (or-else try_parse_conditional-proper try_parse_match-proper)))))))))))))))

access_name-proper : Proper access_name
unfolding access_name
access_name-proper = proper-then try_parse_ident-proper (elim [ some ident ↦ proper-give | none ↦ search (rules, emit_unexpected-proper, alloc_node-proper, close_node-proper) depth 40 ])

member_expr-proper : (start : ℕ) (expr : ℕ) → Proper (member_expr start expr)
unfolding member_expr
member_expr-proper start expr = search (rules, alloc_node_from-proper, close_node-proper, push_child-proper, access_name-proper) depth 40

call_expr-proper : (start : ℕ) (expr : ℕ) → Proper (call_expr start expr)
unfolding call_expr
call_expr-proper start expr = search (rules, parse_delimited-proper Token.LeftRound Token.RightRound Token.Comma expr_element tt expr_element-proper, alloc_node_from-proper, close_node-proper, push_child-proper) depth 40

field_assign-proper : (literal : Unfinished) → Proper (field_assign literal)
unfolding field_assign
field_assign-proper literal = search (rules, check-proper, expect-proper, alloc_node-proper, close_node-proper, push_child-proper, try_parse_ident-proper, parse_expr-proper, push_option-proper) depth 40

struct_lit-proper : (start : ℕ) (expr : ℕ) → Proper (struct_lit start expr)
unfolding struct_lit
struct_lit-proper start expr = search (rules, parse_delimited-proper Token.LeftCurly Token.RightCurly Token.Comma field_assign tt field_assign-proper, alloc_node_from-proper, close_node-proper, push_child-proper) depth 40

binary_expr-proper : (mode : Mode) (start : ℕ) (expr : ℕ) (b : Binary) → Proper (binary_expr mode start expr b)
unfolding binary_expr
binary_expr-proper mode start expr b = search (rules, alloc_node_from-proper, alloc_node-proper, close_node-proper, push_child-proper, unwrap_or_error-proper) depth 40

binary_step-proper : (mode : Mode) (min_bp start expr : ℕ) → Proper (binary_step mode min_bp start expr)
unfolding binary_step
binary_step-proper mode min_bp start expr = proper-then check_binary_op-proper (elim [ some b ↦ search (rules, binary_expr-proper) | none ↦ proper-give ])

expr_turn-proper : (mode : Mode) (min_bp start expr : ℕ) → Proper (expr_turn mode min_bp start expr)
unfolding expr_turn
expr_turn-proper mode min_bp start expr =
    proper-then
    (or-else (proper-branch (eats-proper _ _ (member_expr-proper start expr)) proper-give)
    (or-else (proper-branch (checks-proper _ _ (call_expr-proper start expr)) proper-give)
    (or-else (proper-branch (checks-proper _ _ (struct_lit-proper start expr)) proper-give)
    (binary_step-proper mode min_bp start expr))))
    (elim [ some node ↦ proper-give | none ↦ proper-give ])

unary_expr-proper : (mode : Mode) (start : ℕ) (op : ℕ) → Proper (unary_expr mode start op)
unfolding unary_expr
unary_expr-proper mode start op = search (rules, alloc_node_from-proper, close_node-proper, push_child-proper, unwrap_or_error-proper) depth 40

pub try_parse_expr_min_bp-proper : (mode : Mode) (min_bp : ℕ) → Proper (try_parse_expr_min_bp mode min_bp)
unfolding try_parse_expr_min_bp
try_parse_expr_min_bp-proper mode min_bp =
    proper-then skip_trivia_start-proper (λ start. proper-then eat_unary-proper (λ unary.
    proper-then (proper-option unary (λ op. unary_expr-proper mode start op) try_parse_standalone_expr-proper) (elim [
      | some expr ↦ proper-then (proper-loop (expr_turn mode min_bp start) (expr_turn-proper mode min_bp start) (λ text tokens bound r calm ahead. Progress.expr-turn text tokens bound r calm ahead mode min_bp start)) (λ node. proper-give)
      | none ↦ proper-give
    ])))

while_stmt-proper : (start : ℕ) (kind : ℕ) → Proper (while_stmt start kind)
unfolding while_stmt
while_stmt-proper start kind = search (rules, alloc_node_from-proper, close_node-proper, push_child-proper, parse_expr-proper, block_here-proper) depth 40

try_parse_while-proper : (start : ℕ) → Proper (try_parse_while start)
unfolding try_parse_while
try_parse_while-proper start = search (rules, eat-proper, expect-proper, while_stmt-proper, eats-proper) depth 40

parse_let_stmt-proper : (start : ℕ) (comptime : Bool) → Proper (parse_let_stmt start comptime)
unfolding parse_let_stmt
parse_let_stmt-proper start comptime = search (rules, eat-proper, expect-proper, alloc_node_from-proper, close_node-proper, update_kind-proper, push_child-proper, expect_ident-proper, parse_expr-proper) depth 40

return_stmt-proper : (start : ℕ) → Proper (return_stmt start)
unfolding return_stmt
return_stmt-proper start = search (rules, expect-proper, alloc_node_from-proper, close_node-proper, push_child-proper, parse_expr-proper) depth 40

let_stmt-proper : (start : ℕ) (comptime : Bool) → Proper (let_stmt start comptime)
unfolding let_stmt
let_stmt-proper start comptime = search (rules, parse_let_stmt-proper) depth 40

comptime_stmt-proper : (start : ℕ) → Proper (comptime_stmt start)
unfolding comptime_stmt
comptime_stmt-proper start = search (rules, check-proper, eat-proper, emit_unexpected-proper, skip_until_recovery_token-proper, alloc_node_from-proper, close_node-proper, let_stmt-proper) depth 40

assign_stmt-proper : (start : ℕ) (expr : ℕ) → Proper (assign_stmt start expr)
unfolding assign_stmt
assign_stmt-proper start expr = search (rules, expect-proper, alloc_node_from-proper, close_node-proper, push_child-proper, parse_expr-proper) depth 40

expr_stmt-proper : (start : ℕ) → Proper (expr_stmt start)
unfolding expr_stmt
expr_stmt-proper start = proper-then (try_parse_expr-proper _) (elim [ some expr ↦ search (rules, eat-proper, assign_stmt-proper) depth 40 | none ↦ proper-give ])

try_parse_stmt-proper : Proper try_parse_stmt
unfolding try_parse_stmt
try_parse_stmt-proper = proper-then proper-position (λ start. proper-then (try_parse_while-proper start) (elim [ some node ↦ proper-give | none ↦ search (rules, eat-proper, return_stmt-proper, comptime_stmt-proper, let_stmt-proper, expr_stmt-proper) depth 40 ]))

end_expr_turn-proper : (list : Unfinished) (expr : ℕ) → Proper (end_expr_turn list expr)
unfolding end_expr_turn
end_expr_turn-proper list expr = search (rules, check-proper, eof-proper, push_child-proper) depth 40

stmt_turn-proper : (b : Body) → Proper (stmt_turn b)
unfolding stmt_turn
stmt_turn-proper b =
    proper-then (check-proper _) (λ closed. proper-branch proper-give (proper-then try_parse_stmt-proper (elim [
      | nothing ↦ search (rules, emit_unexpected-proper)
      | statement stmt ↦ search (rules, push_option-proper, push_child-proper)
      | end_expr_or_stmt expr ↦ search (rules, push_option-proper)
      | end_expr expr ↦ search (rules, push_option-proper, end_expr_turn-proper)
    ])))

pub parse_block-proper : (start : ℕ) (kind : ℕ) → Proper (parse_block start kind)
unfolding parse_block
parse_block-proper start kind = search (rules, proper-loop stmt_turn stmt_turn-proper Progress.stmt-turn, expect-proper, alloc_node_from-proper, alloc_node-proper, close_node-proper, push_child-proper, push_closing-proper) depth 40

path_turn-proper : (x : Unit {0}) → Proper (path_turn x)
unfolding path_turn
path_turn-proper x = search (rules, check-proper, eat-proper) depth 40

parse_import_group_item-proper : Proper parse_import_group_item
unfolding parse_import_group_item
parse_import_group_item-proper =
    proper-then (alloc_node-proper _ _) (λ item. proper-then expect_ident-proper (λ name. proper-then proper-before (λ place. proper-then (push_child-proper _ _) (λ item.
    proper-then (check-proper _) (λ path. proper-then (proper-branch (proper-then (proper-loop path_turn path_turn-proper Progress.path-turn) (λ _. proper-emit tt)) proper-give) (λ _.
    search (rules, eat-proper, expect_ident-proper, push_child-proper, close_node-proper)))))))

group_item-proper : (g : Group) → Proper (group_item g)
unfolding group_item
group_item-proper g = search (rules, check-proper, eat-proper, push_child-proper, parse_import_group_item-proper) depth 40

parse_import_group-proper : (group : Unfinished) → Proper (parse_import_group group)
unfolding parse_import_group
parse_import_group-proper group = search (rules, parse_delimited-proper Token.LeftCurly Token.RightCurly Token.Comma group_item tt group_item-proper, expect-proper, close_node-proper) depth 40

glob_import-proper : (public : Bool) (path : Unfinished) → Proper (glob_import public path)
unfolding glob_import
glob_import-proper public path = search (rules, expect-proper, close_node-proper, update_kind-proper) depth 40

group_import-proper : (public : Bool) (path : Unfinished) → Proper (group_import public path)
unfolding group_import
group_import-proper public path = search (rules, update_kind-proper, parse_import_group-proper) depth 40

import_turn-proper : (public : Bool) (p : ImportSoFar) → Proper (import_turn public p)
unfolding import_turn
import_turn-proper public p = search (rules, check-proper, eat-proper, push_child-proper, expect_ident-proper, glob_import-proper, group_import-proper) depth 40

import_as-proper : (start : ℕ) (public : Bool) (path : Unfinished) → Proper (import_as start public path)
unfolding import_as
import_as-proper start public path = search (rules, expect-proper, alloc_node_from-proper, close_node-proper, update_kind-proper, push_child-proper, expect_ident-proper) depth 40

parse_import_decl-proper : (start : ℕ) (public : Bool) → Proper (parse_import_decl start public)
unfolding parse_import_decl
parse_import_decl-proper start public =
    proper-then (alloc_node_from-proper _ _ _) (λ path. proper-then expect_ident-proper (λ ident. proper-then (push_child-proper _ _) (λ path.
    proper-then (proper-loop (import_turn public) (import_turn-proper public) (λ text tokens bound r calm ahead. Progress.import-turn text tokens bound r calm ahead public)) (λ p.
    proper-option p.whole (λ node. proper-give) (search (rules, eat-proper, close_node-proper, import_as-proper))))))

parse_const_decl-proper : (start : ℕ) → Proper (parse_const_decl start)
unfolding parse_const_decl
parse_const_decl-proper start = search (rules, eat-proper, expect_check_recovery-proper, alloc_node_from-proper, close_node-proper, update_kind-proper, push_child-proper, expect_ident-proper, parse_expr-proper) depth 40

no_decl-proper : (start : ℕ) (skip : Act) → Proper skip → Proper (no_decl start skip)
unfolding no_decl
no_decl-proper start skip h = search (rules, emit_unexpected-proper, alloc_node_from-proper, close_node-proper)

skip_unless_eof-proper : Proper skip_unless_eof
unfolding skip_unless_eof
skip_unless_eof-proper = search (rules, eof-proper, skip_until_decl_start-proper) depth 40

pub parse_decl-proper : Proper parse_decl
unfolding parse_decl
parse_decl-proper = proper-then proper-position (λ start. search (rules, eat-proper, parse_const_decl-proper, parse_import_decl-proper, no_decl-proper, skip_unless_eof-proper, skip_until_decl_start-proper) depth 40)

pub decl_turn-proper : (file : Unfinished) → Proper (decl_turn file)
unfolding decl_turn
decl_turn-proper file = search (rules, eof-proper, push_child-proper, parse_decl-proper) depth 40

pub parse_file-proper : Proper parse_file
unfolding parse_file
parse_file-proper = search (rules, proper-loop decl_turn decl_turn-proper Progress.decl-turn, alloc_node-proper, close_node-proper) depth 40

-- ---- what `Passes` and `Stays` say of a run

pub kind-inside : (text tokens : List ℕ) (c : Cursor) → c.at < c.end → kind_at text tokens c ≡ token_kind (Source.word_at tokens c.at)
unfolding kind_at
kind-inside text tokens c h = rw (lt-ltb c.at c.end h)

module _ (text tokens : List ℕ) (bound : ℕ) (r : Readers) (calm : Steady r) (ahead : Forward text tokens r) where
  -- The token before the cursor is of the kind.
  abbrev pub Just : ℕ → State → Type 0
  Just k t = token_kind (Source.word_at tokens (pred t.cursor.at)) ≡ k

  passed-just : (k : ℕ) (s : State) (m : Memory) → T (not (eqb k Token.Eof)) → kind_at text tokens s.cursor ≡ k → Holds (λ _ t. Just k t) (passed text tokens s m)
  passed-just k s m e h =
      let l : s.cursor.at < s.cursor.end = Progress.not-eof text tokens s.cursor (rw h e) in
      weaken (λ _ t q.
      let z : t.cursor.at ≡ suc s.cursor.at = ap (λ (c : Cursor). c.at) (q ∙ Progress.advanced-at text tokens s.cursor l) ∙ add-one s.cursor.at in
      rw z (sym (kind-inside text tokens s.cursor l) ∙ h)) (Progress.passed_cursor text tokens s m)

  eat-passes : (k : ℕ) → T (not (eqb k Token.Eof)) → (s : State) (m : Memory) → Holds (λ b t. b ≡ true → Just k t) (eval text tokens bound r (eat k) s m)
  unfolding eval eat
  eat-passes k e s m =
      onward (λ b t n. eval text tokens bound r (Branch b (Then pass (λ _. Give true)) (Give false)) t n) (Progress.checked text tokens bound r calm ahead k s m) (elim [
        | true ↦ λ t n q. rw (Progress.skip-still text tokens t n q.0) (onward _ (passed-just k t n e (eqb-true _ _ q.1)) (λ _ u n j. yields (λ _. j)))
        | false ↦ λ t n q. yields (λ x. cc)
      ])

  expect-passes : (k : ℕ) → T (not (eqb k Token.Eof)) → (s : State) (m : Memory) → Holds (λ b t. b ≡ true → Just k t) (eval text tokens bound r (expect k) s m)
  unfolding eval expect
  expect-passes k e s m =
      onward (λ b t n. eval text tokens bound r (Then (Branch (not b) emit_unexpected (Give tt)) (λ _. Give b)) t n) (eat-passes k e s m) (elim [
        | true ↦ λ t n q. yields q
        | false ↦ λ t n q. onward _ (Progress.after_on (mono text tokens bound r calm emit_unexpected t n)) (λ _ u n _. yields (λ x. cc))
      ])

  pub passes : {k : ℕ} {g : Prog Bool} → Passes k g → T (not (eqb k Token.Eof)) → (s : State) (m : Memory) → Holds (λ b t. b ≡ true → Just k t) (eval text tokens bound r g s m)
  passes {k} by-eat e s m = eat-passes k e s m
  passes {k} by-expect e s m = expect-passes k e s m

  pub stays : {h : Prog Unfinished} → Stays h → (s : State) (m : Memory) → Holds (λ _ t. t.cursor ≡ s.cursor) (eval text tokens bound r h s m)
  unfolding eval alloc_node_from
  stays (by-alloc start kind payload) s m = onward _ (Progress.allocated-cursor text tokens start kind payload s m) (λ _ t n e. yields e)
