-- The readers' programs, gone through: tokens, names, blocks, expressions that are to be there. What a law shows is in its name: `-calm`,
-- that the program makes no node; `-fresh`, that it answers one that it made, `-maybe`, such a one or none; `-ok`, what a turn or a part keeps.
use Rattle.std.proofs.Math.Option.{Option, none, some}
use Rattle.std.specs.Prelude.{List, ◌∷◌, ℕ, ◌≤◌, ◌<◌}
use Rattle.std.proofs.Common.{arith}
use Rattle.words.specs.Node
use Rattle.definition.specs.declared.Mode.{Mode}
use Rattle.definition.specs.Prog.{Prog}
use Rattle.definition.specs.Tokens.{check, eat, eof, emit_unexpected, skip_turn, skip_until_recovery_token, skip_until_decl_start, expect, expect_check_recovery}
use Rattle.definition.specs.Nodes.{skip_trivia_start, alloc_last_token_as_node, error_node, try_parse_ident, try_parse_builtin_name, expect_ident}
use Rattle.definition.specs.Expressions.{◌or_else◌, unwrap_or_error, try_parse_expr, parse_expr, block_here, eats, checks}
use Rattle.rising.specs.Forest.{Slot, single}
use Rattle.rising.proofs.Rules.{New, Newer, either, Ok, Calm, Fresh, Maybe, ok-then, then-calm, ok-branch, calm-peek, calm_pass, calm-position, calm-here, calm-before, calm-spelling, calm-intern, calm_marked, calm-emit, calm-emit_and_mark, calm-close_at, calm-close_at_start, calm-kind_of, calm-value}
use Rattle.rising.proofs.Steps.{then-alloc, then-alloc-here, then-fresh, then-maybe, ok-fresh, ok-maybe, fresh, maybe, calm-give, calm-then, calm_branch, calm-loop, maybe-expr, fresh-block, close-new, give-new, give-newer, give-nothing}

ruleset calms = (calm-then, calm_branch, calm-give, calm-loop, calm-peek, calm_pass, calm-position, calm-here, calm-before, calm-spelling, calm-intern, calm_marked, calm-emit, calm-emit_and_mark, calm-close_at, calm-close_at_start, calm-kind_of, calm-value)

pub check-calm : (token : ℕ) → Calm (check token)
unfolding check
check-calm token = search calms depth 40

pub eat-calm : (token : ℕ) → Calm (eat token)
unfolding eat
eat-calm token = search (calms, check-calm) depth 40

pub eof-calm : Calm eof
unfolding eof
eof-calm = search (calms, check-calm) depth 40

pub emit_unexpected-calm : Calm emit_unexpected
unfolding emit_unexpected
emit_unexpected-calm = search calms depth 40

pub skip_turn-calm : (recovery : List ℕ) (x : Unit {0}) → Calm (skip_turn recovery x)
unfolding skip_turn
skip_turn-calm recovery x = search (calms, eof-calm) depth 40

pub skip_until_recovery_token-calm : (recovery : List ℕ) → Calm (skip_until_recovery_token recovery)
unfolding skip_until_recovery_token
skip_until_recovery_token-calm recovery = calm-loop (skip_turn-calm recovery)

pub skip_until_decl_start-calm : Calm skip_until_decl_start
unfolding skip_until_decl_start
skip_until_decl_start-calm = search (calms, skip_until_recovery_token-calm) depth 40

pub expect-calm : (token : ℕ) → Calm (expect token)
unfolding expect
expect-calm token = search (calms, eat-calm, emit_unexpected-calm) depth 40

pub expect_check_recovery-calm : (token : ℕ) (recovery : List ℕ) → Calm (expect_check_recovery token recovery)
unfolding expect_check_recovery
expect_check_recovery-calm token recovery = search (calms, eat-calm, emit_unexpected-calm) depth 40

pub skip_trivia_start-calm : Calm skip_trivia_start
unfolding skip_trivia_start
skip_trivia_start-calm = search calms depth 40

pub alloc_last_token_as_node-fresh : (kind payload : ℕ) → kind ≤ Node.Error → Fresh (alloc_last_token_as_node kind payload)
unfolding alloc_last_token_as_node
alloc_last_token_as_node-fresh kind payload k =
    fresh (λ c H. then-calm calm-position (λ _.
    then-alloc _ _ _ k (λ u un uz.
    close-new u (omega arith) (omega arith))))

pub error_node-fresh : Fresh error_node
unfolding error_node
error_node-fresh = fresh (λ c H. then-alloc-here _ _ (omega arith) (λ u un uz. close-new u (omega arith) (omega arith)))

pub try_parse_ident-maybe : Maybe try_parse_ident
unfolding try_parse_ident
try_parse_ident-maybe =
    maybe (λ c H. then-calm (eat-calm _) (λ _.
    ok-branch (
    then-calm calm-intern (λ _.
    then-fresh (alloc_last_token_as_node-fresh _ _ (omega arith)) (λ a ad al ah.
    give-newer (omega arith) (omega arith))))
    (give-nothing)))

pub try_parse_builtin_name-maybe : Maybe try_parse_builtin_name
unfolding try_parse_builtin_name
try_parse_builtin_name-maybe =
    maybe (λ c H. then-calm (eat-calm _) (λ _.
    ok-branch (
    then-calm calm-intern (λ _.
    then-fresh (alloc_last_token_as_node-fresh _ _ (omega arith)) (λ a ad al ah.
    give-newer (omega arith) (omega arith))))
    (give-nothing)))

pub expect_ident-fresh : Fresh expect_ident
unfolding expect_ident
expect_ident-fresh =
    fresh (λ c H. then-maybe try_parse_ident-maybe (λ a ad al ah.
    give-new (omega arith) (omega arith))
    (λ ae am. then-calm (check-calm _) (λ _.
    ok-branch (
    then-calm calm_marked (λ _.
    then-calm (calm_branch (calm-then calm-here (λ _. calm-emit_and_mark)) calm-give) (λ _.
    then-calm calm_pass (λ _.
    ok-fresh (alloc_last_token_as_node-fresh _ _ (omega arith)) (omega arith)))))
    (then-calm emit_unexpected-calm (λ _.
    ok-fresh error_node-fresh (omega arith))))))

pub unwrap_or_error-new : {b c : ℕ} {H : List Slot} (a : ℕ) → b ≤ a → a < c → Ok c (single a ∷ H) (λ a. single a ∷ H) (New b) (unwrap_or_error (some a))
unfolding unwrap_or_error
unwrap_or_error-new a l h = give-new l h

pub unwrap_or_error-fresh : Fresh (unwrap_or_error none)
unfolding unwrap_or_error
unwrap_or_error-fresh = fresh (λ c H. then-calm emit_unexpected-calm (λ _. ok-fresh error_node-fresh (omega arith)))

pub try_parse_expr-maybe : (mode : Mode) → Maybe (try_parse_expr mode)
unfolding try_parse_expr
try_parse_expr-maybe mode = maybe-expr

pub parse_expr-fresh : (mode : Mode) → Fresh (parse_expr mode)
unfolding parse_expr
parse_expr-fresh mode = fresh (λ c H. then-maybe (try_parse_expr-maybe mode) (λ a d l h. unwrap_or_error-new a l h) (λ d l. ok-fresh unwrap_or_error-fresh l))

pub block_here-fresh : Fresh block_here
unfolding block_here
block_here-fresh = fresh (λ c H. then-calm calm-position (λ _. ok-fresh (fresh-block (omega arith)) (omega arith)))

pub ok-eats : {b c : ℕ} {H J : List Slot} (token : ℕ) {p : Prog ℕ} → Ok c H (λ a. single a ∷ J) (New b) p → Ok c H (either H J) (Newer b) (eats token p)
unfolding eats
ok-eats token x = then-calm (eat-calm token) (λ _. ok-branch (ok-then x (λ a d l i. give-newer i.low i.high)) give-nothing)

pub ok-checks : {b c : ℕ} {H J : List Slot} (token : ℕ) {p : Prog ℕ} → Ok c H (λ a. single a ∷ J) (New b) p → Ok c H (either H J) (Newer b) (checks token p)
unfolding checks
ok-checks token x = then-calm (check-calm token) (λ _. ok-branch (ok-then x (λ a d l i. give-newer i.low i.high)) give-nothing)

pub eats-maybe : (token : ℕ) (p : Prog ℕ) → Fresh p → Maybe (eats token p)
eats-maybe token p x = maybe (λ c H. ok-eats token (x.fresh c H))

pub checks-maybe : (token : ℕ) (p : Prog ℕ) → Fresh p → Maybe (checks token p)
checks-maybe token p x = maybe (λ c H. ok-checks token (x.fresh c H))

pub or-maybe : {p q : Prog (Option ℕ)} → Maybe p → Maybe q → Maybe (p or_else q)
or-maybe x y = maybe (λ c H. then-maybe x (λ a d l h. give-newer l h) (λ d l. ok-maybe y l))
