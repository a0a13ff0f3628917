-- The readers' programs, gone through: expressions.
use Rattle.std.specs.Prelude.{refl, Bool, false, List, [], ◌∷◌, ℕ, ◌≤◌, ◌<◌}
use Rattle.std.proofs.Math.Option.{Option, none}
use Rattle.std.proofs.Common.{arith}
use Rattle.literals.specs.Strings.{Event, byte, report}
use Rattle.definition.specs.declared.Mode.{Mode}
use Rattle.definition.specs.declared.Unfinished.{Unfinished}
use Rattle.definition.specs.Prog.{Prog, Then}
use Rattle.definition.specs.Tokens.{Delimited, delimited_turn, parse_delimited}
use Rattle.definition.specs.Nodes.{radix_of, try_parse_num_literal}
use Rattle.definition.specs.Strings.{StringBuf, emit_events, decode_token, string_turn, try_parse_string_literal}
use Rattle.definition.specs.Expressions.{Binary, check_binary_op, unary_of, eat_unary, ◌or_else◌, unwrap_or_error, ElseIfs, else_if_branch, else_turn, conditional, try_parse_conditional, fallback_arm, keyed_arm, arm_turn, match_expr, try_parse_match, any_type, parameter_name, parse_parameter, parse_function_signature_and_body, parse_function_def, parse_method_def, parse_struct_field, Members, field_turn, method_turn, no_member_turn, member_turn, parse_struct_def, expr_element, parse_tuple_type, tuple_turn, paren_or_tuple, num_literal, eager_function, try_parse_standalone_expr, access_name, member_expr, call_expr, field_assign, struct_lit, binary_expr, binary_step, expr_turn, unary_expr, try_parse_expr_min_bp}
use Rattle.rising.specs.Forest.{Slot, opened, single}
use Rattle.rising.proofs.Rules.{New, Newer, either, Ok, Calm, Fresh, Maybe, Turns, Goes, goes, ends, turned, ok-swap, ok-under, ok-then, then-give, then-branch, then-calm, then-then, ok-give, ok-branch, ok-loop, calm-peek, calm_pass, calm-position, calm-here, calm-spelling, calm-intern, calm-emit, calm-value, one, later}
use Rattle.rising.proofs.Steps.{new, Open, open', then-alloc, then-alloc-here, then-push, then-close, then-close-at, then-fresh, then-maybe, then-loop, then_turns, ok-fresh, ok-maybe, fresh, maybe, calm-give, calm-then, calm_branch, calm-loop, calm-update_kind, maybe-expr, fresh-block, close-new, give-new, give-newer, give-nothing, push-open, give-open, Begun, push_begun, give-begun, again-open, stop-open, Elem, chosen, then-elem, got-open, left_open, calm-option, ok-option, maybe-option, then-newer, waiting, then-option-read, then-push-list, then-closing, pair, Both, both-idle, both-waits}
use Rattle.rising.proofs.Programs.{check-calm, eat-calm, eof-calm, emit_unexpected-calm, skip_until_recovery_token-calm, expect-calm, expect_check_recovery-calm, skip_trivia_start-calm, alloc_last_token_as_node-fresh, try_parse_ident-maybe, try_parse_builtin_name-maybe, expect_ident-fresh, unwrap_or_error-fresh, try_parse_expr-maybe, parse_expr-fresh, block_here-fresh, ok-eats, ok-checks, eats-maybe, checks-maybe, or-maybe}

pub check_binary_op-calm : Calm check_binary_op
unfolding check_binary_op
check_binary_op-calm = calm-then calm-peek (λ _. calm-give)

pub eat_unary-calm : Calm eat_unary
unfolding eat_unary
eat_unary-calm = calm-then calm-peek (λ token. calm-option (unary_of token) (λ _. calm-then calm_pass (λ _. calm-give)) calm-give)

pub try_parse_num_literal-calm : Calm try_parse_num_literal
unfolding try_parse_num_literal
try_parse_num_literal-calm = calm-then calm-peek (λ token. calm-option (radix_of token) (λ _. calm-then calm-spelling (λ _. calm-then calm_pass (λ _. calm-then calm-value (λ _. calm-give)))) calm-give)

pub emit_events-calm : (es : List Event) → Calm (emit_events es)
unfolding emit_events
emit_events-calm [] = calm-give
emit_events-calm (byte b ∷ es) = emit_events-calm es
emit_events-calm (report k d p ∷ es) = calm-then calm-emit (λ _. emit_events-calm es)

pub decode_token-calm : (b : StringBuf) (es : List Event) → Calm (decode_token b es)
unfolding decode_token
decode_token-calm b es = calm-then (emit_events-calm es) (λ _. calm-then calm_pass (λ _. calm-then calm-position (λ _. calm-give)))

pub string_turn-calm : (b : StringBuf) → Calm (string_turn b)
unfolding string_turn
string_turn-calm b =
    calm-then calm-peek (λ _. calm-then calm-here (λ _. calm-then calm-spelling (λ _.
    calm_branch (decode_token-calm b _) (calm_branch (decode_token-calm b _) (calm_branch (decode_token-calm b _) calm-give)))))

pub try_parse_string_literal-maybe : Maybe try_parse_string_literal
unfolding try_parse_string_literal
try_parse_string_literal-maybe =
    maybe (λ c H. then-calm skip_trivia_start-calm (λ _. then-calm (calm-loop string_turn-calm) (λ b.
    ok-option b.end (λ _. then-calm calm-value (λ _. then-alloc _ _ _ (omega arith) (λ u un uz. then-close-at u _ (give-newer (omega arith) (omega arith))))) give-nothing)))

-- ---- lists with an opening and a closing token

pub delimited_turn-ok : {S : Type 0} {c : ℕ} (I : S → ℕ → Type 0) (L : S → List Slot) (terminator delimiter : ℕ) (element : S → Prog (Option S)) (x : Delimited S) → Ok c (L x.list) (chosen L x.list) (Elem I x.list) (element x.list)
    → Ok c (L x.list) (turned (λ y. L y.list)) (Goes (λ y e. I y.list e)) (delimited_turn terminator delimiter element x)
unfolding delimited_turn
delimited_turn-ok I L terminator delimiter element x h =
    then-elem {L = L} h (λ z d l i. then-calm (eat-calm delimiter) (λ _. ok-branch (ok-give (goes i)) (ok-give (ends i))))
    (λ d l i. then-calm (check-calm terminator) (λ _. then-calm eof-calm (λ _. ok-branch (ok-give (ends i))
    (then-calm (calm_branch emit_unexpected-calm calm-give) (λ _. then-calm calm_pass (λ _. ok-give (goes i)))))))

pub then-delimited : {S B : Type 0} {c : ℕ} {H : List Slot} {K : B → List Slot} {Q : B → ℕ → Type 0} (I : S → ℕ → Type 0) (L : S → List Slot → List Slot) (opener terminator delimiter : ℕ) (element : S → Prog (Option S)) (x : S) {f : S → Prog B}
    → ((y : S) (d : ℕ) → c ≤ d → I y d → Ok d (L y H) (chosen (λ y. L y H) y) (Elem I y) (element y)) → I x c → ((y : S) (d : ℕ) → c ≤ d → I y d → Ok d (L y H) K Q (f y)) → Ok c (L x H) K Q (Then (parse_delimited opener terminator delimiter element x) f)
unfolding parse_delimited
then-delimited {H = H} I L opener terminator delimiter element x h i k =
    then-then (then-calm (expect-calm opener) (λ _. then-then (then-loop {H = H} (λ y e. I y.list e) (λ y G. L y.list G) (λ y d l j. delimited_turn-ok I (λ y. L y H) terminator delimiter element y (h y.list d l j)) i
    (λ y d l j. then-then (then-calm (expect-calm terminator) (λ _. then-give (k y.list d l j)))))))

pub ok_or : {b c : ℕ} {F G H J : List Slot} {p q : Prog (Option ℕ)} → Ok c F (either G J) (Newer b) p → ((d : ℕ) → c ≤ d → Ok d G (either H J) (Newer b) q) → Ok c F (either H J) (Newer b) (p or_else q)
ok_or x y = then-newer x (λ a d l i j. give-newer i j) y

-- No else block as yet.
data Idle (n : ℕ) : ElseIfs → ℕ → Type 0 where
  idle-at : {list : Unfinished} {d : ℕ} → Open n list d → Idle n (record { list = list; else_body = none }) d

abbrev Ifs : ℕ → ElseIfs → ℕ → Type 0
Ifs n e d = Both n e.list e.else_body d

abbrev branches : ElseIfs → List Slot → List Slot
branches e H = pair e.list e.else_body H

idle-ifs : (n : ℕ) (e : ElseIfs) (d : ℕ) → Idle n e d → Ifs n e d
idle-ifs n e d (idle-at o) = both-idle o

else_if_branch-ok : {n c : ℕ} {H : List Slot} (e : ElseIfs) (start : ℕ) → Open n e.list c → Ok c (opened e.list ∷ H) (turned (λ e. branches e H)) (Turns (Idle n) (Ifs n)) (else_if_branch e start)
unfolding else_if_branch
else_if_branch-ok e start i =
    then-alloc _ _ _ (omega arith) (λ u un uz.
    then-fresh (parse_expr-fresh _) (λ a ad al ah.
    then-push u a (one uz) (omega arith) (λ u1 u1n u1z.
    then-fresh block_here-fresh (λ b bd bl bh.
    then-push u1 b (later (omega arith)) (omega arith) (λ u2 u2n u2z.
    then-close u2 (
    then-push e.list u2.node (later (omega arith)) (omega arith) (λ l ln lz.
    ok-give (goes (idle-at (open' (omega arith) (omega arith) (omega arith)))))))))))

else_turn-ok : {n c : ℕ} {H : List Slot} (e : ElseIfs) → Idle n e c → Ok c (branches e H) (turned (λ e. branches e H)) (Turns (Idle n) (Ifs n)) (else_turn e)
unfolding else_turn
else_turn-ok e (idle-at {list} i) =
    then-calm (check-calm _) (λ _.
    ok-branch (
    then-calm calm-position (λ _.
    then-calm (expect-calm _) (λ _.
    then-calm (eat-calm _) (λ _.
    ok-branch (
    else_if_branch-ok (record { list = list; else_body = none }) _ i)
    (then-fresh block_here-fresh (λ b bd bl bh.
    ok-swap (ok-give (ends (both-waits (open' (omega arith) (omega arith) (omega arith)) (omega arith) (omega arith) (omega arith))))))))))
    (ok-give (ends (both-idle i))))

pub conditional-fresh : (start : ℕ) → Fresh (conditional start)
unfolding conditional
conditional-fresh start =
    fresh (λ c H. then-alloc _ _ _ (omega arith) (λ u un uz.
    then-fresh (parse_expr-fresh _) (λ a ad al ah.
    then-push u a (one uz) (omega arith) (λ u1 u1n u1z.
    then-fresh block_here-fresh (λ b bd bl bh.
    then-push u1 b (later (omega arith)) (omega arith) (λ u2 u2n u2z.
    then-alloc-here _ _ (omega arith) (λ l ln lz.
    then_turns (Idle l.node) (Ifs l.node) branches (idle-ifs l.node) (λ y d g i. else_turn-ok y i) (idle-at (open' refl (omega arith) (omega arith))) (λ e ed el ei.
    then-close e.list (
    then-push-list H u2 e.list.node e.else_body (later (omega arith)) (omega arith) (λ u3 u3n u3z.
    then-closing u3 _ e.else_body ei.rest (omega arith) (λ v vn.
    close-new v (omega arith) (omega arith))))))))))))

pub try_parse_conditional-maybe : Maybe try_parse_conditional
unfolding try_parse_conditional
try_parse_conditional-maybe = maybe (λ c H. then-calm calm-position (λ _. ok-eats _ (ok-fresh (conditional-fresh _) (omega arith))))

pub fallback_arm-ok : {c : ℕ} {H : List Slot} (start : ℕ) → Ok c H (λ v. opened v ∷ H) (Begun c) (fallback_arm start)
unfolding fallback_arm
fallback_arm-ok start =
    then-alloc _ _ _ (omega arith) (λ r rn rz.
    then-maybe try_parse_ident-maybe (λ m md ml mh.
    then-calm (calm-update_kind _ _ _ (omega arith)) (λ _.
    push_begun r m (one rz) (omega arith) (omega arith) (omega arith)))
    (λ me mm. give-begun r (omega arith) (omega arith) (omega arith)))

pub keyed_arm-ok : {c : ℕ} {H : List Slot} → Ok c H (λ v. opened v ∷ H) (Begun c) keyed_arm
unfolding keyed_arm
keyed_arm-ok =
    then-alloc-here _ _ (omega arith) (λ k kn kz.
    then-fresh (parse_expr-fresh _) (λ x xd xl xh.
    push_begun k x (one kz) (omega arith) (omega arith) (omega arith)))

pub arm_turn-ok : {n c : ℕ} {H : List Slot} (arms : Unfinished) → Open n arms c → Ok c (opened arms ∷ H) (turned (λ v. opened v ∷ H)) (Goes (Open n)) (arm_turn arms)
unfolding arm_turn
arm_turn-ok arms i =
    then-calm (check-calm _) (λ _.
    then-calm eof-calm (λ _.
    ok-branch (
    stop-open arms (omega arith) (omega arith) (omega arith))
    (then-calm calm-position (λ _.
    ok-then {R = Begun _} (then-calm (eat-calm _) (λ _.
    ok-branch (
    fallback_arm-ok _)
    (keyed_arm-ok)))
    (λ r rd rl ri.
    then-calm (expect-calm _) (λ _.
    then-fresh (parse_expr-fresh _) (λ b bd bl bh.
    then-push r b (later (omega arith)) (omega arith) (λ w wn wz.
    then-close w (
    then-push arms w.node (later (omega arith)) (omega arith) (λ l ln lz.
    then-calm (eat-calm _) (λ _.
    ok-branch (
    again-open l (omega arith) (omega arith) (omega arith))
    (stop-open l (omega arith) (omega arith) (omega arith)))))))))))))

pub match_expr-fresh : (start : ℕ) → Fresh (match_expr start)
unfolding match_expr
match_expr-fresh start =
    fresh (λ c H. then-alloc _ _ _ (omega arith) (λ u un uz.
    then-fresh (parse_expr-fresh _) (λ a ad al ah.
    then-push u a (one uz) (omega arith) (λ u1 u1n u1z.
    then-alloc-here _ _ (omega arith) (λ l ln lz.
    then-calm (expect-calm _) (λ _.
    then-loop (Open l.node) (λ y G. opened y ∷ G) (λ y d g i. arm_turn-ok y i) (open' refl (omega arith) (omega arith)) (λ e ed el ei.
    then-calm (expect-calm _) (λ _.
    then-close e (
    then-push u1 e.node (later (omega arith)) (omega arith) (λ u2 u2n u2z.
    close-new u2 (omega arith) (omega arith)))))))))))

pub try_parse_match-maybe : Maybe try_parse_match
unfolding try_parse_match
try_parse_match-maybe = maybe (λ c H. then-calm calm-position (λ _. ok-eats _ (ok-fresh (match_expr-fresh _) (omega arith))))

pub any_type-fresh : Fresh any_type
unfolding any_type
any_type-fresh =
    fresh (λ c H. then-calm calm-position (λ _.
    then-calm (expect-calm _) (λ _.
    then-calm (expect-calm _) (λ _.
    ok-branch (
    then-calm calm-intern (λ _.
    then-alloc _ _ _ (omega arith) (λ u un uz.
    close-new u (omega arith) (omega arith))))
    (then-alloc _ _ _ (omega arith) (λ u un uz.
    close-new u (omega arith) (omega arith)))))))

pub parse_parameter-ok : {n c : ℕ} {H : List Slot} (list : Unfinished) → Open n list c → Ok c (opened list ∷ H) (chosen (λ v. opened v ∷ H) list) (Elem (Open n) list) (parse_parameter list)
unfolding parse_parameter parameter_name
parse_parameter-ok list i =
    then-then (then-calm calm-position (λ _.
    then-then (then-calm (eat-calm _) (λ _.
    then-branch (
    then-then (then-alloc _ _ _ (omega arith) (λ p pn pz.
    then-then (then-fresh expect_ident-fresh (λ a ad al ah.
    then-then (then-push p a (one pz) (omega arith) (λ q qn qz.
    then-give (then-calm (expect-calm _) (λ _.
    then-then (then-calm (check-calm _) (λ _.
    then-branch (
    then-fresh any_type-fresh (λ t td tl th.
    then-push q t (later (omega arith)) (omega arith) (λ q1 q1n q1z.
    then-close q1 (
    then-push list q1.node (later (omega arith)) (omega arith) (λ l ln lz.
    got-open list l (omega arith) (omega arith) (omega arith))))))
    (then-fresh (parse_expr-fresh _) (λ t td tl th.
    then-push q t (later (omega arith)) (omega arith) (λ q1 q1n q1z.
    then-close q1 (
    then-push list q1.node (later (omega arith)) (omega arith) (λ l ln lz.
    got-open list l (omega arith) (omega arith) (omega arith)))))))))))))))))
    (then-then (then-calm (eat-calm _) (λ _.
    then-branch (
    then-then (then-alloc _ _ _ (omega arith) (λ p pn pz.
    then-then (then-calm calm-intern (λ _.
    then-then (then-fresh (alloc_last_token_as_node-fresh _ _ (omega arith)) (λ a ad al ah.
    then-then (then-push p a (one pz) (omega arith) (λ q qn qz.
    then-give (then-calm (expect-calm _) (λ _.
    then-then (then-calm (check-calm _) (λ _.
    then-branch (
    then-fresh any_type-fresh (λ t td tl th.
    then-push q t (later (omega arith)) (omega arith) (λ q1 q1n q1z.
    then-close q1 (
    then-push list q1.node (later (omega arith)) (omega arith) (λ l ln lz.
    got-open list l (omega arith) (omega arith) (omega arith))))))
    (then-fresh (parse_expr-fresh _) (λ t td tl th.
    then-push q t (later (omega arith)) (omega arith) (λ q1 q1n q1z.
    then-close q1 (
    then-push list q1.node (later (omega arith)) (omega arith) (λ l ln lz.
    got-open list l (omega arith) (omega arith) (omega arith)))))))))))))))))))
    (then-give (left_open list (omega arith) (omega arith) (omega arith))))))))))

pub parse_function_signature_and_body-ok : {n c : ℕ} {H : List Slot} (u : Unfinished) → Open n u c → Ok c (opened u ∷ H) (λ v. opened v ∷ H) (Open n) (parse_function_signature_and_body u)
unfolding parse_function_signature_and_body
parse_function_signature_and_body-ok u i =
    then-alloc-here _ _ (omega arith) (λ l ln lz.
    then-delimited (Open l.node) (λ y G. opened y ∷ G) _ _ _ _ _ (λ y d g j. parse_parameter-ok y j) (open' refl (omega arith) (omega arith)) (λ e ed el ei.
    then-close e (
    then-push u e.node (later (omega arith)) (omega arith) (λ u1 u1n u1z.
    then-fresh (parse_expr-fresh _) (λ t td tl th.
    then-push u1 t (later (omega arith)) (omega arith) (λ u2 u2n u2z.
    then-fresh block_here-fresh (λ b bd bl bh.
    push-open u2 b (later (omega arith)) (omega arith) (omega arith) (omega arith))))))))

pub parse_function_def-fresh : (start : ℕ) (eager : Bool) → Fresh (parse_function_def start eager)
unfolding parse_function_def
parse_function_def-fresh start eager =
    fresh (λ c H. then-alloc _ _ _ (omega arith) (λ u un uz.
    ok-then (parse_function_signature_and_body-ok u (open' refl (omega arith) (omega arith))) (λ v vd vl vi.
    close-new v (omega arith) (omega arith))))

pub parse_method_def-fresh : Fresh parse_method_def
unfolding parse_method_def
parse_method_def-fresh =
    fresh (λ c H. then-calm calm-position (λ _.
    then-calm (eat-calm _) (λ _.
    then-calm (expect-calm _) (λ _.
    then-alloc _ _ _ (omega arith) (λ u un uz.
    then-fresh expect_ident-fresh (λ a ad al ah.
    then-push u a (one uz) (omega arith) (λ u1 u1n u1z.
    ok-then (parse_function_signature_and_body-ok u1 (open' refl (omega arith) (omega arith))) (λ v vd vl vi.
    close-new v (omega arith) (omega arith)))))))))

pub parse_struct_field-fresh : Fresh parse_struct_field
unfolding parse_struct_field
parse_struct_field-fresh =
    fresh (λ c H. then-alloc-here _ _ (omega arith) (λ u un uz.
    ok-then (try_parse_ident-maybe.maybe _ _) (λ m md ml mi.
    then-option-read {n = u.node} u m (waiting mi (omega arith) (omega arith)) (omega arith) (omega arith) (λ v vn vz.
    then-calm (expect-calm _) (λ _.
    then-fresh (parse_expr-fresh _) (λ t td tl th.
    then-push v t (later (omega arith)) (omega arith) (λ w wn wz.
    close-new w (omega arith) (omega arith))))))))

pub field_turn-ok : {n c : ℕ} {H : List Slot} (s : Members) → Open n s.body c → Ok c (opened s.body ∷ H) (turned (λ (m : Members). opened m.body ∷ H)) (Goes (λ (m : Members) d. Open n m.body d)) (field_turn s)
unfolding field_turn
field_turn-ok s i =
    then-calm (calm_branch (calm-then calm-here (λ _. calm-emit)) calm-give) (λ _.
    then-fresh parse_struct_field-fresh (λ a ad al ah.
    then-push s.body a (later (omega arith)) (omega arith) (λ b bn bz.
    then-calm calm-peek (λ _.
    ok-branch (
    ok-give (goes (open' (omega arith) (omega arith) (omega arith))))
    (then-calm (expect_check_recovery-calm _ _) (λ _.
    ok-give (goes (open' (omega arith) (omega arith) (omega arith)))))))))

pub method_turn-ok : {n c : ℕ} {H : List Slot} (s : Members) → Open n s.body c → Ok c (opened s.body ∷ H) (turned (λ (m : Members). opened m.body ∷ H)) (Goes (λ (m : Members) d. Open n m.body d)) (method_turn s)
unfolding method_turn
method_turn-ok s i =
    then-fresh parse_method_def-fresh (λ a ad al ah.
    then-push s.body a (later (omega arith)) (omega arith) (λ b bn bz.
    ok-give (goes (open' (omega arith) (omega arith) (omega arith)))))

pub no_member_turn-ok : {n c : ℕ} {H : List Slot} (s : Members) → Open n s.body c → Ok c (opened s.body ∷ H) (turned (λ (m : Members). opened m.body ∷ H)) (Goes (λ (m : Members) d. Open n m.body d)) (no_member_turn s)
unfolding no_member_turn
no_member_turn-ok s i =
    then-calm emit_unexpected-calm (λ _.
    then-alloc-here _ _ (omega arith) (λ e en ez.
    then-calm calm_pass (λ _.
    then-calm (skip_until_recovery_token-calm _) (λ _.
    then-close e (
    then-push s.body e.node (later (omega arith)) (omega arith) (λ b bn bz.
    ok-give (goes (open' (omega arith) (omega arith) (omega arith)))))))))

pub member_turn-ok : {n c : ℕ} {H : List Slot} (s : Members) → Open n s.body c → Ok c (opened s.body ∷ H) (turned (λ (m : Members). opened m.body ∷ H)) (Goes (λ (m : Members) d. Open n m.body d)) (member_turn s)
unfolding member_turn
member_turn-ok s i =
    then-calm eof-calm (λ _.
    then-calm (check-calm _) (λ _.
    ok-branch (
    ok-give (ends i))
    (then-calm (check-calm _) (λ _.
    then-calm (check-calm _) (λ _.
    ok-branch (
    method_turn-ok s i)
    (then-calm (check-calm _) (λ _.
    ok-branch (
    field_turn-ok s i)
    (no_member_turn-ok s i))))))))

pub parse_struct_def-fresh : (start : ℕ) → Fresh (parse_struct_def start)
unfolding parse_struct_def
parse_struct_def-fresh start =
    fresh (λ c H. then-alloc _ _ _ (omega arith) (λ u un uz.
    ok-then (then-calm (check-calm _) (λ _. ok-branch give-nothing ((try_parse_expr-maybe _).maybe _ _))) (λ m md ml mi.
    then-option-read {n = u.node} u m (waiting mi (omega arith) (omega arith)) (omega arith) (omega arith) (λ v vn vz.
    then-alloc-here _ _ (omega arith) (λ l ln lz.
    then-calm (expect-calm _) (λ _.
    then-loop (λ (m : Members) d. Open l.node m.body d) (λ (m : Members) G. opened m.body ∷ G) (λ y d g i. member_turn-ok y i) (open' refl (omega arith) (omega arith)) (λ s sd sl si.
    then-calm (expect-calm _) (λ _.
    then-close s.body (
    then-push v s.body.node (later (omega arith)) (omega arith) (λ w wn wz.
    close-new w (omega arith) (omega arith)))))))))))

pub expr_element-ok : {n c : ℕ} {H : List Slot} (list : Unfinished) → Open n list c → Ok c (opened list ∷ H) (chosen (λ v. opened v ∷ H) list) (Elem (Open n) list) (expr_element list)
unfolding expr_element
expr_element-ok list i =
    then-maybe (try_parse_expr-maybe _) (λ a ad al ah.
    then-push list a (later (omega arith)) (omega arith) (λ l ln lz.
    got-open list l (omega arith) (omega arith) (omega arith)))
    (λ ae am. left_open list (omega arith) (omega arith) (omega arith))

pub parse_tuple_type-fresh : (start : ℕ) → Fresh (parse_tuple_type start)
unfolding parse_tuple_type
parse_tuple_type-fresh start =
    fresh (λ c H. then-alloc _ _ _ (omega arith) (λ u un uz.
    then-delimited (Open u.node) (λ y G. opened y ∷ G) _ _ _ _ _ (λ y d g j. expr_element-ok y j) (open' refl (omega arith) (omega arith)) (λ e ed el ei.
    close-new e (omega arith) (omega arith))))

pub tuple_turn-ok : {n c : ℕ} {H : List Slot} (u : Unfinished) → Open n u c → Ok c (opened u ∷ H) (turned (λ v. opened v ∷ H)) (Goes (Open n)) (tuple_turn u)
unfolding tuple_turn
tuple_turn-ok u i =
    then-calm (check-calm _) (λ _.
    ok-branch (
    stop-open u (omega arith) (omega arith) (omega arith))
    (then-fresh (parse_expr-fresh _) (λ a ad al ah.
    then-push u a (later (omega arith)) (omega arith) (λ v vn vz.
    then-calm (eat-calm _) (λ _.
    ok-branch (
    again-open v (omega arith) (omega arith) (omega arith))
    (stop-open v (omega arith) (omega arith) (omega arith)))))))

pub paren_or_tuple-fresh : (start : ℕ) → Fresh (paren_or_tuple start)
unfolding paren_or_tuple
paren_or_tuple-fresh start =
    fresh (λ c H. then-calm (eat-calm _) (λ _.
    ok-branch (
    then-alloc _ _ _ (omega arith) (λ u un uz.
    close-new u (omega arith) (omega arith)))
    (then-alloc _ _ _ (omega arith) (λ u un uz.
    then-fresh (parse_expr-fresh _) (λ a ad al ah.
    then-push u a (one uz) (omega arith) (λ v vn vz.
    ok-then {R = Open u.node} (then-calm (eat-calm _) (λ _.
    ok-branch (
    then-calm (calm-update_kind _ _ _ (omega arith)) (λ _.
    ok-loop (Open u.node) (open' (omega arith) (omega arith) (omega arith)) (λ y d g i. tuple_turn-ok y i)))
    (give-open v (omega arith) (omega arith) (omega arith))))
    (λ w wd wl wi.
    then-calm (expect-calm _) (λ _.
    close-new w (omega arith) (omega arith)))))))))

pub num_literal-maybe : Maybe num_literal
unfolding num_literal
num_literal-maybe =
    maybe (λ c H. then-calm try_parse_num_literal-calm (λ o.
    ok-option o (λ _. then-fresh (alloc_last_token_as_node-fresh _ _ (omega arith)) (λ a d l h. give-newer l h)) give-nothing))

pub eager_function-fresh : (start : ℕ) → Fresh (eager_function start)
unfolding eager_function
eager_function-fresh start = fresh (λ c H. then-calm (expect-calm _) (λ _. ok-fresh (parse_function_def-fresh _ _) (omega arith)))

pub try_parse_standalone_expr-maybe : Maybe try_parse_standalone_expr
unfolding try_parse_standalone_expr
try_parse_standalone_expr-maybe =
    maybe (λ c H. then-calm calm-position (λ start. ok-maybe (
    or-maybe (eats-maybe _ _ (alloc_last_token_as_node-fresh _ _ (omega arith))) (
    or-maybe (eats-maybe _ _ (alloc_last_token_as_node-fresh _ _ (omega arith))) (
    or-maybe (num_literal-maybe) (
    or-maybe (try_parse_string_literal-maybe) (
    or-maybe (eats-maybe _ _ (alloc_last_token_as_node-fresh _ _ (omega arith))) (
    or-maybe (try_parse_ident-maybe) (
    or-maybe (try_parse_builtin_name-maybe) (
    or-maybe (eats-maybe _ _ (paren_or_tuple-fresh start)) (
    or-maybe (eats-maybe _ _ (fresh-block (omega arith))) (
    or-maybe (eats-maybe _ _ (eager_function-fresh start)) (
    or-maybe (eats-maybe _ _ (parse_function_def-fresh start false)) (
    or-maybe (eats-maybe _ _ (parse_struct_def-fresh start)) (
    or-maybe (eats-maybe _ _ (parse_tuple_type-fresh start)) (
    or-maybe (checks-maybe _ _ block_here-fresh) (
    or-maybe (try_parse_conditional-maybe) (try_parse_match-maybe)))))))))))))))) (omega arith)))

pub access_name-fresh : Fresh access_name
unfolding access_name
access_name-fresh =
    fresh (λ c H. then-maybe try_parse_ident-maybe (λ m md ml mh.
    give-new (omega arith) (omega arith))
    (λ me mm. then-calm emit_unexpected-calm (λ _.
    then-alloc-here _ _ (omega arith) (λ u un uz.
    then-calm calm-peek (λ _.
    then-calm (calm_branch calm_pass calm-give) (λ _.
    close-new u (omega arith) (omega arith)))))))

pub member_expr-new : {b c : ℕ} {H : List Slot} (start expr : ℕ) → expr < c → b ≤ c → Ok c (single expr ∷ H) (λ a. single a ∷ H) (New b) (member_expr start expr)
unfolding member_expr
member_expr-new start expr l g =
    then-alloc _ _ _ (omega arith) (λ u un uz.
    ok-swap (then-push u expr (one uz) (omega arith) (λ v vn vz.
    then-fresh access_name-fresh (λ a ad al ah.
    then-push v a (later (omega arith)) (omega arith) (λ w wn wz.
    close-new w (omega arith) (omega arith))))))

pub call_expr-new : {b c : ℕ} {H : List Slot} (start expr : ℕ) → expr < c → b ≤ c → Ok c (single expr ∷ H) (λ a. single a ∷ H) (New b) (call_expr start expr)
unfolding call_expr
call_expr-new start expr l g =
    then-alloc _ _ _ (omega arith) (λ u un uz.
    ok-swap (then-push u expr (one uz) (omega arith) (λ v vn vz.
    then-delimited (Open u.node) (λ y G. opened y ∷ G) _ _ _ _ _ (λ y d g j. expr_element-ok y j) (open' (omega arith) (omega arith) (omega arith)) (λ e ed el ei.
    close-new e (omega arith) (omega arith)))))

pub field_assign-ok : {n c : ℕ} {H : List Slot} (list : Unfinished) → Open n list c → Ok c (opened list ∷ H) (chosen (λ v. opened v ∷ H) list) (Elem (Open n) list) (field_assign list)
unfolding field_assign
field_assign-ok list i =
    then-calm (check-calm _) (λ _.
    ok-branch (
    then-alloc-here _ _ (omega arith) (λ u un uz.
    ok-then (try_parse_ident-maybe.maybe _ _) (λ m md ml mi.
    then-option-read {n = u.node} u m (waiting mi (omega arith) (omega arith)) (omega arith) (omega arith) (λ v vn vz.
    then-calm (expect-calm _) (λ _.
    then-fresh (parse_expr-fresh _) (λ t td tl th.
    then-push v t (later (omega arith)) (omega arith) (λ w wn wz.
    then-close w (
    then-push list w.node (later (omega arith)) (omega arith) (λ l ln lz.
    got-open list l (omega arith) (omega arith) (omega arith))))))))))
    (left_open list (omega arith) (omega arith) (omega arith)))

pub struct_lit-new : {b c : ℕ} {H : List Slot} (start expr : ℕ) → expr < c → b ≤ c → Ok c (single expr ∷ H) (λ a. single a ∷ H) (New b) (struct_lit start expr)
unfolding struct_lit
struct_lit-new start expr l g =
    then-alloc _ _ _ (omega arith) (λ u un uz.
    ok-swap (then-push u expr (one uz) (omega arith) (λ v vn vz.
    then-delimited (Open u.node) (λ y G. opened y ∷ G) _ _ _ _ _ (λ y d g j. field_assign-ok y j) (open' (omega arith) (omega arith) (omega arith)) (λ e ed el ei.
    close-new e (omega arith) (omega arith)))))

pub binary_expr-new : {b c : ℕ} {H : List Slot} (mode : Mode) (start expr : ℕ) (op : Binary) → expr < c → b ≤ c → Ok c (single expr ∷ H) (λ a. single a ∷ H) (New b) (binary_expr mode start expr op)
unfolding binary_expr unwrap_or_error
binary_expr-new mode start expr op l g =
    then-alloc-here _ _ (omega arith) (λ o on oz.
    then-calm calm_pass (λ _.
    then-close o (
    then-alloc _ _ _ (omega arith) (λ u un uz.
    ok-under (ok-swap (then-push u expr (one uz) (omega arith) (λ u1 u1n u1z.
    ok-swap (then-push u1 o.node (later (omega arith)) (omega arith) (λ u2 u2n u2z.
    then-maybe maybe-expr (λ m md ml mh.
    then-give (then-push u2 m (later (omega arith)) (omega arith) (λ w wn wz.
    close-new w (omega arith) (omega arith))))
    (λ me mm. then-fresh unwrap_or_error-fresh (λ x xd xl xh. then-push u2 x (later (omega arith)) (omega arith) (λ w wn wz.
    close-new w (omega arith) (omega arith)))))))))))))

pub binary_step-new : {b c : ℕ} {H : List Slot} (mode : Mode) (min start expr : ℕ) → expr < c → b ≤ c → Ok c (single expr ∷ H) (either (single expr ∷ H) H) (Newer b) (binary_step mode min start expr)
unfolding binary_step
binary_step-new mode min start expr l g =
    then-calm check_binary_op-calm (λ found. ok-option found (λ op. ok-branch give-nothing (ok-then (binary_expr-new mode start expr op l g) (λ a d h i. give-newer i.low i.high))) give-nothing)

pub expr_turn-ok : {b c : ℕ} {H : List Slot} (mode : Mode) (min start expr : ℕ) → New b expr c → b ≤ c → Ok c (single expr ∷ H) (turned (λ a. single a ∷ H)) (Goes (New b)) (expr_turn mode min start expr)
unfolding expr_turn
expr_turn-ok mode min start expr i g =
    then-newer (ok_or (ok-branch (ok-eats _ (member_expr-new start expr (omega arith) (omega arith))) give-nothing) (λ e2 h2. ok_or (ok-branch (ok-checks _ (call_expr-new start expr (omega arith) (omega arith))) give-nothing) (λ e1 h1. ok_or (ok-branch (ok-checks _ (struct_lit-new start expr (omega arith) (omega arith))) give-nothing) (λ e0 h0. binary_step-new mode min start expr (omega arith) (omega arith)))))
    (λ a d l h k. ok-give (goes (new h k))) (λ d l. ok-give (ends (new i.low (omega arith))))

pub unary_expr-maybe : (mode : Mode) (start op : ℕ) → Maybe (unary_expr mode start op)
unfolding unary_expr unwrap_or_error
unary_expr-maybe mode start op =
    maybe (λ c H. then-alloc _ _ _ (omega arith) (λ u un uz.
    then-maybe maybe-expr (λ m md ml mh.
    then-give (then-push u m (one uz) (omega arith) (λ w wn wz.
    then-close w (
    give-newer (omega arith) (omega arith)))))
    (λ me mm. then-fresh unwrap_or_error-fresh (λ x xd xl xh. then-push u x (one uz) (omega arith) (λ w wn wz.
    then-close w (
    give-newer (omega arith) (omega arith)))))))

pub try_parse_expr_min_bp-maybe : (mode : Mode) (min : ℕ) → Maybe (try_parse_expr_min_bp mode min)
unfolding try_parse_expr_min_bp
try_parse_expr_min_bp-maybe mode min =
    maybe (λ c H. then-calm skip_trivia_start-calm (λ start. then-calm eat_unary-calm (λ unary.
    then-maybe (maybe-option unary (λ op. unary_expr-maybe mode start op) try_parse_standalone_expr-maybe)
    (λ a d l h. then-loop (New c) (λ y G. single y ∷ G) (λ y e g i. expr_turn-ok mode min start y i (omega arith)) (new l h) (λ y e g i. give-newer i.low i.high))
    (λ d l. give-nothing))))
