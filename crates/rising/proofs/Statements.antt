-- The readers' programs, gone through: statements and blocks.
use Rattle.std.specs.Prelude.{refl, Bool, true, List, ◌∷◌, ℕ, ◌≤◌, ◌<◌}
use Rattle.std.proofs.Math.Option.{Option}
use Rattle.std.proofs.Common.{arith}
use Rattle.words.specs.Node
use Rattle.definition.specs.declared.Unfinished.{Unfinished}
use Rattle.definition.specs.Prog.{Prog, Then}
use Rattle.definition.specs.Statements.{while_stmt, statement, end_expr_or_stmt, end_expr, nothing as nothing', StmtResult, Body, body, try_parse_while, parse_let_stmt, return_stmt, let_stmt, comptime_stmt, assign_stmt, expr_stmt, try_parse_stmt, end_expr_turn, stmt_turn, parse_block}
use Rattle.rising.specs.Forest.{Slot, opened, single}
use Rattle.rising.proofs.Rules.{Ok, Fresh, Maybe, Goes, goes, ends, turned, ok-swap, ok-then, then-calm, ok-give, ok-branch, calm-peek, calm_pass, calm-position, calm-before, calm-emit, calm-kind_of, one, later}
use Rattle.rising.proofs.Steps.{Open, open', then-alloc, then-alloc-here, then-push, then-close, then-fresh, then-maybe, then-loop, ok-fresh, fresh, maybe, calm-give, calm_branch, calm-update_kind, fresh-block, close-new, give-newer, push-open, give-open, Waits, waits-on, then-option-below, then-push-list, then-closing, pair, Both, both-idle, both-waits}
use Rattle.rising.proofs.Programs.{check-calm, eat-calm, eof-calm, emit_unexpected-calm, skip_until_recovery_token-calm, expect-calm, expect_ident-fresh, try_parse_expr-maybe, parse_expr-fresh, block_here-fresh, ok-eats}

-- A statement that was read, and how it ends.
pub data Result (b : ℕ) : StmtResult → ℕ → Type 0 where
  is-statement : {a d : ℕ} → b ≤ a → a < d → Result b (statement a) d
  is-either : {a d : ℕ} → b ≤ a → a < d → Result b (end_expr_or_stmt a) d
  is-end : {a d : ℕ} → b ≤ a → a < d → Result b (end_expr a) d
  is_none : {d : ℕ} → Result b nothing' d

-- What is held then.
abbrev result : List Slot → StmtResult → List Slot
result H nothing' = H
result H (statement a) = single a ∷ H
result H (end_expr_or_stmt a) = single a ∷ H
result H (end_expr a) = single a ∷ H

then-result : {A : Type 0} {b c : ℕ} {H : List Slot} {K : A → List Slot} {Q : A → ℕ → Type 0} {p : Prog StmtResult} {f : StmtResult → Prog A} → Ok c H (result H) (Result b) p → ((d : ℕ) → c ≤ d → Ok d H K Q (f nothing')) → ((a d : ℕ) → c ≤ d → b ≤ a → a < d → Ok d (single a ∷ H) K Q (f (statement a)))
    → ((a d : ℕ) → c ≤ d → b ≤ a → a < d → Ok d (single a ∷ H) K Q (f (end_expr_or_stmt a))) → ((a d : ℕ) → c ≤ d → b ≤ a → a < d → Ok d (single a ∷ H) K Q (f (end_expr a))) → Ok c H K Q (Then p f)
then-result {A} {b} {c} {H} {K} {Q} {p} {f} x h i j k = ok-then x go
  where
    go : (r : StmtResult) (d : ℕ) → c ≤ d → Result b r d → Ok d (result H r) K Q (f r)
    go nothing' d l is_none = h d l
    go (statement a) d l (is-statement m n) = i a d l m n
    go (end_expr_or_stmt a) d l (is-either m n) = j a d l m n
    go (end_expr a) d l (is-end m n) = k a d l m n

while_stmt-fresh : (start kind : ℕ) → kind ≤ Node.Error → Fresh (while_stmt start kind)
unfolding while_stmt
while_stmt-fresh start kind k =
    fresh (λ c H. then-alloc _ _ _ k (λ u un uz.
    then-fresh (parse_expr-fresh _) (λ a ad al ah.
    then-push u a (one uz) (omega arith) (λ v vn vz.
    then-fresh block_here-fresh (λ b bd bl bh.
    then-push v b (later (omega arith)) (omega arith) (λ w wn wz.
    close-new w (omega arith) (omega arith)))))))

try_parse_while-maybe : (start : ℕ) → Maybe (try_parse_while start)
unfolding try_parse_while
try_parse_while-maybe start =
    maybe (λ c H. then-calm (eat-calm _) (λ _.
    ok-branch (
    then-calm (expect-calm _) (λ _.
    then-fresh (while_stmt-fresh start _ (omega arith)) (λ a ad al ah.
    give-newer (omega arith) (omega arith))))
    (ok-eats _ (ok-fresh (while_stmt-fresh start _ (omega arith)) (omega arith)))))

parse_let_stmt-fresh : (start : ℕ) (comptime : Bool) → Fresh (parse_let_stmt start comptime)
unfolding parse_let_stmt
parse_let_stmt-fresh start comptime =
    fresh (λ c H. then-calm (eat-calm _) (λ _.
    then-alloc _ _ _ (omega arith) (λ u un uz.
    then-fresh expect_ident-fresh (λ a ad al ah.
    then-push u a (one uz) (omega arith) (λ v vn vz.
    then-calm (eat-calm _) (λ _.
    ok-then {R = Open u.node} (ok-branch (
    then-fresh (parse_expr-fresh _) (λ t td tl th.
    push-open v t (later (omega arith)) (omega arith) (omega arith) (omega arith)))
    (give-open v (omega arith) (omega arith) (omega arith)))
    (λ x xd xl xi.
    then-calm (calm-update_kind _ _ _ (omega arith)) (λ _.
    then-calm (expect-calm _) (λ _.
    then-fresh (parse_expr-fresh _) (λ e ed el eh.
    then-push x e (later (omega arith)) (omega arith) (λ y yn yz.
    then-calm (expect-calm _) (λ _.
    close-new y (omega arith) (omega arith)))))))))))))

return_stmt-ok : {b c : ℕ} {H : List Slot} (start : ℕ) → b ≤ c → Ok c H (result H) (Result b) (return_stmt start)
unfolding return_stmt
return_stmt-ok start l =
    then-alloc _ _ _ (omega arith) (λ u un uz.
    then-fresh (parse_expr-fresh _) (λ a ad al ah.
    then-push u a (one uz) (omega arith) (λ v vn vz.
    then-calm (expect-calm _) (λ _.
    then-close v (
    ok-give (is-statement (omega arith) (omega arith)))))))

let_stmt-ok : {b c : ℕ} {H : List Slot} (start : ℕ) (comptime : Bool) → b ≤ c → Ok c H (result H) (Result b) (let_stmt start comptime)
unfolding let_stmt
let_stmt-ok start comptime l = then-fresh (parse_let_stmt-fresh start comptime) (λ a ad al ah. ok-give (is-statement (omega arith) (omega arith)))

comptime_stmt-ok : {b c : ℕ} {H : List Slot} (start : ℕ) → b ≤ c → Ok c H (result H) (Result b) (comptime_stmt start)
unfolding comptime_stmt
comptime_stmt-ok start l =
    then-calm (check-calm _) (λ _.
    ok-branch (
    then-fresh (fresh-block (omega arith)) (λ a ad al ah.
    then-calm (eat-calm _) (λ _.
    ok-branch (
    ok-give (is-statement (omega arith) (omega arith)))
    (ok-give (is-either (omega arith) (omega arith))))))
    (then-calm (eat-calm _) (λ _.
    ok-branch (
    let_stmt-ok start true l)
    (then-calm emit_unexpected-calm (λ _.
    then-calm (skip_until_recovery_token-calm _) (λ _.
    then-calm calm-peek (λ _.
    then-calm (calm_branch calm_pass calm-give) (λ _.
    then-alloc _ _ _ (omega arith) (λ u un uz.
    then-close u (
    ok-give (is-statement (omega arith) (omega arith))))))))))))

assign_stmt-ok : {b c : ℕ} {H : List Slot} (start expr : ℕ) → expr < c → b ≤ c → Ok c (single expr ∷ H) (result H) (Result b) (assign_stmt start expr)
unfolding assign_stmt
assign_stmt-ok start expr h l =
    then-alloc _ _ _ (omega arith) (λ u un uz.
    ok-swap (then-push u expr (one uz) (omega arith) (λ v vn vz.
    then-fresh (parse_expr-fresh _) (λ a ad al ah.
    then-push v a (later (omega arith)) (omega arith) (λ w wn wz.
    then-calm (expect-calm _) (λ _.
    then-close w (
    ok-give (is-statement (omega arith) (omega arith)))))))))

expr_stmt-ok : {b c : ℕ} {H : List Slot} (start : ℕ) → b ≤ c → Ok c H (result H) (Result b) (expr_stmt start)
unfolding expr_stmt
expr_stmt-ok start l =
    then-maybe (try_parse_expr-maybe _) (λ a ad al ah.
    then-calm (eat-calm _) (λ _.
    ok-branch (
    assign_stmt-ok start a ah (omega arith))
    (then-calm (eat-calm _) (λ _.
    ok-branch (
    ok-give (is-statement (omega arith) (omega arith)))
    (then-calm calm-kind_of (λ _.
    ok-branch (
    ok-give (is-end (omega arith) (omega arith)))
    (ok-give (is-either (omega arith) (omega arith)))))))))
    (λ ae am. ok-give is_none)

try_parse_stmt-ok : {b c : ℕ} {H : List Slot} → b ≤ c → Ok c H (result H) (Result b) try_parse_stmt
unfolding try_parse_stmt
try_parse_stmt-ok l =
    then-calm calm-position (λ _.
    then-maybe (try_parse_while-maybe _) (λ a d g h. ok-give (is-statement (omega arith) h)) (λ d g. then-calm (eat-calm _) (λ _.
    ok-branch (
    return_stmt-ok _ (omega arith))
    (then-calm (eat-calm _) (λ _.
    ok-branch (
    comptime_stmt-ok _ (omega arith))
    (then-calm (eat-calm _) (λ _.
    ok-branch (
    let_stmt-ok _ _ (omega arith))
    (expr_stmt-ok _ (omega arith)))))))))

end_expr_turn-ok : {n c : ℕ} {H : List Slot} (list : Unfinished) (expr : ℕ) → Open n list c → n < expr → list.last < expr → expr < c → Ok c (single expr ∷ (opened list ∷ H)) (turned (λ (b : Body). pair b.list b.closing H)) (Goes (λ (b : Body) d. Both n b.list b.closing d)) (end_expr_turn list expr)
unfolding end_expr_turn
end_expr_turn-ok list expr i l h g =
    then-calm (check-calm _) (λ _.
    then-calm eof-calm (λ _.
    ok-branch (
    ok-swap (ok-give (ends (both-waits i l h g))))
    (then-calm calm-before (λ _.
    then-calm calm-emit (λ _.
    then-push list expr (later (omega arith)) (omega arith) (λ v vn vz.
    ok-give (goes (both-idle (open' (omega arith) (omega arith) (omega arith))))))))))

stmt_turn-ok : {n c : ℕ} {H : List Slot} (list : Unfinished) (o : Option ℕ) → Open n list c → Waits n list o c → Ok c (pair list o H) (turned (λ (b : Body). pair b.list b.closing H)) (Goes (λ (b : Body) d. Both n b.list b.closing d)) (stmt_turn (body list o))
unfolding stmt_turn
stmt_turn-ok {c =
    c} list o i w = then-calm (check-calm _) (λ _.
    ok-branch (ok-give (ends (record { list = i; rest = w })))
    (then-result (try_parse_stmt-ok {b = c} (omega arith))
    (λ d l. then-calm emit_unexpected-calm (λ _. ok-give (ends (record { list = (open' (omega arith) (omega arith) (omega arith)); rest = waits-on w l }))))
    (λ a d l h g. then-option-below list o w i.last l (λ v vn vz.
    then-push v a (later (omega arith)) (omega arith) (λ x xn xz.
    ok-give (goes (both-idle (open' (omega arith) (omega arith) (omega arith)))))))
    (λ a d l h g. then-option-below list o w i.last l (λ v vn vz.
    ok-swap (ok-give (goes (both-waits (open' (omega arith) (omega arith) (omega arith)) (omega arith) (omega arith) (omega arith))))))
    (λ a d l h g. then-option-below list o w i.last l (λ v vn vz.
    end_expr_turn-ok v a (open' (omega arith) (omega arith) (omega arith)) (omega arith) (omega arith) (omega arith)))))

pub parse_block-fresh : (start kind : ℕ) → kind ≤ Node.Error → Fresh (parse_block start kind)
unfolding parse_block
parse_block-fresh start kind k =
    fresh (λ c H. then-alloc _ _ _ k (λ u un uz.
    then-calm (expect-calm _) (λ _.
    then-alloc-here _ _ (omega arith) (λ l ln lz.
    then-loop (λ (b : Body) d. Both l.node b.list b.closing d) (λ (b : Body) G. pair b.list b.closing G) (λ y d g i. stmt_turn-ok y.list y.closing i.list i.rest) (both-idle (open' refl (omega arith) (omega arith))) (λ e ed el ei.
    then-close e.list (
    then-push-list H u e.list.node e.closing (one uz) (omega arith) (λ u1 u1n u1z.
    then-closing u1 _ e.closing ei.rest (omega arith) (λ v vn.
    then-calm (expect-calm _) (λ _.
    close-new v (omega arith) (omega arith))))))))))
