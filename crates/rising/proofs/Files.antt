-- The readers' programs, gone through: imports, constants, declarations, the file.
use Rattle.std.specs.Prelude.{◌≡◌, Bool, true, false, List, [], ◌∷◌, ℕ, ◌≤◌}
use Rattle.std.proofs.Math.Option.{Option, none}
use Rattle.std.proofs.Common.{arith}
use Rattle.definition.specs.declared.Unfinished.{Unfinished}
use Rattle.words.specs.Node
use Rattle.definition.specs.declared.State.{State}
use Rattle.definition.specs.Nodes.{alloc_node_from, alloc_node, close_node_at, close_node}
use Rattle.definition.specs.Prog.{Act, Then, Loop, Memory, done, Readers, eval}
use Rattle.definition.specs.Declarations.{path_turn, parse_import_group_item, Group, group_item, parse_import_group, ImportSoFar, glob_import, group_import, import_turn, import_as, parse_import_decl, parse_const_decl, no_decl, skip_unless_eof, parse_decl, decl_turn, parse_file}
use Rattle.rising.specs.Forest.{Slot, opened, filed, single, base}
use Rattle.rising.proofs.Rules.{New, Newer, nothing, newer, either, Inv, Lands, lands, bind-lands, ok-closed, calm-close_at, file-lands, Good, Ok, Calm, Fresh, Turns, Goes, goes, ends, turned, ok-swap, ok-then, then-calm, ok-give, ok-branch, calm-peek, calm_pass, calm-position, calm-here, calm-before, calm-emit, one, later}
use Rattle.rising.proofs.Steps.{Open, open', then-alloc, then-alloc-here, then-push, then-close, then-fresh, then-loop, then_turns, ok-fresh, fresh, calm-give, calm-then, calm_branch, calm-loop, calm-update_kind, fresh-block, close-new, give-new, push-open, give-open, Elem, chosen, got, left, ok-newer}
use Rattle.rising.proofs.Programs.{check-calm, eat-calm, eof-calm, emit_unexpected-calm, skip_until_decl_start-calm, expect-calm, expect_check_recovery-calm, expect_ident-fresh, parse_expr-fresh}
use Rattle.rising.proofs.Readers.{then-delimited}

path_turn-calm : (x : Unit {0}) → Calm (path_turn x)
unfolding path_turn
path_turn-calm x = calm-then (eat-calm _) (λ _. calm_branch (calm-then (check-calm _) (λ _. calm_branch (calm-then calm_pass (λ _. calm-give)) calm-give)) calm-give)

parse_import_group_item-fresh : Fresh parse_import_group_item
unfolding parse_import_group_item
parse_import_group_item-fresh =
    fresh (λ c H. then-alloc-here _ _ (omega arith) (λ u un uz.
    then-fresh expect_ident-fresh (λ a ad al ah.
    then-calm calm-before (λ _.
    then-push u a (one uz) (omega arith) (λ v vn vz.
    then-calm (check-calm _) (λ _.
    then-calm (calm_branch (calm-then (calm-loop path_turn-calm) (λ _. calm-emit)) calm-give) (λ _.
    ok-then {R = Open u.node} (then-calm (eat-calm _) (λ _.
    ok-branch (
    then-fresh expect_ident-fresh (λ b bd bl bh.
    push-open v b (later (omega arith)) (omega arith) (omega arith) (omega arith)))
    (give-open v (omega arith) (omega arith) (omega arith))))
    (λ x xd xl xi.
    close-new x (omega arith) (omega arith)))))))))

group_item-ok : {n c : ℕ} {H : List Slot} (g : Group) → Open n g.node c → Ok c (opened g.node ∷ H) (chosen (λ (x : Group). opened x.node ∷ H) g) (Elem (λ (x : Group) d. Open n x.node d) g) (group_item g)
unfolding group_item
group_item-ok g i =
    then-calm (eat-calm _) (λ _.
    ok-branch (
    then-calm calm-before (λ _.
    then-calm calm-emit (λ _.
    ok-give (got i))))
    (then-calm (check-calm _) (λ _.
    ok-branch (
    then-fresh parse_import_group_item-fresh (λ a ad al ah.
    then-push g.node a (later (omega arith)) (omega arith) (λ l ln lz.
    ok-give (got (open' (omega arith) (omega arith) (omega arith))))))
    (ok-give (left i)))))

parse_import_group-ok : {n c : ℕ} {H : List Slot} (group : Unfinished) → Open n group c → Ok c (opened group ∷ H) (λ a. single a ∷ H) (New n) (parse_import_group group)
unfolding parse_import_group
parse_import_group-ok group i =
    then-calm calm-peek (λ _.
    then-calm calm-here (λ _.
    then-delimited (λ (x : Group) d. Open _ x.node d) (λ (x : Group) G. opened x.node ∷ G) _ _ _ _ _ (λ y d l j. group_item-ok y j) i (λ g gd gl gi.
    then-calm (calm_branch calm-emit calm-give) (λ _.
    then-calm (calm_branch calm-emit calm-give) (λ _.
    then-calm (expect-calm _) (λ _.
    close-new g.node (omega arith) (omega arith)))))))

-- An import so far: its path, and the whole where it is read.
record Soar (n : ℕ) (u : Unfinished) (o : Option ℕ) (d : ℕ) : Type 0 where
  path : Open n u d
  whole : Newer n o d

-- Before it is whole.
data Partial (n : ℕ) : ImportSoFar → ℕ → Type 0 where
  partial : {path : Unfinished} {d : ℕ} → Open n path d → Partial n (record { path = path; whole = none }) d

abbrev Wide : ℕ → ImportSoFar → ℕ → Type 0
Wide n p d = Soar n p.path p.whole d

partial-wide : (n : ℕ) (p : ImportSoFar) (d : ℕ) → Partial n p d → Wide n p d
partial-wide n p d (partial o) = record { path = o; whole = nothing }

-- The path is held, or the whole in its place.
abbrev sofar : ImportSoFar → List Slot → List Slot
sofar p H = either (opened p.path ∷ H) H p.whole

glob_import-ok : {n c : ℕ} {H : List Slot} (public : Bool) (path : Unfinished) → Open n path c → Ok c (opened path ∷ H) (turned (λ (p : ImportSoFar). sofar p H)) (Turns (Partial n) (Wide n)) (glob_import public path)
unfolding glob_import
glob_import-ok public path i =
    then-calm (calm-update_kind _ _ _ (omega arith)) (λ _.
    then-calm (expect-calm _) (λ _.
    then-close path (
    ok-give (ends (record { path = i; whole = newer (omega arith) (omega arith) })))))

group_import-ok : {n c : ℕ} {H : List Slot} (public : Bool) (path : Unfinished) → Open n path c → Ok c (opened path ∷ H) (turned (λ (p : ImportSoFar). sofar p H)) (Turns (Partial n) (Wide n)) (group_import public path)
unfolding group_import
group_import-ok public path i =
    then-calm (calm-update_kind _ _ _ (omega arith)) (λ _.
    ok-then (parse_import_group-ok path i) (λ a d l j. ok-give (ends (record { path = (open' (omega arith) (omega arith) (omega arith)); whole = newer j.low j.high }))))

import_turn-ok : {n c : ℕ} {H : List Slot} (public : Bool) (p : ImportSoFar) → Partial n p c → Ok c (sofar p H) (turned (λ (p : ImportSoFar). sofar p H)) (Turns (Partial n) (Wide n)) (import_turn public p)
unfolding import_turn
import_turn-ok public p (partial {path} i) =
    then-calm (eat-calm _) (λ _.
    ok-branch (
    then-calm (eat-calm _) (λ _.
    ok-branch (
    glob_import-ok public path i)
    (then-calm (check-calm _) (λ _.
    ok-branch (
    group_import-ok public path i)
    (then-fresh expect_ident-fresh (λ a ad al ah.
    then-push path a (later (omega arith)) (omega arith) (λ l ln lz.
    ok-give (goes (partial (open' (omega arith) (omega arith) (omega arith)))))))))))
    (ok-give (ends (record { path = i; whole = nothing }))))

import_as-ok : {b n c : ℕ} {H : List Slot} (start : ℕ) (public : Bool) (path : Unfinished) → Open n path c → b ≤ c → Ok c (opened path ∷ H) (λ a. single a ∷ H) (New b) (import_as start public path)
unfolding import_as
import_as-ok start public path i l =
    then-calm (calm-update_kind _ _ _ (omega arith)) (λ _.
    then-close path (
    then-alloc _ _ _ (omega arith) (λ u un uz.
    ok-swap (then-push u path.node (one uz) (omega arith) (λ v vn vz.
    then-calm (expect-calm _) (λ _.
    then-fresh expect_ident-fresh (λ a ad al ah.
    then-push v a (later (omega arith)) (omega arith) (λ w wn wz.
    then-calm (expect-calm _) (λ _.
    close-new w (omega arith) (omega arith))))))))))

parse_import_decl-fresh : (start : ℕ) (public : Bool) → Fresh (parse_import_decl start public)
unfolding parse_import_decl
parse_import_decl-fresh start public =
    fresh (λ c H. then-alloc _ _ _ (omega arith) (λ u un uz.
    then-fresh expect_ident-fresh (λ a ad al ah.
    then-push u a (one uz) (omega arith) (λ v vn vz.
    then_turns (Partial u.node) (Wide u.node) sofar (partial-wide u.node) (λ y d l i. import_turn-ok public y i) (partial (open' (omega arith) (omega arith) (omega arith))) (λ p pd pl pi.
    ok-newer p.whole pi.whole (λ x l h. give-new (omega arith) h) (then-calm (eat-calm _) (λ _. ok-branch (close-new p.path (omega arith) (omega arith)) (import_as-ok start public p.path pi.path (omega arith)))))))))

parse_const_decl-fresh : (start : ℕ) → Fresh (parse_const_decl start)
unfolding parse_const_decl
parse_const_decl-fresh start =
    fresh (λ c H. then-alloc _ _ _ (omega arith) (λ u un uz.
    then-fresh expect_ident-fresh (λ a ad al ah.
    then-push u a (one uz) (omega arith) (λ v vn vz.
    ok-then {R = Open u.node} (then-calm (eat-calm _) (λ _.
    ok-branch (
    then-calm (calm-update_kind _ _ _ (omega arith)) (λ _.
    then-fresh (parse_expr-fresh _) (λ t td tl th.
    push-open v t (later (omega arith)) (omega arith) (omega arith) (omega arith))))
    (give-open v (omega arith) (omega arith) (omega arith))))
    (λ x xd xl xi.
    then-calm (expect_check_recovery-calm _ _) (λ _.
    then-fresh (parse_expr-fresh _) (λ e ed el eh.
    then-push x e (later (omega arith)) (omega arith) (λ y yn yz.
    then-calm (expect_check_recovery-calm _ _) (λ _.
    close-new y (omega arith) (omega arith))))))))))

no_decl-fresh : (start : ℕ) (skip : Act) → Calm skip → Fresh (no_decl start skip)
unfolding no_decl
no_decl-fresh start skip x = fresh (λ c H. then-calm emit_unexpected-calm (λ _. then-calm x (λ _. then-alloc _ _ _ (omega arith) (λ u un uz. close-new u (omega arith) (omega arith)))))

skip_unless_eof-calm : Calm skip_unless_eof
unfolding skip_unless_eof
skip_unless_eof-calm = calm-then eof-calm (λ _. calm_branch skip_until_decl_start-calm calm-give)

parse_decl-fresh : Fresh parse_decl
unfolding parse_decl
parse_decl-fresh =
    fresh (λ c H. then-calm calm-position (λ _.
    then-calm (eat-calm _) (λ _.
    ok-branch (
    ok-fresh (fresh-block (omega arith)) (omega arith))
    (then-calm (eat-calm _) (λ _.
    ok-branch (
    ok-fresh (fresh-block (omega arith)) (omega arith))
    (then-calm (eat-calm _) (λ _.
    ok-branch (
    ok-fresh (parse_const_decl-fresh _) (omega arith))
    (then-calm (eat-calm _) (λ _.
    ok-branch (
    then-calm (eat-calm _) (λ _.
    ok-branch (
    ok-fresh (parse_import_decl-fresh _ true) (omega arith))
    (ok-fresh (no_decl-fresh _ _ skip_unless_eof-calm) (omega arith))))
    (then-calm (eat-calm _) (λ _.
    ok-branch (
    ok-fresh (parse_import_decl-fresh _ false) (omega arith))
    (ok-fresh (no_decl-fresh _ _ skip_until_decl_start-calm) (omega arith)))))))))))))

decl_turn-ok : {n c : ℕ} {H : List Slot} (file : Unfinished) → Open n file c → Ok c (filed file ∷ H) (turned (λ v. filed v ∷ H)) (Goes (Open n)) (decl_turn file)
unfolding decl_turn
decl_turn-ok file i =
    then-calm eof-calm (λ _.
    ok-branch (
    ok-give (ends i))
    (then-fresh parse_decl-fresh (λ a ad al ah.
    then-push file a (later (omega arith)) (omega arith) (λ l ln lz.
    ok-give (goes (open' (omega arith) (omega arith) (omega arith)))))))

-- What follows File.
rest_ok : {c : ℕ} (u : Unfinished) → Open 0 u c → Ok c (filed u ∷ []) (λ a. base a ∷ []) (λ a d. a ≡ 0) (Then (Loop u decl_turn) close_node)
unfolding close_node close_node_at
rest_ok u i =
    then-loop (Open 0) (λ y G. filed y ∷ G) (λ y d l j. decl_turn-ok y j) i (λ e ed el ei.
    then-calm calm-position (λ _. then-calm calm-close_at (λ _. ok-closed (ok-give ei.same))))

-- The file, where there is no node.
pub parse_file-lands : (text tokens : List ℕ) (bound : ℕ) (r : Readers) → Good r → (s : State) (m : Memory) → s.nodes ≡ 0 → Inv m.nodes 0 [] → Lands 0 (λ a. base a ∷ []) (λ a d. a ≡ 0) (eval text tokens bound r parse_file s m)
unfolding parse_file alloc_node alloc_node_from eval
parse_file-lands text tokens bound r g s m e w =
    bind-lands _ (bind-lands {L = λ a. filed (record { node = a; last = 0 }) ∷ []} {R = λ a d. (a ≡ 0) × (d ≡ 1)} {K = λ u. filed u ∷ []} {Q = λ u d. Open 0 u d} (λ a t n. done (record { node = a; last = 0 }) t n) (file-lands s.cursor.at Node.File 0 (omega arith) text tokens bound r s m e w)
    (λ a t n d i l v q. lands d i (omega arith) v (open' q.0 (omega (arith, q.1)) (omega (arith, q.1)))))
    (λ u t n d i l v q. (rest_ok u q).run text tokens bound r g t n (omega (arith, q.made)) i v)
