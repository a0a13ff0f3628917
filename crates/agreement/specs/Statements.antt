-- Statements and blocks.
use Rattle.std.specs.Prelude.{◌≡◌, Bool, ◌||◌, eqb}
use Rattle.std.proofs.Math.Path.{refl, ap}
use Rattle.std.proofs.Common.{sym, ◌∙◌, subst, true≢false, arith, lt-ltb, eqb-true}
use Rattle.std.proofs.Math.Bool.{true, false, not}
use Rattle.std.proofs.Math.Option.{Option}
use mathlib.Core.List.{List, [], ◌∷◌, ◌++◌}
use Prim.Native.Nat.{ℕ, zero, suc, ◌+◌, ◌<◌, ◌≤◌}
use Rattle.std.proofs.Math.ListN.{length, length-append, get_or-append}
use Rattle.words.specs.Token
use Rattle.words.specs.Node
use Rattle.words.specs.Words.{node_kind, node_payload, node_head}
use Rattle.definition.specs.declared.Mode.TheVariants.{AllowAll, NoPostFixCurlyBrace}
use Rattle.definition.specs.declared.Unfinished.{Unfinished}
use Rattle.definition.specs.Prog.{Turn, again, stop, Prog, Then, Branch, Give, Loop, head_word, kind_of, first_word, end_word}
use Rattle.definition.specs.Tokens.{contains, eat, emit_unexpected, expect}
use Rattle.definition.specs.Nodes.{alloc_node_from, close_node_at, close_node, update_kind, push_child, expect_ident}
use Rattle.definition.specs.Expressions.{push_option, push_closing, eats, try_parse_expr, parse_expr}
use Rattle.definition.specs.Statements as Statements
use Rattle.definition.specs.Statements.{StmtResult, statement, end_expr_or_stmt, end_expr, requires_semi, Body, body, end_expr_turn, stmt_turn, parse_block, try_parse_stmt, comptime_stmt, let_stmt, expr_stmt, while_stmt, try_parse_while, let_flags, parse_let_stmt, return_stmt, assign_stmt}
use Rattle.definition.specs.Abstract.{Node as Store, no_node, node_at, written, word_in, new_node, World, Fate, ok, bind_a, move_to, with_store, with_link, eval_a}
use Rattle.definition.specs.Encodes.{written-length, adopted-length}
use Rattle.chart.specs.Row.{Lexeme, RowToken, token, begins}
use Rattle.chart.specs.Tree as Tree
use Rattle.chart.specs.Tree.{Value, flags, Tree, Trees, node, none, ◌▸◌, ◌⊕◌, branch, listed, flag}
use Rattle.chart.specs.Chart.{is_block_like}
use Rattle.chart.specs.Parser as Chart
use Rattle.chart.specs.Parser.{Outcome, if, on, bind, failed, read_binding_name, read_binding, read_expression, read_comptime, read_statement, read_statements, read_block, push}
use Rattle.agreement.specs.Run.{run, run_is, run_ok, turns}
use Rattle.agreement.specs.Sim.{Sim, gives, fails, sinks, Made, made, Setting, runs, Fits, eat-rule, check-rule, check-hit, check-miss, eof-rule, eof-either, expect-rule, expect-hit, expect-miss, unexpected-rule}
use Rattle.agreement.specs.Steps.{Found, found, not_found, is_flagged, flagged, root_kind, is_odd, Open, Done, Agrees, both, Blocked, One, one, call-one, alloc-rule, alloc-here, push-rule, close-branch, update-rule, expr-rule, block-rule, here-rule, no-priority}
use Rattle.agreement.specs.Leaves.{expect-ident-rule}
use Rattle.tree.specs.Stored.{said, is_name}
use Rattle.tree.specs.Grown.{size, ⊕-assoc, ⊕-none, Is, is, Old, Says, is-kept, are-kept, Built, Growing, Waiting, ahead, opened, ended, wait-ended, waits, waits-on, adopt}

-- The flags of a let are the chart's.
let-flags : (c m t : Bool) → let_flags c m t ≡ Tree.let_flags c m t
unfolding flag
let-flags true true true = refl
let-flags true true false = refl
let-flags true false true = refl
let-flags true false false = refl
let-flags false true true = refl
let-flags false true false = refl
let-flags false false true = refl
let-flags false false false = refl

-- And they fit a payload.
let-flagged : (c m t : Bool) → is_flagged Node.LetStmt (let_flags c m t) ≡ true
unfolding is_flagged is_name
let-flagged true true true = refl
let-flagged true true false = refl
let-flagged true false true = refl
let-flagged true false false = refl
let-flagged false true true = refl
let-flagged false true false = refl
let-flagged false false true = refl
let-flagged false false false = refl

-- What the chart does on a token, by whether the row begins with it.
on-either : {A : Type 0} {P : A → World → Outcome → Type 0} (f : Fate A) (K : ℕ) (xs : List RowToken) (h : Lexeme → List RowToken → Outcome) (m : Outcome)
    → ((v : Lexeme) (ys : List RowToken) → xs ≡ token K v ∷ ys → Sim P f (h v ys)) → (begins K xs ≡ false → Sim P f m) → Sim P f (on K xs h m)
unfolding on if begins
on-either f K [] h m hit miss = miss refl
on-either {P = P} f K (token kind v ∷ xs) h m hit miss = go (eqb kind K) refl
  where
    go : (b : Bool) → eqb kind K ≡ b → Sim P f (if b (h v xs) m)
    go true e = hit v xs (ap (λ (n : ℕ). token n v ∷ xs) (eqb-true kind K e))
    go false e = miss e

-- A row begins with a token of a kind, or it doesn't.
data Begun (K : ℕ) : List RowToken → Type 0 where
  here : (v : Lexeme) (ys : List RowToken) → Begun K (token K v ∷ ys)
  nowhere : {xs : List RowToken} → begins K xs ≡ false → Begun K xs

begun : (K : ℕ) (xs : List RowToken) → Begun K xs
unfolding begins
begun K [] = nowhere refl
begun K (token kind v ∷ xs) = go (eqb kind K) refl
  where
    go : (b : Bool) → eqb kind K ≡ b → Begun K (token kind v ∷ xs)
    go true e = rw (eqb-true kind K e) (here v xs)
    go false e = nowhere e

-- An expression needs a `;` as a statement unless it is like a block, but for the odd kinds.
semi_same : (kind : ℕ) (v : Value) (ts us : Trees) → is_odd kind ≡ false → requires_semi kind ≡ not (is_block_like (node kind v ts ▸ us))
unfolding is_odd requires_semi contains is_block_like
semi_same kind v ts us e = go (eqb kind Node.ComptimeBlock) (eqb kind Node.Error) (eqb kind Node.Block) (eqb kind Node.If) (eqb kind Node.Match) e
  where
    go : (a b c d f : Bool) → (a || b) ≡ false → not (a || (c || (d || (f || (b || false))))) ≡ not (c || (d || f))
    go true b c d f q = absurd (true≢false q)
    go false true c d f q = absurd (true≢false q)
    go false false true d f q = refl
    go false false false true f q = refl
    go false false false false true q = refl
    go false false false false false q = refl

module _ (s : Setting) where
  -- A tree that waits to be linked to an open node.
  abbrev pub Waits : World → World → Unfinished → ℕ → Tree → Type 0
  Waits w u x c t = Waiting s.text s.tokens w.store u.store u.values x.node c t

  -- The kind of a node that was read.
  kind-read : (w u : World) (n : ℕ) (t : Tree) → Done s w u n t → node_kind (word_in n head_word u.store) ≡ root_kind t
  unfolding root_kind
  kind-read w u n (node kind v ts) d = rw (lt-ltb n (length u.store) d.high) (go d.tree)
    where
      go : {Q : ℕ → Type 0} → Is s.text s.tokens u.store u.values Q n (node kind v ts) → node_kind (node_at u.store n).head ≡ kind
      go (is p q r m) = q

  module _ {B : Type 0} {P : B → World → Outcome → Type 0} where
    -- A node is opened after a tree was read that is to be its child.
    alloc-after : (w v : World) (k : Unfinished → World → Fate B) (start kind payload n : ℕ) {t : Tree} {xs : List RowToken} {o : Outcome} → Done s w v n t → Fits s v xs
        → ((x : Unfinished) (u : World) → x.last ≡ 0 → Open s w u x (node_head kind payload) (size t) none → Waits w u x n t → Fits s u xs → Sim P (k x u) o)
        → Sim P (runs s (alloc_node_from start kind payload) v k) o
    unfolding run alloc_node_from
    alloc-after w v k start kind payload n {t} d f h =
        let new = new_node start kind payload in
        let st = v.store ++ (new ∷ []) in
        let z : length st ≡ length v.store + 1 = length-append v.store (new ∷ []) in
        h (record { node = length v.store; last = 0 }) (with_store st v) refl
        (opened s.text s.tokens v.store v.values new d.size_is d.old d.says refl refl)
        (waits s.text s.tokens (omega arith) d (omega (arith, z)) (λ i l. get_or-append v.store (new ∷ []) no_node i (omega arith)) (λ i q y e. e) (λ i m p. omega arith))
        (record { ahead = f.ahead; room = f.room; few = f.few; born = omega (arith, z, f.born); sound = f.sound })

    -- A tree that waits is linked.
    adopt-rule : (w u : World) (k : Unfinished → World → Fate B) (x : Unfinished) (c r : ℕ) {h waiting : ℕ} {t : Tree} {ts : Trees} {xs : List RowToken} {o : Outcome} → Open s w u x h waiting ts → waiting ≡ size t + r → Waits w u x c t → x.last < c → Fits s u xs
        → (Open s w (with_link x.node x.last c u) (record { node = x.node; last = c }) h r (ts ⊕ (t ▸ none)) → Fits s (with_link x.node x.last c u) xs → Sim P (k (record { node = x.node; last = c }) (with_link x.node x.last c u)) o)
        → Sim P (runs s (push_child x c) u k) o
    unfolding run push_child
    adopt-rule w u k x c r {t = t} g e b l f h =
        let (p, m) = adopt s.text s.tokens {u = r} (rw e at g) b l in
        h p (record { ahead = f.ahead; room = f.room; few = f.few; born = rw (adopted-length x.node c u.store) f.born; sound = both _ _ f.sound m })

module _ (s : Setting) (a : Agrees s) {B : Type 0} {P : B → World → Outcome → Type 0} where
  -- A while loop, after `while`.
  pub while-rule : (w : World) (k : ℕ → World → Fate B) (c : Trees → List RowToken → Outcome) (start kind : ℕ) {xs : List RowToken} → is_flagged kind 0 ≡ true → Fits s w xs
      → ((n : ℕ) (u : World) (t : Tree) (ys : List RowToken) → Done s w u n t → Fits s u ys → length ys < length xs → Sim P (k n u) (c (t ▸ none) ys))
      → Sim P (runs s (while_stmt start kind) w k) (bind (s.rows.expr false 0 xs) (λ t ys. bind (s.rows.block ys) (λ b zs. c (branch kind 0 (t ⊕ branch Node.Block 0 b)) zs)))
  unfolding run while_stmt branch ◌⊕◌
  while-rule w k c start kind e f h =
      alloc-rule s w _ start kind 0 f (λ x u o f₁.
      expr-rule s a u _ _ NoPostFixCurlyBrace f₁ (λ n v t ys d f₂ l.
      push-rule s w u v _ x n o d f₂ (λ x₁ u₁ o₁ f₃.
      here-rule s a u₁ _ _ f₃ (λ m v₁ ts zs d₁ f₄ l₁.
      push-rule s w u₁ v₁ _ x₁ m o₁ d₁ f₄ (λ x₂ u₂ o₂ f₅.
      close-branch s w u₂ k x₂ o₂ e f₅ (λ n₁ z d₂ f₆.
      h n₁ z _ zs d₂ f₆ (omega arith)))))))

module _ (s : Setting) (a : Agrees s) where
  -- What `parse_let_stmt` does after `mut` was looked for, and after the type.
  abbrev let_end : Bool → Bool → Bool → Unfinished → Prog ℕ
  let_end comptime mutable typed x =
      Then (update_kind x Node.LetStmt (let_flags comptime mutable typed)) (λ _. Then (expect Token.Equals) (λ _. Then (parse_expr AllowAll) (λ n. Then (push_child x n) (λ y. Then (expect Token.Semicolon) (λ _. close_node y)))))

  abbrev let_rest : ℕ → Bool → Bool → Prog ℕ
  let_rest start comptime mutable =
      Then (alloc_node_from start Node.LetStmt (let_flags comptime mutable false)) (λ x. Then expect_ident (λ n. Then (push_child x n) (λ y. Then (eat Token.Colon) (λ typed.
      Then (Branch typed (Then (parse_expr AllowAll) (λ n. push_child y n)) (Give y)) (λ z. let_end comptime mutable typed z)))))

  -- The end of a let; what is built since `w` is built since `from`, where the same was stored.
  let-end : (from w u : World) (x : Unfinished) (c m typed : Bool) (h : ℕ) (ts : Trees) (xs zs : List RowToken) → ((n : ℕ) (z : World) (t : Tree) → Done s w z n t → Done s from z n t) → Open s w u x h 0 ts → Fits s u xs → length xs < length zs
      → Sim (Made (One s from zs)) (runs s (let_end c m typed x) u ok)
      (on Token.Equals xs (λ _ vs. bind (s.rows.expr true 0 vs) (λ t qs. on Token.Semicolon qs (λ _ rs. Chart.ok (branch Node.LetStmt (Tree.let_flags c m typed) (ts ⊕ t)) rs) failed)) failed)
  unfolding run branch
  let-end from w u x c m typed h ts xs zs same o f l =
      update-rule s w u _ x Node.LetStmt (let_flags c m typed) o f (λ v o₁ f₁.
      expect-rule s v _ _ refl f₁ (λ j row ys q.
      expr-rule s a (move_to (suc j) row v) _ _ AllowAll q.fit (λ n v₁ t ws d f₂ l₁.
      push-rule s w (move_to (suc j) row v) v₁ _ x n o₁ d f₂ (λ x₁ v₂ o₂ f₃.
      expect-rule s v₂ _ _ refl f₃ (λ j₁ row₁ ys₁ q₁.
      close-branch s w (move_to (suc j₁) row₁ v₂) _ x₁ o₂ (let-flagged c m typed) q₁.fit (λ n₁ z d₂ f₄.
      gives (made (one (same n₁ z _ (rw (let-flags c m typed) at d₂)) f₄ (omega (arith, q.shorter, q₁.shorter))))))))))

  -- A let after `mut`, or where there is none.
  let-rest : (from w : World) (start : ℕ) (c m : Bool) (xs zs : List RowToken) → ((n : ℕ) (z : World) (t : Tree) → Done s w z n t → Done s from z n t) → Fits s w xs → length xs ≤ length zs
      → Sim (Made (One s from zs)) (runs s (let_rest start c m) w ok) (read_binding_name s.rows c m xs)
  unfolding run read_binding_name ◌⊕◌
  let-rest from w start c m xs zs same f l =
      alloc-rule s w _ start Node.LetStmt (let_flags c m false) f (λ x u o f₁.
      expect-ident-rule s a u _ _ f₁ (λ n v j ys d f₂ l₁.
      push-rule s w u v _ x n o d f₂ (λ y z o₁ f₃.
      eat-rule s z _ _ refl f₃
      (λ j₁ row qs q. expr-rule s a (move_to (suc j₁) row z) _ _ AllowAll q.fit (λ n₁ v₁ t ws d₁ f₄ l₂.
      push-rule s w (move_to (suc j₁) row z) v₁ _ y n₁ o₁ d₁ f₄ (λ y₁ z₁ o₂ f₅.
      let-end from w z₁ y₁ c m true _ _ ws zs same o₂ f₅ (omega (arith, q.shorter)))))
      (λ _ i. let-end from w (move_to i z.row z) y c m false _ _ ys zs same o₁ f₃ (omega arith)))))

  -- A let statement.
  pub let-agrees : (w : World) (start : ℕ) (c : Bool) (xs : List RowToken) → Fits s w xs → Sim (Made (One s w xs)) (runs s (parse_let_stmt start c) w ok) (read_binding s.rows c xs)
  unfolding run parse_let_stmt read_binding
  let-agrees w start c xs f =
      eat-rule s w _ _ refl f (λ j row ys q. let-rest w (move_to (suc j) row w) start c true ys xs (λ n z t d. d) q.fit (omega (arith, q.shorter)))
      (λ _ i. let-rest w (move_to i w.row w) start c false xs xs (λ n z t d. d) f (omega arith))

module _ (s : Setting) (a : Agrees s) {B : Type 0} {P : B → World → Outcome → Type 0} where
  -- A return statement.
  pub return-rule : (w : World) (k : StmtResult → World → Fate B) (c : Trees → List RowToken → Outcome) (start : ℕ) {xs : List RowToken} → Fits s w xs
      → ((n : ℕ) (u : World) (t : Tree) (ys : List RowToken) → Done s w u n t → Fits s u ys → length ys < length xs → Sim P (k (statement n) u) (c (t ▸ none) ys))
      → Sim P (runs s (return_stmt start) w k) (bind (s.rows.expr true 0 xs) (λ t zs. on Token.Semicolon zs (λ _ ws. c (branch Node.ReturnStmt 0 t) ws) failed))
  unfolding run return_stmt branch ◌⊕◌ is_flagged is_name
  return-rule w k c start f h =
      alloc-rule s w _ start Node.ReturnStmt 0 f (λ x u o f₁.
      expr-rule s a u _ _ AllowAll f₁ (λ n v t ys d f₂ l.
      push-rule s w u v _ x n o d f₂ (λ x₁ u₁ o₁ f₃.
      expect-rule s u₁ _ _ refl f₃ (λ j row zs q.
      close-branch s w (move_to (suc j) row u₁) _ x₁ o₁ refl q.fit (λ n₁ z d₂ f₄.
      h n₁ z _ zs d₂ f₄ (omega (arith, q.shorter)))))))

  -- An assignment, its left side read.
  pub assign-rule : (w v : World) (k : StmtResult → World → Fate B) (c : Trees → List RowToken → Outcome) (start n : ℕ) {t : Tree} {xs : List RowToken} → 0 < length w.store → Done s w v n t → Fits s v xs
      → ((m : ℕ) (u : World) (r : Tree) (ys : List RowToken) → Done s w u m r → Fits s u ys → length ys < length xs → Sim P (k (statement m) u) (c (r ▸ none) ys))
      → Sim P (runs s (assign_stmt start n) v k) (bind (s.rows.expr true 0 xs) (λ u ws. on Token.Semicolon ws (λ _ vs. c (branch Node.AssignStmt 0 ((t ▸ none) ⊕ u)) vs) failed))
  unfolding run assign_stmt branch ◌⊕◌ is_flagged is_name
  assign-rule w v k c start n {t} born d f h =
      alloc-after s w v _ start Node.AssignStmt 0 n d f (λ x u e o q f₁.
      adopt-rule s w u _ x n 0 o (omega arith) q (omega (arith, e, d.low)) f₁ (λ o₁ f₂.
      expr-rule s a (with_link x.node x.last n u) _ _ AllowAll f₂ (λ n₁ v₁ t₁ ys d₁ f₃ l.
      push-rule s w (with_link x.node x.last n u) v₁ _ (record { node = x.node; last = n }) n₁ o₁ d₁ f₃ (λ x₁ u₁ o₂ f₄.
      expect-rule s u₁ _ _ refl f₄ (λ j row zs q₁.
      close-branch s w (move_to (suc j) row u₁) _ x₁ o₂ refl q₁.fit (λ n₂ z d₂ f₅.
      h n₂ z _ zs d₂ f₅ (omega (arith, q₁.shorter))))))))

  -- A let statement, and what comes after it.
  pub let_rule : (w : World) (k : ℕ → World → Fate B) (c : Trees → List RowToken → Outcome) (start : ℕ) (comptime : Bool) (xs : List RowToken) → Fits s w xs
      → ((n : ℕ) (u : World) (t : Tree) (ys : List RowToken) → Done s w u n t → Fits s u ys → length ys < length xs → Sim P (k n u) (c (t ▸ none) ys))
      → Sim P (runs s (parse_let_stmt start comptime) w k) (bind (read_binding s.rows comptime xs) c)
  let_rule w k c start comptime xs f h = call-one s (parse_let_stmt start comptime) w k c (let-agrees s a w start comptime xs f) h

module _ (s : Setting) where
  -- What `try_parse_stmt` comes to, where the chart goes on after a statement with `c`: a statement; an expression that may close the block or
  -- be a statement; one that has to close it; nothing. The chart has looked for the `}` by then.
  pub data StatedSince (st : List Store) (values : List ℕ) (xs : List RowToken) (c : Trees → List RowToken → Outcome) : StmtResult → World → Outcome → Type 0 where
    stated : {n : ℕ} {u : World} {t : Tree} {ys : List RowToken} → Built s.text s.tokens st values u.store u.values n t → Fits s u ys → length ys < length xs
        → StatedSince st values xs c (statement n) u (c (t ▸ none) ys)
    not-closed : {n : ℕ} {u : World} {t : Tree} {ys : List RowToken} → Built s.text s.tokens st values u.store u.values n t → Fits s u ys → length ys < length xs → begins Token.RightCurly ys ≡ false
        → StatedSince st values xs c (end_expr_or_stmt n) u (c (t ▸ none) ys)
    may-close : {n : ℕ} {u : World} {t : Tree} {v : Lexeme} {ys : List RowToken} → Built s.text s.tokens st values u.store u.values n t → Fits s u (token Token.RightCurly v ∷ ys) → length ys < length xs
        → StatedSince st values xs c (end_expr_or_stmt n) u (Chart.ok (listed Node.StatementsList none (t ▸ none)) ys)
    closes : {n : ℕ} {u : World} {t : Tree} {v : Lexeme} {ys : List RowToken} → Built s.text s.tokens st values u.store u.values n t → Fits s u (token Token.RightCurly v ∷ ys) → length ys < length xs
        → StatedSince st values xs c (end_expr n) u (Chart.ok (listed Node.StatementsList none (t ▸ none)) ys)
    unclosed : {n : ℕ} {u : World} {t : Tree} {ys : List RowToken} → Built s.text s.tokens st values u.store u.values n t → Fits s u ys → begins Token.RightCurly ys ≡ false
        → StatedSince st values xs c (end_expr n) u failed
    not-stated : {u : World} → Fits s u xs → StatedSince st values xs c Statements.nothing u failed

  abbrev pub Stated : World → List RowToken → (Trees → List RowToken → Outcome) → StmtResult → World → Outcome → Type 0
  Stated w xs c = StatedSince w.store w.values xs c

  -- The end of an expression that neither `=` nor `;` follows.
  abbrev end_of : ℕ → Prog StmtResult
  end_of n = Then (kind_of n) (λ kind. Branch (requires_semi kind) (Give (end_expr n)) (Give (end_expr_or_stmt n)))

module _ (s : Setting) (a : Agrees s) {B : Type 0} {P : B → World → Outcome → Type 0} where
  -- What ends an expression beside the chart's look at `}`.
  end-rule : (w u : World) (k : StmtResult → World → Fate B) (c : Trees → List RowToken → Outcome) (n : ℕ) (t : Tree) (xs ys : List RowToken) → Done s w u n t → is_odd (root_kind t) ≡ false → Fits s u ys → length ys < length xs
      → ((r : StmtResult) (v : World) (o : Outcome) → Stated s w xs c r v o → Sim P (k r v) o)
      → Sim P (runs s (end_of s n) u k) (on Token.RightCurly ys (λ _ zs. Chart.ok (listed Node.StatementsList none (t ▸ none)) zs) (if (is_block_like (t ▸ none)) (c (t ▸ none) ys) failed))
  unfolding run root_kind if
  end-rule w u k c n (node kind v ts) xs ys d e f l h =
      let z : requires_semi (node_kind (word_in n head_word u.store)) ≡ not (is_block_like (node kind v ts ▸ none)) = rw (kind-read s w u n (node kind v ts) d) (semi_same kind v ts none e) in
      rw (z, run) (on-either _ Token.RightCurly ys _ _ (λ v₁ zs q. hit v₁ zs q (is_block_like (node kind v ts ▸ none))) (λ q. miss q (is_block_like (node kind v ts ▸ none))))
    where
      hit : (y : Lexeme) (zs : List RowToken) → ys ≡ token Token.RightCurly y ∷ zs → (b : Bool)
          → Sim P (elim (not b) [ true ↦ k (end_expr n) u | false ↦ k (end_expr_or_stmt n) u ]) (Chart.ok (listed Node.StatementsList none (node kind v ts ▸ none)) zs)
      hit y zs q true = h _ _ _ (may-close d (rw q at f) (let e : length ys ≡ suc (length zs) = ap length q in omega arith))
      hit y zs q false = h _ _ _ (closes d (rw q at f) (let e : length ys ≡ suc (length zs) = ap length q in omega arith))

      miss : begins Token.RightCurly ys ≡ false → (b : Bool) → Sim P (elim (not b) [ true ↦ k (end_expr n) u | false ↦ k (end_expr_or_stmt n) u ]) (if b (c (node kind v ts ▸ none) ys) failed)
      miss q true = h _ _ _ (not-closed d f l q)
      miss q false = h _ _ _ (unclosed d f q)

  -- An expression at the start of a statement, and what follows it.
  expr-stmt : (w : World) (k : StmtResult → World → Fate B) (c : Trees → List RowToken → Outcome) (start : ℕ) (xs : List RowToken) → Fits s w xs → begins Token.Comptime xs ≡ false
      → ((r : StmtResult) (v : World) (o : Outcome) → Stated s w xs c r v o → Sim P (k r v) o)
      → Sim P (runs s (expr_stmt start) w k) (read_expression s.rows xs c)
  unfolding run expr_stmt read_expression try_parse_expr bind
  expr-stmt w k c start xs f e h = go (a.exprs AllowAll 0 0 w xs no-priority f)
    where
      go : {v : Fate (Option ℕ)} {o : Outcome} → Sim (Found s w xs) v o → Sim P (bind_a v (λ found u. runs s (elim found [
        | Option.none ↦ Give Statements.nothing
        | Option.some n ↦ Then (eat Token.Equals) (λ b. Branch b (assign_stmt start n) (Then (eat Token.Semicolon) (λ b'. Branch b' (Give (statement n)) (end_of s n))))
      ]) u k)) (bind o (λ t ys.
          on Token.Equals ys (λ _ zs. bind (s.rows.expr true 0 zs) (λ u ws. on Token.Semicolon ws (λ _ vs. c (branch Node.AssignStmt 0 (t ⊕ u)) vs) failed))
          (on Token.Semicolon ys (λ _ zs. c t zs)
          (on Token.RightCurly ys (λ _ zs. Chart.ok (listed Node.StatementsList none t) zs)
          (if (is_block_like t) (c t ys) failed)))))
      go (gives (found {n} {u} {t} {ys} d g l odd)) =
          eat-rule s u _ _ refl g
          (λ j row zs q. assign-rule s a w (move_to (suc j) row u) k c start n f.born d q.fit (λ m v r ws d₁ f₁ l₁. h _ _ _ (stated d₁ f₁ (omega (arith, q.shorter)))))
          (λ _ i. eat-rule s (move_to i u.row u) _ _ refl g
          (λ j row zs q. h _ _ _ (stated d q.fit (omega (arith, q.shorter))))
          (λ _ i₁. end-rule w (move_to i₁ u.row u) k c n t xs ys d (odd e) g l h))
      go (gives (not_found i)) = h _ _ _ (not-stated f)
      go fails = fails
      go sinks = sinks

  -- `comptime` and a block.
  comptime-block : (w : World) (k : StmtResult → World → Fate B) (c : Trees → List RowToken → Outcome) (start : ℕ) (v : Lexeme) (xs zs : List RowToken) → Fits s w (token Token.LeftCurly v ∷ zs) → suc (length zs) ≤ length xs
      → ((r : StmtResult) (u : World) (o : Outcome) → Stated s w xs c r u o → Sim P (k r u) o)
      → Sim P (runs s (comptime_stmt start) w k) (read_comptime s.rows (token Token.LeftCurly v ∷ zs) c)
  unfolding run comptime_stmt read_comptime on if begins branch is_flagged is_name
  comptime-block w k c start v xs zs f l h =
      check-hit s w _ f refl (λ i.
      block-rule s a (move_to i w.row w) _ _ start Node.ComptimeBlock refl f (λ n u ts ys d f₁ l₁.
      eat-rule s u _ _ refl f₁
      (λ j row ws q. h _ _ _ (stated d q.fit (omega (arith, q.shorter))))
      (λ _ i₁. on-either _ Token.RightCurly ys _ _
      (λ y ws q. h _ _ _ (may-close d (rw q at f₁) (let e : length ys ≡ suc (length ws) = ap length q in omega arith)))
      (λ q. h _ _ _ (not-closed d f₁ (omega arith) q)))))

  -- `comptime` and no block.
  comptime-other : (w : World) (k : StmtResult → World → Fate B) (c : Trees → List RowToken → Outcome) (start : ℕ) (xs zs : List RowToken) → Fits s w zs → length zs ≤ length xs → begins Token.LeftCurly zs ≡ false
      → ((r : StmtResult) (u : World) (o : Outcome) → Stated s w xs c r u o → Sim P (k r u) o)
      → Sim P (runs s (comptime_stmt start) w k) (read_comptime s.rows zs c)
  unfolding run comptime_stmt read_comptime let_stmt if
  comptime-other w k c start xs zs f l e h =
      check-miss s w _ Token.LeftCurly refl f e (λ i.
      eat-rule s (move_to i w.row w) _ _ refl f
      (λ j row ws q. let_rule s a (move_to (suc j) row w) _ _ start true ws q.fit (λ n u t vs d f₁ l₁. h _ _ _ (stated d f₁ (omega (arith, q.shorter)))))
      (λ _ i₁. rw e (unexpected-rule s (move_to i₁ w.row w) _ f)))

  -- What follows `comptime`.
  comptime-rule : (w : World) (k : StmtResult → World → Fate B) (c : Trees → List RowToken → Outcome) (start : ℕ) (xs ys : List RowToken) → Fits s w ys → length ys ≤ length xs
      → ((r : StmtResult) (u : World) (o : Outcome) → Stated s w xs c r u o → Sim P (k r u) o)
      → Sim P (runs s (comptime_stmt start) w k) (read_comptime s.rows ys c)
  comptime-rule w k c start xs ys f l h = go ys f l (begun Token.LeftCurly ys)
    where
      go : (zs : List RowToken) → Fits s w zs → length zs ≤ length xs → Begun Token.LeftCurly zs → Sim P (runs s (comptime_stmt start) w k) (read_comptime s.rows zs c)
      go zs g m (here v ws) = comptime-block w k c start v xs ws g m h
      go zs g m (nowhere e) = comptime-other w k c start xs zs g m e h

  -- A statement, or an expression that may close the block.
  pub stmt-rule : (w : World) (k : StmtResult → World → Fate B) (c : Trees → List RowToken → Outcome) (xs : List RowToken) → Fits s w xs
      → ((r : StmtResult) (u : World) (o : Outcome) → Stated s w xs c r u o → Sim P (k r u) o)
      → Sim P (runs s try_parse_stmt w k) (read_statement s.rows xs c)
  unfolding run try_parse_stmt try_parse_while eats let_stmt read_statement is_flagged is_name
  stmt-rule w k c xs f h =
      eat-rule s w _ _ refl f
      (λ j row ys q. expect-rule s (move_to (suc j) row w) _ _ refl q.fit
      (λ j₁ row₁ zs q₁. while-rule s a (move_to (suc j₁) row₁ w) _ c w.at Node.InlineWhileStmt refl q₁.fit (λ n u t vs d f₁ l. h _ _ _ (stated d f₁ (omega (arith, q.shorter, q₁.shorter))))))
      (λ _ i. eat-rule s (move_to i w.row w) _ _ refl f
      (λ j row ys q. while-rule s a (move_to (suc j) row w) _ c w.at Node.WhileStmt refl q.fit (λ n u t vs d f₁ l. h _ _ _ (stated d f₁ (omega (arith, q.shorter)))))
      (λ _ i₁. eat-rule s (move_to i₁ w.row w) _ _ refl f
      (λ j row ys q. return-rule s a (move_to (suc j) row w) _ c w.at q.fit (λ n u t vs d f₁ l. h _ _ _ (stated d f₁ (omega (arith, q.shorter)))))
      (λ _ i₂. eat-rule s (move_to i₂ w.row w) _ _ refl f
      (λ j row ys q. comptime-rule (move_to (suc j) row w) _ c w.at xs ys q.fit (omega (arith, q.shorter)) h)
      (λ e i₃. eat-rule s (move_to i₃ w.row w) _ _ refl f
      (λ j row ys q. let_rule s a (move_to (suc j) row w) _ _ w.at false ys q.fit (λ n u t vs d f₁ l. h _ _ _ (stated d f₁ (omega (arith, q.shorter)))))
      (λ _ i₄. expr-stmt (move_to i₄ w.row w) k c w.at xs f e h)))))

-- Trees that wait, where more is written.
module _ (text tokens : List ℕ) where
  -- Another reader has run since.
  waits-later : {st cur now : List Store} {more most : List ℕ} {p c : ℕ} {t : Tree} → length cur ≤ length now → Old text tokens cur now → Says text tokens more most → Waiting text tokens st cur more p c t → Waiting text tokens st now most p c t
  waits-later {p = p} {c = c} l o says w =
      record {
        low = w.low;
        high = omega (arith, w.high);
        root = ap (λ (x : Store). x.own) (o c w.high) ∙ w.root;
        apart = w.apart;
        tree = is-kept text tokens w.tree (record {
          within = λ i x. (x.0, omega (arith, x.1), x.2);
          head = λ i x. ap (λ (y : Store). y.head) (o i x.1);
          kids = λ i x. ap (λ (y : Store). y.kids) (o i x.1);
          says = says;
        });
      }

  -- What was read after a node was opened waits for it.
  young-waits : {st cur now : List Store} {values more most : List ℕ} {p l h u c : ℕ} {t : Tree} {ts : Trees} → Growing text tokens st values cur more p l h u ts → Built text tokens cur more now most c t → Waiting text tokens st now most p c t
  young-waits g b = waits text tokens (omega (arith, g.low, g.high)) b (omega arith) (λ i l. refl) (λ k q v x. x) (λ i m p. omega (arith, g.high))

  -- What waits for a node waits for an older one as well.
  waits-under : {base st cur : List Store} {more : List ℕ} {p q c : ℕ} {t : Tree} → length base ≤ length st → p < length st → Waiting text tokens st cur more q c t → Waiting text tokens base cur more p c t
  waits-under l h w =
      record {
        low = omega (arith, w.low);
        high = w.high;
        root = w.root;
        apart = omega (arith, w.low);
        tree = is-kept text tokens w.tree (record {
          within = λ i x. (omega (arith, x.0), x.1, omega (arith, x.0));
          head = λ i x. refl;
          kids = λ i x. refl;
          says = λ k q v x. x;
        });
      }

  -- An open node that is as it is to be waits for an older one.
  open-waits : {base st cur : List Store} {values more : List ℕ} {p n l h u : ℕ} {ts : Trees} {v : Value} → length base ≤ length st → p < length st → Growing text tokens st values cur more n l h u ts
      → said text tokens more (node_kind h) (node_payload h) ≡ Option.some v → Waiting text tokens base cur more p n (node (node_kind h) v ts)
  open-waits {n = n} {ts = ts} {v = v} l q g e =
      record {
        low = omega (arith, g.low);
        high = g.high;
        root = g.root;
        apart = omega (arith, g.low);
        tree = is {n = n} {v = v} {ts = ts} (omega (arith, g.low), g.high, omega (arith, g.low)) (ap node_kind g.head) (rw g.head e)
            (are-kept text tokens g.kids (record { within = λ i x. (omega (arith, x.0), x.1, omega (arith, x.0)); head = λ i x. refl; kids = λ i x. refl; says = λ k q v x. x }));
      }

module _ (s : Setting) where
  -- The list of statements so far, and an expression that waits to be one of them or to close the block.
  pub data HeldSince (st : List Store) (values : List ℕ) (cur : List Store) (more : List ℕ) (x : Unfinished) (h : ℕ) (ts : Trees) : Option ℕ → Trees → Type 0 where
    idle : Growing s.text s.tokens st values cur more x.node x.last h 0 ts → HeldSince st values cur more x h ts Option.none none
    held : {c : ℕ} {t : Tree} → Growing s.text s.tokens st values cur more x.node x.last h (size t) ts → Waiting s.text s.tokens st cur more x.node c t → (x.last < c) × (x.node < c)
        → HeldSince st values cur more x h ts (Option.some c) (t ▸ none)

  abbrev pub Held : World → World → Unfinished → ℕ → Trees → Option ℕ → Trees → Type 0
  Held w u x h ts closing after = HeldSince w.store w.values u.store u.values x h ts closing after

  -- A statement was read: an expression that waited is linked, and the statement waits.
  settle-rule : {B : Type 0} {P : B → World → Outcome → Type 0} (w u v : World) (k : Unfinished → World → Fate B) (x : Unfinished) (closing : Option ℕ) (c h : ℕ) (ts after : Trees) {t : Tree} {xs : List RowToken} {o : Outcome}
      → Held w u x h ts closing after → Done s u v c t → Fits s v xs
      → ((y : Unfinished) (z : World) → Open s w z y h (size t) (ts ⊕ after) → Waits s w z y c t → (y.last < c) × (y.node < c) → Fits s z xs → Sim P (k y z) o)
      → Sim P (runs s (push_option x closing) v k) o
  unfolding run push_option
  settle-rule w u v k x _ c h ts _ {t} (idle g) d f next =
      next x v (rw (⊕-none ts) (ahead s.text s.tokens (omega (arith, d.size_is)) d.old d.says (omega (arith, g.size_is, d.size_is)) g)) (young-waits s.text s.tokens g d) (omega (arith, g.below, d.low), omega (arith, g.high, d.low)) f
  settle-rule w u v k x _ c h ts _ {t} (held {c = c₁} {t = t₁} g q l) d f next =
      adopt-rule s w v k x c₁ (size t)
      (ahead s.text s.tokens {waits = size t₁ + size t} (omega (arith, d.size_is)) d.old d.says (omega (arith, g.size_is, d.size_is)) g) refl
      (waits-later s.text s.tokens (omega (arith, d.size_is)) d.old d.says q) l.0 f (λ o f₁.
      next (record { node = x.node; last = c₁ }) (with_link x.node x.last c₁ v) o (waits-on s.text s.tokens c₁ (omega (arith, q.high, d.low)) (young-waits s.text s.tokens g d)) (omega (arith, q.high, d.low), omega (arith, g.high, d.low)) f₁)

  -- Where the statements of a block end: at the `}` that the chart has passed by then; or at the end of the row, which is in no rule.
  pub data Ended (w : World) (h : ℕ) (ts : Trees) (xs : List RowToken) : Body → World → Outcome → Type 0 where
    at-curly : {b : Body} {u : World} {us after : Trees} {v : Lexeme} {ys : List RowToken} → Held w u b.list h (ts ⊕ us) b.closing after → Fits s u (token Token.RightCurly v ∷ ys) → length ys < length xs
        → Ended w h ts xs b u (Chart.ok (listed Node.StatementsList us after) ys)
    cut_off : {b : Body} {u : World} {us after : Trees} → Held w u b.list h us b.closing after → Fits s u [] → Ended w h ts xs b u failed

  -- A statement before the others.
  pushed : (w : World) (h : ℕ) (ts : Trees) (t : Tree) (xs ys : List RowToken) {f : Fate Body} {o : Outcome} → length ys ≤ length xs → Sim (Ended w h (ts ⊕ (t ▸ none)) ys) f o
      → Sim (Ended w h ts xs) f (bind o (λ b zs. Chart.ok (push (t ▸ none) b) zs))
  unfolding bind push
  pushed w h ts t xs ys l (gives (at-curly {us = us} q f m)) = gives (at-curly (rw (⊕-assoc ts (t ▸ none) us) at q) f (omega arith))
  pushed w h ts t xs ys l (gives (cut_off q f)) = gives (cut_off q f)
  pushed w h ts t xs ys l fails = fails
  pushed w h ts t xs ys l sinks = sinks

  -- Where an expression waits, no `}` is next.
  data Calm (xs : List RowToken) : Option ℕ → Type 0 where
    calm-none : Calm xs Option.none
    calm-some : {c : ℕ} → begins Token.RightCurly xs ≡ false → Calm xs (Option.some c)

  -- What a turn does once a statement was looked for; the turns after it; how one goes on to them.
  abbrev after_stmt : Body → StmtResult → Prog (Turn Body)
  after_stmt b result =
      elim result [
        | Statements.nothing ↦ Then emit_unexpected (λ _. Give (stop b))
        | statement stmt ↦ Then (push_option b.list b.closing) (λ list. Then (push_child list stmt) (λ list. Give (again (body list Option.none))))
        | end_expr_or_stmt expr ↦ Then (push_option b.list b.closing) (λ list. Give (again (body list (Option.some expr))))
        | end_expr expr ↦ Then (push_option b.list b.closing) (λ list. end_expr_turn list expr)
      ]

  abbrev loops : ℕ → Body → World → Fate Body
  loops n b u = turns (λ y v j. runs s (stmt_turn y) v j) n b u ok

  abbrev goes_on : ℕ → Turn Body → World → Fate Body
  goes_on n turn u = elim turn [ again b ↦ loops n b u | stop b ↦ ok b u ]

  -- At `}` the loop stops.
  stops : (n : ℕ) (w u : World) (x : Unfinished) (h c : ℕ) (ts : Trees) (t : Tree) (v : Lexeme) (xs ys : List RowToken) → 0 < n → Held w u x h ts (Option.some c) (t ▸ none) → Fits s u (token Token.RightCurly v ∷ ys) → length ys < length xs
      → Sim (Ended w h ts xs) (loops n (body x (Option.some c)) u) (Chart.ok (listed Node.StatementsList none (t ▸ none)) ys)
  unfolding run turns stmt_turn
  stops zero w u x h c ts t v xs ys z q f l = absurd (omega arith)
  stops (suc n) w u x h c ts t v xs ys z q f l = check-hit s u _ f refl (λ i. gives (at-curly (rw (⊕-none ts) q) f l))

  -- So a turn agrees where later turns do.
  after-rule : (n m : ℕ) (w u : World) (x : Unfinished) (h : ℕ) (ts : Trees) (closing : Option ℕ) (after : Trees) (xs : List RowToken) → length xs < suc n → Held w u x h ts closing after
      → ((u : World) (x : Unfinished) (ts : Trees) (closing : Option ℕ) (after : Trees) (ys : List RowToken) → length ys < length xs → Held w u x h ts closing after → Calm ys closing → Fits s u ys
      → Sim (Ended w h (ts ⊕ after) ys) (loops n (body x closing) u) (read_statements s.rows m ys))
      → (r : StmtResult) (v : World) (o : Outcome) → Stated s u xs (λ t ys. bind (read_statements s.rows m ys) (λ b zs. Chart.ok (push t b) zs)) r v o
      → Sim (Ended w h (ts ⊕ after) xs) (runs s (after_stmt (body x closing) r) v (λ turn z. goes_on n turn z)) o
  unfolding run end_expr_turn
  after-rule n m w u x h ts closing after xs l q ih _ _ _ (stated {n = c} {u = v} {t = t} {ys = ys} d f l₁) =
      settle-rule w u v _ x closing c h ts after q d f (λ y z o p e f₁.
      adopt-rule s w z _ y c 0 o (omega arith) p e.0 f₁ (λ o₁ f₂.
      pushed w h (ts ⊕ after) t xs ys (omega arith)
      (rw (← ⊕-none ((ts ⊕ after) ⊕ (t ▸ none))) (ih _ _ _ Option.none none ys l₁ (idle o₁) calm-none f₂))))
  after-rule n m w u x h ts closing after xs l q ih _ _ _ (not-closed {n = c} {u = v} {t = t} {ys = ys} d f l₁ miss) =
      settle-rule w u v _ x closing c h ts after q d f (λ y z o p e f₁.
      pushed w h (ts ⊕ after) t xs ys (omega arith) (ih z y (ts ⊕ after) (Option.some c) (t ▸ none) ys l₁ (held o p e) (calm-some miss) f₁))
  after-rule n m w u x h ts closing after xs l q ih _ _ _ (may-close {n = c} {u = v} {t = t} {v = y₁} {ys = ys} d f l₁) =
      settle-rule w u v _ x closing c h ts after q d f (λ y z o p e f₁.
      stops n w z y h c (ts ⊕ after) t y₁ xs ys (omega arith) (held o p e) f₁ l₁)
  after-rule n m w u x h ts closing after xs l q ih _ _ _ (closes {n = c} {u = v} {t = t} {v = y₁} {ys = ys} d f l₁) =
      settle-rule w u v _ x closing c h ts after q d f (λ y z o p e f₁.
      check-hit s z _ f₁ refl (λ i. eof-either s (move_to i z.row z) _ f₁ (λ b j. gives (at-curly (rw (⊕-none (ts ⊕ after)) (held o p e)) f₁ l₁))))
  after-rule n m w u x h ts closing after xs l q ih _ _ _ (unclosed {n = c} {u = v} {t = t} {ys = ys} d f miss) =
      settle-rule w u v _ x closing c h ts after q d f (λ y z o p e f₁.
      check-miss s z _ Token.RightCurly refl f₁ miss (λ i. eof-rule s (move_to i z.row z) _ f₁ (λ r j. gives (cut_off (held o p e) (rw r at f₁))) (λ j kind zs r. fails)))
  after-rule n m w u x h ts closing after xs l q ih _ _ _ (not-stated {u = v} f) = unexpected-rule s v _ f

  -- At `}` the list ends, and no expression waits.
  ends-here : (w u : World) (x : Unfinished) (h : ℕ) (ts : Trees) (closing : Option ℕ) (after : Trees) (v : Lexeme) (xs ys : List RowToken) → Held w u x h ts closing after → Calm xs closing → xs ≡ token Token.RightCurly v ∷ ys → Fits s u xs
      → Ended w h (ts ⊕ after) xs (body x closing) u (Chart.ok (listed Node.StatementsList none none) ys)
  unfolding begins
  ends-here w u x h ts _ _ v xs ys (idle g) c e f =
      let q : Held w u x h ((ts ⊕ none) ⊕ none) Option.none none = idle (rw (⊕-none ts, ⊕-none ts) g) in
      at-curly q (rw e at f) (let z : length xs ≡ suc (length ys) = ap length e in omega arith)
  ends-here w u x h ts _ _ v xs ys (held g q l) (calm-some miss) e f = absurd (true≢false (rw e at miss))

  -- The loop over statements.
  statements-agree : (a : Agrees s) (n m : ℕ) (w u : World) (x : Unfinished) (h : ℕ) (ts : Trees) (closing : Option ℕ) (after : Trees) (xs : List RowToken) → length xs < n → length xs < m
      → Held w u x h ts closing after → Calm xs closing → Fits s u xs → Sim (Ended w h (ts ⊕ after) xs) (loops n (body x closing) u) (read_statements s.rows m xs)
  unfolding run turns stmt_turn read_statements
  statements-agree a zero m w u x h ts closing after xs l l₁ q c f = absurd (omega arith)
  statements-agree a (suc n) zero w u x h ts closing after xs l l₁ q c f = absurd (omega arith)
  statements-agree a (suc n) (suc m) w u x h ts closing after xs l l₁ q c f =
      check-rule s u _ _ refl f
      (λ j ys e. gives (ends-here w (move_to j u.row u) x h ts closing after _ xs ys q c e f))
      (λ _ i. stmt-rule s a (move_to i u.row u) _ _ xs f
      (after-rule n m w (move_to i u.row u) x h ts closing after xs l q
      (λ u₁ x₁ ts₁ closing₁ after₁ ys l₂ q₁ c₁ f₁. statements-agree a n m w u₁ x₁ h ts₁ closing₁ after₁ ys (omega arith) (omega arith) q₁ c₁ f₁)))

  -- A program whose agreement is known, and what comes after it beside the same outcome.
  follow : {A B : Type 0} {Q : A → World → Outcome → Type 0} {P : B → World → Outcome → Type 0} (p : Prog A) (w : World) (k : A → World → Fate B) {o : Outcome} → Sim Q (runs s p w ok) o
      → ((b : A) (u : World) → Q b u o → Sim P (k b u) o) → Sim P (runs s p w k) o
  follow {A} {B} {Q} {P} p w k {o} h g =
      let e : runs s p w ok ≡ eval_a s.text s.tokens s.end s.bound s.readers p w = run_ok s.text s.tokens s.end s.bound s.readers p w in
      let q : runs s {A = A} {B = B} p w k ≡ bind_a (eval_a s.text s.tokens s.end s.bound s.readers p w) k = run_is s.text s.tokens s.end s.bound s.readers p w k in
      subst (λ f. Sim P f o) (sym q) (go (rw e at h) g)
    where
      go : {f : Fate A} {r : Outcome} → Sim Q f r → ((b : A) (u : World) → Q b u r → Sim P (k b u) r) → Sim P (bind_a f k) r
      go (gives x) j = j _ _ x
      go fails j = fails
      go sinks j = sinks

  -- The end of a node is set: all that is ahead stays.
  ended-fit : (u : World) (n e : ℕ) {xs : List RowToken} → Fits s u xs → Fits s (with_store (written n end_word e u.store) u) xs
  ended-fit u n e f = record { ahead = f.ahead; room = f.room; few = f.few; born = rw (written-length n end_word e u.store) f.born; sound = f.sound }

  -- The list is closed and linked to its block, and after it a closing expression.
  abbrev sealed : Unfinished → Unfinished → Option ℕ → Prog Unfinished
  sealed p x closing = Then (close_node x) (λ n. Then (push_child p n) (λ y. push_closing y n closing))

  -- Where there is one.
  seal-held : {B : Type 0} {P : B → World → Outcome → Type 0} (w u v : World) (k : Unfinished → World → Fate B) (p x : Unfinished) (h : ℕ) (us : Trees) (c : ℕ) (t : Tree) {xs : List RowToken} {o : Outcome}
      → Open s w u p h 0 none → Open s u v x (node_head Node.StatementsList 0) (size t) us → Waits s u v x c t → x.node < c → Fits s v xs
      → ((y : Unfinished) (z : World) → Open s w z y h 0 (listed Node.StatementsList us (t ▸ none)) → Fits s z xs → Sim P (k y z) o)
      → Sim P (runs s (sealed p x (Option.some c)) v k) o
  unfolding run close_node close_node_at push_closing ◌⊕◌ size is_flagged is_name
  seal-held w u v k p x h us c t o g q l f next =
      let tree = node Node.StatementsList (flags 0) us in
      let says = flagged s.text s.tokens v.values Node.StatementsList 0 refl in
      let since : length w.store ≤ length u.store = omega (arith, o.size_is) in
      let list : Waits s w v p x.node tree = rw says.kind-is at (open-waits s.text s.tokens {base = w.store} since o.high g says.says) in
      let expr : Waits s w v p c t = waits-under s.text s.tokens since o.high q in
      let block : Open s w v p h (size tree + size t) none = ahead s.text s.tokens (omega (arith, g.size_is)) g.old g.says (omega (arith, o.size_is, g.size_is)) o in
      let v₁ = with_store (written x.node end_word v.at v.store) v in
      let low : length w.store ≤ x.node = omega (arith, g.low) in
      adopt-rule s w v₁ (λ y z. runs s (push_closing y x.node (Option.some c)) z k) p x.node (size t) (ended s.text s.tokens x.node v.at low block) refl (wait-ended s.text s.tokens x.node v.at list) (omega (arith, o.below, g.low)) (ended-fit v x.node v.at f) (λ o₁ f₁.
      let v₂ = with_link p.node p.last x.node v₁ in
      let e = word_in c first_word v₂.store in
      adopt-rule s w (with_store (written x.node end_word e v₂.store) v₂) k (record { node = p.node; last = x.node }) c 0 (ended s.text s.tokens x.node e low o₁) (omega arith)
      (wait-ended s.text s.tokens x.node e (waits-on s.text s.tokens x.node (omega arith) (wait-ended s.text s.tokens x.node v.at expr))) l (ended-fit v₂ x.node e f₁) (λ o₂ f₂.
      next _ _ o₂ f₂))

  -- Whether there is one or not.
  seal-rule : {B : Type 0} {P : B → World → Outcome → Type 0} (w u v : World) (k : Unfinished → World → Fate B) (p x : Unfinished) (h : ℕ) (us : Trees) (closing : Option ℕ) (after : Trees) {xs : List RowToken} {o : Outcome}
      → Open s w u p h 0 none → Held u v x (node_head Node.StatementsList 0) us closing after → Fits s v xs
      → ((y : Unfinished) (z : World) → Open s w z y h 0 (listed Node.StatementsList us after) → Fits s z xs → Sim P (k y z) o)
      → Sim P (runs s (sealed p x closing) v k) o
  unfolding run push_closing ◌⊕◌ is_flagged is_name
  seal-rule w u v k p x h us _ _ o (idle g) f next =
      close-branch s u v _ x g refl f (λ n z d f₁.
      push-rule s w u z _ p n o d f₁ (λ y z₁ o₁ f₂. next y z₁ o₁ f₂))
  seal-rule w u v k p x h us _ _ o (held {c = c} {t = t} g q l) f next = seal-held w u v k p x h us c t o g q l.1 f next

  -- The end of a block, its statements read.
  abbrev block_end : Unfinished → Body → Prog ℕ
  block_end p b = Then (close_node b.list) (λ n. Then (push_child p n) (λ y. Then (push_closing y n b.closing) (λ z. Then (expect Token.RightCurly) (λ _. close_node z))))

  -- It agrees: `}` is there, or the row is in no rule.
  block-end : (w u : World) (p : Unfinished) (kind : ℕ) (xs ys : List RowToken) → is_flagged kind 0 ≡ true → Open s w u p (node_head kind 0) 0 none → length ys < length xs
      → (b : Body) (v : World) (o : Outcome) → Ended u (node_head Node.StatementsList 0) none ys b v o → Sim (Blocked s w kind xs) (runs s (block_end p b) v ok) o
  unfolding run ◌⊕◌ begins
  block-end w u p kind xs ys e g l _ _ _ (at-curly {b} {u = v} {us} {after} {ys = zs} q f l₁) =
      seal-rule w u v _ p b.list (node_head kind 0) us b.closing after g q f (λ y z o f₁.
      expect-hit s z _ f₁ refl (λ j row r.
      close-branch s w (move_to (suc j) row z) _ y o e r.fit (λ n z₁ d f₂. gives (made (d, f₂, omega arith)))))
  block-end w u p kind xs ys e g l _ _ _ (cut_off {b} {u = v} {us} {after} q f) =
      seal-rule w u v _ p b.list (node_head kind 0) us b.closing after g q f (λ y z o f₁. expect-miss s z _ Token.RightCurly refl f₁ refl)

module _ (s : Setting) (a : Agrees s) where
  -- `parse_block` agrees with the chart's.
  pub block : (start kind : ℕ) (w : World) (xs : List RowToken) → is_flagged kind 0 ≡ true → Fits s w xs → Sim (Blocked s w kind xs) (runs s (parse_block start kind) w ok) (read_block s.rows xs)
  unfolding run parse_block read_block ◌⊕◌
  block start kind w xs e f =
      alloc-rule s w _ start kind 0 f (λ p u o f₁.
      expect-rule s u _ _ refl f₁ (λ j row ys q.
      alloc-here s (move_to (suc j) row u) _ Node.StatementsList 0 q.fit (λ x v g f₂.
      follow s (Loop (body x Option.none) stmt_turn) v _
      (statements-agree s a s.bound (suc (length ys)) (move_to (suc j) row u) v x (node_head Node.StatementsList 0) none Option.none none ys f₂.few (omega arith) (idle g) calm-none f₂)
      (λ b z r. block-end s w (move_to (suc j) row u) p kind xs ys e o q.shorter b z _ r))))
