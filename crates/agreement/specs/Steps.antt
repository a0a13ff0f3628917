-- The steps that make, link and close nodes, and those that read an expression or a block.
use Rattle.std.specs.Prelude.{◌≡◌, Bool, true, false, cond, not, ◌&&◌, ◌||◌, List, [], ◌∷◌, ◌++◌, ℕ, ◌+◌, ◌*◌, ◌<◌, ◌≤◌, ◌^◌, eqb, ltb, leb}
use Rattle.std.proofs.Math.Path.{refl}
use Rattle.std.proofs.Common.{sym, arith, le_of_eq, ltb-true, le-leb, le-ltb}
use Rattle.std.proofs.lemmas.Bool.{false≢true}
use Rattle.std.proofs.Math.Option.{Option}
use Rattle.std.proofs.Math.ListN.{length, length-append}
use Rattle.words.specs.Token
use Rattle.words.specs.Node
use Rattle.words.specs.Words.{node_kind, node_payload, node_head}
use Rattle.definition.specs.declared.Mode.{Mode}
use Rattle.definition.specs.declared.Unfinished.{Unfinished}
use Rattle.definition.specs.Prog.{Prog, Then, end_word, head_word, enter_expr, enter_block}
use Rattle.definition.specs.Nodes.{alloc_node_from, alloc_node, close_node_at, close_node, update_kind, push_child}
use Rattle.definition.specs.Expressions.{unwrap_or_error, try_parse_expr, parse_expr, block_here, allows_struct_literal}
use Rattle.definition.specs.Abstract.{new_node, written, World, Fate, ok, bind_a, move_to, with_store, with_link}
use Rattle.words.specs.Laws.{high-pack, low-pack}
use Rattle.definition.specs.Encodes.{written-length, adopted-length, both_true}
use Rattle.chart.specs.Row.{RowToken, begins}
use Rattle.chart.specs.Tree.{Value, flags, Tree, Trees, node, none, ◌▸◌, ◌⊕◌}
use Rattle.chart.specs.Parser.{Outcome, bind, try, nothing}
use Rattle.chart.specs.Parser as Chart
use Rattle.tree.specs.Stored.{said, is_name}
use Rattle.tree.specs.Grown.{Built, Growing, opened, closed, push, ended, rekinded}
use Rattle.utf8.specs.Bytes.{AreBytes}
use Rattle.agreement.specs.Run.{run}
use Rattle.agreement.specs.Sim.{Sim, gives, fails, sinks, Made, then, call, Setting, runs, Fits, unexpected-rule}

-- A kind whose payload is flags or an operator, where both fit their parts.
unfoldable pub is_flagged : ℕ → ℕ → Bool
is_flagged kind payload = ltb kind (2 ^ 6) && (ltb payload (2 ^ 26) && not (is_name kind || (eqb kind Node.NumLiteral || eqb kind Node.StringLiteral)))

pub record Flagged (text tokens values : List ℕ) (kind payload : ℕ) : Type 0 where
  pub kind-is : node_kind (node_head kind payload) ≡ kind
  pub says : said text tokens values (node_kind (node_head kind payload)) (node_payload (node_head kind payload)) ≡ Option.some (flags payload)

pub flagged : (text tokens values : List ℕ) (kind payload : ℕ) → is_flagged kind payload ≡ true → Flagged text tokens values kind payload
unfolding is_flagged said
flagged text tokens values kind payload e =
    let (a, f) = both_true _ _ e in
    let (b, c) = both_true _ _ f in
    let x : node_kind (node_head kind payload) ≡ kind = high-pack 26 kind payload (ltb-true _ _ a) in
    let y : node_payload (node_head kind payload) ≡ payload = low-pack 26 kind payload (ltb-true _ _ b) in
    record { kind-is = x; says = rw (x, y) (go (is_name kind) (eqb kind Node.NumLiteral) (eqb kind Node.StringLiteral) _ _ _ c) }
  where
    go : (a b d : Bool) (x y z : Option Value) → not (a || (b || d)) ≡ true → cond a x (cond b y (cond d z (Option.some (flags payload)))) ≡ Option.some (flags payload)
    go true b d x y z q = absurd (false≢true q)
    go false true d x y z q = absurd (false≢true q)
    go false false true x y z q = absurd (false≢true q)
    go false false false x y z q = refl

-- The kind of a tree.
unfoldable pub root_kind : Tree → ℕ
root_kind (node k v ts) = k

-- A kind that an expression has only where it begins with `comptime`, or never.
unfoldable pub is_odd : ℕ → Bool
is_odd kind = eqb kind Node.ComptimeBlock || eqb kind Node.Error

-- The wanted priority of `try_parse_expr_min_bp`, and the chart's level: an operator of level j has the left priority 2 j + 1.
pub record Ranked (min level : ℕ) : Type 0 where
  pub below : ltb min 21 ≡ true
  pub same : (j : ℕ) → ltb (2 * j + 1) min ≡ not (leb level j)

-- Any expression, in both.
pub no-priority : Ranked 0 0
no-priority = record { below = refl; same = λ j. rw (le-leb 0 j (omega arith), le-ltb (2 * j + 1) 0 (omega arith)) }

pub both : (a b : Bool) → a ≡ true → b ≡ true → (a && b) ≡ true
both a b e f = rw (e, f)

module _ (s : Setting) where
  -- A node that is open, with first word h; trees of `waits` nodes wait to be linked to it.
  abbrev pub Open : World → World → Unfinished → ℕ → ℕ → Trees → Type 0
  Open w u x h waits ts = Growing s.text s.tokens w.store w.values u.store u.values x.node x.last h waits ts

  -- A node that is done.
  abbrev pub Done : World → World → ℕ → Tree → Type 0
  Done w u n t = Built s.text s.tokens w.store w.values u.store u.values n t

  -- Another store, as long or longer.
  pub store-fit : (w u : World) {xs : List RowToken} → Fits s w xs → length w.store ≤ length u.store → u.values ≡ w.values → u.row ≡ w.row → u.sane ≡ w.sane → Fits s u xs
  store-fit w u f l v r s = rw (v, r, s) (record { ahead = f.ahead; room = f.room; few = f.few; born = omega (arith, f.born); sound = f.sound })

  module _ {B : Type 0} {P : B → World → Outcome → Type 0} where
    -- A node is opened; the run stands where it stood.
    pub alloc_at : (w : World) (k : Unfinished → World → Fate B) (start kind payload : ℕ) {xs : List RowToken} {o : Outcome} → Fits s w xs
        → ((x : Unfinished) (u : World) → u.at ≡ w.at → Open w u x (node_head kind payload) 0 none → Fits s u xs → Sim P (k x u) o)
        → Sim P (runs s (alloc_node_from start kind payload) w k) o
    unfolding run alloc_node_from
    alloc_at w k start kind payload f h =
        let new = new_node start kind payload in
        h (record { node = length w.store; last = 0 }) (with_store (w.store ++ (new ∷ [])) w) refl
        (opened s.text s.tokens {st = w.store} {u = 0} w.store w.values new (omega arith) (λ i l. refl) (λ a b c d. d) refl refl)
        (store-fit w (with_store (w.store ++ (new ∷ [])) w) f (omega (arith, length-append w.store (new ∷ []))) refl refl refl)

    pub alloc-rule : (w : World) (k : Unfinished → World → Fate B) (start kind payload : ℕ) {xs : List RowToken} {o : Outcome} → Fits s w xs
        → ((x : Unfinished) (u : World) → Open w u x (node_head kind payload) 0 none → Fits s u xs → Sim P (k x u) o)
        → Sim P (runs s (alloc_node_from start kind payload) w k) o
    alloc-rule w k start kind payload f h = alloc_at w k start kind payload f (λ x u e. h x u)

    pub alloc-here : (w : World) (k : Unfinished → World → Fate B) (kind payload : ℕ) {xs : List RowToken} {o : Outcome} → Fits s w xs
        → ((x : Unfinished) (u : World) → Open w u x (node_head kind payload) 0 none → Fits s u xs → Sim P (k x u) o)
        → Sim P (runs s (alloc_node kind payload) w k) o
    unfolding run alloc_node
    alloc-here w k kind payload f h = alloc-rule w k w.at kind payload f h

    -- What was just read is linked.
    pub push-rule : (w u v : World) (k : Unfinished → World → Fate B) (x : Unfinished) (c : ℕ) {h : ℕ} {ts : Trees} {t : Tree} {xs : List RowToken} {o : Outcome} → Open w u x h 0 ts → Done u v c t → Fits s v xs
        → ((y : Unfinished) (z : World) → Open w z y h 0 (ts ⊕ (t ▸ none)) → Fits s z xs → Sim P (k y z) o)
        → Sim P (runs s (push_child x c) v k) o
    unfolding run push_child
    push-rule w u v k x c g b f h =
        let (p, m) = push s.text s.tokens g b in
        h (record { node = x.node; last = c }) (with_link x.node x.last c v) p
        (record { ahead = f.ahead; room = f.room; few = f.few; born = rw (adopted-length x.node c v.store) f.born; sound = both _ _ f.sound m })

    -- The node is closed at a token number, where its first word says something.
    pub close_at : (w u : World) (k : ℕ → World → Fate B) (x : Unfinished) (e : ℕ) {h : ℕ} {v : Value} {ts : Trees} {xs : List RowToken} {o : Outcome} → Open w u x h 0 ts → said s.text s.tokens u.values (node_kind h) (node_payload h) ≡ Option.some v
        → Fits s u xs → ((n : ℕ) (z : World) → Done w z n (node (node_kind h) v ts) → Fits s z xs → Sim P (k n z) o)
        → Sim P (runs s (close_node_at x e) u k) o
    unfolding run close_node_at
    close_at w u k x e g q f h =
        h x.node (with_store (written x.node end_word e u.store) u)
        (closed s.text s.tokens (ended s.text s.tokens x.node e g.low g) q)
        (store-fit u (with_store (written x.node end_word e u.store) u) f (le_of_eq (sym (written-length x.node end_word e u.store))) refl refl refl)

    pub close-rule : (w u : World) (k : ℕ → World → Fate B) (x : Unfinished) {h : ℕ} {v : Value} {ts : Trees} {xs : List RowToken} {o : Outcome} → Open w u x h 0 ts → said s.text s.tokens u.values (node_kind h) (node_payload h) ≡ Option.some v
        → Fits s u xs → ((n : ℕ) (z : World) → Done w z n (node (node_kind h) v ts) → Fits s z xs → Sim P (k n z) o)
        → Sim P (runs s (close_node x) u k) o
    unfolding run close_node
    close-rule w u k x g q f h = close_at w u k x u.at g q f h

    -- A kind with flags or an operator.
    pub close-branch : (w u : World) (k : ℕ → World → Fate B) (x : Unfinished) {kind payload : ℕ} {ts : Trees} {xs : List RowToken} {o : Outcome} → Open w u x (node_head kind payload) 0 ts → is_flagged kind payload ≡ true
        → Fits s u xs → ((n : ℕ) (z : World) → Done w z n (node kind (flags payload) ts) → Fits s z xs → Sim P (k n z) o)
        → Sim P (runs s (close_node x) u k) o
    close-branch w u k x {kind} {payload} g e f h =
        let a = flagged s.text s.tokens u.values kind payload e in
        close-rule w u k x g a.says f (λ n z d. h n z (rw a.kind-is at d))

    -- The kind of a node that is open is set anew.
    pub update-rule : (w u : World) (k : Unit {0} → World → Fate B) (x : Unfinished) (kind payload : ℕ) {h : ℕ} {ts : Trees} {xs : List RowToken} {o : Outcome} → Open w u x h 0 ts → Fits s u xs
        → ((z : World) → Open w z x (node_head kind payload) 0 ts → Fits s z xs → Sim P (k tt z) o)
        → Sim P (runs s (update_kind x kind payload) u k) o
    unfolding run update_kind
    update-rule w u k x kind payload g f h =
        let st = written x.node head_word (node_head kind payload) u.store in
        h (with_store st u) (rekinded s.text s.tokens (node_head kind payload) g)
        (store-fit u (with_store st u) f (le_of_eq (sym (written-length x.node head_word (node_head kind payload) u.store))) refl refl refl)

  -- ---- expressions and blocks

  -- What the reading of an expression comes to: a tree; or none, and all stays as it is.
  pub data Found (w : World) (xs : List RowToken) : Option ℕ → World → Outcome → Type 0 where
    found : {n : ℕ} {u : World} {t : Tree} {ys : List RowToken} → Done w u n t → Fits s u ys → length ys < length xs → (begins Token.Comptime xs ≡ false → is_odd (root_kind t) ≡ false)
        → Found w xs (Option.some n) u (Chart.ok (t ▸ none) ys)
    not_found : (i : ℕ) → Found w xs Option.none (move_to i w.row w) nothing

  -- A block of this kind: its node with the list of statements and the closing expression.
  abbrev pub Blocked : World → ℕ → List RowToken → ℕ → World → Outcome → Type 0
  Blocked w kind xs = Made (λ n u ts ys. Done w u n (node kind (flags 0) ts) × Fits s u ys × (length ys < length xs))

  -- One tree.
  pub data One (w : World) (xs : List RowToken) (n : ℕ) (u : World) : Trees → List RowToken → Type 0 where
    one : {t : Tree} {ys : List RowToken} → Done w u n t → Fits s u ys → length ys < length xs → One w xs n u (t ▸ none) ys

  -- A program that reads one, and what comes after it.
  pub call-one : {B : Type 0} {P : B → World → Outcome → Type 0} (p : Prog ℕ) (w : World) (k : ℕ → World → Fate B) (c : Trees → List RowToken → Outcome) {xs : List RowToken} {o : Outcome} → Sim (Made (One w xs)) (runs s p w ok) o
      → ((n : ℕ) (u : World) (t : Tree) (ys : List RowToken) → Done w u n t → Fits s u ys → length ys < length xs → Sim P (k n u) (c (t ▸ none) ys)) → Sim P (runs s p w k) (bind o c)
  call-one {P = P} p w k c {xs} h g = call s p w k c h (λ n u ts ys. go)
    where
      go : {n : ℕ} {u : World} {ts : Trees} {ys : List RowToken} → One w xs n u ts ys → Sim P (k n u) (c ts ys)
      go {n} {u} (one {t} {ys} d f l) = g n u t ys d f l

  -- The readers one level deeper agree, and payloads have room for the numbers of tokens.
  pub record Agrees : Type 0 where
    pub few : length s.tokens ≤ 2 ^ 26
    pub bytes : AreBytes s.text
    pub exprs : (mode : Mode) (min level : ℕ) (w : World) (xs : List RowToken) → Ranked min level → Fits s w xs → Sim (Found w xs) (s.readers.expr mode min w) (s.rows.expr (allows_struct_literal mode) level xs)
    pub blocks : (start kind : ℕ) (w : World) (xs : List RowToken) → is_flagged kind 0 ≡ true → Fits s w xs → Sim (Blocked w kind xs) (s.readers.block start kind w) (s.rows.block xs)

  module _ (agrees : Agrees) {B : Type 0} {P : B → World → Outcome → Type 0} where
    -- An expression that has to be there, its priority wanted.
    pub operand-rule : (w : World) (k : ℕ → World → Fate B) (c : Trees → List RowToken → Outcome) (mode : Mode) (min level : ℕ) {xs : List RowToken} → Ranked min level → Fits s w xs
        → ((n : ℕ) (u : World) (t : Tree) (ys : List RowToken) → Done w u n t → Fits s u ys → length ys < length xs → Sim P (k n u) (c (t ▸ none) ys))
        → Sim P (runs s (Then (enter_expr mode min) unwrap_or_error) w k) (bind (s.rows.expr (allows_struct_literal mode) level xs) c)
    unfolding run unwrap_or_error bind
    operand-rule w k c mode min level {xs} q f h = go (agrees.exprs mode min level w xs q f)
      where
        go : {v : Fate (Option ℕ)} {o : Outcome} → Sim (Found w xs) v o → Sim P (bind_a v (λ a u. runs s (unwrap_or_error a) u k)) (bind o c)
        go (gives (found {n} {u} {t} {ys} d g l s)) = h n u t ys d g l
        go (gives (not_found i)) = unexpected-rule s (move_to i w.row w) _ f
        go fails = fails
        go sinks = sinks

    pub expr-rule : (w : World) (k : ℕ → World → Fate B) (c : Trees → List RowToken → Outcome) (mode : Mode) {xs : List RowToken} → Fits s w xs
        → ((n : ℕ) (u : World) (t : Tree) (ys : List RowToken) → Done w u n t → Fits s u ys → length ys < length xs → Sim P (k n u) (c (t ▸ none) ys))
        → Sim P (runs s (parse_expr mode) w k) (bind (s.rows.expr (allows_struct_literal mode) 0 xs) c)
    unfolding run parse_expr try_parse_expr
    expr-rule w k c mode f h = operand-rule w k c mode 0 0 no-priority f h

    -- One that may be there.
    pub try-rule : (w : World) (k : Option ℕ → World → Fate B) (c : Trees → List RowToken → Outcome) (z : Outcome) (mode : Mode) {xs : List RowToken} → Fits s w xs
        → ((n : ℕ) (u : World) (t : Tree) (ys : List RowToken) → Done w u n t → Fits s u ys → length ys < length xs → Sim P (k (Option.some n) u) (c (t ▸ none) ys))
        → ((i : ℕ) → Sim P (k Option.none (move_to i w.row w)) z)
        → Sim P (runs s (try_parse_expr mode) w k) (try (s.rows.expr (allows_struct_literal mode) 0 xs) c z)
    unfolding run try_parse_expr try
    try-rule w k c z mode {xs} f h g = go (agrees.exprs mode 0 0 w xs no-priority f)
      where
        go : {v : Fate (Option ℕ)} {o : Outcome} → Sim (Found w xs) v o → Sim P (bind_a v k) (try o c z)
        go (gives (found {n} {u} {t} {ys} d q l s)) = h n u t ys d q l
        go (gives (not_found i)) = g i
        go fails = fails
        go sinks = sinks

    -- A block of a kind.
    pub block-rule : (w : World) (k : ℕ → World → Fate B) (c : Trees → List RowToken → Outcome) (start kind : ℕ) {xs : List RowToken} → is_flagged kind 0 ≡ true → Fits s w xs
        → ((n : ℕ) (u : World) (ts : Trees) (ys : List RowToken) → Done w u n (node kind (flags 0) ts) → Fits s u ys → length ys < length xs → Sim P (k n u) (c ts ys))
        → Sim P (runs s (enter_block start kind) w k) (bind (s.rows.block xs) c)
    unfolding run
    block-rule w k c start kind {xs} e f h = then k c (agrees.blocks start kind w xs e f) (λ n u ts ys x. h n u ts ys x.0 x.1 x.2)

    pub here-rule : (w : World) (k : ℕ → World → Fate B) (c : Trees → List RowToken → Outcome) {xs : List RowToken} → Fits s w xs
        → ((n : ℕ) (u : World) (ts : Trees) (ys : List RowToken) → Done w u n (node Node.Block (flags 0) ts) → Fits s u ys → length ys < length xs → Sim P (k n u) (c ts ys))
        → Sim P (runs s block_here w k) (bind (s.rows.block xs) c)
    unfolding run block_here is_flagged is_name
    here-rule w k c f h = block-rule w k c w.at Node.Block refl f h
