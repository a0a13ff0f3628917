-- Declarations and the file.
use Rattle.std.proofs.Math.Path.{◌≡◌, refl, subst}
use Rattle.std.proofs.Common.{sym, ◌∙◌, true≢false, arith, eqb-true, ne_eqb}
use Rattle.std.specs.Prelude.{Bool, eqb}
use Rattle.std.proofs.Math.Bool.{true, false}
use Rattle.std.proofs.Math.Option.{Option}
use mathlib.Core.List.{List, [], ◌∷◌, ◌++◌}
use Prim.Native.Nat.{ℕ, zero, suc, ◌+◌, ◌<◌, ◌≤◌, ◌^◌}
use Rattle.std.proofs.Math.ListN.{length, length-append}
use Rattle.words.specs.Token
use Rattle.words.specs.Node
use Rattle.words.specs.Flag
use Rattle.words.specs.Words.{node_head}
use Rattle.definition.specs.declared.Mode.TheVariants.{AllowAll}
use Rattle.definition.specs.declared.Unfinished.{Unfinished}
use Rattle.definition.specs.Prog.{Turn, again, stop, Prog, Give, Then, Branch, Loop, peek, end_word}
use Rattle.definition.specs.Tokens.{Delimited, delimited, delimited_turn, const_def_expr_recovery, check, eat, expect, expect_check_recovery, parse_delimited}
use Rattle.definition.specs.Nodes.{alloc_node_from, alloc_node, close_node_at, close_node, push_child}
use Rattle.definition.specs.Expressions.{parse_expr}
use Rattle.definition.specs.Declarations.{path_turn, parse_import_group_item, Group, group_item, parse_import_group, ImportSoFar, glob_import, group_import, import_turn, import_as, parse_const_decl, parse_import_decl, no_decl, parse_decl, decl_turn, parse_file}
use Rattle.definition.specs.Abstract.{Seen, new_node, written, World, Fate, ok, fail, move_to, with_store, with_link}
use Rattle.definition.specs.Encodes.{adopted-length}
use Rattle.chart.specs.Row.{Lexeme, RowToken, token, begins}
use Rattle.chart.specs.Tree.{Tree, Trees, flags, node, none, ◌▸◌, ◌⊕◌, branch, flag, named}
use Rattle.chart.specs.Parser.{Outcome, if, on, bind, failed, goes_on, read_path, read_item, read_items, read_import, read_declaration, read_declarations, read_file}
use Rattle.chart.specs.Parser as Chart
use Rattle.agreement.specs.Run.{run, turns}
use Rattle.agreement.specs.Sim.{Sim, gives, fails, sinks, Made, made, mapped, call, Setting, runs, lexeme_of, cost, Ahead, Fits, Taken, peek-rule, pass-rule, eat-rule, check-rule, eof-rule, eof-either, expect-rule, expect-hit, expect-miss, recover-rule, unexpected-rule}
use Rattle.agreement.specs.Outcomes.{on_same, on_none, on-first, begins-other, on_alike, on-swap, bind-on, bind-alike, bind-bind}
use Rattle.agreement.specs.Steps.{is_flagged, flagged, Open, Done, Agrees, alloc-rule, alloc-here, push-rule, close-branch, update-rule, expr-rule, block-rule, One, one, call-one}
use Rattle.agreement.specs.Closing.{around-rule}
use Rattle.agreement.specs.Leaves.{expect-ident-rule}
use Rattle.tree.specs.Stored.{is_name}
use Rattle.tree.specs.Grown.{⊕-assoc, ⊕-none, Built, opened, closed, push, ended}

-- An item of a group, and what comes after it.
item-is : (xs : List RowToken) (c : Trees → List RowToken → Outcome)
    → bind (read_item xs) c
    ≡ on Token.Identifier xs (λ u ys. on Token.As ys (λ _ zs. on Token.Identifier zs (λ w ws. c (branch Node.ImportGroupItem 0 (named u ⊕ named w)) ws) failed) (c (branch Node.ImportGroupItem 0 (named u)) ys)) failed
unfolding read_item bind
item-is xs c = bind-on Token.Identifier xs _ failed c ∙ on_alike Token.Identifier xs _ _ failed failed (λ u ys _. bind-on Token.As ys _ _ c ∙ on_alike Token.As ys _ _ _ _ (λ _ zs _. bind-on Token.Identifier zs _ failed c) (λ _. refl)) (λ _. refl)

-- No item is there.
item-none : (xs : List RowToken) (c : Trees → List RowToken → Outcome) → begins Token.Identifier xs ≡ false → bind (read_item xs) c ≡ failed
item-none xs c e = item-is xs c ∙ on_none Token.Identifier xs _ failed e

-- No item begins with `}`.
item-end : (xs : List RowToken) (c : Trees → List RowToken → Outcome) → on Token.RightCurly xs (λ _ _. failed) (bind (read_item xs) c) ≡ bind (read_item xs) c
unfolding begins
item-end xs c = on_alike Token.RightCurly xs _ _ _ _ (λ v ys e. sym (item-none xs c (rw e refl))) (λ _. refl) ∙ on_same Token.RightCurly xs (bind (read_item xs) c)

-- Items from the second on: what comes after one of them, the comma first.
abbrev items_on : ℕ → (Trees → List RowToken → Outcome) → Trees → List RowToken → Outcome
items_on n c t ys = on Token.Comma ys (λ _ zs. on Token.RightCurly zs (λ _ ws. c t ws) (bind (read_items n zs) (λ us ws. c (t ⊕ us) ws))) (on Token.RightCurly ys (λ _ zs. c t zs) failed)

-- Items one by one.
items-are : (n : ℕ) (xs : List RowToken) (c : Trees → List RowToken → Outcome) → bind (read_items (suc n) xs) c ≡ bind (read_item xs) (items_on n c)
unfolding read_items bind
items-are n xs c =
    bind-bind (read_item xs) _ c
    ∙ bind-alike (read_item xs) _ _ (λ t ys.
    bind-on Token.RightCurly ys _ _ c
    ∙ (on_alike Token.RightCurly ys _ _ _ _ (λ _ zs _. refl) (λ _. bind-on Token.Comma ys _ failed c ∙ on_alike Token.Comma ys _ _ failed failed (λ _ zs _. bind-on Token.RightCurly zs _ _ c ∙ on_alike Token.RightCurly zs _ _ _ _ (λ _ ws _. refl) (λ _. bind-bind (read_items n zs) _ c)) (λ _. refl))
    ∙ on-swap Token.RightCurly Token.Comma refl ys _ _ failed))

-- Nor do items begin with it.
items-end : (n : ℕ) (xs : List RowToken) (c : Trees → List RowToken → Outcome) → on Token.RightCurly xs (λ _ _. failed) (bind (read_items (suc n) xs) c) ≡ bind (read_items (suc n) xs) c
items-end n xs c = rw (items-are n xs c) (item-end xs (items_on n c))

-- A path from after a name on.
path_on : ℕ → List RowToken → (Trees → List RowToken → Outcome) → Outcome
path_on n ys c = if (goes_on ys) (on Token.DoubleColon ys (λ _ zs. bind (read_path n zs) c) failed) (c none ys)

-- A path from its first name on.
path-is : (n : ℕ) (xs : List RowToken) (c : Trees → List RowToken → Outcome) → bind (read_path (suc n) xs) c ≡ on Token.Identifier xs (λ v ys. path_on n ys (λ t ws. c (named v ⊕ t) ws)) failed
unfolding read_path bind if path_on ◌⊕◌
path-is n xs c = bind-on Token.Identifier xs _ failed c ∙ on_alike Token.Identifier xs _ _ failed failed (λ v ys _. go v ys (goes_on ys)) (λ _. refl)
  where
    go : (v : Lexeme) (ys : List RowToken) (b : Bool) → bind (if b (on Token.DoubleColon ys (λ _ zs. bind (read_path n zs) (λ t ws. Chart.ok (named v ⊕ t) ws)) failed) (Chart.ok (named v) ys)) c
        ≡ if b (on Token.DoubleColon ys (λ _ zs. bind (read_path n zs) (λ t ws. c (named v ⊕ t) ws)) failed) (c (named v) ys)
    go v ys true = bind-on Token.DoubleColon ys _ failed c ∙ on_alike Token.DoubleColon ys _ _ failed failed (λ _ zs _. bind-bind (read_path n zs) _ c) (λ _. refl)
    go v ys false = refl

-- What an import comes to after its path.
abbrev globbed : Bool → Trees → List RowToken → Outcome
globbed p t ws = on Token.Semicolon ws (λ _ vs. Chart.ok (branch Node.ImportDecl (flag p Flag.ImportDecl-public + Flag.ImportDecl-glob) t) vs) failed

abbrev first_item : List RowToken → (Trees → List RowToken → Outcome) → Outcome
first_item ws c = bind (read_item ws) (λ i vs. on Token.Comma vs (λ _ qs. bind (read_items (suc (length qs)) qs) (λ us rs. c (i ⊕ us) rs)) failed)

abbrev grouped_on : Bool → Trees → Trees → List RowToken → Outcome
grouped_on p t us rs = on Token.Semicolon rs (λ _ ss. Chart.ok (branch Node.ImportGroupDecl (flag p Flag.ImportGroupDecl-public) (t ⊕ us)) ss) failed

abbrev grouped : Bool → Trees → List RowToken → Outcome
grouped p t ws = first_item ws (grouped_on p t)

abbrev renamed : Bool → Trees → List RowToken → Outcome
renamed p t zs = on Token.Identifier zs (λ v ws. on Token.Semicolon ws (λ _ vs. Chart.ok (branch Node.ImportAsDecl (flag p Flag.ImportAsDecl-public) (branch Node.ImportPath 0 t ⊕ named v)) vs) failed) failed

abbrev import_on : Bool → Trees → List RowToken → Outcome
import_on p t ys =
    on Token.Semicolon ys (λ _ zs. Chart.ok (branch Node.ImportDecl (flag p Flag.ImportDecl-public) t) zs)
    (on Token.As ys (λ _ zs. renamed p t zs)
    (on Token.DoubleColon ys (λ _ zs. on Token.Star zs (λ _ ws. globbed p t ws) (on Token.LeftCurly zs (λ _ ws. grouped p t ws) failed))
    failed))

-- An import from its first name on.
import-is : (p : Bool) (xs : List RowToken) → read_import p xs ≡ on Token.Identifier xs (λ v ys. path_on (length xs) ys (λ t ws. import_on p (named v ⊕ t) ws)) failed
unfolding read_import
import-is p xs = path-is (length xs) xs (λ t ys. import_on p t ys)

-- The same in the order in which tokens are asked for.
path-on : (p : Bool) (n : ℕ) (ts : Trees) (ys : List RowToken) (c : Trees → List RowToken → Outcome) → ((t : Trees) (ws : List RowToken) → c t ws ≡ import_on p (ts ⊕ t) ws)
    → path_on (suc n) ys c
    ≡ on Token.DoubleColon ys (λ _ zs. on Token.Star zs (λ _ ws. globbed p ts ws) (on Token.LeftCurly zs (λ _ ws. grouped p ts ws) (on Token.Identifier zs (λ v ws. path_on n ws (λ t vs. c (named v ⊕ t) vs)) failed)))
    (on Token.Semicolon ys (λ _ zs. Chart.ok (branch Node.ImportDecl (flag p Flag.ImportDecl-public) ts) zs) (on Token.As ys (λ _ zs. renamed p ts zs) failed))
unfolding path_on goes_on begins on if
path-on p n ts [] c h = h none []
path-on p n ts (token k v ∷ zs) c h = go (eqb k Token.DoubleColon) refl
  where
    past : (zs : List RowToken)
        → path_on (suc n) (token Token.DoubleColon v ∷ zs) c
        ≡ on Token.Star zs (λ _ ws. globbed p ts ws) (on Token.LeftCurly zs (λ _ ws. grouped p ts ws) (on Token.Identifier zs (λ v ws. path_on n ws (λ t vs. c (named v ⊕ t) vs)) failed))
    past [] = h none _
    past (token j w ∷ ws) = split (eqb j Token.Identifier) refl
      where
        split : (b : Bool) → eqb j Token.Identifier ≡ b → path_on (suc n) (token Token.DoubleColon v ∷ token j w ∷ ws) c
            ≡ on Token.Star (token j w ∷ ws) (λ _ ws. globbed p ts ws) (on Token.LeftCurly (token j w ∷ ws) (λ _ ws. grouped p ts ws) (on Token.Identifier (token j w ∷ ws) (λ v ws. path_on n ws (λ t vs. c (named v ⊕ t) vs)) failed))
        split true e = let q : j ≡ Token.Identifier = eqb-true j Token.Identifier e in rw q (path-is n (token Token.Identifier w ∷ ws) c)
        split false e = let q : c none (token Token.DoubleColon v ∷ token j w ∷ ws) ≡ import_on p ts (token Token.DoubleColon v ∷ token j w ∷ ws) = rw (⊕-none ts) at (h none (token Token.DoubleColon v ∷ token j w ∷ ws)) in rw e q

    go : (b : Bool) → eqb k Token.DoubleColon ≡ b → path_on (suc n) (token k v ∷ zs) c
        ≡ on Token.DoubleColon (token k v ∷ zs) (λ _ zs. on Token.Star zs (λ _ ws. globbed p ts ws) (on Token.LeftCurly zs (λ _ ws. grouped p ts ws) (on Token.Identifier zs (λ v ws. path_on n ws (λ t vs. c (named v ⊕ t) vs)) failed)))
        (on Token.Semicolon (token k v ∷ zs) (λ _ zs. Chart.ok (branch Node.ImportDecl (flag p Flag.ImportDecl-public) ts) zs) (on Token.As (token k v ∷ zs) (λ _ zs. renamed p ts zs) failed))
    go true e = let q : k ≡ Token.DoubleColon = eqb-true k Token.DoubleColon e in rw q (past zs)
    go false e = let q : c none (token k v ∷ zs) ≡ import_on p ts (token k v ∷ zs) = rw (⊕-none ts) at (h none (token k v ∷ zs)) in rw e (rw e at q)

-- Whether an import is public is a flag.
plain-flagged : (p : Bool) → is_flagged Node.ImportDecl (flag p Flag.ImportDecl-public) ≡ true
unfolding is_flagged is_name flag
plain-flagged true = refl
plain-flagged false = refl

glob-flagged : (p : Bool) → is_flagged Node.ImportDecl (flag p Flag.ImportDecl-public + Flag.ImportDecl-glob) ≡ true
unfolding is_flagged is_name flag
glob-flagged true = refl
glob-flagged false = refl

group-flagged : (p : Bool) → is_flagged Node.ImportGroupDecl (flag p Flag.ImportGroupDecl-public) ≡ true
unfolding is_flagged is_name flag
group-flagged true = refl
group-flagged false = refl

as-flagged : (p : Bool) → is_flagged Node.ImportAsDecl (flag p Flag.ImportAsDecl-public) ≡ true
unfolding is_flagged is_name flag
as-flagged true = refl
as-flagged false = refl

module _ (s : Setting) where
  -- `expect_check_recovery` beside a token that has to be there.
  recovery-rule : {B : Type 0} {P : B → World → Outcome → Type 0} (w : World) (k : Bool → World → Fate B) (recovery : List ℕ) {K : ℕ} {xs : List RowToken} (h : Lexeme → List RowToken → Outcome) → eqb Token.Eof K ≡ false → Fits s w xs
      → ((j : ℕ) (row : List Seen) (ys : List RowToken) → Taken s K w xs j row ys → Sim P (k true (move_to (suc j) row w)) (h (lexeme_of s j) ys))
      → Sim P (runs s (expect_check_recovery K recovery) w k) (on K xs h failed)
  recovery-rule w k recovery h n f hit = recover-rule s w k recovery h n f hit (λ _. refl)

  module _ {B : Type 0} {P : B → World → Outcome → Type 0} where
    -- `eat`, `check` and `expect` beside one outcome for both cases.
    eat-cases : (w : World) (k : Bool → World → Fate B) (K : ℕ) (xs : List RowToken) (o : Outcome) → eqb Token.Eof K ≡ false → Fits s w xs
        → ((j : ℕ) (row : List Seen) (ys : List RowToken) → Taken s K w xs j row ys → Sim P (k true (move_to (suc j) row w)) o)
        → (begins K xs ≡ false → (i : ℕ) → Sim P (k false (move_to i w.row w)) o)
        → Sim P (runs s (eat K) w k) o
    eat-cases w k K xs o n f hit miss = subst (λ r. Sim P (runs s (eat K) w k) r) (on_same K xs o) (eat-rule s w k (λ _ _. o) n f hit miss)

    check-cases : (w : World) (k : Bool → World → Fate B) (K : ℕ) (xs : List RowToken) (o : Outcome) → eqb Token.Eof K ≡ false → Fits s w xs
        → ((j : ℕ) (ys : List RowToken) → xs ≡ token K (lexeme_of s j) ∷ ys → Sim P (k true (move_to j w.row w)) o)
        → (begins K xs ≡ false → (i : ℕ) → Sim P (k false (move_to i w.row w)) o)
        → Sim P (runs s (check K) w k) o
    check-cases w k K xs o n f hit miss = subst (λ r. Sim P (runs s (check K) w k) r) (on_same K xs o) (check-rule s w k (λ _ _. o) n f hit miss)

    expect-fails : (w : World) (k : Bool → World → Fate B) (K : ℕ) (xs : List RowToken) → eqb Token.Eof K ≡ false → Fits s w xs
        → ((j : ℕ) (row : List Seen) (ys : List RowToken) → Taken s K w xs j row ys → Sim P (k true (move_to (suc j) row w)) failed)
        → Sim P (runs s (expect K) w k) failed
    expect-fails w k K xs n f hit = subst (λ r. Sim P (runs s (expect K) w k) r) (on_same K xs failed) (expect-rule s w k (λ _ _. failed) n f hit)

    -- `push-rule` and `close-branch` of a node whose number is asked for.
    push-same : (w u v : World) (k : Unfinished → World → Fate B) (x : Unfinished) (c : ℕ) {h : ℕ} {ts : Trees} {t : Tree} {xs : List RowToken} {o : Outcome} → Open s w u x h 0 ts → Done s u v c t → Fits s v xs
        → ((y : Unfinished) (z : World) → y.node ≡ x.node → Open s w z y h 0 (ts ⊕ (t ▸ none)) → Fits s z xs → Sim P (k y z) o)
        → Sim P (runs s (push_child x c) v k) o
    unfolding run push_child
    push-same w u v k x c g b f h =
        let (p, m) = push s.text s.tokens g b in
        h (record { node = x.node; last = c }) (with_link x.node x.last c v) refl p
        (record { ahead = f.ahead; room = f.room; few = f.few; born = rw (adopted-length x.node c v.store) f.born; sound = rw (f.sound, m) })

    close-same : (w u : World) (k : ℕ → World → Fate B) (x : Unfinished) {kind payload : ℕ} {ts : Trees} {xs : List RowToken} {o : Outcome} → Open s w u x (node_head kind payload) 0 ts → is_flagged kind payload ≡ true
        → Fits s u xs → ((z : World) → Done s w z x.node (node kind (flags payload) ts) → z.sane ≡ true → Sim P (k x.node z) o)
        → Sim P (runs s (close_node x) u k) o
    unfolding run close_node close_node_at
    close-same w u k x {kind} {payload} g e f h =
        let b = flagged s.text s.tokens u.values kind payload e in
        let d = closed s.text s.tokens (ended s.text s.tokens x.node u.at g.low g) b.says in
        h (with_store (written x.node end_word u.at u.store) u) (rw b.kind-is at d) f.sound

    -- A token is looked at for trivia's sake alone.
    peek-over : (w : World) (k : World → Fate B) {xs : List RowToken} {o : Outcome} → Fits s w xs → ((i : ℕ) → Sim P (k (move_to i w.row w)) o) → Sim P (runs s peek w (λ _ u. k u)) o
    peek-over w k f h = peek-rule s w (λ _ u. k u) f (λ i e. h i) (λ j kind ys e n. h j)

module _ (s : Setting) (a : Agrees s) where
  -- ---- constants

  -- From `=` on.
  abbrev const_end : Unfinished → Prog ℕ
  const_end x = Then (expect_check_recovery Token.Equals const_def_expr_recovery) (λ _. Then (parse_expr AllowAll) (λ n. Then (push_child x n) (λ y. Then (expect_check_recovery Token.Semicolon const_def_expr_recovery) (λ _. close_node y))))

  const-end : (w u : World) (x : Unfinished) (payload : ℕ) (ts : Trees) (xs zs : List RowToken) → is_flagged Node.ConstDecl payload ≡ true → Open s w u x (node_head Node.ConstDecl payload) 0 ts → Fits s u xs → length xs ≤ length zs
      → Sim (Made (One s w zs)) (runs s (const_end x) u ok)
      (on Token.Equals xs (λ _ qs. bind (s.rows.expr true 0 qs) (λ t rs. on Token.Semicolon rs (λ _ ss. Chart.ok (branch Node.ConstDecl payload (ts ⊕ t)) ss) failed)) failed)
  unfolding run branch
  const-end w u x payload ts xs zs e o f l =
      recovery-rule s u _ const_def_expr_recovery _ refl f (λ j row qs t.
      expr-rule s a (move_to (suc j) row u) _ _ AllowAll t.fit (λ n v t₁ rs d f₁ l₁.
      push-rule s w (move_to (suc j) row u) v _ x n o d f₁ (λ y z o₁ f₂.
      recovery-rule s z _ const_def_expr_recovery _ refl f₂ (λ j₁ row₁ ss t₂.
      close-branch s w (move_to (suc j₁) row₁ z) ok y o₁ e t₂.fit (λ m q d₁ f₃.
      gives (made (one d₁ f₃ (omega (arith, t.shorter, t₂.shorter)))))))))

  -- A constant from after `const` on.
  pub const-rule : (w : World) (start : ℕ) (xs : List RowToken) → Fits s w xs
      → Sim (Made (One s w xs)) (runs s (parse_const_decl start) w ok)
      (on Token.Identifier xs (λ v zs.
      on Token.Colon zs (λ _ ws. bind (s.rows.expr true 0 ws) (λ q vs. on Token.Equals vs (λ _ qs. bind (s.rows.expr true 0 qs) (λ t rs. on Token.Semicolon rs (λ _ ss. Chart.ok (branch Node.ConstDecl Flag.ConstDecl-typed (named v ⊕ (q ⊕ t))) ss) failed)) failed))
      (on Token.Equals zs (λ _ qs. bind (s.rows.expr true 0 qs) (λ t rs. on Token.Semicolon rs (λ _ ss. Chart.ok (branch Node.ConstDecl 0 (named v ⊕ t)) ss) failed)) failed)) failed)
  unfolding run parse_const_decl ◌⊕◌ is_flagged is_name
  const-rule w start xs f =
      alloc-rule s w _ start Node.ConstDecl 0 f (λ x u o f₁.
      expect-ident-rule s a u _ _ f₁ (λ n v i zs d f₂ l.
      push-rule s w u v _ x n o d f₂ (λ x₁ u₁ o₁ f₃.
      eat-rule s u₁ _ _ refl f₃
      (λ j row ws t. update-rule s w (move_to (suc j) row u₁) _ x₁ Node.ConstDecl Flag.ConstDecl-typed o₁ t.fit (λ u₂ o₂ f₄.
      expr-rule s a u₂ _ _ AllowAll f₄ (λ m v₁ q vs d₁ f₅ l₁.
      push-rule s w u₂ v₁ _ x₁ m o₂ d₁ f₅ (λ x₂ u₃ o₃ f₆.
      const-end w u₃ x₂ Flag.ConstDecl-typed _ vs xs refl o₃ f₆ (omega (arith, t.shorter))))))
      (λ _ i₁. const-end w (move_to i₁ u₁.row u₁) x₁ 0 _ zs xs refl o₁ f₃ (omega arith)))))

  -- ---- imports

  abbrev group_turn : {B : Type 0} → Delimited Group → World → (Turn (Delimited Group) → World → Fate B) → Fate B
  group_turn d v j = runs s (delimited_turn Token.RightCurly Token.Comma group_item d) v j

  abbrev counted : Unfinished → ℕ → Delimited Group
  counted x n = delimited (record { node = x; count = n }) false

  module _ {B : Type 0} {P : B → World → Outcome → Type 0} where
    -- A path in a group is read to its end, then reported.
    path-turns : (n : ℕ) (u : World) (xs : List RowToken) → Fits s u xs → Sim P (turns (λ x v j. runs s (path_turn x) v j) n tt u (λ _ _. fail)) failed
    unfolding run turns path_turn
    path-turns zero u xs f = fails
    path-turns (suc n) u xs f =
        eat-cases s u _ Token.DoubleColon xs failed refl f
        (λ j row ys t. check-cases s (move_to (suc j) row u) _ Token.Identifier ys failed refl t.fit
        (λ i zs e. pass-rule s (move_to i row u) (λ _ v. turns (λ x v j. runs s (path_turn x) v j) n tt v (λ _ _. fail)) t.fit e (λ i₁ row₁ v t₁. path-turns n (move_to (suc i₁) row₁ u) zs t₁.fit))
        (λ _ i. fails))
        (λ _ i. fails)

    -- An item of a group, where no path may come after it.
    item-rule : (w : World) (k : ℕ → World → Fate B) (c : Trees → List RowToken → Outcome) (xs : List RowToken) → Fits s w xs
        → ((t : Trees) (ys : List RowToken) → begins Token.DoubleColon ys ≡ true → c t ys ≡ failed)
        → ((n : ℕ) (u : World) (t : Tree) (ys : List RowToken) → Done s w u n t → Fits s u ys → length ys < length xs → Sim P (k n u) (c (t ▸ none) ys))
        → Sim P (runs s parse_import_group_item w k) (bind (read_item xs) c)
    unfolding run parse_import_group_item branch ◌⊕◌ is_flagged is_name begins
    item-rule w k c xs f bars h =
        rw (item-is xs c) (alloc-here s w _ Node.ImportGroupItem 0 f (λ x u o f₁.
        expect-ident-rule s a u _ _ f₁ (λ n v i ys d f₂ l.
        push-rule s w u v _ x n o d f₂ (λ x₁ u₁ o₁ f₃.
        check-cases s u₁ _ Token.DoubleColon ys _ refl f₃
        (λ j zs e. let q : begins Token.As ys ≡ false = rw e refl in rw (on_none Token.As ys _ _ q, bars _ ys (rw e refl)) (path-turns s.bound (move_to j u₁.row u₁) ys f₃))
        (λ _ i₁. eat-rule s (move_to i₁ u₁.row u₁) _ _ refl f₃
        (λ j row zs t. expect-ident-rule s a (move_to (suc j) row u₁) _ _ t.fit (λ m v₁ i₂ ws d₁ f₄ l₁.
        push-rule s w (move_to (suc j) row u₁) v₁ _ x₁ m o₁ d₁ f₄ (λ x₂ u₂ o₂ f₅.
        close-branch s w u₂ k x₂ o₂ refl f₅ (λ b z d₂ f₆. h b z _ ws d₂ f₆ (omega (arith, t.shorter))))))
        (λ _ i₂. close-branch s w (move_to i₂ u₁.row u₁) k x₁ o₁ refl f₃ (λ b z d₂ f₆. h b z _ ys d₂ f₆ l)))))))

    -- One turn of a group's loop: at `}`, at what is no item, and after an item.
    group-turn : (w u : World) (j : Turn (Delimited Group) → World → Fate B) (x : Unfinished) (n h : ℕ) (ts : Trees) (xs : List RowToken) (e : List RowToken → Outcome) (c : Trees → List RowToken → Outcome) → Open s w u x h 0 ts → Fits s u xs
        → ((t : Trees) (ys : List RowToken) → begins Token.DoubleColon ys ≡ true → c t ys ≡ failed)
        → ((i l : ℕ) (ys : List RowToken) → xs ≡ token Token.RightCurly (lexeme_of s l) ∷ ys → Sim P (j (stop (counted x n)) (move_to i u.row u)) (e ys))
        → ((i : ℕ) → begins Token.RightCurly xs ≡ false → Sim P (j (stop (counted x n)) (move_to i u.row u)) failed)
        → ((y : Unfinished) (z : World) (t : Tree) (ys : List RowToken) → Open s w z y h 0 (ts ⊕ (t ▸ none)) → Fits s z ys → length ys < length xs
        → Sim P (runs s (eat Token.Comma) z (λ b v. elim b [ true ↦ j (again (counted y (n + 1))) v | false ↦ j (stop (counted y (n + 1))) v ])) (c (t ▸ none) ys))
        → Sim P (group_turn (counted x n) u j) (on Token.RightCurly xs (λ _ ys. e ys) (bind (read_item xs) c))
    unfolding run delimited_turn group_item begins
    group-turn w u j x n h ts xs e c o f bars ends stays goes =
        eat-cases s u _ Token.Star xs _ refl f
        (λ i row ys t. let q : begins Token.RightCurly xs ≡ false = rw t.first refl in rw (on_none Token.RightCurly xs _ _ q, item-none xs c (rw t.first refl)) fails)
        (λ _ i. check-cases s (move_to i u.row u) _ Token.Identifier xs _ refl f
        (λ l ys t. let q : begins Token.RightCurly xs ≡ false = rw t refl in rw (on_none Token.RightCurly xs _ _ q) (item-rule (move_to l u.row u) _ c xs f bars (λ m v t₁ zs d f₁ l₁.
        push-rule s w (move_to l u.row u) v _ x m o d f₁ (λ y z o₁ f₂. goes y z t₁ zs o₁ f₂ l₁))))
        (λ q i. check-cases s (move_to i u.row u) _ Token.RightCurly xs _ refl f
        (λ l ys t. rw (on-first Token.RightCurly xs _ _ t) (eof-either s (move_to l u.row u) _ f (λ b i₁. ends i₁ l ys t)))
        (λ r i. rw (on_none Token.RightCurly xs _ _ r, item-none xs c q) (eof-either s (move_to i u.row u) _ f (elim [
          | true ↦ λ i₁. stays i₁ r
          | false ↦ λ i₁. unexpected-rule s (move_to i₁ u.row u) _ f
        ])))))

    -- The loop of a group with an item or more before it. A group of one item is ended by what comes after it.
    group-turns : (k : Group → World → Fate B) (n m : ℕ) (w u : World) (x : Unfinished) (i h : ℕ) (ts : Trees) (xs : List RowToken) (e : List RowToken → Outcome) (c : Trees → List RowToken → Outcome) → length xs < n → length xs < m → 1 ≤ i
        → Open s w u x h 0 ts → Fits s u xs
        → ((z : World) (ys : List RowToken) → Open s w z x h 0 ts → Fits s z ys → length ys < length xs → Sim P (k (counted x i).list z) (e ys))
        → ((y : Unfinished) (j : ℕ) (z : World) (us : Trees) (ys : List RowToken) → 2 ≤ j → Open s w z y h 0 (ts ⊕ us) → Fits s z ys → length ys < length xs → Sim P (k (counted y j).list z) (c us ys))
        → Sim P (turns group_turn n (counted x i) u (λ d v. runs s (expect Token.RightCurly) v (λ _ z. k d.list z))) (on Token.RightCurly xs (λ _ ys. e ys) (bind (read_items m xs) c))
    unfolding turns ◌⊕◌
    group-turns k zero m w u x i h ts xs e c l l₁ p o f ends goes = absurd (omega arith)
    group-turns k (suc n) zero w u x i h ts xs e c l l₁ p o f ends goes = absurd (omega arith)
    group-turns k (suc n) (suc m) w u x i h ts xs e c l l₁ p o f ends goes =
        rw (items-are m xs c) (group-turn w u _ x i h ts xs e (items_on m c) o f
        (λ t ys q. on_none Token.Comma ys _ _ (begins-other Token.DoubleColon Token.Comma refl ys q) ∙ on_none Token.RightCurly ys _ failed (begins-other Token.DoubleColon Token.RightCurly refl ys q))
        (λ j b ys q. expect-hit s (move_to j u.row u) _ f q (λ j₁ row t. ends (move_to (suc j₁) row u) ys o t.fit t.shorter))
        (λ j q. expect-miss s (move_to j u.row u) _ Token.RightCurly refl f q)
        (λ y z t ys o₁ f₁ l₂. eat-rule s z _ _ refl f₁
        (λ j row zs q. group-turns k n m w (move_to (suc j) row z) y (i + 1) h (ts ⊕ (t ▸ none)) zs _ _ (omega (arith, q.shorter)) (omega (arith, q.shorter)) (omega arith) o₁ q.fit
        (λ v ws o₂ f₂ l₃. goes y (i + 1) v (t ▸ none) ws (omega arith) o₂ f₂ (omega (arith, q.shorter)))
        (λ y₁ b v us ws p₁ o₂ f₂ l₃. goes y₁ b v (t ▸ us) ws p₁ (rw (← ⊕-assoc ts (t ▸ none) us) o₂) f₂ (omega (arith, q.shorter))))
        (λ _ j. expect-rule s (move_to j z.row z) _ _ refl f₁ (λ j₁ row zs q. goes y (i + 1) (move_to (suc j₁) row z) (t ▸ none) zs (omega arith) o₁ q.fit (omega (arith, q.shorter))))))

    -- The loop of a group from its start on.
    group-first : (k : Group → World → Fate B) (n : ℕ) (w u : World) (x : Unfinished) (h : ℕ) (ts : Trees) (xs : List RowToken) (c : Trees → List RowToken → Outcome) → length xs < n → Open s w u x h 0 ts → Fits s u xs
        → ((z : World) → Sim P (k (counted x 0).list z) failed)
        → ((y : Unfinished) (z : World) → Sim P (k (counted y 1).list z) failed)
        → ((y : Unfinished) (j : ℕ) (z : World) (us : Trees) (ys : List RowToken) → 2 ≤ j → Open s w z y h 0 (ts ⊕ us) → Fits s z ys → length ys < length xs → Sim P (k (counted y j).list z) (c us ys))
        → Sim P (turns group_turn n (counted x 0) u (λ d v. runs s (expect Token.RightCurly) v (λ _ z. k d.list z))) (first_item xs c)
    unfolding turns ◌⊕◌
    group-first k zero w u x h ts xs c l o f nil lone goes = absurd (omega arith)
    group-first k (suc n) w u x h ts xs c l o f nil lone goes =
        subst (λ r. Sim P (turns group_turn (suc n) (counted x 0) u (λ d v. runs s (expect Token.RightCurly) v (λ _ z. k d.list z))) r) (item-end xs _)
        (group-turn w u _ x 0 h ts xs (λ _. failed) _ o f
        (λ t ys q. on_none Token.Comma ys _ failed (begins-other Token.DoubleColon Token.Comma refl ys q))
        (λ j b ys q. expect-hit s (move_to j u.row u) _ f q (λ j₁ row t. nil (move_to (suc j₁) row u)))
        (λ j q. expect-miss s (move_to j u.row u) _ Token.RightCurly refl f q)
        (λ y z t ys o₁ f₁ l₁. eat-rule s z _ _ refl f₁
        (λ j row qs q. subst (λ r. Sim P (turns group_turn n (counted y 1) (move_to (suc j) row z) (λ d v. runs s (expect Token.RightCurly) v (λ _ z. k d.list z))) r) (items-end (length qs) qs _)
        (group-turns k n (suc (length qs)) w (move_to (suc j) row z) y 1 h (ts ⊕ (t ▸ none)) qs (λ _. failed) (λ us rs. c (t ▸ us) rs) (omega (arith, q.shorter)) (omega arith) (omega arith) o₁ q.fit
        (λ v ws o₂ f₂ l₃. lone y v)
        (λ y₁ b v us ws p₁ o₂ f₂ l₃. goes y₁ b v (t ▸ us) ws p₁ (rw (← ⊕-assoc ts (t ▸ none) us) o₂) f₂ (omega (arith, q.shorter)))))
        (λ _ j. expect-fails s (move_to j z.row z) _ Token.RightCurly ys refl f₁ (λ j₁ row zs q. lone y (move_to (suc j₁) row z)))))

  -- What comes after a path that no glob or group ended.
  abbrev path_end : ℕ → Bool → Unfinished → Prog ℕ
  path_end start public x = Then (eat Token.Semicolon) (λ b. Branch b (close_node x) (import_as start public x))

  path-end : (w u : World) (start : ℕ) (p : Bool) (x : Unfinished) (ts : Trees) (xs ys : List RowToken) → 0 < length w.store → length ys < length xs → Open s w u x (node_head Node.ImportDecl (flag p Flag.ImportDecl-public)) 0 ts → Fits s u ys
      → Sim (Made (One s w xs)) (runs s (path_end start p x) u ok)
      (on Token.Semicolon ys (λ _ zs. Chart.ok (branch Node.ImportDecl (flag p Flag.ImportDecl-public) ts) zs) (on Token.As ys (λ _ zs. renamed p ts zs) failed))
  unfolding run import_as branch flag ◌⊕◌ is_flagged is_name
  path-end w u start p x ts xs ys born l o f =
      eat-rule s u _ _ refl f
      (λ j row zs t. close-branch s w (move_to (suc j) row u) ok x o (plain-flagged p) t.fit (λ n z d f₁. gives (made (one d f₁ (omega (arith, t.shorter))))))
      (λ _ i. update-rule s w (move_to i u.row u) _ x Node.ImportPath 0 o f (λ u₁ o₁ f₁.
      close-branch s w u₁ _ x o₁ refl f₁ (λ n u₂ d f₂.
      around-rule s w u₂ _ start Node.ImportAsDecl (flag p Flag.ImportAsDecl-public) n born d f₂ (λ y u₃ o₃ f₃.
      expect-rule s u₃ _ _ refl f₃ (λ j row zs t.
      expect-ident-rule s a (move_to (suc j) row u₃) _ _ t.fit (λ m v i₁ ws d₁ f₄ l₁.
      push-rule s w (move_to (suc j) row u₃) v _ y m o₃ d₁ f₄ (λ y₁ u₄ o₄ f₅.
      expect-rule s u₄ _ _ refl f₅ (λ j₁ row₁ vs t₁.
      close-branch s w (move_to (suc j₁) row₁ u₄) ok y₁ o₄ (as-flagged p) t₁.fit (λ n₁ z d₂ f₆.
      gives (made (one d₂ f₆ (omega (arith, t.shorter, t₁.shorter)))))))))))))

  -- A group, its `{` ahead.
  group-rule : (w u : World) (p : Bool) (x : Unfinished) (ts : Trees) (xs ys ws : List RowToken) {v : Lexeme} → length ys < length xs → Open s w u x (node_head Node.ImportGroupDecl (flag p Flag.ImportGroupDecl-public)) 0 ts → Fits s u ys → ys ≡ token Token.LeftCurly v ∷ ws
      → Sim (Made (One s w xs)) (runs s (parse_import_group x) u ok) (grouped p ts ws)
  unfolding run parse_import_group parse_delimited branch
  group-rule w u p x ts xs ys ws l o f e =
      peek-over s u _ f (λ i. expect-hit s (move_to i u.row u) _ f e (λ j row t.
      group-first closes s.bound w (move_to (suc j) row u) x _ ts ws (grouped_on p ts) t.fit.few o t.fit (λ z. fails) (λ y z. fails) (λ y b z us vs b₁ o₁ f₁ l₁.
      clear (eqb b 0) (eqb b 1) (ne_eqb b 0 (omega arith)) (ne_eqb b 1 (omega arith)) (expect-rule s z _ _ refl f₁ (λ j₁ row₁ qs t₁.
      close-branch s w (move_to (suc j₁) row₁ z) ok y o₁ (group-flagged p) t₁.fit (λ n z₁ d f₂. gives (made (one d f₂ (omega (arith, t.shorter, t₁.shorter))))))))))
    where
      clear : {v : Fate ℕ} {r : Outcome} (b d : Bool) → b ≡ false → d ≡ false → Sim (Made (One s w xs)) v r → Sim (Made (One s w xs)) (elim b [ true ↦ fail | false ↦ elim d [ true ↦ fail | false ↦ v ] ]) r
      clear true d q r h = absurd (true≢false q)
      clear false true q r h = absurd (true≢false r)
      clear false false q r h = h

      closes : Group → World → Fate ℕ
      closes g z = elim (eqb g.count 0) [
        | true ↦ fail
        | false ↦ elim (eqb g.count 1) [ true ↦ fail | false ↦ runs s (expect Token.Semicolon) z (λ _ v. runs s (close_node g.node) v ok) ]
      ]

  -- The end of an import: a glob or a group is whole already.
  abbrev import_end : ℕ → Bool → ImportSoFar → Prog ℕ
  import_end start public p = elim p.whole [ Option.some n ↦ Give n | Option.none ↦ path_end start public p.path ]

  -- The loop of an import, after a name.
  import-turns : (start : ℕ) (p : Bool) (n m : ℕ) (w u : World) (x : Unfinished) (ts : Trees) (xs ys : List RowToken) (c : Trees → List RowToken → Outcome) → length ys < n → length ys < m → length ys < length xs → 0 < length w.store
      → Open s w u x (node_head Node.ImportDecl (flag p Flag.ImportDecl-public)) 0 ts → Fits s u ys → ((t : Trees) (ws : List RowToken) → c t ws ≡ import_on p (ts ⊕ t) ws)
      → Sim (Made (One s w xs)) (turns (λ q v j. runs s (import_turn p q) v j) n (record { path = x; whole = Option.none }) u (λ q v. runs s (import_end start p q) v ok)) (path_on m ys c)
  unfolding run turns import_turn glob_import group_import flag branch
  import-turns start p zero m w u x ts xs ys c l l₁ l₂ born o f h = absurd (omega arith)
  import-turns start p (suc n) zero w u x ts xs ys c l l₁ l₂ born o f h = absurd (omega arith)
  import-turns start p (suc n) (suc m) w u x ts xs ys c l l₁ l₂ born o f h =
      rw (path-on p m ts ys c h) (eat-rule s u _ _ refl f
      (λ j row zs t. eat-rule s (move_to (suc j) row u) _ _ refl t.fit
      (λ j₁ row₁ ws t₁. update-rule s w (move_to (suc j₁) row₁ u) _ x Node.ImportDecl (flag p Flag.ImportDecl-public + Flag.ImportDecl-glob) o t₁.fit (λ u₁ o₁ f₁.
      expect-rule s u₁ _ _ refl f₁ (λ j₂ row₂ vs t₂.
      close-branch s w (move_to (suc j₂) row₂ u₁) ok x o₁ (glob-flagged p) t₂.fit (λ b z d f₂. gives (made (one d f₂ (omega (arith, t.shorter, t₁.shorter, t₂.shorter))))))))
      (λ _ i. check-rule s (move_to i row u) _ _ refl t.fit
      (λ j₁ ws e. update-rule s w (move_to j₁ row u) _ x Node.ImportGroupDecl (flag p Flag.ImportGroupDecl-public) o t.fit (λ u₁ o₁ f₁.
      group-rule w u₁ p x ts xs zs ws (omega (arith, t.shorter)) o₁ f₁ e))
      (λ _ i₁. expect-ident-rule s a (move_to i₁ row u) _ _ t.fit (λ b v i₂ ws d f₁ l₃.
      push-rule s w (move_to i₁ row u) v _ x b o d f₁ (λ y z o₁ f₂.
      import-turns start p n m w z y (ts ⊕ named (lexeme_of s i₂)) xs ws (λ t vs. c (named (lexeme_of s i₂) ⊕ t) vs) (omega (arith, t.shorter)) (omega (arith, t.shorter)) (omega (arith, t.shorter)) born o₁ f₂ (λ t₁ vs. rw (⊕-assoc ts (named (lexeme_of s i₂)) t₁) (h (named (lexeme_of s i₂) ⊕ t₁) vs)))))))
      (λ _ i. path-end w (move_to i u.row u) start p x ts xs ys born l₂ o f))

  -- An import from after `use` on.
  pub import-rule : (w : World) (start : ℕ) (p : Bool) (xs : List RowToken) → Fits s w xs → Sim (Made (One s w xs)) (runs s (parse_import_decl start p) w ok) (read_import p xs)
  unfolding run parse_import_decl flag ◌⊕◌
  import-rule w start p xs f =
      rw (import-is p xs) (alloc-rule s w _ start Node.ImportDecl (flag p Flag.ImportDecl-public) f (λ x u o f₁.
      expect-ident-rule s a u _ _ f₁ (λ n v i ys d f₂ l.
      push-rule s w u v _ x n o d f₂ (λ y z o₁ f₃.
      import-turns start p s.bound (length xs) w z y _ xs ys _ f₃.few l l f.born o₁ f₃ (λ t ws. refl)))))

  -- ---- declarations and the file

  -- What was read after a token.
  after : (w : World) (j : ℕ) (row : List Seen) (xs ys : List RowToken) {f : Fate ℕ} {o : Outcome} → length ys < length xs → Sim (Made (One s (move_to j row w) ys)) f o → Sim (Made (One s w xs)) f o
  after w j row xs ys l (gives (made (one d f m))) = gives (made (one d f (omega (arith, l, m))))
  after w j row xs ys l fails = fails
  after w j row xs ys l sinks = sinks

  -- A declaration.
  pub decl-rule : (w : World) (xs : List RowToken) → Fits s w xs → Sim (Made (One s w xs)) (runs s parse_decl w ok) (read_declaration s.rows xs)
  unfolding run parse_decl no_decl read_declaration branch is_flagged is_name
  decl-rule w xs f =
      eat-rule s w _ _ refl f
      (λ j row ys t. block-rule s a (move_to (suc j) row w) ok _ w.at Node.InitBlock refl t.fit (λ n u ts zs d f₁ l. gives (made (one d f₁ (omega (arith, t.shorter))))))
      (λ _ i. eat-rule s (move_to i w.row w) _ _ refl f
      (λ j row ys t. block-rule s a (move_to (suc j) row w) ok _ w.at Node.RunBlock refl t.fit (λ n u ts zs d f₁ l. gives (made (one d f₁ (omega (arith, t.shorter))))))
      (λ _ i. eat-rule s (move_to i w.row w) _ _ refl f
      (λ j row ys t. after w (suc j) row xs ys t.shorter (const-rule (move_to (suc j) row w) w.at ys t.fit))
      (λ _ i. eat-rule s (move_to i w.row w) _ _ refl f
      (λ j row ys t. eat-rule s (move_to (suc j) row w) _ _ refl t.fit
      (λ j₁ row₁ zs t₁. after w (suc j₁) row₁ xs zs (omega (arith, t.shorter, t₁.shorter)) (import-rule (move_to (suc j₁) row₁ w) w.at true zs t₁.fit))
      (λ _ i. unexpected-rule s (move_to i row w) _ t.fit))
      (λ _ i. eat-rule s (move_to i w.row w) _ _ refl f
      (λ j row ys t. after w (suc j) row xs ys t.shorter (import-rule (move_to (suc j) row w) w.at false ys t.fit))
      (λ _ i. unexpected-rule s (move_to i w.row w) _ f)))))

  -- The declarations of an open file.
  decl-turns : (n m : ℕ) (w u : World) (x : Unfinished) (h : ℕ) (ts : Trees) (xs : List RowToken) → length xs < n → length xs < m → x.node ≡ 0 → Open s w u x h 0 ts → Fits s u xs
      → Sim (Made (λ y v us ys. (y.node ≡ 0) × Open s w v y h 0 (ts ⊕ us) × Fits s v ys × (ys ≡ []))) (turns (λ y v j. runs s (decl_turn y) v j) n x u ok) (read_declarations s.rows m xs)
  unfolding run turns decl_turn read_declarations ◌⊕◌
  decl-turns zero m w u x h ts xs l l₁ e o f = absurd (omega arith)
  decl-turns (suc n) zero w u x h ts xs l l₁ e o f = absurd (omega arith)
  decl-turns (suc n) (suc m) w u x h ts [] l l₁ e o f =
      eof-rule s u _ f (λ q i. gives (made (e, rw (⊕-none ts) o, f, refl))) (λ j kind ys q. absurd (let z : ◌≡◌ {A = ℕ} 0 1 = cc in omega arith))
  decl-turns (suc n) (suc m) w u x h ts (first ∷ xs) l l₁ e o f =
      eof-rule s u _ f (λ q i. absurd (let z : ◌≡◌ {A = ℕ} 0 1 = cc in omega arith)) (λ j kind ys q.
      call-one s parse_decl (move_to j u.row u) _ _ (decl-rule (move_to j u.row u) (first ∷ xs) f) (λ c v t zs d f₂ l₂.
      push-same s w u v _ x c o d f₂ (λ y z q₁ o₁ f₁.
      mapped (λ us. t ▸ us) (decl-turns n m w z y h (ts ⊕ (t ▸ none)) zs (omega arith) (omega arith) (q₁ ∙ e) o₁ f₁)
      (λ b v us ws p. (p.0, rw (← ⊕-assoc ts (t ▸ none) us) p.1, p.2, p.3)))))

  -- The file, from an empty store on.
  pub file-rule : (w : World) (xs : List RowToken) → w.store ≡ [] → w.values ≡ [] → w.sane ≡ true → Ahead s w.row xs → cost xs < 2 ^ 26 → length xs < s.bound
      → Sim (Made (λ n u ts ys. (t : Tree) × (ts ≡ t ▸ none) × (n ≡ 0) × Built s.text s.tokens [] [] u.store u.values 0 t × (u.sane ≡ true) × (ys ≡ []))) (runs s parse_file w ok) (read_file s.rows xs)
  unfolding run parse_file alloc_node alloc_node_from read_file branch ◌⊕◌ is_flagged is_name
  file-rule w xs e q sane h room few =
      let new = new_node w.at Node.File 0 in
      let u : World = with_store (w.store ++ (new ∷ [])) w in
      let x : Unfinished = record { node = length w.store; last = 0 } in
      let blank : World = record { at = 0; row = []; store = []; values = []; sane = true } in
      let z : length w.store ≡ 0 = rw e refl in
      let g : Open s blank u x (node_head Node.File 0) 0 none = opened s.text s.tokens {st = []} {u = 0} w.store w.values new (omega (arith, z)) (λ i l. absurd (omega arith)) (λ k p v d. rw q d) refl refl in
      let f : Fits s u xs = record { ahead = h; room = rw q (omega (arith, room)); few = few; born = omega (arith, length-append w.store (new ∷ [])); sound = sane } in
      call s (Loop x decl_turn) u _ _ (decl-turns s.bound (suc (length xs)) blank u x (node_head Node.File 0) none xs few (omega arith) z g f) (λ y v us ys r.
      close-same s blank v ok y r.1 refl r.2 (λ z d s. gives (made (_, refl, r.0, rw r.0 at d, s, r.3))))
