-- Expressions: `try_parse_expr_min_bp`.
use Rattle.std.specs.Prelude.{◌≡◌, true, false, cond, not, ◌&&◌, List, ◌∷◌, eqb, ltb, leb, length}
use Rattle.std.proofs.Math.Path.{refl}
use Rattle.std.proofs.Math.Bool.{Bool}
use Rattle.std.proofs.Common.{true≢false, arith, leb-true, leb-false, lt-ltb, le-ltb}
use Rattle.std.proofs.lemmas.Bool.{false≢true}
use Rattle.std.proofs.Math.Option.{Option}
use Prim.Native.Nat.{ℕ, zero, suc, ◌+◌, ◌*◌, ◌<◌}
use Rattle.words.specs.Token
use Rattle.words.specs.Node
use Rattle.words.specs.UnaryOp
use Rattle.definition.specs.declared.Mode.{Mode}
use Rattle.definition.specs.Prog.{Turn, again, stop, Then, Give, Branch, Loop, pass}
use Rattle.definition.specs.Nodes.{skip_trivia_start}
use Rattle.definition.specs.Expressions.{Binary, binaries, binary_of, unary_of, allows_struct_literal, member_expr, call_expr, struct_lit, field_assign, expr_element, binary_expr, binary_step, expr_turn, unary_expr, eat_unary, check_binary_op, try_parse_expr_min_bp, try_parse_standalone_expr, access_name, eats, checks}
use Rattle.definition.specs.Abstract.{World, Fate, ok, move_to}
use Rattle.chart.specs.Row.{Lexeme, RowToken, token, begins}
use Rattle.chart.specs.Tree.{flags, Tree, Trees, node, none, ◌▸◌, ◌⊕◌, branch, named}
use Rattle.chart.specs.Chart.{prefix_level, binary_tree}
use Rattle.chart.specs.Parser.{Role, within, lookup, operator_of, not_binary, Outcome, if, on, bind, try, on_level, on_op, nothing, failed, read_list, read_fields, read_on, read_operand, read_prefix, read_level}
use Rattle.chart.specs.Parser as Chart
use Rattle.tree.specs.Stored.{is_name}
use Rattle.agreement.specs.Run.{run, turns}
use Rattle.agreement.specs.Sim.{Sim, gives, call-try, Setting, runs, lexeme_of, Fits, peek-rule, pass-rule, eat-rule, check-rule, check-is, unexpected-rule}
use Rattle.agreement.specs.Steps.{is_flagged, root_kind, is_odd, Ranked, Done, Found, found, not_found, Agrees, alloc-rule, alloc-here, push-rule, close-branch, operand-rule}
use Rattle.agreement.specs.Leaves.{ident-rule}
use Rattle.agreement.specs.Lists.{list-rule, list-expect, expressions}
use Rattle.agreement.specs.Closing.{around-rule, around-two}
use Rattle.agreement.specs.Structs.{fields}
use Rattle.agreement.specs.Operands.{operand_read}

-- ---- operators

-- A binary operator of the definition, and its level and payload in the chart: the left priority of level j is 2 j + 1, the right one 2 j + 2.
pub data Alike : Option Binary → Role → Type 0 where
  neither : Alike Option.none not_binary
  both : {b : Binary} {j op : ℕ} → b.left ≡ 2 * j + 1 → b.right ≡ 2 * j + 2 → ltb b.right 21 ≡ true → b.op ≡ op → is_flagged Node.BinaryExpr b.op ≡ true → Alike (Option.some b) (Chart.binary_of j op)

or-else : {b : Binary} {j op : ℕ} {x : Option Binary} {r : Role} (c : Bool) → Alike (Option.some b) (Chart.binary_of j op) → Alike x r → Alike (elim c [ true ↦ Option.some b | false ↦ x ]) (cond c (Chart.binary_of j op) r)
or-else true p q = p
or-else false p q = q

-- The two tables are one.
operators : (kind : ℕ) → Alike (binary_of binaries kind) (operator_of kind)
unfolding binary_of binaries operator_of lookup within is_flagged is_name
operators kind =
    or-else (eqb kind Token.Or) (both refl refl refl refl refl)
    (or-else (eqb kind Token.And) (both refl refl refl refl refl)
    (or-else (eqb kind Token.DoubleEquals) (both refl refl refl refl refl)
    (or-else (eqb kind Token.BangEquals) (both refl refl refl refl refl)
    (or-else (eqb kind Token.LessThan) (both refl refl refl refl refl)
    (or-else (eqb kind Token.GreaterThan) (both refl refl refl refl refl)
    (or-else (eqb kind Token.LessEquals) (both refl refl refl refl refl)
    (or-else (eqb kind Token.GreaterEquals) (both refl refl refl refl refl)
    (or-else (eqb kind Token.Pipe) (both refl refl refl refl refl)
    (or-else (eqb kind Token.Caret) (both refl refl refl refl refl)
    (or-else (eqb kind Token.Ampersand) (both refl refl refl refl refl)
    (or-else (eqb kind Token.ShiftLeft) (both refl refl refl refl refl)
    (or-else (eqb kind Token.ShiftRight) (both refl refl refl refl refl)
    (or-else (eqb kind Token.Plus) (both refl refl refl refl refl)
    (or-else (eqb kind Token.Minus) (both refl refl refl refl refl)
    (or-else (eqb kind Token.PlusPercent) (both refl refl refl refl refl)
    (or-else (eqb kind Token.MinusPercent) (both refl refl refl refl refl)
    (or-else (eqb kind Token.Star) (both refl refl refl refl refl)
    (or-else (eqb kind Token.Slash) (both refl refl refl refl refl)
    (or-else (eqb kind Token.Percent) (both refl refl refl refl refl)
    (or-else (eqb kind Token.StarPercent) (both refl refl refl refl refl)
    (or-else (eqb kind Token.PlusSlash) (both refl refl refl refl refl)
    (or-else (eqb kind Token.MinusSlash) (both refl refl refl refl refl)
    (or-else (eqb kind Token.LessSlash) (both refl refl refl refl refl)
    (or-else (eqb kind Token.GreaterSlash) (both refl refl refl refl refl)
    neither))))))))))))))))))))))))

-- What is wanted of the right operand: a tighter level.
tighter : (min j : ℕ) → min ≡ 2 * j + 2 → ltb min 21 ≡ true → Ranked min (suc j)
tighter min j e l = record { below = l; same = λ i. go i (leb (suc j) i) refl }
  where
    go : (i : ℕ) (b : Bool) → leb (suc j) i ≡ b → ltb (2 * i + 1) min ≡ not b
    go i true q = le-ltb (2 * i + 1) min (omega (arith, leb-true (suc j) i q))
    go i false q = lt-ltb (2 * i + 1) min (omega (arith, leb-false (suc j) i q))

-- Of the operand of a prefix operator: no binary operator at all, since each level is below the ninth.
prefixed : Ranked 19 prefix_level
prefixed = record { below = refl; same = λ i. go i (leb 9 i) refl }
  where
    go : (i : ℕ) (b : Bool) → leb 9 i ≡ b → ltb (2 * i + 1) 19 ≡ not b
    go i true q = le-ltb (2 * i + 1) 19 (omega (arith, leb-true 9 i q))
    go i false q = lt-ltb (2 * i + 1) 19 (omega (arith, leb-false 9 i q))

module _ (s : Setting) (a : Agrees s) where
  -- ---- what goes on from an expression

  module _ {B : Type 0} {P : B → World → Outcome → Type 0} where
    -- After `.`.
    member-rule : (w u : World) (k : ℕ → World → Fate B) (c : Tree → List RowToken → Outcome) (start expr : ℕ) {t : Tree} {xs : List RowToken} → 0 < length w.store → Done s w u expr t → Fits s u xs
        → ((n : ℕ) (v : World) (ts : Trees) (ys : List RowToken) → Done s w v n (node Node.MemberExpr (flags 0) ts) → Fits s v ys → length ys < length xs → Sim P (k n v) (c (node Node.MemberExpr (flags 0) ts) ys))
        → Sim P (runs s (member_expr start expr) u k) (on Token.Identifier xs (λ v ys. c (node Node.MemberExpr (flags 0) (t ▸ named v)) ys) failed)
    unfolding run member_expr access_name ◌⊕◌ is_flagged is_name
    member-rule w u k c start expr born d f g =
        around-rule s w u _ start Node.MemberExpr 0 expr born d f (λ x z o f₁.
        ident-rule s a z _ _ f₁
        (λ n v j ys d₁ f₂ l. push-rule s w z v _ x n o d₁ f₂ (λ y v₁ o₁ f₃. close-branch s w v₁ k y o₁ refl f₃ (λ m v₂ d₂ f₄. g m v₂ _ ys d₂ f₄ l)))
        (λ _ i. unexpected-rule s (move_to i z.row z) _ f₁))

    -- At `(`.
    call-rule : (w u : World) (k : ℕ → World → Fate B) (c : Tree → List RowToken → Outcome) (start expr : ℕ) {t : Tree} {v : Lexeme} {xs ys : List RowToken} → 0 < length w.store → Done s w u expr t → Fits s u xs → xs ≡ token Token.LeftRound v ∷ ys
        → ((n : ℕ) (z : World) (ts : Trees) (zs : List RowToken) → Done s w z n (node Node.CallExpr (flags 0) ts) → Fits s z zs → length zs < length xs → Sim P (k n z) (c (node Node.CallExpr (flags 0) ts) zs))
        → Sim P (runs s (call_expr start expr) u k) (bind (read_list Token.RightRound s.rows (suc (length ys)) ys) (λ us zs. c (node Node.CallExpr (flags 0) (t ▸ us)) zs))
    unfolding run call_expr ◌⊕◌ is_flagged is_name
    call-rule w u k c start expr {t} born d f q g =
        around-rule s w u _ start Node.CallExpr 0 expr born d f (λ x z o f₁.
        list-rule s a Token.RightRound refl expr_element (read_list Token.RightRound s.rows) (expressions s a Token.RightRound) w z _ (λ us zs. c (node Node.CallExpr (flags 0) (t ▸ us)) zs) Token.LeftRound x o f₁ q (λ y v us zs o₁ f₂ l.
        close-branch s w v k y o₁ refl f₂ (λ n v₁ d₁ f₃. g n v₁ _ zs d₁ f₃ l)))

    -- At `{`.
    literal-rule : (w u : World) (k : ℕ → World → Fate B) (c : Tree → List RowToken → Outcome) (start expr : ℕ) {t : Tree} {xs : List RowToken} → 0 < length w.store → Done s w u expr t → Fits s u xs
        → ((n : ℕ) (z : World) (ts : Trees) (zs : List RowToken) → Done s w z n (node Node.StructLit (flags 0) ts) → Fits s z zs → length zs < length xs → Sim P (k n z) (c (node Node.StructLit (flags 0) ts) zs))
        → Sim P (runs s (struct_lit start expr) u k) (on Token.LeftCurly xs (λ _ ys. bind (read_fields s.rows (suc (length ys)) ys) (λ us zs. c (node Node.StructLit (flags 0) (t ▸ us)) zs)) failed)
    unfolding run struct_lit ◌⊕◌ is_flagged is_name
    literal-rule w u k c start expr {t} born d f g =
        around-rule s w u _ start Node.StructLit 0 expr born d f (λ x z o f₁.
        list-expect s a Token.RightCurly refl field_assign (read_fields s.rows) (fields s a) w z _ (λ us zs. c (node Node.StructLit (flags 0) (t ▸ us)) zs) Token.LeftCurly x refl o f₁ (λ y v us zs o₁ f₂ l.
        close-branch s w v k y o₁ refl f₂ (λ n v₁ d₁ f₃. g n v₁ _ zs d₁ f₃ l)))

    -- At a binary operator.
    binary-rule : (w u : World) (k : ℕ → World → Fate B) (c : Tree → List RowToken → Outcome) (mode : Mode) (start expr : ℕ) (b : Binary) (j kind : ℕ) {t : Tree} {v : Lexeme} {xs ys : List RowToken} → 0 < length w.store → Done s w u expr t → Fits s u xs → xs ≡ token kind v ∷ ys
        → Ranked b.right (suc j) → is_flagged Node.BinaryExpr b.op ≡ true
        → ((n : ℕ) (z : World) (ts : Trees) (zs : List RowToken) → Done s w z n (node Node.BinaryExpr (flags b.op) ts) → Fits s z zs → length zs < length xs → Sim P (k n z) (c (node Node.BinaryExpr (flags b.op) ts) zs))
        → Sim P (runs s (binary_expr mode start expr b) u k) (bind (s.rows.expr (allows_struct_literal mode) (suc j) ys) (λ r zs. c (node Node.BinaryExpr (flags b.op) (t ▸ (node Node.Operator (flags 0) none ▸ r))) zs))
    unfolding run binary_expr ◌⊕◌ is_flagged is_name
    binary-rule w u k c mode start expr b j kind {t} {xs = xs} {ys = ys} born d f e rank flat g =
        alloc-here s u _ Node.Operator 0 f (λ x u₁ o f₁.
        pass-rule s u₁ _ f₁ e (λ i row _ t₁.
        close-branch s u (move_to (suc i) row u₁) _ x o refl t₁.fit (λ n u₂ d₁ f₂.
        around-two s w u u₂ _ start Node.BinaryExpr b.op expr n born d d₁ f₂ (λ y z o₁ f₃.
        operand-rule s a z _ _ mode b.right (suc j) rank f₃ (λ m z₁ r zs d₂ f₄ l.
        push-rule s w z z₁ _ y m o₁ d₂ f₄ (λ y₁ z₂ o₂ f₅.
        close-branch s w z₂ k y₁ o₂ flat f₅ (λ n₁ z₃ d₃ f₆. g n₁ z₃ _ zs d₃ f₆ (omega (arith, t₁.shorter)))))))))

  -- ---- the loop

  module _ (mode : Mode) (min level start : ℕ) (rank : Ranked min level) where
    -- Turns from an expression on.
    abbrev continued : ℕ → ℕ → World → Fate (Option ℕ)
    continued n expr u = turns (λ y v j. runs s (expr_turn mode min start y) v j) n expr u (λ y v. ok (Option.some y) v)

    abbrev OnTurns : ℕ → ℕ → Type 0
    OnTurns n m =
        (w u : World) (expr : ℕ) (t : Tree) (xs₀ xs : List RowToken) → length xs < n → length xs < m → 0 < length w.store → Done s w u expr t → Fits s u xs → length xs < length xs₀ → (begins Token.Comptime xs₀ ≡ false → is_odd (root_kind t) ≡ false)
        → Sim (Found s w xs₀) (continued n expr u) (read_on s.rows m (allows_struct_literal mode) level (t ▸ none) xs)

    -- What a turn is followed by, where n are left.
    abbrev next : ℕ → ℕ → Option ℕ → World → Fate (Option ℕ)
    next n expr x v = runs s {A = Turn ℕ} (elim x [ Option.some y ↦ Give (again y) | Option.none ↦ Give (stop expr) ]) v (λ t z. elim t [ again y ↦ continued n y z | stop y ↦ ok (Option.some y) z ])

    module _ (n m : ℕ) (ih : OnTurns n m) (w u : World) (expr : ℕ) (t : Tree) (xs₀ xs : List RowToken) (l : length xs < suc n) (l₁ : length xs < suc m) (born : 0 < length w.store) (d : Done s w u expr t) (f : Fits s u xs) (l₂ : length xs < length xs₀)
        (odd : begins Token.Comptime xs₀ ≡ false → is_odd (root_kind t) ≡ false) where
      -- The rest of the row, where a tree was made.
      on-with : (v : World) (n₁ : ℕ) (t₁ : Tree) (zs : List RowToken) → Done s w v n₁ t₁ → Fits s v zs → length zs < length xs → is_odd (root_kind t₁) ≡ false → Sim (Found s w xs₀) (continued n n₁ v) (read_on s.rows m (allows_struct_literal mode) level (t₁ ▸ none) zs)
      on-with v n₁ t₁ zs d₁ f₁ l₃ e = ih w v n₁ t₁ xs₀ zs (omega arith) (omega arith) born d₁ f₁ (omega arith) (λ _. e)

      -- A binary operator, or none.
      operator-next : (i : ℕ) → Sim (Found s w xs₀) (runs s (binary_step mode min start expr) (move_to i u.row u) (next n expr))
          (on_op level xs (λ o j ys. bind (s.rows.expr (allows_struct_literal mode) (suc j) ys) (λ r zs. read_on s.rows m (allows_struct_literal mode) level (binary_tree o (t ▸ none) r) zs)) (Chart.ok (t ▸ none) xs))
      unfolding run binary_step check_binary_op on_op on_level if binary_tree branch ◌⊕◌ is_odd root_kind
      operator-next i =
          peek-rule s (move_to i u.row u) (λ kind v. step (binary_of binaries kind) v) f
          (λ i₁ e. rw e (unfold binary_of binaries in (gives (found d (rw e at f) (rw e at l₂) odd))))
          (λ j kind ys e _. rw e (go j kind ys e (operators kind)))
        where
          step : Option Binary → World → Fate (Option ℕ)
          step x v = runs s {A = Option ℕ} (elim x [ Option.none ↦ Give Option.none | Option.some b ↦ Branch (ltb b.left min) (Give Option.none) (Then (binary_expr mode start expr b) (λ y. Give (Option.some y))) ]) v (next n expr)

          stays : (j : ℕ) → Sim (Found s w xs₀) (ok (Option.some expr) (move_to j u.row u)) (Chart.ok (t ▸ none) xs)
          stays j = gives (found d f l₂ odd)

          go : (j kind : ℕ) (ys : List RowToken) → xs ≡ token kind (lexeme_of s j) ∷ ys → {x : Option Binary} {r : Role} → Alike x r
              → Sim (Found s w xs₀) (step x (move_to j u.row u)) (on_level r level (λ o q. bind (s.rows.expr (allows_struct_literal mode) (suc q) ys) (λ r zs. read_on s.rows m (allows_struct_literal mode) level (binary_tree o (t ▸ none) r) zs)) (Chart.ok (t ▸ none) (token kind (lexeme_of s j) ∷ ys)))
          go j kind ys e neither = rw e at (stays j)
          go j kind ys e (both {b} {j = q} {op} p₁ p₂ p₃ p₄ p₅) = choose (leb level q) (ltb b.left min) (rw p₁ (rank.same q))
            where
              choose : (c e₁ : Bool) → e₁ ≡ not c
                  → Sim (Found s w xs₀) (runs s {A = Option ℕ} (Branch e₁ (Give Option.none) (Then (binary_expr mode start expr b) (λ y. Give (Option.some y)))) (move_to j u.row u) (next n expr))
                  (if c (bind (s.rows.expr (allows_struct_literal mode) (suc q) ys) (λ r zs. read_on s.rows m (allows_struct_literal mode) level (binary_tree op (t ▸ none) r) zs)) (Chart.ok (t ▸ none) (token kind (lexeme_of s j) ∷ ys)))
              choose true true z = absurd (true≢false z)
              choose true false z =
                  rw (← p₄) (binary-rule w (move_to j u.row u) _ (λ t₁ zs. read_on s.rows m (allows_struct_literal mode) level (t₁ ▸ none) zs) mode start expr b q kind born d f e (tighter b.right q p₂ p₃) p₅ (λ n₁ v ts zs d₁ f₁ l₃. on-with v n₁ _ zs d₁ f₁ l₃ refl))
              choose false true z = rw e at (stays j)
              choose false false z = absurd (false≢true z)

      -- A struct literal where it is allowed, or an operator.
      literal-next : (i : ℕ) → Sim (Found s w xs₀) (runs s {A = Option ℕ} (Then (Branch (allows_struct_literal mode && ltb min 21) (checks Token.LeftCurly (struct_lit start expr)) (Give Option.none)) (λ x. elim x [ Option.some y ↦ Give (Option.some y) | Option.none ↦ binary_step mode min start expr ])) (move_to i u.row u) (next n expr))
          (if (allows_struct_literal mode && begins Token.LeftCurly xs) (on Token.LeftCurly xs (λ _ ys. bind (read_fields s.rows (suc (length ys)) ys) (λ us zs. read_on s.rows m (allows_struct_literal mode) level (branch Node.StructLit 0 ((t ▸ none) ⊕ us)) zs)) failed)
          (on_op level xs (λ o j ys. bind (s.rows.expr (allows_struct_literal mode) (suc j) ys) (λ r zs. read_on s.rows m (allows_struct_literal mode) level (binary_tree o (t ▸ none) r) zs)) (Chart.ok (t ▸ none) xs)))
      unfolding run checks if branch ◌⊕◌ is_odd root_kind
      literal-next i = go (allows_struct_literal mode) (ltb min 21) (begins Token.LeftCurly xs) rank.below refl
        where
          rest : Bool → Bool → Outcome
          rest c b =
              if (c && b) (on Token.LeftCurly xs (λ _ ys. bind (read_fields s.rows (suc (length ys)) ys) (λ us zs. read_on s.rows m (allows_struct_literal mode) level (branch Node.StructLit 0 ((t ▸ none) ⊕ us)) zs)) failed)
              (on_op level xs (λ o j ys. bind (s.rows.expr (allows_struct_literal mode) (suc j) ys) (λ r zs. read_on s.rows m (allows_struct_literal mode) level (binary_tree o (t ▸ none) r) zs)) (Chart.ok (t ▸ none) xs))

          go : (c e b : Bool) → e ≡ true → begins Token.LeftCurly xs ≡ b
              → Sim (Found s w xs₀) (runs s {A = Option ℕ} (Then (Branch (c && e) (checks Token.LeftCurly (struct_lit start expr)) (Give Option.none)) (λ x. elim x [ Option.some y ↦ Give (Option.some y) | Option.none ↦ binary_step mode min start expr ])) (move_to i u.row u) (next n expr)) (rest c b)
          go c false b z q = absurd (false≢true z)
          go false true b z q = operator-next i
          go true true true z q =
              check-is s (move_to i u.row u) _ Token.LeftCurly refl f (λ i₁. rw q (
              literal-rule w (move_to i₁ u.row u) _ (λ t₁ zs. read_on s.rows m (allows_struct_literal mode) level (t₁ ▸ none) zs) start expr born d f (λ n₁ v ts zs d₁ f₁ l₃. on-with v n₁ _ zs d₁ f₁ l₃ refl)))
          go true true false z q = check-is s (move_to i u.row u) _ Token.LeftCurly refl f (λ i₁. rw q (operator-next i₁))

    on-turns : (n m : ℕ) → OnTurns n m
    unfolding run turns expr_turn eats checks read_on branch ◌⊕◌ is_odd root_kind
    on-turns zero m w u expr t xs₀ xs l l₁ born d f l₂ odd = absurd (omega arith)
    on-turns (suc n) zero w u expr t xs₀ xs l l₁ born d f l₂ odd = absurd (omega arith)
    on-turns (suc n) (suc m) w u expr t xs₀ xs l l₁ born d f l₂ odd =
        rw rank.below
        (eat-rule s u _ _ refl f
        (λ j row ys q. member-rule w (move_to (suc j) row u) _ (λ t₁ zs. read_on s.rows m (allows_struct_literal mode) level (t₁ ▸ none) zs) start expr born d q.fit (λ n₁ v ts zs d₁ f₁ l₃.
        on-with n m (on-turns n m) w u expr t xs₀ xs l l₁ born d f l₂ odd v n₁ _ zs d₁ f₁ (omega (arith, q.shorter)) refl))
        (λ _ i. rw rank.below
        (check-rule s (move_to i u.row u) _ _ refl f
        (λ j ys q. call-rule w (move_to j u.row u) _ (λ t₁ zs. read_on s.rows m (allows_struct_literal mode) level (t₁ ▸ none) zs) start expr born d f q (λ n₁ v ts zs d₁ f₁ l₃.
        on-with n m (on-turns n m) w u expr t xs₀ xs l l₁ born d f l₂ odd v n₁ _ zs d₁ f₁ l₃ refl))
        (λ _ i₁. literal-next n m (on-turns n m) w u expr t xs₀ xs l l₁ born d f l₂ odd i₁))))

    -- ---- the whole expression

    -- After its first operand.
    abbrev afterwards : Option ℕ → World → Fate (Option ℕ)
    afterwards x v = runs s {A = Option ℕ} (elim x [ Option.none ↦ Give Option.none | Option.some y ↦ Then (Loop y (expr_turn mode min start)) (λ n. Give (Option.some n)) ]) v ok

    -- A prefix operator and its operand.
    prefix-read : (w : World) (op j kind : ℕ) {v : Lexeme} {xs ys : List RowToken} → Fits s w xs → xs ≡ token kind v ∷ ys → is_flagged Node.UnaryExpr op ≡ true
        → Sim (Found s w xs) (runs s pass (move_to j w.row w) (λ _ u. runs s (unary_expr mode start op) u afterwards)) (read_prefix s.rows (allows_struct_literal mode) level op ys)
    unfolding run unary_expr read_prefix branch ◌⊕◌ is_odd root_kind
    prefix-read w op j kind {xs = xs} {ys = ys} f e flat =
        pass-rule s (move_to j w.row w) (λ _ u. runs s (unary_expr mode start op) u afterwards) f e (λ i row _ t.
        alloc-rule s (move_to (suc i) row w) _ start Node.UnaryExpr op t.fit (λ x u o f₁.
        operand-rule s a u _ _ mode 19 prefix_level prefixed f₁ (λ n v r zs d f₂ l.
        push-rule s (move_to (suc i) row w) u v _ x n o d f₂ (λ y z o₁ f₃.
        close-branch s (move_to (suc i) row w) z _ y o₁ flat f₃ (λ m z₁ d₁ f₄.
        on-turns s.bound (suc (length zs)) w z₁ m _ xs zs f₄.few (omega arith) f.born d₁ f₄ (omega (arith, t.shorter)) (λ _. refl))))))

    -- An operand without prefix.
    plain-read : (w : World) (j : ℕ) (xs : List RowToken) → Fits s w xs
        → Sim (Found s w xs) (runs s try_parse_standalone_expr (move_to j w.row w) afterwards) (try (read_operand s.rows xs) (λ t zs. read_on s.rows (suc (length zs)) (allows_struct_literal mode) level t zs) nothing)
    unfolding run try
    plain-read w j xs f = call-try s try_parse_standalone_expr (move_to j w.row w) afterwards _ nothing (operand_read s a (move_to j w.row w) xs f) (λ x v. go)
      where
        go : {x : Option ℕ} {v : World} {o : Outcome} → Found s (move_to j w.row w) xs x v o → Sim (Found s w xs) (afterwards x v) (try o (λ t zs. read_on s.rows (suc (length zs)) (allows_struct_literal mode) level t zs) nothing)
        go (found {n} {u} {t} {ys} d f₁ l odd) = on-turns s.bound (suc (length ys)) w u n t xs ys f₁.few (omega arith) f.born d f₁ l odd
        go (not_found i) = gives (not_found i)

  pub expression-read : (mode : Mode) (min level : ℕ) (w : World) (xs : List RowToken) → Ranked min level → Fits s w xs → Sim (Found s w xs) (runs s (try_parse_expr_min_bp mode min) w ok) (read_level s.rows (allows_struct_literal mode) level xs)
  unfolding run try_parse_expr_min_bp skip_trivia_start eat_unary unary_of read_level on if is_flagged is_name
  expression-read mode min level w xs rank f =
      peek-rule s w (λ _ u. from u.at u) f (λ i e. unary i) (λ j kind ys e _. unary j)
    where
      from : ℕ → World → Fate (Option ℕ)
      from start u = runs s eat_unary u (λ x v. runs s {A = Option ℕ} (elim x [ Option.some op ↦ unary_expr mode start op | Option.none ↦ try_parse_standalone_expr ]) v (afterwards mode min level start rank))

      step : ℕ → Option ℕ → World → Fate (Option ℕ)
      step start x u =
          runs s {A = Option ℕ} (elim x [ Option.some op ↦ Then pass (λ _. Give (Option.some op)) | Option.none ↦ Give Option.none ]) u
          (λ x v. runs s {A = Option ℕ} (elim x [ Option.some op ↦ unary_expr mode start op | Option.none ↦ try_parse_standalone_expr ]) v (afterwards mode min level start rank))

      plain : List RowToken → Outcome
      plain zs = try (read_operand s.rows zs) (λ t zs. read_on s.rows (suc (length zs)) (allows_struct_literal mode) level t zs) nothing

      go : (i j kind : ℕ) (ys : List RowToken) → xs ≡ token kind (lexeme_of s j) ∷ ys → (p q r : Bool)
          → Sim (Found s w xs) (step i (elim p [ true ↦ Option.some UnaryOp.Minus | false ↦ elim q [ true ↦ Option.some UnaryOp.Bang | false ↦ elim r [ true ↦ Option.some UnaryOp.Tilde | false ↦ Option.none ] ] ]) (move_to j w.row w))
          (if p (read_prefix s.rows (allows_struct_literal mode) level UnaryOp.Minus ys) (if q (read_prefix s.rows (allows_struct_literal mode) level UnaryOp.Bang ys) (if r (read_prefix s.rows (allows_struct_literal mode) level UnaryOp.Tilde ys) (plain xs))))
      go i j kind ys e true q r = prefix-read mode min level i rank w UnaryOp.Minus j kind f e refl
      go i j kind ys e false true r = prefix-read mode min level i rank w UnaryOp.Bang j kind f e refl
      go i j kind ys e false false true = prefix-read mode min level i rank w UnaryOp.Tilde j kind f e refl
      go i j kind ys e false false false = plain-read mode min level i rank w j xs f

      unary : (i : ℕ) → Sim (Found s w xs) (from i (move_to i w.row w)) (read_level s.rows (allows_struct_literal mode) level xs)
      unary i =
          peek-rule s (move_to i w.row w) (λ kind u. step i (unary_of kind) u) f
          (λ i₁ e. rw e (rw e at (plain-read mode min level i rank w i₁ xs f)))
          (λ j kind ys e _. rw e (rw e at (go i j kind ys e (eqb kind Token.Minus) (eqb kind Token.Bang) (eqb kind Token.Tilde))))
