-- Operands: `try_parse_standalone_expr`.
use Rattle.std.proofs.Math.Path.{refl}
use Rattle.std.proofs.Math.Bool.{true, false}
use Rattle.std.proofs.Common.{true≢false, arith, lit<}
use Rattle.std.proofs.Math.Option.{Option}
use Rattle.std.specs.Prelude.{List, length}
use Prim.Native.Nat.{ℕ, zero, suc, ◌<◌}
use Rattle.words.specs.Token
use Rattle.words.specs.Node
use Rattle.words.specs.Flag
use Rattle.definition.specs.declared.Mode.TheVariants.{AllowAll}
use Rattle.definition.specs.declared.Unfinished.{Unfinished}
use Rattle.definition.specs.Prog.{Then, Give, Loop}
use Rattle.definition.specs.Tokens.{expect}
use Rattle.definition.specs.Nodes.{try_parse_builtin_name}
use Rattle.definition.specs.Expressions.{tuple_turn, paren_or_tuple, eats, checks, eager_function, try_parse_conditional, try_parse_match, try_parse_standalone_expr}
use Rattle.definition.specs.Abstract.{World, Fate, ok, move_to}
use Rattle.chart.specs.Row.{Lexeme, RowToken, begins}
use Rattle.chart.specs.Tree.{flags, Tree, Trees, node, none, ◌▸◌, ◌⊕◌, branch}
use Rattle.chart.specs.Tree as Tree
use Rattle.chart.specs.Parser.{Outcome, on, read_elements, read_round, read_struct, read_operand}
use Rattle.chart.specs.Parser as Chart
use Rattle.tree.specs.Stored.{is_name}
use Rattle.tree.specs.Grown.{⊕-none}
use Rattle.agreement.specs.Run.{run, turns}
use Rattle.agreement.specs.Sim.{Sim, gives, Made, made, mapped, call, Setting, runs, lexeme_of, Fits, eat-rule, check-rule, expect-rule, expect-hit}
use Rattle.agreement.specs.Steps.{is_flagged, root_kind, is_odd, Open, Done, Found, found, not_found, Agrees, alloc-rule, push-rule, close-branch, update-rule, expr-rule, block-rule, here-rule}
use Rattle.agreement.specs.Leaves.{name_tree, last-flagged, name-rule, ident-rule}
use Rattle.agreement.specs.Lists.{Longer, longer}
use Rattle.agreement.specs.Branches.{if-rule, match-rule}
use Rattle.agreement.specs.Definitions.{function-rule}
use Rattle.agreement.specs.Structs.{struct-rule, tuple-type-rule}
use Rattle.agreement.specs.Numbers.{number-rule}
use Rattle.agreement.specs.Strings.{string-rule}

module _ (s : Setting) (a : Agrees s) where
  -- ---- round brackets

  tuple-turns : (n m : ℕ) (w u : World) (x : Unfinished) (h : ℕ) (ts : Trees) (xs : List RowToken) → length xs < n → length xs < m → Open s w u x h 0 ts → Fits s u xs
      → Sim (Made (Longer s a w h ts xs)) (turns (λ y v j. runs s (tuple_turn y) v j) n x u (λ y v. runs s (expect Token.RightRound) v (λ _ z. ok y z))) (read_elements s.rows m xs)
  unfolding run turns tuple_turn read_elements ◌⊕◌
  tuple-turns zero m w u x h ts xs l l₁ o f = absurd (omega arith)
  tuple-turns (suc n) zero w u x h ts xs l l₁ o f = absurd (omega arith)
  tuple-turns (suc n) (suc m) w u x h ts xs l l₁ o f =
      check-rule s u _ _ refl f
      (λ j ys q. expect-hit s (move_to j u.row u) _ f q (λ j₁ row t. gives (made (record { opened = rw (⊕-none ts) o; fit = t.fit; shorter = t.shorter }))))
      (λ _ i. expr-rule s a (move_to i u.row u) _ _ AllowAll f (λ c v t ys d f₁ l₂.
      push-rule s w (move_to i u.row u) v _ x c o d f₁ (λ y z o₁ f₂.
      eat-rule s z _ _ refl f₂
      (λ j row zs q. mapped (λ us. t ▸ us) (tuple-turns n m w (move_to (suc j) row z) y h (ts ⊕ (t ▸ none)) zs (omega (arith, q.shorter)) (omega (arith, q.shorter)) o₁ q.fit) (λ b v us ws. longer s a t (omega (arith, q.shorter))))
      (λ _ i₁. expect-rule s (move_to i₁ z.row z) _ _ refl f₂ (λ j row zs q. gives (made (record { opened = o₁; fit = q.fit; shorter = omega (arith, q.shorter) })))))))

  -- After `(`.
  round-rule : {B : Type 0} {P : B → World → Outcome → Type 0} (w : World) (k : ℕ → World → Fate B) (start : ℕ) {xs : List RowToken} → Fits s w xs
      → ((n : ℕ) (u : World) (ts : Trees) (ys : List RowToken) → Done s w u n (node Node.TupleLit (flags 0) ts) → Fits s u ys → length ys < length xs → Sim P (k n u) (Chart.ok (node Node.TupleLit (flags 0) ts ▸ none) ys))
      → ((n : ℕ) (u : World) (ts : Trees) (ys : List RowToken) → Done s w u n (node Node.ParenExpr (flags 0) ts) → Fits s u ys → length ys < length xs → Sim P (k n u) (Chart.ok (node Node.ParenExpr (flags 0) ts ▸ none) ys))
      → Sim P (runs s (paren_or_tuple start) w k) (read_round s.rows xs)
  unfolding run paren_or_tuple read_round branch ◌⊕◌ is_flagged is_name
  round-rule w k start f g h =
      eat-rule s w _ _ refl f
      (λ j row ys t. alloc-rule s (move_to (suc j) row w) _ start Node.TupleLit 0 t.fit (λ x u o f₁. close-branch s (move_to (suc j) row w) u k x o refl f₁ (λ n v d f₂. g n v none ys d f₂ t.shorter)))
      (λ _ i. alloc-rule s (move_to i w.row w) _ start Node.ParenExpr 0 f (λ x u o f₁.
      expr-rule s a u _ _ AllowAll f₁ (λ n v t zs d f₂ l.
      push-rule s (move_to i w.row w) u v _ x n o d f₂ (λ y z o₁ f₃.
      eat-rule s z _ _ refl f₃
      (λ j row ws q. update-rule s (move_to i w.row w) (move_to (suc j) row z) _ y Node.TupleLit 0 o₁ q.fit (λ z₁ o₂ f₄.
      call s (Then (Loop y tuple_turn) (λ e. Then (expect Token.RightRound) (λ _. Give e))) z₁ _ _
      (tuple-turns s.bound (suc (length ws)) (move_to i w.row w) z₁ y _ (t ▸ none) ws f₄.few (omega arith) o₂ f₄)
      (λ e z₂ us vs r. close-branch s (move_to i w.row w) z₂ k e r.opened refl r.fit (λ n₁ z₃ d₁ f₅. g n₁ z₃ _ vs d₁ f₅ (omega (arith, q.shorter, r.shorter))))))
      (λ _ i₁. expect-rule s (move_to i₁ z.row z) _ _ refl f₃ (λ j row ws q. close-branch s (move_to i w.row w) (move_to (suc j) row z) k y o₁ refl q.fit (λ n₁ z₁ d₁ f₄. h n₁ z₁ _ ws d₁ f₄ (omega (arith, q.shorter)))))))))

  -- ---- all of them

  -- A builtin's name.
  builtin-rule : {B : Type 0} {P : B → World → Outcome → Type 0} (w : World) (k : Option ℕ → World → Fate B) (h : Lexeme → List RowToken → Outcome) {xs : List RowToken} {m : Outcome} → Fits s w xs
      → ((n : ℕ) (u : World) (j : ℕ) (ys : List RowToken) → Done s w u n (name_tree Node.BuiltinName (lexeme_of s j).spelling) → Fits s u ys → length ys < length xs → Sim P (k (Option.some n) u) (h (lexeme_of s j) ys))
      → ((i : ℕ) → Sim P (k Option.none (move_to i w.row w)) m)
      → Sim P (runs s try_parse_builtin_name w k) (on Token.BuiltinName xs h m)
  unfolding run try_parse_builtin_name is_name
  builtin-rule w k h f hit miss =
      eat-rule s w _ h refl f
      (λ j row ys t. name-rule s a (move_to (suc j) row w) _ Node.BuiltinName Token.BuiltinName j (lit< tt) refl t.inside t.kind t.fit (λ n u d g. hit n u j ys d g t.shorter))
      (λ _ i. miss i)

  pub operand_read : (w : World) (xs : List RowToken) → Fits s w xs → Sim (Found s w xs) (runs s try_parse_standalone_expr w ok) (read_operand s.rows xs)
  unfolding run try_parse_standalone_expr eats checks eager_function try_parse_conditional try_parse_match read_operand read_struct branch is_flagged is_name is_odd root_kind begins Tree.flag
  operand_read w xs f =
      eat-rule s w _ _ refl f (λ j row ys t. last-flagged s (move_to (suc j) row w) _ Node.BoolLiteral Flag.BoolLiteral-true refl t.fit (λ n u d f₁. gives (found d f₁ t.shorter (λ _. refl)))) (λ _ i₁.
      eat-rule s (move_to i₁ w.row w) _ _ refl f (λ j row ys t. last-flagged s (move_to (suc j) row w) _ Node.BoolLiteral 0 refl t.fit (λ n u d f₁. gives (found d f₁ t.shorter (λ _. refl)))) (λ _ i₂.
      number-rule s (move_to i₂ w.row w) _ _ f (λ n u v ys d f₁ l. gives (found d f₁ l (λ _. refl))) (λ i₃.
      string-rule s a.bytes (move_to i₃ w.row w) _ _ f (λ n u bs ys d f₁ l. gives (found d f₁ l (λ _. refl))) (λ i₄.
      eat-rule s (move_to i₄ w.row w) _ _ refl f (λ j row ys t. last-flagged s (move_to (suc j) row w) _ Node.SelfType 0 refl t.fit (λ n u d f₁. gives (found d f₁ t.shorter (λ _. refl)))) (λ _ i₅.
      ident-rule s a (move_to i₅ w.row w) _ _ f (λ n u j ys d f₁ l. gives (found d f₁ l (λ _. refl))) (λ _ i₆.
      builtin-rule (move_to i₆ w.row w) _ _ f (λ n u j ys d f₁ l. gives (found d f₁ l (λ _. refl))) (λ i₇.
      eat-rule s (move_to i₇ w.row w) _ _ refl f (λ j row ys t. round-rule (move_to (suc j) row w) _ _ t.fit
      (λ n u ts zs d f₁ l. gives (found d f₁ (omega (arith, t.shorter)) (λ _. refl))) (λ n u ts zs d f₁ l. gives (found d f₁ (omega (arith, t.shorter)) (λ _. refl)))) (λ _ i₈.
      eat-rule s (move_to i₈ w.row w) _ _ refl f (λ j row ys t. block-rule s a (move_to (suc j) row w) _ _ _ Node.ComptimeBlock refl t.fit
      (λ n u ts zs d f₁ l. gives (found d f₁ (omega (arith, t.shorter)) (λ q. absurd (true≢false (rw t.first at q)))))) (λ _ i₉.
      eat-rule s (move_to i₉ w.row w) _ _ refl f (λ j row ys t. expect-rule s (move_to (suc j) row w) _ _ refl t.fit (λ j₁ row₁ zs t₁. function-rule s a (move_to (suc j₁) row₁ w) _ _ _ true t₁.fit
      (λ n u ts vs d f₁ l. gives (found d f₁ (omega (arith, t.shorter, t₁.shorter)) (λ _. refl))))) (λ _ i₁₀.
      eat-rule s (move_to i₁₀ w.row w) _ _ refl f (λ j row ys t. function-rule s a (move_to (suc j) row w) _ _ _ false t.fit
      (λ n u ts vs d f₁ l. gives (found d f₁ (omega (arith, t.shorter)) (λ _. refl)))) (λ _ i₁₁.
      eat-rule s (move_to i₁₁ w.row w) _ _ refl f (λ j row ys t. struct-rule s a (move_to (suc j) row w) _ (λ ts vs. Chart.ok (branch Node.StructDef 0 ts) vs) _ t.fit
      (λ n u ts vs d f₁ l. gives (found d f₁ (omega (arith, t.shorter)) (λ _. refl)))) (λ _ i₁₂.
      eat-rule s (move_to i₁₂ w.row w) _ _ refl f (λ j row ys t. tuple-type-rule s a (move_to (suc j) row w) _ _ _ t.fit
      (λ n u ts vs d f₁ l. gives (found d f₁ (omega (arith, t.shorter)) (λ _. refl)))) (λ _ i₁₃.
      check-rule s (move_to i₁₃ w.row w) _ _ refl f (λ j ys q. here-rule s a (move_to j w.row w) _ _ (rw q at f)
      (λ n u ts vs d f₁ l. gives (found d f₁ (rw q l) (λ _. refl)))) (λ _ i₁₄.
      eat-rule s (move_to i₁₄ w.row w) _ _ refl f (λ j row ys t. if-rule s a (move_to (suc j) row w) _ (λ ts vs. Chart.ok (branch Node.If 0 ts) vs) _ t.fit
      (λ n u ts vs d f₁ l. gives (found d f₁ (omega (arith, t.shorter)) (λ _. refl)))) (λ _ i₁₅.
      eat-rule s (move_to i₁₅ w.row w) _ _ refl f (λ j row ys t. match-rule s a (move_to (suc j) row w) _ (λ ts vs. Chart.ok (branch Node.Match 0 ts) vs) _ t.fit
      (λ n u ts vs d f₁ l. gives (found d f₁ (omega (arith, t.shorter)) (λ _. refl)))) (λ _ i₁₆.
      gives (not_found i₁₆)))))))))))))))))
