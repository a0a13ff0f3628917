-- `if` and `match`.
use Rattle.std.specs.Prelude.{◌≡◌, true, false}
use Rattle.std.proofs.Math.Path.{refl, ap}
use Rattle.std.proofs.Math.Option.{Option}
use mathlib.Core.List.{List}
use Prim.Native.Nat.{ℕ, zero, suc, ◌<◌}
use Rattle.std.proofs.Common.{arith}
use Rattle.std.proofs.Math.ListN.{length}
use Rattle.words.specs.Token
use Rattle.words.specs.Node
use Rattle.words.specs.Flag
use Rattle.words.specs.Words.{node_head}
use Rattle.definition.specs.declared.Mode.TheVariants.{AllowAll, NoPostFixCurlyBrace}
use Rattle.definition.specs.declared.Unfinished.{Unfinished}
use Rattle.definition.specs.Prog.{Prog, Then, Give, Branch, Loop, position}
use Rattle.definition.specs.Tokens.{eat, expect}
use Rattle.definition.specs.Nodes.{close_node, push_child}
use Rattle.definition.specs.Expressions.{ElseIfs, else_if_branch, else_turn, conditional, push_closing, parse_expr, fallback_arm, keyed_arm, arm_turn, match_expr}
use Rattle.definition.specs.Abstract.{World, Fate, ok, move_to}
use Rattle.chart.specs.Row.{RowToken, is_over}
use Rattle.chart.specs.Tree.{flags, Tree, Trees, node, none, ◌▸◌, ◌⊕◌, branch, named}
use Rattle.chart.specs.Parser.{Outcome, if, on, bind, failed, push, read_else_ifs, read_arm, read_arms}
use Rattle.chart.specs.Parser as Chart
use Rattle.tree.specs.Stored.{is_name}
use Rattle.tree.specs.Grown.{⊕-assoc, ⊕-none}
use Rattle.agreement.specs.Run.{run, turns}
use Rattle.agreement.specs.Sim.{Sim, gives, Made, made, mapped, call, Setting, runs, lexeme_of, Fits, eat-rule, check-rule, eof-rule, eof-either, expect-rule, expect-hit, expect-miss}
use Rattle.agreement.specs.Steps.{is_flagged, Open, Done, One, one, call-one, Agrees, alloc-rule, alloc-here, push-rule, close-branch, expr-rule, here-rule}
use Rattle.agreement.specs.Leaves.{ident-rule}
use Rattle.agreement.specs.Lists.{Longer, longer}
use Rattle.agreement.specs.Closing.{Closes, no-closing, closing, closing-rule, update-push-rule}

module _ (s : Setting) (a : Agrees s) where
  -- What follows a node of this kind, with its children.
  abbrev pub After : {B : Type 0} → (B → World → Outcome → Type 0) → World → List RowToken → ℕ → ℕ → (ℕ → World → Fate B) → (Trees → List RowToken → Outcome) → Type 0
  After P w xs kind payload k c = (n : ℕ) (u : World) (ts : Trees) (ys : List RowToken) → Done s w u n (node kind (flags payload) ts) → Fits s u ys → length ys < length xs → Sim P (k n u) (c ts ys)

  -- ---- if

  -- The branches after `ts`, and the else block.
  pub data Elses (c : World) (h : ℕ) (ts : Trees) (xs : List RowToken) (e : ElseIfs) (u : World) : Trees → List RowToken → Type 0 where
    elses : {us after : Trees} {ys : List RowToken} → Closes s c u e.list h (ts ⊕ us) e.else_body after → Fits s u ys → (length ys < suc (length xs)) → Elses c h ts xs e u (node Node.ElseIfBranchList (flags 0) us ▸ after) ys

  elses-more : {c u : World} {h : ℕ} {ts es : Trees} {xs ys zs : List RowToken} {e : ElseIfs} (t : Tree) → length ys < length xs → Elses c h (ts ⊕ (t ▸ none)) ys e u es zs → Elses c h ts xs e u (push (t ▸ none) es) zs
  unfolding push ◌⊕◌
  elses-more {ts = ts} t l (elses {us} k f l₁) = elses (rw (⊕-assoc ts (t ▸ none) us) at k) f (omega arith)

  else-turns : (n m : ℕ) (c u : World) (x : Unfinished) (h : ℕ) (ts : Trees) (xs : List RowToken) → length xs < n → length xs < m → Open s c u x h 0 ts → Fits s u xs
      → Sim (Made (Elses c h ts xs)) (turns (λ y v j. runs s (else_turn y) v j) n (record { list = x; else_body = Option.none }) u ok) (read_else_ifs s.rows m xs)
  unfolding run turns else_turn else_if_branch read_else_ifs branch ◌⊕◌ push is_flagged is_name
  else-turns zero m c u x h ts xs l l₁ o f = absurd (omega arith)
  else-turns (suc n) zero c u x h ts xs l l₁ o f = absurd (omega arith)
  else-turns (suc n) (suc m) c u x h ts xs l l₁ o f =
      check-rule s u _ _ refl f
      (λ j ys q. expect-hit s (move_to j u.row u) _ f q (λ j₁ row t.
      let v = move_to (suc j₁) row u in
      eat-rule s v _ _ refl t.fit
      (λ j₂ row₂ zs t₂. let v₂ = move_to (suc j₂) row₂ u in
      alloc-rule s v₂ _ _ Node.ElseIfBranch 0 t₂.fit (λ b u₁ o₁ f₁.
      expr-rule s a u₁ _ _ NoPostFixCurlyBrace f₁ (λ i u₂ t₃ ws d₂ f₂ l₂.
      push-rule s v₂ u₁ u₂ _ b i o₁ d₂ f₂ (λ b₁ u₃ o₃ f₃.
      here-rule s a u₃ _ _ f₃ (λ i₄ u₄ ts₄ vs d₄ f₄ l₄.
      push-rule s v₂ u₃ u₄ _ b₁ i₄ o₃ d₄ f₄ (λ b₅ u₅ o₅ f₅.
      close-branch s v₂ u₅ _ b₅ o₅ refl f₅ (λ i₆ u₆ d₆ f₆.
      push-rule s c u u₆ _ x i₆ o d₆ f₆ (λ y u₇ o₇ f₇.
      mapped (push _) (else-turns n m c u₇ y h (ts ⊕ (_ ▸ none)) vs (omega (arith, t.shorter, t₂.shorter)) (omega (arith, t.shorter, t₂.shorter)) o₇ f₇) (λ e z es ws. elses-more _ (omega (arith, t.shorter, t₂.shorter)))))))))))
      (λ _ i. here-rule s a (move_to i v.row v) _ _ t.fit (λ b u₁ bs zs d f₁ l₂. gives (made (elses (closing u (rw (⊕-none ts) o) d) f₁ (omega (arith, t.shorter))))))))
      (λ _ i. gives (made (elses (no-closing (rw (⊕-none ts) o)) f (omega arith))))

  -- After `if`.
  pub if-rule : {B : Type 0} {P : B → World → Outcome → Type 0} (w : World) (k : ℕ → World → Fate B) (c : Trees → List RowToken → Outcome) (start : ℕ) {xs : List RowToken} → Fits s w xs → After P w xs Node.If 0 k c
      → Sim P (runs s (conditional start) w k) (bind (s.rows.expr false 0 xs) (λ t ys. bind (s.rows.block ys) (λ b zs. bind (read_else_ifs s.rows (suc (length zs)) zs) (λ e vs. c (t ⊕ (branch Node.Block 0 b ⊕ e)) vs))))
  unfolding run conditional branch ◌⊕◌ is_flagged is_name
  if-rule {P = P} w k c start {xs} f g =
      alloc-rule s w _ start Node.If 0 f (λ x u o f₁.
      expr-rule s a u _ _ NoPostFixCurlyBrace f₁ (λ n v t ys d f₂ l.
      push-rule s w u v _ x n o d f₂ (λ x₁ u₁ o₁ f₃.
      here-rule s a u₁ _ _ f₃ (λ m v₁ bs zs d₁ f₄ l₁.
      push-rule s w u₁ v₁ _ x₁ m o₁ d₁ f₄ (λ x₂ u₂ o₂ f₅.
      alloc-here s u₂ _ Node.ElseIfBranchList 0 f₅ (λ y v₂ o₃ f₆.
      call s (Loop (record { list = y; else_body = Option.none }) else_turn) v₂ _ _
      (else-turns s.bound (suc (length zs)) u₂ v₂ y (node_head Node.ElseIfBranchList 0) none zs f₆.few (omega arith) o₃ f₆)
      (λ e v₃ es vs r. closes x₂ u₂ zs e v₃ o₂ (omega (arith, l, l₁)) r)))))))
    where
      closes : {t b : Tree} (x : Unfinished) (u : World) (zs : List RowToken) (e : ElseIfs) (v : World) {es : Trees} {vs : List RowToken} → Open s w u x (node_head Node.If 0) 0 (t ▸ (b ▸ none)) → length zs < length xs → Elses u (node_head Node.ElseIfBranchList 0) none zs e v es vs
          → Sim P (runs s (close_node e.list) v (λ n v₁. runs s (push_child x n) v₁ (λ y v₂. runs s (push_closing y n e.else_body) v₂ (λ z v₃. runs s (close_node z) v₃ k)))) (c (t ▸ (b ▸ es)) vs)
      closes x u zs e v o l (elses {us} q f₁ l₁) =
          closing-rule s w u v _ x e.list e.else_body Node.ElseIfBranchList o refl q f₁ (λ y z o₁ f₂.
          close-branch s w z k y o₁ refl f₂ (λ n z₁ d f₃. g n z₁ _ _ d f₃ (omega arith)))

  -- ---- match

  -- One arm.
  abbrev one_arm : Prog ℕ
  one_arm = Then position (λ start. Then (Then (eat Token.Else) (λ found. Branch found (fallback_arm start) keyed_arm)) (λ arm. Then (expect Token.FatArrow) (λ _. Then (parse_expr AllowAll) (λ body. Then (push_child arm body) (λ arm. close_node arm)))))

  -- From `=>` on.
  arm_end : {B : Type 0} {P : B → World → Outcome → Type 0} (w u : World) (k : ℕ → World → Fate B) (c : Tree → List RowToken → Outcome) (x : Unfinished) (kind payload : ℕ) {ts : Trees} {xs : List RowToken} → is_flagged kind payload ≡ true → Open s w u x (node_head kind payload) 0 ts → Fits s u xs
      → ((n : ℕ) (v : World) (t : Tree) (ys : List RowToken) → Done s w v n (node kind (flags payload) (ts ⊕ (t ▸ none))) → Fits s v ys → length ys < length xs → Sim P (k n v) (c t ys))
      → (h : Trees → List RowToken → Outcome) → ((t : Tree) (ys : List RowToken) → h (t ▸ none) ys ≡ c t ys)
      → Sim P (runs s (expect Token.FatArrow) u (λ _ v. runs s (parse_expr AllowAll) v (λ body z. runs s (push_child x body) z (λ arm z₁. runs s (close_node arm) z₁ k)))) (on Token.FatArrow xs (λ _ ys. bind (s.rows.expr true 0 ys) h) failed)
  arm_end w u k c x kind payload e o f g h q =
      expect-rule s u _ _ refl f (λ j row ys t.
      expr-rule s a (move_to (suc j) row u) _ h AllowAll t.fit (λ n v b zs d f₁ l.
      push-rule s w (move_to (suc j) row u) v _ x n o d f₁ (λ y z o₁ f₂.
      close-branch s w z k y o₁ e f₂ (λ m z₁ d₁ f₃. rw (q b zs) (g m z₁ b zs d₁ f₃ (omega (arith, t.shorter)))))))

  arm_read : (w : World) (xs : List RowToken) → Fits s w xs → Sim (Made (One s w xs)) (runs s one_arm w ok) (read_arm s.rows xs)
  unfolding run fallback_arm keyed_arm read_arm branch ◌⊕◌ is_flagged is_name
  arm_read w xs f =
      eat-rule s w _ _ refl f
      (λ j row ys t.
      alloc-rule s (move_to (suc j) row w) _ w.at Node.MatchFallbackArm 0 t.fit (λ x u o f₁.
      ident-rule s a u _ _ f₁
      (λ n v j₁ zs d f₂ l.
      update-push-rule s (move_to (suc j) row w) u v _ x n Node.MatchFallbackArm Flag.MatchFallbackArm-binding o d f₂ (λ y z o₁ f₃.
      arm_end (move_to (suc j) row w) z ok (λ b vs. Chart.ok (branch Node.MatchFallbackArm Flag.MatchFallbackArm-binding (named (lexeme_of s j₁) ⊕ (b ▸ none))) vs) y Node.MatchFallbackArm Flag.MatchFallbackArm-binding refl o₁ f₃
      (λ m z₁ b vs d₂ f₄ l₂. gives (made (one d₂ f₄ (omega (arith, t.shorter))))) _ (λ b vs. refl)))
      (λ _ i. arm_end (move_to (suc j) row w) (move_to i u.row u) ok (λ b vs. Chart.ok (branch Node.MatchFallbackArm 0 (b ▸ none)) vs) x Node.MatchFallbackArm 0 refl o f₁ (λ m z b vs d₂ f₃ l₂. gives (made (one d₂ f₃ (omega (arith, t.shorter))))) _ (λ b vs. refl))))
      (λ _ i.
      alloc-here s (move_to i w.row w) _ Node.MatchArm 0 f (λ x u o f₁.
      expr-rule s a u _ _ AllowAll f₁ (λ n v b ys d f₂ l.
      push-rule s (move_to i w.row w) u v _ x n o d f₂ (λ y z o₁ f₃.
      arm_end (move_to i w.row w) z ok (λ b₁ vs. Chart.ok (branch Node.MatchArm 0 (b ▸ (b₁ ▸ none))) vs) y Node.MatchArm 0 refl o₁ f₃ (λ m z₁ b₁ vs d₂ f₄ l₂. gives (made (one d₂ f₄ (omega arith)))) _ (λ b₁ vs. refl)))))

  arm-turns : (n m : ℕ) (w u : World) (x : Unfinished) (h : ℕ) (ts : Trees) (xs : List RowToken) → length xs < n → length xs < m → Open s w u x h 0 ts → Fits s u xs
      → Sim (Made (Longer s a w h ts xs)) (turns (λ y v j. runs s (arm_turn y) v j) n x u (λ y v. runs s (expect Token.RightCurly) v (λ _ z. ok y z))) (read_arms s.rows m xs)
  unfolding run turns arm_turn read_arms ◌⊕◌ if is_over
  arm-turns zero m w u x h ts xs l l₁ o f = absurd (omega arith)
  arm-turns (suc n) zero w u x h ts xs l l₁ o f = absurd (omega arith)
  arm-turns (suc n) (suc m) w u x h ts xs l l₁ o f =
      check-rule s u _ _ refl f
      (λ j ys q. eof-either s (move_to j u.row u) _ f (λ b i. expect-hit s (move_to i u.row u) _ f q (λ j₁ row t. gives (made (record { opened = rw (⊕-none ts) o; fit = t.fit; shorter = t.shorter })))))
      (λ q j. eof-rule s (move_to j u.row u) _ f
      (λ e i. rw e (expect-miss s (move_to i u.row u) _ Token.RightCurly refl f q))
      (λ i kind ys e.
      let le : length xs ≡ suc (length ys) = ap length e in
      rw e (call-one s one_arm (move_to i u.row u) _ _ (rw e at (arm_read (move_to i u.row u) xs f)) (λ c v t zs d f₁ l₂.
      push-rule s w u v _ x c o d f₁ (λ y z o₁ f₂.
      eat-rule s z _ _ refl f₂
      (λ j₁ row vs t₁. mapped (λ us. t ▸ us) (arm-turns n m w (move_to (suc j₁) row z) y h (ts ⊕ (t ▸ none)) vs (omega (arith, t₁.shorter, le)) (omega (arith, t₁.shorter, le)) o₁ t₁.fit)
      (λ b v₁ us ws. longer s a t (omega (arith, t₁.shorter))))
      (λ _ i₁. expect-rule s (move_to i₁ z.row z) _ _ refl f₂ (λ j₁ row vs t₁. gives (made (record { opened = o₁; fit = t₁.fit; shorter = omega (arith, t₁.shorter) })))))))))

  -- After `match`.
  pub match-rule : {B : Type 0} {P : B → World → Outcome → Type 0} (w : World) (k : ℕ → World → Fate B) (c : Trees → List RowToken → Outcome) (start : ℕ) {xs : List RowToken} → Fits s w xs → After P w xs Node.Match 0 k c
      → Sim P (runs s (match_expr start) w k) (bind (s.rows.expr false 0 xs) (λ t ys. on Token.LeftCurly ys (λ _ zs. bind (read_arms s.rows (suc (length zs)) zs) (λ us vs. c (t ⊕ branch Node.MatchArmList 0 us) vs)) failed))
  unfolding run match_expr branch ◌⊕◌ is_flagged is_name
  match-rule w k c start f g =
      alloc-rule s w _ start Node.Match 0 f (λ x u o f₁.
      expr-rule s a u _ _ NoPostFixCurlyBrace f₁ (λ n v t ys d f₂ l.
      push-rule s w u v _ x n o d f₂ (λ x₁ u₁ o₁ f₃.
      alloc-here s u₁ _ Node.MatchArmList 0 f₃ (λ y v₁ o₂ f₄.
      expect-rule s v₁ _ _ refl f₄ (λ j row zs t₁.
      call s (Then (Loop y arm_turn) (λ z. Then (expect Token.RightCurly) (λ _. Give z))) (move_to (suc j) row v₁) _ _
      (arm-turns s.bound (suc (length zs)) u₁ (move_to (suc j) row v₁) y (node_head Node.MatchArmList 0) none zs t₁.fit.few (omega arith) o₂ t₁.fit)
      (λ z v₂ us vs r.
      close-branch s u₁ v₂ _ z r.opened refl r.fit (λ m v₃ d₃ f₅.
      push-rule s w u₁ v₃ _ x₁ m o₁ d₃ f₅ (λ x₂ v₄ o₃ f₆.
      close-branch s w v₄ k x₂ o₃ refl f₆ (λ n₂ v₅ d₄ f₇. g n₂ v₅ _ vs d₄ f₇ (omega (arith, t₁.shorter, r.shorter)))))))))))
