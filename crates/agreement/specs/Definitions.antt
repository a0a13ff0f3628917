-- Functions, structs and tuple types.
use Rattle.std.specs.Prelude.{◌≡◌, Bool, List, ℕ, suc, ◌<◌, pred, length}
use Rattle.std.proofs.Math.Path.{refl}
use Rattle.std.proofs.Common.{ap, lit<}
use Rattle.std.proofs.Math.Bool.{true, false}
use Rattle.std.proofs.Math.Option.{Option}
use native.Mathlib.Omega.{arith}
use Rattle.words.specs.Token
use Rattle.words.specs.Node
use Rattle.words.specs.Flag
use Rattle.words.specs.Words.{node_head}
use Rattle.literals.specs.Spelling.{first_alike}
use Rattle.definition.specs.declared.Mode.TheVariants.{AllowAll, NoPostFixCurlyBrace}
use Rattle.definition.specs.declared.Unfinished.{Unfinished}
use Rattle.definition.specs.Prog.{Then, Branch}
use Rattle.definition.specs.Tokens.{check, expect}
use Rattle.definition.specs.Nodes.{close_node, push_child}
use Rattle.definition.specs.Expressions.{any_type, parameter_name, parse_parameter, parse_function_signature_and_body, parse_function_def, parse_expr}
use Rattle.definition.specs.Abstract.{World, Fate, ok, move_to}
use Rattle.chart.specs.Row.{RowToken}
use Rattle.chart.specs.Tree.{Tree, Trees, none, ◌▸◌, ◌⊕◌, branch}
use Rattle.chart.specs.Tree as Tree
use Rattle.chart.specs.Parser.{Outcome, on, bind, try, nothing, failed, read_parameter_type, read_parameter, read_parameters, read_signature}
use Rattle.chart.specs.Parser as Chart
use Rattle.tree.specs.Stored.{is_name}
use Rattle.tree.specs.Grown.{⊕-assoc}
use Rattle.agreement.specs.Run.{run}
use Rattle.agreement.specs.Sim.{Sim, gives, Made, made, call, call-try, Setting, runs, Fits, eat-rule, check-rule, expect-rule, expect-hit}
use Rattle.agreement.specs.Steps.{is_flagged, Open, One, one, call-one, Agrees, alloc_at, alloc-rule, alloc-here, push-rule, close-rule, close-branch, expr-rule, here-rule}
use Rattle.agreement.specs.Leaves.{name-said, name-at, expect-ident-rule}
use Rattle.agreement.specs.Branches.{After}
use Rattle.agreement.specs.Lists.{Longer, Elements, list-expect}

module _ (s : Setting) (a : Agrees s) where
  -- ---- parameters

  -- `$` and a name, or an expression.
  type-read : (w : World) (xs : List RowToken) → Fits s w xs → Sim (Made (One s w xs)) (runs s (Then (check Token.Dollar) (λ found. Branch found any_type (parse_expr AllowAll))) w ok) (read_parameter_type s.rows xs)
  unfolding run any_type read_parameter_type is_name
  type-read w xs f =
      check-rule s w _ _ refl f
      (λ j ys q. expect-hit s (move_to j w.row w) _ f q (λ j₁ row t.
      expect-rule s (move_to (suc j₁) row w) _ _ refl t.fit (λ j₂ row₂ zs t₂.
      alloc-rule s (move_to (suc j₂) row₂ w) _ j Node.ParamAnyType (first_alike s.text s.tokens Token.Identifier j₂) t₂.fit (λ x u o f₁.
      let n = name-said s a u.values Node.ParamAnyType Token.Identifier j₂ (lit< tt) refl t₂.inside t₂.kind in
      close-rule s (move_to (suc j₂) row₂ w) u _ x o n.1 f₁ (λ i v d f₂. gives (made (one (rw n.0 at d) f₂ (omega (arith, t.shorter, t₂.shorter)))))))))
      (λ _ i. expr-rule s a (move_to i w.row w) _ _ AllowAll f (λ n v t ys d f₁ l. gives (made (one d f₁ l))))

  -- One parameter, linked to its list.
  data Parameter (w u : World) (x : Unfinished) (h : ℕ) (ts : Trees) (xs : List RowToken) : Option Unfinished → World → Outcome → Type 0 where
    parameter : {y : Unfinished} {z : World} {t : Tree} {ys : List RowToken} → Open s w z y h 0 (ts ⊕ (t ▸ none)) → Fits s z ys → length ys < length xs → Parameter w u x h ts xs (Option.some y) z (Chart.ok (t ▸ none) ys)
    no-parameter : (i : ℕ) → Parameter w u x h ts xs Option.none (move_to i u.row u) nothing

  -- From `:` on.
  parameter-end : {xs₀ : List RowToken} (w u v z : World) (x y : Unfinished) (kind h : ℕ) (ts : Trees) {name : Tree} {xs : List RowToken} → is_flagged kind 0 ≡ true → length xs < length xs₀ → Open s w u x h 0 ts → v.store ≡ u.store → v.values ≡ u.values
      → Open s v z y (node_head kind 0) 0 (name ▸ none) → Fits s z xs
      → Sim (Parameter w u x h ts xs₀)
      (runs s (expect Token.Colon) z (λ _ z₁. runs s (Then (check Token.Dollar) (λ found. Branch found any_type (parse_expr AllowAll))) z₁ (λ type z₂. runs s (push_child y type) z₂ (λ y₁ z₃. runs s (close_node y₁) z₃ (λ n z₄. runs s (push_child x n) z₄ (λ x₁ z₅. ok (Option.some x₁) z₅))))))
      (on Token.Colon xs (λ _ ys. bind (read_parameter_type s.rows ys) (λ t zs. Chart.ok (branch kind 0 ((name ▸ none) ⊕ t)) zs)) failed)
  unfolding branch ◌⊕◌
  parameter-end w u v z x y kind h ts e l o es ev q f =
      expect-rule s z _ _ refl f (λ j row ys t.
      call-one s (Then (check Token.Dollar) (λ found. Branch found any_type (parse_expr AllowAll))) (move_to (suc j) row z) _ _ (type-read (move_to (suc j) row z) ys t.fit) (λ n z₁ t₁ zs d f₁ l₁.
      push-rule s v (move_to (suc j) row z) z₁ _ y n q d f₁ (λ y₁ z₂ o₁ f₂.
      close-branch s v z₂ _ y₁ o₁ e f₂ (λ m z₃ d₁ f₃.
      let o₂ : Open s w v x h 0 ts = rw (es, ev) o in
      push-rule s w v z₃ _ x m o₂ d₁ f₃ (λ x₁ z₄ o₃ f₄. gives (parameter o₃ f₄ (omega (arith, t.shorter))))))))

  parameter-read : (w u : World) (x : Unfinished) (h : ℕ) (ts : Trees) (xs : List RowToken) → Open s w u x h 0 ts → Fits s u xs → Sim (Parameter w u x h ts xs) (runs s (parse_parameter x) u ok) (read_parameter s.rows xs)
  unfolding run parse_parameter parameter_name read_parameter is_flagged is_name ◌⊕◌
  parameter-read w u x h ts xs o f =
      eat-rule s u _ _ refl f
      (λ j row ys t. alloc-rule s (move_to (suc j) row u) _ u.at Node.ComptimeParameter 0 t.fit (λ y v o₁ f₁.
      expect-ident-rule s a v _ _ f₁ (λ n v₁ j₁ zs d f₂ l.
      push-rule s (move_to (suc j) row u) v v₁ _ y n o₁ d f₂ (λ y₁ v₂ o₂ f₃.
      parameter-end w u (move_to (suc j) row u) v₂ x y₁ Node.ComptimeParameter h ts refl (omega (arith, t.shorter)) o refl refl o₂ f₃))))
      (λ _ i. eat-rule s (move_to i u.row u) _ _ refl f
      (λ j row ys t. alloc_at s (move_to (suc j) row u) _ u.at Node.Parameter 0 t.fit (λ y v e o₁ f₁.
      name-at s a v _ Node.Identifier Token.Identifier j _ (ap (λ i. first_alike s.text s.tokens Token.Identifier (pred i)) e) (lit< tt) refl t.inside t.kind f₁ (λ n v₁ d f₂.
      push-rule s (move_to (suc j) row u) v v₁ _ y n o₁ d f₂ (λ y₁ v₂ o₂ f₃.
      parameter-end w u (move_to (suc j) row u) v₂ x y₁ Node.Parameter h ts refl t.shorter o refl refl o₂ f₃))))
      (λ _ j. gives (no-parameter j)))

  parameters : Elements s a Token.RightRound parse_parameter (read_parameters s.rows)
  unfolding read_parameters try ◌⊕◌
  parameters m w u x h ts xs k o f g z =
      call-try s (parse_parameter x) u k (λ t ys. on Token.Comma ys (λ _ zs. bind (read_parameters s.rows m zs) (λ us ws. Chart.ok (t ⊕ us) ws)) (on Token.RightRound ys (λ _ zs. Chart.ok t zs) failed)) _
      (parameter-read w u x h ts xs o f) (λ y v. go)
    where
      go : {y : Option Unfinished} {v : World} {o : Outcome} → Parameter w u x h ts xs y v o → Sim (Made (Longer s a w h ts xs)) (k y v)
          (try o (λ t ys. on Token.Comma ys (λ _ zs. bind (read_parameters s.rows m zs) (λ us ws. Chart.ok (t ⊕ us) ws)) (on Token.RightRound ys (λ _ zs. Chart.ok t zs) failed)) (on Token.RightRound xs (λ _ ys. Chart.ok none ys) failed))
      go (parameter {y} {z = v} {t} {ys} o₁ f₁ l) = g y v t ys o₁ f₁ l
      go (no-parameter i) = z i

  -- ---- functions

  pub signature-read : (w u : World) (x : Unfinished) (h : ℕ) (ts : Trees) (xs : List RowToken) → Open s w u x h 0 ts → Fits s u xs → Sim (Made (Longer s a w h ts xs)) (runs s (parse_function_signature_and_body x) u ok) (read_signature s.rows xs)
  unfolding run parse_function_signature_and_body read_signature branch ◌⊕◌ is_flagged is_name
  signature-read w u x h ts xs o f =
      alloc-here s u _ Node.ParamList 0 f (λ y v o₁ f₁.
      list-expect s a Token.RightRound refl parse_parameter (read_parameters s.rows) parameters u v _ _ Token.LeftRound y refl o₁ f₁ (λ y₁ v₁ ps zs o₂ f₂ l.
      close-branch s u v₁ _ y₁ o₂ refl f₂ (λ n v₂ d f₃.
      push-rule s w u v₂ _ x n o d f₃ (λ x₁ v₃ o₃ f₄.
      expr-rule s a v₃ _ _ NoPostFixCurlyBrace f₄ (λ n₁ v₄ t ws d₁ f₅ l₁.
      push-rule s w v₃ v₄ _ x₁ n₁ o₃ d₁ f₅ (λ x₂ v₅ o₄ f₆.
      here-rule s a v₅ _ _ f₆ (λ n₂ v₆ bs vs d₂ f₇ l₂.
      push-rule s w v₅ v₆ _ x₂ n₂ o₄ d₂ f₇ (λ x₃ v₇ o₅ f₈.
      gives (made (record { opened = rw (⊕-assoc ts _ _, ⊕-assoc ts _ _) at o₅; fit = f₈; shorter = omega arith }))))))))))

  -- After `fn`, at its opening bracket.
  pub function-rule : {B : Type 0} {P : B → World → Outcome → Type 0} (w : World) (k : ℕ → World → Fate B) (c : Trees → List RowToken → Outcome) (start : ℕ) (eager : Bool) {xs : List RowToken} → Fits s w xs → After s a P w xs Node.FnDef (Tree.flag eager Flag.FnDef-eager) k c
      → Sim P (runs s (parse_function_def start eager) w k) (bind (read_signature s.rows xs) c)
  unfolding run parse_function_def ◌⊕◌ is_flagged is_name Tree.flag
  function-rule w k c start eager {xs} f g =
      alloc-rule s w _ start Node.FnDef (Tree.flag eager Flag.FnDef-eager) f (λ x u o f₁.
      call s (parse_function_signature_and_body x) u _ _ (signature-read w u x _ none xs o f₁) (λ y v us ys r.
      close-branch s w v k y r.opened (flag-fits eager) r.fit (λ n z d f₂. g n z us ys d f₂ r.shorter)))
    where
      flag-fits : (b : Bool) → is_flagged Node.FnDef (Tree.flag b Flag.FnDef-eager) ≡ true
      flag-fits true = refl
      flag-fits false = refl
