-- Structs, tuple types and struct literals.
use Rattle.std.proofs.Math.Path.{◌≡◌, refl}
use Rattle.std.proofs.Common.{sym, ◌∙◌, true≢false, arith}
use Rattle.std.specs.Prelude.{Bool, ◌||◌, length}
use Rattle.std.proofs.Math.Bool.{true, false}
use Rattle.std.proofs.lemmas.Bool.{false≢true}
use Rattle.std.proofs.Math.Option.{Option}
use mathlib.Core.List.{List, [], ◌∷◌}
use Prim.Native.Nat.{ℕ, zero, suc, ◌<◌}
use borrow.Author.Tests.{eqb-true}
use Rattle.std.proofs.Math.Dec.{eqb}
use Rattle.words.specs.Token
use Rattle.words.specs.Node
use Rattle.words.specs.Flag
use Rattle.words.specs.Words.{node_head}
use Rattle.definition.specs.declared.Mode.TheVariants.{AllowAll, NoPostFixCurlyBrace}
use Rattle.definition.specs.declared.Unfinished.{Unfinished}
use Rattle.definition.specs.Prog.{Turn, again, stop, Prog, Then, Give, Branch, Loop, peek}
use Rattle.definition.specs.Tokens.{expect, expect_check_recovery, contains}
use Rattle.definition.specs.Nodes.{alloc_node_from, alloc_node, close_node, push_child, expect_ident}
use Rattle.definition.specs.Nodes as Nodes
use Rattle.definition.specs.Expressions.{parse_function_signature_and_body, parse_method_def, Members, members, parse_struct_field, field_turn, method_turn, no_member_turn, member_turn, parse_struct_def, parse_tuple_type, expr_element, field_assign, push_option, try_parse_expr}
use Rattle.definition.specs.Abstract.{World, Fate, ok, move_to}
use Rattle.chart.specs.Row.{Lexeme, RowToken, token, begins}
use Rattle.chart.specs.Tree.{flags, Tree, Trees, node, none, ◌▸◌, ◌⊕◌, branch, named}
use Rattle.chart.specs.Parser.{Outcome, if, on, bind, failed, read_signature, read_methods, read_struct_body, read_fields, read_list}
use Rattle.chart.specs.Parser as Chart
use Rattle.tree.specs.Stored.{is_name}
use Rattle.tree.specs.Grown.{⊕-none}
use Rattle.agreement.specs.Run.{run, turns}
use Rattle.agreement.specs.Sim.{Sim, gives, fails, Made, made, mapped, call, Setting, runs, lexeme_of, Fits, peek-rule, eat-hit, eat-miss, check-rule, check-is, check-either, eof-rule, expect-rule, expect-hit, expect-miss, recover-rule, unexpected-rule}
use Rattle.agreement.specs.Outcomes.{on_none, on-yes, bind_try}
use Rattle.agreement.specs.Steps.{is_flagged, Open, Done, Agrees, alloc-rule, alloc-here, push-rule, close-branch, expr-rule, try-rule}
use Rattle.agreement.specs.Leaves.{name_tree, ident-rule, expect-ident-rule}
use Rattle.agreement.specs.Branches.{After}
use Rattle.agreement.specs.Lists.{Longer, longer, Elements, list-expect, expressions}
use Rattle.agreement.specs.Definitions.{signature-read}

module _ (s : Setting) (a : Agrees s) where
  -- ---- methods

  -- After `fn`.
  abbrev named-method : ℕ → Bool → Prog ℕ
  named-method start eager =
      Then (alloc_node_from start Node.MethodDef (Nodes.flag eager Flag.MethodDef-eager)) (λ x.
      Then expect_ident (λ n. Then (push_child x n) (λ y. Then (parse_function_signature_and_body y) (λ z. close_node z))))

  method-rule : {B : Type 0} {P : B → World → Outcome → Type 0} (w : World) (k : ℕ → World → Fate B) (c : Tree → List RowToken → Outcome) (start : ℕ) (eager : Bool) {xs : List RowToken} → Fits s w xs
      → ((n : ℕ) (u : World) (ts : Trees) (ys : List RowToken) → Done s w u n (node Node.MethodDef (flags (Nodes.flag eager Flag.MethodDef-eager)) ts) → Fits s u ys → length ys < length xs → Sim P (k n u) (c (node Node.MethodDef (flags (Nodes.flag eager Flag.MethodDef-eager)) ts) ys))
      → Sim P (runs s (named-method start eager) w k) (on Token.Identifier xs (λ v ys. bind (read_signature s.rows ys) (λ t zs. c (node Node.MethodDef (flags (Nodes.flag eager Flag.MethodDef-eager)) (named v ⊕ t)) zs)) failed)
  unfolding run ◌⊕◌ is_flagged is_name
  method-rule w k c start eager {xs} f g =
      alloc-rule s w _ start Node.MethodDef (Nodes.flag eager Flag.MethodDef-eager) f (λ x u o f₁.
      expect-ident-rule s a u _ _ f₁ (λ n v j ys d f₂ l.
      push-rule s w u v _ x n o d f₂ (λ y v₁ o₁ f₃.
      call s (parse_function_signature_and_body y) v₁ _ _ (signature-read s a w v₁ y _ (name_tree Node.Identifier (lexeme_of s j).spelling ▸ none) ys o₁ f₃) (λ z v₂ us zs r.
      close-branch s w v₂ k z r.opened (flag-fits eager) r.fit (λ m v₃ d₁ f₄. g m v₃ _ zs d₁ f₄ (omega (arith, r.shorter)))))))
    where
      flag-fits : (b : Bool) → is_flagged Node.MethodDef (Nodes.flag b Flag.MethodDef-eager) ≡ true
      flag-fits true = refl
      flag-fits false = refl

  methods-nil : (m : ℕ) → read_methods s.rows (suc m) [] ≡ failed
  unfolding read_methods on
  methods-nil m = refl

  -- The loop once a method was seen, or where no field begins; the closing token after it.
  method-turns : (n m : ℕ) (w u : World) (x : Unfinished) (seen : Bool) (h : ℕ) (ts : Trees) (xs : List RowToken) → (begins Token.Identifier xs ≡ true → seen ≡ true) → length xs < n → length xs < m → Open s w u x h 0 ts → Fits s u xs
      → Sim (Made (Longer s a w h ts xs)) (turns (λ y v j. runs s (member_turn y) v j) n (members x seen) u (λ y v. runs s (expect Token.RightCurly) v (λ _ z. ok y.body z))) (read_methods s.rows m xs)
  unfolding run turns member_turn method_turn field_turn no_member_turn parse_method_def read_methods branch ◌⊕◌ begins
  method-turns zero m w u x seen h ts xs b l l₁ o f = absurd (omega arith)
  method-turns (suc n) zero w u x seen h ts xs b l l₁ o f = absurd (omega arith)
  method-turns (suc n) (suc m) w u x seen h ts xs b l l₁ o f =
      eof-rule s u _ f
      (λ e i. check-either s (move_to i u.row u) _ Token.RightCurly f (λ c i₁. rw (e, methods-nil m) (expect-miss s (move_to i₁ u.row u) _ Token.RightCurly refl f (rw e refl))))
      (λ i kind ys e.
      check-rule s (move_to i u.row u) _ _ refl f
      (λ j zs q. expect-hit s (move_to j u.row u) _ f q (λ j₁ row t. gives (made (record { opened = rw (⊕-none ts) o; fit = t.fit; shorter = t.shorter }))))
      (λ _ i₁.
      check-rule s (move_to i₁ u.row u) _ _ refl f
      (λ j zs q. check-either s (move_to j u.row u) _ Token.Fn f (λ fn i₂.
      eat-hit s (move_to i₂ u.row u) _ f q (λ j₁ row t.
      expect-rule s (move_to (suc j₁) row u) _ _ refl t.fit (λ j₂ row₂ ws t₂.
      method-rule (move_to (suc j₂) row₂ u) _ (λ t vs. bind (read_methods s.rows m vs) (λ us qs. Chart.ok (t ▸ us) qs)) i₂ true t₂.fit (λ c v us vs d f₁ l₂.
      push-rule s w u v _ x c o d f₁ (λ y z o₁ f₂.
      mapped (λ us. _ ▸ us) (method-turns n m w z y true h (ts ⊕ (_ ▸ none)) vs (λ _. refl) (omega (arith, t.shorter, t₂.shorter)) (omega (arith, t.shorter, t₂.shorter)) o₁ f₂) (λ y₁ z₁ us₁ zs₁. longer s a _ (omega (arith, t.shorter, t₂.shorter)))))))))
      (λ q i₂.
      check-rule s (move_to i₂ u.row u) _ _ refl f
      (λ j zs q₁.
      eat-miss s (move_to j u.row u) _ Token.Eager refl f q (λ i₃.
      expect-hit s (move_to i₃ u.row u) _ f q₁ (λ j₂ row₂ t₂.
      method-rule (move_to (suc j₂) row₂ u) _ (λ t vs. bind (read_methods s.rows m vs) (λ us qs. Chart.ok (t ▸ us) qs)) j false t₂.fit (λ c v us vs d f₁ l₂.
      push-rule s w u v _ x c o d f₁ (λ y z o₁ f₂.
      mapped (λ us. _ ▸ us) (method-turns n m w z y true h (ts ⊕ (_ ▸ none)) vs (λ _. refl) (omega (arith, t₂.shorter)) (omega (arith, t₂.shorter)) o₁ f₂) (λ y₁ z₁ us₁ zs₁. longer s a _ (omega (arith, t₂.shorter))))))))
      (λ q₁ i₃. check-is s (move_to i₃ u.row u) _ Token.Identifier refl f (λ i₄. no_field i₄ (begins Token.Identifier xs) refl)))))
    where
      no_field : (i : ℕ) (c : Bool) → begins Token.Identifier xs ≡ c
          → Sim (Made (Longer s a w h ts xs)) (runs s (Branch c (field_turn (members x seen)) (no_member_turn (members x seen))) (move_to i u.row u) (λ t v. elim t [ again y ↦ turns (λ y v j. runs s (member_turn y) v j) n y v (λ y v. runs s (expect Token.RightCurly) v (λ _ z. ok y.body z)) | stop y ↦ runs s (expect Token.RightCurly) v (λ _ z. ok y.body z) ])) failed
      no_field i true q = rw (b q) fails
      no_field i false q = unexpected-rule s (move_to i u.row u) _ f

  -- ---- fields

  -- What may follow the last field.
  abbrev after_field : List ℕ
  after_field = Token.RightCurly ∷ Token.Eof ∷ Token.Eager ∷ Token.Fn ∷ []

  after-field : (kind : ℕ) → contains after_field kind ≡ true → (eqb kind Token.Comma ≡ false) × (eqb kind Token.Identifier ≡ false)
  unfolding contains
  after-field kind = go (eqb kind Token.RightCurly) (eqb kind Token.Eof) (eqb kind Token.Eager) (eqb kind Token.Fn) refl refl refl refl
    where
      is : (K : ℕ) → eqb K Token.Comma ≡ false → eqb K Token.Identifier ≡ false → eqb kind K ≡ true → (eqb kind Token.Comma ≡ false) × (eqb kind Token.Identifier ≡ false)
      is K p q e = let z : kind ≡ K = eqb-true kind K e in rw z (p, q)

      go : (p q r t : Bool) → eqb kind Token.RightCurly ≡ p → eqb kind Token.Eof ≡ q → eqb kind Token.Eager ≡ r → eqb kind Token.Fn ≡ t → (p || (q || (r || (t || false)))) ≡ true → (eqb kind Token.Comma ≡ false) × (eqb kind Token.Identifier ≡ false)
      go true q r t e₁ e₂ e₃ e₄ z = is Token.RightCurly refl refl e₁
      go false true r t e₁ e₂ e₃ e₄ z = is Token.Eof refl refl e₂
      go false false true t e₁ e₂ e₃ e₄ z = is Token.Eager refl refl e₃
      go false false false true e₁ e₂ e₃ e₄ z = is Token.Fn refl refl e₄
      go false false false false e₁ e₂ e₃ e₄ z = absurd (false≢true z)

  -- Where none of them follows, there is no method either.
  no-method : (m kind : ℕ) (v : Lexeme) (ys : List RowToken) → contains after_field kind ≡ false → read_methods s.rows (suc m) (token kind v ∷ ys) ≡ failed
  unfolding contains read_methods on if
  no-method m kind v ys = go (eqb kind Token.RightCurly) (eqb kind Token.Eof) (eqb kind Token.Eager) (eqb kind Token.Fn) _ _ _
    where
      go : (p q r t : Bool) (x y z : Outcome) → (p || (q || (r || (t || false)))) ≡ false → if p x (if r y (if t z failed)) ≡ failed
      go true q r t x y z e = absurd (true≢false e)
      go false true r t x y z e = absurd (true≢false e)
      go false false true t x y z e = absurd (true≢false e)
      go false false false true x y z e = absurd (true≢false e)
      go false false false false x y z e = refl

  -- One field.
  field-rule : {B : Type 0} {P : B → World → Outcome → Type 0} (w : World) (k : ℕ → World → Fate B) (c : Tree → List RowToken → Outcome) (m : Outcome) {xs : List RowToken} → Fits s w xs → begins Token.Identifier xs ≡ true
      → ((n : ℕ) (u : World) (ts : Trees) (ys : List RowToken) → Done s w u n (node Node.FieldDef (flags 0) ts) → Fits s u ys → length ys < length xs → Sim P (k n u) (c (node Node.FieldDef (flags 0) ts) ys))
      → Sim P (runs s parse_struct_field w k) (on Token.Identifier xs (λ v ys. on Token.Colon ys (λ _ zs. bind (s.rows.expr true 0 zs) (λ t ws. c (node Node.FieldDef (flags 0) (named v ⊕ t)) ws)) failed) m)
  unfolding run parse_struct_field push_option ◌⊕◌ is_flagged is_name
  field-rule w k c m f e g =
      alloc-here s w _ Node.FieldDef 0 f (λ x u o f₁.
      ident-rule s a u _ _ f₁
      (λ n v j ys d f₂ l.
      push-rule s w u v _ x n o d f₂ (λ y v₁ o₁ f₃.
      expect-rule s v₁ _ _ refl f₃ (λ j₁ row zs t.
      expr-rule s a (move_to (suc j₁) row v₁) _ _ AllowAll t.fit (λ n₁ v₂ t₁ ws d₁ f₄ l₁.
      push-rule s w (move_to (suc j₁) row v₁) v₂ _ y n₁ o₁ d₁ f₄ (λ y₁ v₃ o₂ f₅.
      close-branch s w v₃ k y₁ o₂ refl f₅ (λ n₂ v₄ d₂ f₆. g n₂ v₄ _ ws d₂ f₆ (omega (arith, t.shorter))))))))
      (λ q i. absurd (true≢false (sym e ∙ q))))

  -- What a turn is followed by, where n are left.
  abbrev members_from : ℕ → Members → World → Fate Unfinished
  members_from n y v = turns (λ y v j. runs s (member_turn y) v j) n y v (λ y v. runs s (expect Token.RightCurly) v (λ _ z. ok y.body z))

  abbrev following : ℕ → Turn Members → World → Fate Unfinished
  following n t v = elim t [ again y ↦ members_from n y v | stop y ↦ runs s (expect Token.RightCurly) v (λ _ z. ok y.body z) ]

  -- The loop from a place where fields may follow, and the closing token after it.
  abbrev FieldTurns : ℕ → ℕ → Type 0
  FieldTurns n m =
      (w u : World) (x : Unfinished) (h : ℕ) (ts : Trees) (xs : List RowToken) → length xs < n → length xs < m → Open s w u x h 0 ts → Fits s u xs
      → Sim (Made (Longer s a w h ts xs)) (members_from n (members x false) u) (read_struct_body s.rows m xs)

  -- After a field.
  module _ (n m : ℕ) (ih : FieldTurns n m) (w : World) (h : ℕ) (ts : Trees) (xs : List RowToken) (l : length xs < suc n) (l₁ : length xs < suc m) (t : Tree) (y : Unfinished) (z : World) (ws : List RowToken) (o : Open s w z y h 0 (ts ⊕ (t ▸ none))) (f : Fits s z ws) (l₂ : length ws < length xs) where
    abbrev Agree : Fate Unfinished → Outcome → Type 0
    Agree r q = Sim (Made (Longer s a w h ts xs)) r q

    -- No comma.
    methods-follow : (i : ℕ) → begins Token.Identifier ws ≡ false → Agree (members_from n (members y false) (move_to i z.row z)) (bind (read_methods s.rows m ws) (λ us qs. Chart.ok (t ▸ us) qs))
    methods-follow i e =
        mapped (λ us. t ▸ us) (method-turns n m w (move_to i z.row z) y false h (ts ⊕ (t ▸ none)) ws (λ p. absurd (true≢false (sym p ∙ e))) (omega arith) (omega arith) o f) (λ y₁ z₁ us₁ zs₁. longer s a t (omega arith))

    methods-fail : (kind : ℕ) (v : Lexeme) (ys : List RowToken) → ws ≡ token kind v ∷ ys → contains after_field kind ≡ false → bind (read_methods s.rows m ws) (λ us qs. Chart.ok (t ▸ us) qs) ≡ failed
    unfolding bind
    methods-fail kind v ys e c = go m (omega arith)
      where
        go : (m : ℕ) → 0 < m → bind (read_methods s.rows m ws) (λ us qs. Chart.ok (t ▸ us) qs) ≡ failed
        go zero p = absurd (omega arith)
        go (suc m) p = rw (e, no-method m kind v ys c)

    after_read : Agree (runs s peek z (λ next v. runs s (Branch (contains after_field next) (Give (again (members y false))) (Then (expect_check_recovery Token.Comma (Token.Identifier ∷ Token.Eager ∷ Token.Fn ∷ [])) (λ _. Give (again (members y false))))) v (following n)))
        (on Token.Comma ws (λ _ vs. bind (read_struct_body s.rows m vs) (λ us qs. Chart.ok (t ▸ us) qs)) (bind (read_methods s.rows m ws) (λ us qs. Chart.ok (t ▸ us) qs)))
    unfolding run begins contains turns
    after_read =
        peek-rule s z (λ next v. runs s (Branch (contains after_field next) (Give (again (members y false))) (Then (expect_check_recovery Token.Comma (Token.Identifier ∷ Token.Eager ∷ Token.Fn ∷ [])) (λ _. Give (again (members y false))))) v (following n)) f
        (λ i e. rw (on_none Token.Comma ws _ _ (rw e refl)) (methods-follow i (rw e refl)))
        (λ j kind ys e _. go j kind ys e (contains after_field kind) refl)
      where
        go : (j kind : ℕ) (ys : List RowToken) → ws ≡ token kind (lexeme_of s j) ∷ ys → (b : Bool) → contains after_field kind ≡ b
            → Agree (runs s (Branch b (Give (again (members y false))) (Then (expect_check_recovery Token.Comma (Token.Identifier ∷ Token.Eager ∷ Token.Fn ∷ [])) (λ _. Give (again (members y false))))) (move_to j z.row z) (following n))
            (on Token.Comma ws (λ _ vs. bind (read_struct_body s.rows m vs) (λ us qs. Chart.ok (t ▸ us) qs)) (bind (read_methods s.rows m ws) (λ us qs. Chart.ok (t ▸ us) qs)))
        go j kind ys e true c = let (p, q) = after-field kind c in rw (on_none Token.Comma ws _ _ (rw e p)) (methods-follow j (rw e q))
        go j kind ys e false c =
            recover-rule s (move_to j z.row z) _ (Token.Identifier ∷ Token.Eager ∷ Token.Fn ∷ []) _ refl f
            (λ j₁ row vs t₁. mapped (λ us. t ▸ us) (ih w (move_to (suc j₁) row z) y h (ts ⊕ (t ▸ none)) vs (omega (arith, t₁.shorter)) (omega (arith, t₁.shorter)) o t₁.fit) (λ y₁ z₁ us₁ zs₁. longer s a t (omega (arith, t₁.shorter))))
            (λ _. methods-fail kind (lexeme_of s j) ys e c)

  -- A row that begins with a name.
  named-row : (xs : List RowToken) → begins Token.Identifier xs ≡ true → (begins Token.RightCurly xs ≡ false) × (begins Token.Eager xs ≡ false) × (begins Token.Fn xs ≡ false) × ((xs ≡ []) → ⊥)
  unfolding begins
  named-row [] e = absurd (false≢true e)
  named-row (token k v ∷ xs) e = let z : k ≡ Token.Identifier = eqb-true k Token.Identifier e in (rw z refl, rw z refl, rw z refl, λ q. absurd (let z : ◌≡◌ {A = ℕ} 0 1 = cc in omega arith))

  field-turns : (n m : ℕ) → FieldTurns n m
  unfolding run turns member_turn field_turn read_struct_body branch ◌⊕◌
  field-turns zero m w u x h ts xs l l₁ o f = absurd (omega arith)
  field-turns (suc n) zero w u x h ts xs l l₁ o f = absurd (omega arith)
  field-turns (suc n) (suc m) w u x h ts xs l l₁ o f = go (field-turns n m) (begins Token.Identifier xs) refl
    where
      go : FieldTurns n m → (b : Bool) → begins Token.Identifier xs ≡ b → Sim (Made (Longer s a w h ts xs)) (runs s (member_turn (members x false)) u (following n)) (read_struct_body s.rows (suc m) xs)
      go ih false q = rw (on_none Token.Identifier xs _ _ q) (method-turns (suc n) (suc m) w u x false h ts xs (λ p. absurd (true≢false (sym p ∙ q))) l l₁ o f)
      go ih true q =
          let (p₁, p₂, p₃, p₄) = named-row xs q in
          eof-rule s u _ f (λ e i. absurd (p₄ e)) (λ i kind ys e.
          check-is s (move_to i u.row u) _ Token.RightCurly refl f (λ i₁. rw p₁ (
          check-is s (move_to i₁ u.row u) _ Token.Eager refl f (λ i₂. rw p₂ (
          check-is s (move_to i₂ u.row u) _ Token.Fn refl f (λ i₃. rw p₃ (
          check-is s (move_to i₃ u.row u) _ Token.Identifier refl f (λ i₄. rw q (
          field-rule (move_to i₄ u.row u) _ (λ t ws. on Token.Comma ws (λ _ vs. bind (read_struct_body s.rows m vs) (λ us qs. Chart.ok (t ▸ us) qs)) (bind (read_methods s.rows m ws) (λ us qs. Chart.ok (t ▸ us) qs))) _ f q (λ c v us ws d f₁ l₂.
          push-rule s w u v _ x c o d f₁ (λ y z o₁ f₂. after_read n m ih w h ts xs l l₁ _ y z ws o₁ f₂ l₂)))))))))))

  -- ---- structs

  -- From the index type on, if any.
  body-rule : {B : Type 0} {P : B → World → Outcome → Type 0} (w u : World) (k : ℕ → World → Fate B) (c : Trees → List RowToken → Outcome) (x : Unfinished) {ts : Trees} {xs : List RowToken} → Open s w u x (node_head Node.StructDef 0) 0 ts → Fits s u xs
      → ((n : ℕ) (v : World) (us : Trees) (ys : List RowToken) → Done s w v n (node Node.StructDef (flags 0) (ts ⊕ (node Node.StructBody (flags 0) us ▸ none))) → Fits s v ys → length ys < length xs → Sim P (k n v) (c us ys))
      → Sim P (runs s (alloc_node Node.StructBody 0) u (λ y v. runs s (expect Token.LeftCurly) v (λ _ z. runs s (Loop (members y false) member_turn) z (λ e z₁. runs s (expect Token.RightCurly) z₁ (λ _ z₂. runs s (close_node e.body) z₂ (λ n z₃. runs s (push_child x n) z₃ (λ x₁ z₄. runs s (close_node x₁) z₄ k)))))))
      (on Token.LeftCurly xs (λ _ ys. bind (read_struct_body s.rows (suc (length ys)) ys) c) failed)
  unfolding run ◌⊕◌ is_flagged is_name
  body-rule w u k c x o f g =
      alloc-here s u _ Node.StructBody 0 f (λ y v o₁ f₁.
      expect-rule s v _ _ refl f₁ (λ j row ys t.
      call s (Then (Loop (members y false) member_turn) (λ e. Then (expect Token.RightCurly) (λ _. Give e.body))) (move_to (suc j) row v) _ c
      (field-turns s.bound (suc (length ys)) u (move_to (suc j) row v) y _ none ys t.fit.few (omega arith) o₁ t.fit)
      (λ z v₁ us zs r.
      close-branch s u v₁ _ z r.opened refl r.fit (λ n v₂ d f₂.
      push-rule s w u v₂ _ x n o d f₂ (λ x₁ v₃ o₂ f₃.
      close-branch s w v₃ k x₁ o₂ refl f₃ (λ m v₄ d₁ f₄. g m v₄ us zs d₁ f₄ (omega (arith, t.shorter, r.shorter))))))))

  -- After `struct`.
  pub struct-rule : {B : Type 0} {P : B → World → Outcome → Type 0} (w : World) (k : ℕ → World → Fate B) (c : Trees → List RowToken → Outcome) (start : ℕ) {xs : List RowToken} → Fits s w xs → After s a P w xs Node.StructDef 0 k c
      → Sim P (runs s (parse_struct_def start) w k)
      (on Token.LeftCurly xs (λ _ zs. bind (read_struct_body s.rows (suc (length zs)) zs) (λ t ws. c (branch Node.StructBody 0 t) ws))
      (bind (s.rows.expr false 0 xs) (λ t zs. on Token.LeftCurly zs (λ _ ws. bind (read_struct_body s.rows (suc (length ws)) ws) (λ u vs. c (t ⊕ branch Node.StructBody 0 u) vs)) failed)))
  unfolding run parse_struct_def push_option branch ◌⊕◌
  struct-rule {P = P} w k c start {xs} f g =
      alloc-rule s w _ start Node.StructDef 0 f (λ x u o f₁.
      check-is s u _ Token.LeftCurly refl f₁ (λ i. go x (move_to i u.row u) o f₁ (begins Token.LeftCurly xs) refl))
    where
      go : (x : Unfinished) (u : World) → Open s w u x (node_head Node.StructDef 0) 0 none → Fits s u xs → (b : Bool) → begins Token.LeftCurly xs ≡ b
          → Sim P (runs s (Branch b (Give Option.none) (try_parse_expr NoPostFixCurlyBrace)) u (λ index v. runs s (push_option x index) v (λ x₁ v₁. runs s (alloc_node Node.StructBody 0) v₁ (λ y v. runs s (expect Token.LeftCurly) v (λ _ z. runs s (Loop (members y false) member_turn) z (λ e z₁. runs s (expect Token.RightCurly) z₁ (λ _ z₂. runs s (close_node e.body) z₂ (λ n z₃. runs s (push_child x₁ n) z₃ (λ x₁ z₄. runs s (close_node x₁) z₄ k)))))))))
          (on Token.LeftCurly xs (λ _ zs. bind (read_struct_body s.rows (suc (length zs)) zs) (λ t ws. c (branch Node.StructBody 0 t) ws))
          (bind (s.rows.expr false 0 xs) (λ t zs. on Token.LeftCurly zs (λ _ ws. bind (read_struct_body s.rows (suc (length ws)) ws) (λ u vs. c (t ⊕ branch Node.StructBody 0 u) vs)) failed)))
      go x u o f₁ true e = rw (on-yes Token.LeftCurly xs _ _ failed e) (body-rule w u k (λ t ws. c (node Node.StructBody (flags 0) t ▸ none) ws) x o f₁ (λ n v us ys d f₂ l. g n v _ ys d f₂ l))
      go x u o f₁ false e =
          rw (on_none Token.LeftCurly xs _ _ e, bind_try (s.rows.expr false 0 xs) _)
          (try-rule s a u _ _ failed NoPostFixCurlyBrace f₁
          (λ n v t ys d f₂ l. push-rule s w u v _ x n o d f₂ (λ y z o₁ f₃.
          body-rule w z k (λ us vs. c (t ▸ (node Node.StructBody (flags 0) us ▸ none)) vs) y o₁ f₃ (λ m v₁ us zs d₁ f₄ l₁. g m v₁ _ zs d₁ f₄ (omega arith))))
          (λ i. alloc-here s (move_to i u.row u) _ Node.StructBody 0 f₁ (λ y v o₁ f₂. expect-miss s v _ Token.LeftCurly refl f₂ e)))

  -- After `tuple`.
  pub tuple-type-rule : {B : Type 0} {P : B → World → Outcome → Type 0} (w : World) (k : ℕ → World → Fate B) (c : Trees → List RowToken → Outcome) (start : ℕ) {xs : List RowToken} → Fits s w xs → After s a P w xs Node.TupleType 0 k c
      → Sim P (runs s (parse_tuple_type start) w k) (on Token.LeftCurly xs (λ _ ys. bind (read_list Token.RightCurly s.rows (suc (length ys)) ys) c) failed)
  unfolding run parse_tuple_type ◌⊕◌ is_flagged is_name
  tuple-type-rule w k c start f g =
      alloc-rule s w _ start Node.TupleType 0 f (λ x u o f₁.
      list-expect s a Token.RightCurly refl expr_element (read_list Token.RightCurly s.rows) (expressions s a Token.RightCurly) w u _ c Token.LeftCurly x refl o f₁ (λ y z us ys o₁ f₂ l.
      close-branch s w z k y o₁ refl f₂ (λ n v d f₃. g n v us ys d f₃ l)))

  -- ---- struct literals

  pub fields : Elements s a Token.RightCurly field_assign (read_fields s.rows)
  unfolding run field_assign push_option read_fields branch ◌⊕◌ is_flagged is_name
  fields m w u x h ts xs k o f g z = go (begins Token.Identifier xs) refl
    where
      go : (b : Bool) → begins Token.Identifier xs ≡ b → Sim (Made (Longer s a w h ts xs)) (runs s (field_assign x) u k) (read_fields s.rows (suc m) xs)
      go false e = rw (on_none Token.Identifier xs _ _ e) (check-is s u _ Token.Identifier refl f (λ i. rw e (z i)))
      go true e =
          check-is s u _ Token.Identifier refl f (λ i. rw e (
          alloc-here s (move_to i u.row u) _ Node.FieldAssign 0 f (λ y v o₁ f₁.
          ident-rule s a v _ _ f₁
          (λ n v₁ j ys d f₂ l. push-rule s (move_to i u.row u) v v₁ _ y n o₁ d f₂ (λ y₁ v₂ o₂ f₃.
          expect-rule s v₂ _ _ refl f₃ (λ j₁ row zs t.
          expr-rule s a (move_to (suc j₁) row v₂) _ _ AllowAll t.fit (λ n₁ v₃ t₁ ws d₁ f₄ l₁.
          push-rule s (move_to i u.row u) (move_to (suc j₁) row v₂) v₃ _ y₁ n₁ o₂ d₁ f₄ (λ y₂ v₄ o₃ f₅.
          close-branch s (move_to i u.row u) v₄ _ y₂ o₃ refl f₅ (λ n₂ v₅ d₂ f₆.
          push-rule s w u v₅ _ x n₂ o d₂ f₆ (λ x₁ v₆ o₄ f₇. g x₁ v₆ _ ws o₄ f₇ (omega (arith, t.shorter)))))))))
          (λ q i₁. absurd (true≢false (sym e ∙ q))))))
