-- What the parser reads, the chart derives.
use Rattle.std.specs.Prelude.{◌≡◌, Bool, ◌&&◌, not, ltb, leb, length}
use Rattle.std.proofs.Math.Path.{refl, subst}
use Rattle.std.proofs.Math.Bool.{true, false}
use Rattle.std.proofs.lemmas.Bool.{false≢true}
use mathlib.Core.List.{List, [], ◌∷◌}
use Prim.Native.Nat.{ℕ, zero, suc, ◌≤◌, ◌<◌}
use Rattle.std.proofs.Common.{arith, lit≤, leb-true, leb-false, ltb-true}
use Rattle.literals.specs.Strings.{bytes_of}
use Rattle.words.specs.Token
use Rattle.words.specs.Node
use Rattle.words.specs.UnaryOp
use Rattle.chart.specs.Row.{Lexeme, RowToken, begins, token}
use Rattle.chart.specs.Tree.{Trees, ◌⊕◌, branch, listed, named, decoded, decoded_hex, quiet, string_tree}
use Rattle.chart.specs.Chart
use Rattle.chart.specs.Chart.{prefix_level, binary_tree, Nonterminal, Derives, file, declarations, declaration, import, path, items, item, level, postfix, operand, strings, expressions, types, fields, else_ifs, arms, arm, signature, parameters, parameter, parameter_type, struct_body, methods, block, statements, statement, binding, binding_name}
use Rattle.chart.specs.Parser.{Role, operator_of, binary_of, Outcome, Readers, push, prepend, read_list, read_elements, read_fields, read_on, read_strings, read_else_ifs, read_arm, read_arms, read_parameter_type, read_parameter, read_parameters, read_signature, read_methods, read_struct_body, read_round, read_struct, read_operand, read_prefix, read_level, read_binding_name, read_binding, read_expression, read_comptime, read_statement, read_statements, read_block, readers, read_path, read_item, read_items, read_import, read_declaration, read_declarations, read_file, ok}
use Rattle.chart.specs.Outcome.{not-nothing, not-fail, not-deep, if-elim, on-elim, bind-elim, try-elim}
use Rattle.chart.proofs.Levels.{binary}
use Rattle.chart.proofs.Laws.{below, post_start, stop, and_left, op-top, stop-mono, stop-intro, op-elim, ok-trees, ok-rest, ret, need, continues-not}

pub record Sound (R : Readers) : Type 0 where
  pub expr : (m : Bool) (k : ℕ) (xs ys : List RowToken) (t : Trees) → k ≤ prefix_level → R.expr m k xs ≡ ok t ys → Derives (level m k) xs ys t × (stop m k ys ≡ true)
  pub block : (xs ys : List RowToken) (t : Trees) → R.block xs ≡ ok t ys → Derives block xs ys t

-- A derivation at a level is one at every looser level.
pub lower : {m : Bool} {xs ys : List RowToken} {t : Trees} (c k : ℕ) → k ≤ c → Derives (level m c) xs ys t → Derives (level m k) xs ys t
lower {m} {xs} {ys} {t} zero k h D = let e : 0 ≡ k = omega arith in subst (λ i. Derives (level m i) xs ys t) e D
lower {m} {xs} {ys} {t} (suc c) k h D = go (leb k c) refl (λ l. lower c k l (Chart.tighter D))
  where
    go : (b : Bool) → leb k c ≡ b → (k ≤ c → Derives (level m k) xs ys t) → Derives (level m k) xs ys t
    go true e f = f (leb-true k c e)
    go false e f = let l : c < k = leb-false k c e in let q : suc c ≡ k = omega arith in subst (λ i. Derives (level m i) xs ys t) q D

-- What the loop holds: a postfix expression, or one of level `c` that goes on with nothing tighter.
pub data Acc (m : Bool) (k : ℕ) (xs ys : List RowToken) (t : Trees) : Type 0 where
  loose : Derives (postfix m) xs ys t → Acc m k xs ys t
  bound : (c : ℕ) → k ≤ c → c ≤ prefix_level → Derives (level m c) xs ys t → stop m (suc c) ys ≡ true → Acc m k xs ys t

acc-post : {m : Bool} {k o : ℕ} {v : Lexeme} {xs ys : List RowToken} {t : Trees} → post_start m o ≡ true → Acc m k xs (token o v ∷ ys) t → Derives (postfix m) xs (token o v ∷ ys) t
unfolding stop
acc-post h (loose D) = D
acc-post {m} {o} h (bound c l u D e) = absurd (go (post_start m o) (below (operator_of o) (suc c)) h e)
  where
    go : (a b : Bool) → a ≡ true → (not a && b) ≡ true → ⊥
    go true b h e = false≢true e
    go false b h e = false≢true h

acc-lit : {m : Bool} {k : ℕ} {v : Lexeme} {xs ys zs : List RowToken} {t us : Trees} → m ≡ true → Acc m k xs (token Token.LeftCurly v ∷ ys) t → Derives fields ys zs us → Derives (postfix m) xs zs (branch Node.StructLit 0 (t ⊕ us))
acc-lit {m = true} e a F = Chart.struct-literal (acc-post refl a) F
acc-lit {m = false} e a F = absurd (false≢true e)

acc-level : {m : Bool} {k o : ℕ} {v : Lexeme} {xs ys : List RowToken} {t : Trees} (j op : ℕ) → operator_of o ≡ binary_of j op → k ≤ j → Acc m k xs (token o v ∷ ys) t → Derives (level m j) xs (token o v ∷ ys) t
unfolding stop below
acc-level {o} j op e h (loose D) = let q : suc j ≤ prefix_level = op-top o j op e in lower prefix_level j (omega arith) (Chart.unprefixed D)
acc-level {m} {o} j op e h (bound c l u D f) = let q : j < suc c = ltb-true j (suc c) (go (not (post_start m o)) (operator_of o) e f) in lower c j (omega arith) D
  where
    go : (a : Bool) (lv : Role) → lv ≡ binary_of j op → (a && below lv (suc c)) ≡ true → ltb j (suc c) ≡ true
    go true lv e f = subst (λ l. below l (suc c) ≡ true) e f
    go false lv e f = absurd (false≢true f)

acc-end : {m : Bool} {k : ℕ} {xs ys : List RowToken} {t : Trees} → k ≤ prefix_level → Acc m k xs ys t → Derives (level m k) xs ys t
acc-end {k} h (loose D) = lower prefix_level k h (Chart.unprefixed D)
acc-end {k} h (bound c l u D f) = lower c k l D

-- What `read_else_ifs` and `read_statements` give: a list node, and what follows it.
pub data Listed (kind : ℕ) : Trees → Type 0 where
  is_list : (us e : Trees) → Listed kind (listed kind us e)

-- What `read_strings` gives: a string literal.
pub data Text : Trees → Type 0 where
  is_text : (bs : List ℕ) → Text (string_tree bs)

ret-both : {n : Nonterminal} {xs ys zs : List RowToken} {t u : Trees} (P : Trees → Type 0) → ok t ys ≡ ok u zs → Derives n xs ys t × P t → Derives n xs zs u × P u
ret-both P e r = (ret e r.0, subst P (ok-trees e) r.1)

text-more : {v : Lexeme} {xs ys : List RowToken} {t : Trees} → quiet (decoded v) ≡ true → Derives strings xs ys t → Text t → Derives strings (token Token.LooseStringLiteral v ∷ xs) ys (prepend (bytes_of (decoded v)) t) × Text (prepend (bytes_of (decoded v)) t)
unfolding prepend
text-more h D (is_text bs) = (Chart.strings-more h D, is_text _)

text-more-hex : {v : Lexeme} {xs ys : List RowToken} {t : Trees} → quiet (decoded_hex v) ≡ true → Derives strings xs ys t → Text t → Derives strings (token Token.LooseHexStringLiteral v ∷ xs) ys (prepend (bytes_of (decoded_hex v)) t) × Text (prepend (bytes_of (decoded_hex v)) t)
unfolding prepend
text-more-hex h D (is_text bs) = (Chart.strings-more-hex h D, is_text _)

text-first : {v : Lexeme} {xs ys : List RowToken} {t : Trees} → quiet (decoded v) ≡ true → Derives strings xs ys t → Text t → Derives operand (token Token.LooseStringLiteral v ∷ xs) ys (prepend (bytes_of (decoded v)) t)
unfolding prepend
text-first h D (is_text bs) = Chart.string h D

text-first-hex : {v : Lexeme} {xs ys : List RowToken} {t : Trees} → quiet (decoded_hex v) ≡ true → Derives strings xs ys t → Text t → Derives operand (token Token.LooseHexStringLiteral v ∷ xs) ys (prepend (bytes_of (decoded_hex v)) t)
unfolding prepend
text-first-hex h D (is_text bs) = Chart.hex-string h D

else-more : {v w : Lexeme} {xs ys zs ws : List RowToken} {c b e : Trees} → Derives (level false 0) xs ys c → Derives block ys zs b → Derives else_ifs zs ws e → Listed Node.ElseIfBranchList e
    → Derives else_ifs (token Token.Else v ∷ token Token.If w ∷ xs) ws (push (branch Node.ElseIfBranch 0 (c ⊕ branch Node.Block 0 b)) e) × Listed Node.ElseIfBranchList (push (branch Node.ElseIfBranch 0 (c ⊕ branch Node.Block 0 b)) e)
unfolding push
else-more C B E (is_list us e) = (Chart.else-if C B E, is_list _ _)

statement-more : {xs ys zs : List RowToken} {t b : Trees} → Derives statement xs ys t → Derives statements ys zs b → Listed Node.StatementsList b → Derives statements xs zs (push t b) × Listed Node.StatementsList (push t b)
unfolding push
statement-more D B (is_list us e) = (Chart.statements-more D B, is_list _ _)

module _ (R : Readers) (S : Sound R) where
  sx : (m : Bool) {xs ys : List RowToken} {t : Trees} → R.expr m 0 xs ≡ ok t ys → Derives (level m 0) xs ys t
  sx m e = (S.expr m 0 _ _ _ (lit≤ tt) e).0

  sb : {xs ys : List RowToken} {t : Trees} → R.block xs ≡ ok t ys → Derives block xs ys t
  sb e = S.block _ _ _ e

  s-arguments : (n : ℕ) (xs ys : List RowToken) (t : Trees) → read_list Token.RightRound R n xs ≡ ok t ys → Derives expressions xs ys t
  unfolding read_list
  s-arguments zero xs ys t e = not-fail e
  s-arguments (suc n) xs ws us e = try-elim _ _ _ e
      (λ t ys q e. on-elim (λ ys. Derives (level true 0) xs ys t → Derives expressions xs ws us) _ _ _ _ e
      (λ v zs e D. bind-elim _ _ e (λ gs vs q e. ret e (Chart.expressions-more D (s-arguments n zs vs gs q))))
      (λ _ e. need (λ ys. Derives (level true 0) xs ys t → Derives expressions xs ws us) _ _ _ e (λ v zs e D. ret e (Chart.expressions-last D)))
      (sx true q))
      (λ _ e. need (λ xs. Derives expressions xs ws us) _ _ _ e (λ v zs e. ret e Chart.expressions-end))

  s-types : (n : ℕ) (xs ys : List RowToken) (t : Trees) → read_list Token.RightCurly R n xs ≡ ok t ys → Derives types xs ys t
  unfolding read_list
  s-types zero xs ys t e = not-fail e
  s-types (suc n) xs ws us e = try-elim _ _ _ e
      (λ t ys q e. on-elim (λ ys. Derives (level true 0) xs ys t → Derives types xs ws us) _ _ _ _ e
      (λ v zs e D. bind-elim _ _ e (λ gs vs q e. ret e (Chart.types_more D (s-types n zs vs gs q))))
      (λ _ e. need (λ ys. Derives (level true 0) xs ys t → Derives types xs ws us) _ _ _ e (λ v zs e D. ret e (Chart.types-last D)))
      (sx true q))
      (λ _ e. need (λ xs. Derives types xs ws us) _ _ _ e (λ v zs e. ret e Chart.types-end))

  s-elements : (n : ℕ) (xs ys : List RowToken) (t : Trees) → read_elements R n xs ≡ ok t ys → Derives expressions xs ys t
  unfolding read_elements
  s-elements zero xs ys t e = not-fail e
  s-elements (suc n) xs ws us e = on-elim (λ xs. Derives expressions xs ws us) _ _ _ _ e
      (λ v zs e. ret e Chart.expressions-end)
      (λ _ e. bind-elim _ _ e λ t ys q e. on-elim (λ ys. Derives (level true 0) xs ys t → Derives expressions xs ws us) _ _ _ _ e
      (λ v zs e D. bind-elim _ _ e (λ gs vs q e. ret e (Chart.expressions-more D (s-elements n zs vs gs q))))
      (λ _ e. need (λ ys. Derives (level true 0) xs ys t → Derives expressions xs ws us) _ _ _ e (λ v zs e D. ret e (Chart.expressions-last D)))
      (sx true q))

  s-arm : (xs ys : List RowToken) (t : Trees) → read_arm R xs ≡ ok t ys → Derives arm xs ys t
  unfolding read_arm
  s-arm xs rs us e = on-elim (λ xs. Derives arm xs rs us) _ _ _ _ e
      (λ v ys e. on-elim (λ ys. Derives arm (token Token.Else v ∷ ys) rs us) _ _ _ _ e
      (λ w zs e. need (λ zs. Derives arm (token Token.Else v ∷ token Token.Identifier w ∷ zs) rs us) _ _ _ e λ _ _ e. bind-elim _ _ e λ t vs q e. ret e (Chart.arm-else-name (sx true q)))
      (λ _ e. need (λ ys. Derives arm (token Token.Else v ∷ ys) rs us) _ _ _ e λ _ _ e. bind-elim _ _ e λ t vs q e. ret e (Chart.arm-else (sx true q))))
      (λ _ e. bind-elim _ _ e λ t ys q e. need (λ ys. Derives (level true 0) xs ys t → Derives arm xs rs us) _ _ _ e
      (λ _ zs e D. bind-elim _ _ e λ u ws q e. ret e (Chart.arm-key D (sx true q))) (sx true q))

  s-arms : (n : ℕ) (xs ys : List RowToken) (t : Trees) → read_arms R n xs ≡ ok t ys → Derives arms xs ys t
  unfolding read_arms
  s-arms zero xs ys t e = not-fail e
  s-arms (suc n) xs ws us e = on-elim (λ xs. Derives arms xs ws us) _ _ _ _ e
      (λ v zs e. ret e Chart.arms_end)
      (λ _ e. if-elim _ _ _ e (λ _ e. not-fail e) λ _ e. bind-elim _ _ e λ t ys q e. on-elim (λ ys. Derives arm xs ys t → Derives arms xs ws us) _ _ _ _ e
      (λ v zs e D. bind-elim _ _ e (λ gs vs q e. ret e (Chart.arms_more D (s-arms n zs vs gs q))))
      (λ _ e. need (λ ys. Derives arm xs ys t → Derives arms xs ws us) _ _ _ e (λ v zs e D. ret e (Chart.arms_last D)))
      (s-arm xs ys t q))

  s-fields : (n : ℕ) (xs ys : List RowToken) (t : Trees) → read_fields R n xs ≡ ok t ys → Derives fields xs ys t
  unfolding read_fields
  s-fields zero xs ys t e = not-fail e
  s-fields (suc n) xs ws us e = on-elim (λ xs. Derives fields xs ws us) _ _ _ _ e
      (λ v ys e. need (λ ys. Derives fields (token Token.Identifier v ∷ ys) ws us) _ _ _ e
      (λ w zs e. bind-elim _ _ e (λ t ys q e. on-elim (λ ys. Derives (level true 0) zs ys t → Derives fields (token Token.Identifier v ∷ token Token.Colon w ∷ zs) ws us) _ _ _ _ e
      (λ _ ps e D. bind-elim _ _ e (λ gs vs q e. ret e (Chart.fields-more D (s-fields n ps vs gs q))))
      (λ _ e. need (λ ys. Derives (level true 0) zs ys t → Derives fields (token Token.Identifier v ∷ token Token.Colon w ∷ zs) ws us) _ _ _ e (λ _ _ e D. ret e (Chart.fields-last D)))
      (sx true q))))
      (λ _ e. need (λ xs. Derives fields xs ws us) _ _ _ e (λ v zs e. ret e Chart.fields-end))

  s-strings : (n : ℕ) (xs ys : List RowToken) (t : Trees) → read_strings n xs ≡ ok t ys → Derives strings xs ys t × Text t
  unfolding read_strings
  s-strings zero xs ys t e = not-fail e
  s-strings (suc n) xs rs us e = on-elim (λ xs. Derives strings xs rs us × Text us) _ _ _ _ e
      (λ v ys e. if-elim _ _ _ e (λ h e. bind-elim _ _ e λ t zs q e. let r = s-strings n ys zs t q in ret-both Text e (text-more h r.0 r.1)) (λ _ e. not-fail e))
      (λ _ e. on-elim (λ xs. Derives strings xs rs us × Text us) _ _ _ _ e
      (λ v ys e. if-elim _ _ _ e (λ h e. bind-elim _ _ e λ t zs q e. let r = s-strings n ys zs t q in ret-both Text e (text-more-hex h r.0 r.1)) (λ _ e. not-fail e))
      (λ _ e. ret-both Text e (Chart.strings-end, is_text [])))

  s-else_ifs : (n : ℕ) (xs ys : List RowToken) (t : Trees) → read_else_ifs R n xs ≡ ok t ys → Derives else_ifs xs ys t × Listed Node.ElseIfBranchList t
  unfolding read_else_ifs
  s-else_ifs zero xs ys t e = not-fail e
  s-else_ifs (suc n) xs rs us e = on-elim (λ xs. Derives else_ifs xs rs us × Listed Node.ElseIfBranchList us) _ _ _ _ e
      (λ v ys e. on-elim (λ ys. Derives else_ifs (token Token.Else v ∷ ys) rs us × Listed Node.ElseIfBranchList us) _ _ _ _ e
      (λ w zs e. bind-elim _ _ e λ c ws qc e. bind-elim _ _ e λ b ps qb e. bind-elim _ _ e λ g vs qe e.
      let r = s-else_ifs n ps vs g qe in ret-both (Listed Node.ElseIfBranchList) e (else-more (sx false qc) (sb qb) r.0 r.1))
      (λ _ e. bind-elim _ _ e λ b zs q e. ret-both (Listed Node.ElseIfBranchList) e (Chart.else-block (sb q), is_list _ _)))
      (λ h e. ret-both (Listed Node.ElseIfBranchList) e (Chart.else-none, is_list _ _))

  s-parameter_type : (xs ys : List RowToken) (t : Trees) → read_parameter_type R xs ≡ ok t ys → Derives parameter_type xs ys t
  unfolding read_parameter_type
  s-parameter_type xs rs us e = on-elim (λ xs. Derives parameter_type xs rs us) _ _ _ _ e
      (λ v ys e. need (λ ys. Derives parameter_type (token Token.Dollar v ∷ ys) rs us) _ _ _ e λ w zs e. ret e Chart.type-any)
      (λ _ e. bind-elim _ _ e λ t ys q e. ret e (Chart.type-expression (sx true q)))

  s-parameter : (xs ys : List RowToken) (t : Trees) → read_parameter R xs ≡ ok t ys → Derives parameter xs ys t
  unfolding read_parameter
  s-parameter xs rs us e = on-elim (λ xs. Derives parameter xs rs us) _ _ _ _ e
      (λ u ys e. need (λ ys. Derives parameter (token Token.Comptime u ∷ ys) rs us) _ _ _ e λ v zs e. need (λ zs. Derives parameter (token Token.Comptime u ∷ token Token.Identifier v ∷ zs) rs us) _ _ _ e
      λ w ws e. bind-elim _ _ e λ t vs q e. ret e (Chart.parameter-comptime (s-parameter_type ws vs t q)))
      (λ _ e. on-elim (λ xs. Derives parameter xs rs us) _ _ _ _ e
      (λ v zs e. need (λ zs. Derives parameter (token Token.Identifier v ∷ zs) rs us) _ _ _ e λ w ws e. bind-elim _ _ e λ t vs q e. ret e (Chart.parameter-plain (s-parameter_type ws vs t q)))
      (λ _ e. not-nothing e))

  s-parameters : (n : ℕ) (xs ys : List RowToken) (t : Trees) → read_parameters R n xs ≡ ok t ys → Derives parameters xs ys t
  unfolding read_parameters
  s-parameters zero xs ys t e = not-fail e
  s-parameters (suc n) xs ws us e = try-elim _ _ _ e
      (λ t ys q e. on-elim (λ ys. Derives parameter xs ys t → Derives parameters xs ws us) _ _ _ _ e
      (λ v zs e D. bind-elim _ _ e (λ gs vs q e. ret e (Chart.parameters-more D (s-parameters n zs vs gs q))))
      (λ _ e. need (λ ys. Derives parameter xs ys t → Derives parameters xs ws us) _ _ _ e (λ v zs e D. ret e (Chart.parameters-last D)))
      (s-parameter xs ys t q))
      (λ _ e. need (λ xs. Derives parameters xs ws us) _ _ _ e (λ v zs e. ret e Chart.parameters-end))

  s-signature : (xs ys : List RowToken) (t : Trees) → read_signature R xs ≡ ok t ys → Derives signature xs ys t
  unfolding read_signature
  s-signature xs rs us e = need (λ xs. Derives signature xs rs us) _ _ _ e λ v ys e. bind-elim _ _ e λ p zs qp e. bind-elim _ _ e λ t ws qt e. bind-elim _ _ e λ b vs qb e.
      ret e (Chart.signature-rule (s-parameters _ ys zs p qp) (sx false qt) (sb qb))

  s-methods : (n : ℕ) (xs ys : List RowToken) (t : Trees) → read_methods R n xs ≡ ok t ys → Derives methods xs ys t
  unfolding read_methods
  s-methods zero xs ys t e = not-fail e
  s-methods (suc n) xs rs us e = on-elim (λ xs. Derives methods xs rs us) _ _ _ _ e
      (λ v zs e. ret e Chart.methods-end)
      (λ _ e. on-elim (λ xs. Derives methods xs rs us) _ _ _ _ e
      (λ u ys e. need (λ ys. Derives methods (token Token.Eager u ∷ ys) rs us) _ _ _ e λ v zs e. need (λ zs. Derives methods (token Token.Eager u ∷ token Token.Fn v ∷ zs) rs us) _ _ _ e
      λ w ws e. bind-elim _ _ e λ t vs qt e. bind-elim _ _ e λ gs qs q e. ret e (Chart.methods-eager (s-signature ws vs t qt) (s-methods n vs qs gs q)))
      (λ _ e. need (λ xs. Derives methods xs rs us) _ _ _ e λ v zs e. need (λ zs. Derives methods (token Token.Fn v ∷ zs) rs us) _ _ _ e
      λ w ws e. bind-elim _ _ e λ t vs qt e. bind-elim _ _ e λ gs qs q e. ret e (Chart.methods-fn (s-signature ws vs t qt) (s-methods n vs qs gs q))))

  s-struct_body : (n : ℕ) (xs ys : List RowToken) (t : Trees) → read_struct_body R n xs ≡ ok t ys → Derives struct_body xs ys t
  unfolding read_struct_body
  s-struct_body zero xs ys t e = not-fail e
  s-struct_body (suc n) xs rs us e = on-elim (λ xs. Derives struct_body xs rs us) _ _ _ _ e
      (λ v ys e. need (λ ys. Derives struct_body (token Token.Identifier v ∷ ys) rs us) _ _ _ e λ w zs e. bind-elim _ _ e λ t ws q e.
      on-elim (λ ws. Derives (level true 0) zs ws t → Derives struct_body (token Token.Identifier v ∷ token Token.Colon w ∷ zs) rs us) _ _ _ _ e
      (λ _ vs e D. bind-elim _ _ e λ gs qs q e. ret e (Chart.struct-field-more D (s-struct_body n vs qs gs q)))
      (λ _ e D. bind-elim _ _ e λ gs qs q e. ret e (Chart.struct-field-last D (s-methods n ws qs gs q)))
      (sx true q))
      (λ _ e. Chart.struct-methods (s-methods (suc n) xs rs us e))

  s-operand : (xs ys : List RowToken) (t : Trees) → read_operand R xs ≡ ok t ys → Derives operand xs ys t
  unfolding read_operand read_round read_struct
  s-operand xs rs us e =
      on-elim (λ xs. Derives operand xs rs us) _ _ _ _ e
      (λ v ys e. ret e Chart.true-literal)
      λ _ e. on-elim (λ xs. Derives operand xs rs us) _ _ _ _ e
      (λ v ys e. ret e Chart.false-literal)
      λ _ e. on-elim (λ xs. Derives operand xs rs us) _ _ _ _ e
      (λ v ys e. ret e Chart.decimal)
      λ _ e. on-elim (λ xs. Derives operand xs rs us) _ _ _ _ e
      (λ v ys e. ret e Chart.hexadecimal)
      λ _ e. on-elim (λ xs. Derives operand xs rs us) _ _ _ _ e
      (λ v ys e. ret e Chart.binary-number)
      λ _ e. on-elim (λ xs. Derives operand xs rs us) _ _ _ _ e
      (λ v ys e. if-elim _ _ _ e (λ h e. bind-elim _ _ e λ t zs q e. let r = s-strings _ ys zs t q in ret e (text-first h r.0 r.1)) (λ _ e. not-fail e))
      λ _ e. on-elim (λ xs. Derives operand xs rs us) _ _ _ _ e
      (λ v ys e. if-elim _ _ _ e (λ h e. bind-elim _ _ e λ t zs q e. let r = s-strings _ ys zs t q in ret e (text-first-hex h r.0 r.1)) (λ _ e. not-fail e))
      λ _ e. on-elim (λ xs. Derives operand xs rs us) _ _ _ _ e
      (λ v ys e. ret e Chart.self_type)
      λ _ e. on-elim (λ xs. Derives operand xs rs us) _ _ _ _ e
      (λ v ys e. ret e Chart.name)
      λ _ e. on-elim (λ xs. Derives operand xs rs us) _ _ _ _ e
      (λ v ys e. ret e Chart.builtin-name)
      λ _ e. on-elim (λ xs. Derives operand xs rs us) _ _ _ _ e
      (λ v ys e. on-elim (λ ys. Derives operand (token Token.LeftRound v ∷ ys) rs us) _ _ _ _ e
      (λ w zs e. ret e Chart.unit)
      (λ _ e. bind-elim _ _ e λ t zs q e. on-elim (λ zs. Derives (level true 0) ys zs t → Derives operand (token Token.LeftRound v ∷ ys) rs us) _ _ _ _ e
      (λ w ws e D. bind-elim _ _ e λ gs vs q e. ret e (Chart.tuple D (s-elements _ ws vs gs q)))
      (λ _ e. need (λ zs. Derives (level true 0) ys zs t → Derives operand (token Token.LeftRound v ∷ ys) rs us) _ _ _ e λ w ws e D. ret e (Chart.paren D)) (sx true q)))
      λ _ e. on-elim (λ xs. Derives operand xs rs us) _ _ _ _ e
      (λ v ys e. bind-elim _ _ e λ b zs q e. ret e (Chart.comptime-block (sb q)))
      λ _ e. on-elim (λ xs. Derives operand xs rs us) _ _ _ _ e
      (λ v ys e. need (λ ys. Derives operand (token Token.Eager v ∷ ys) rs us) _ _ _ e λ w zs e. bind-elim _ _ e λ t ws q e. ret e (Chart.eager-function (s-signature zs ws t q)))
      λ _ e. on-elim (λ xs. Derives operand xs rs us) _ _ _ _ e
      (λ v zs e. bind-elim _ _ e λ t ws q e. ret e (Chart.function (s-signature zs ws t q)))
      λ _ e. on-elim (λ xs. Derives operand xs rs us) _ _ _ _ e
      (λ v ys e. on-elim (λ ys. Derives operand (token Token.Struct v ∷ ys) rs us) _ _ _ _ e
      (λ w zs e. bind-elim _ _ e λ t ws q e. ret e (Chart.struct (s-struct_body _ zs ws t q)))
      (λ h e. bind-elim _ _ e λ t zs q e. need (λ zs. Derives (level false 0) ys zs t → Derives operand (token Token.Struct v ∷ ys) rs us) _ _ _ e
      (λ w ws e D. bind-elim _ _ e λ u vs q e. ret e (Chart.indexed-struct h D (s-struct_body _ ws vs u q))) (sx false q)))
      λ _ e. on-elim (λ xs. Derives operand xs rs us) _ _ _ _ e
      (λ v ys e. need (λ ys. Derives operand (token Token.Tuple v ∷ ys) rs us) _ _ _ e λ w zs e. bind-elim _ _ e λ t ws q e. ret e (Chart.tuple_type (s-types _ zs ws t q)))
      λ _ e. on-elim (λ xs. Derives operand xs rs us) _ _ _ _ e
      (λ v ys e. bind-elim _ _ e λ b zs q e. ret e (Chart.bare-block (sb q)))
      λ _ e. on-elim (λ xs. Derives operand xs rs us) _ _ _ _ e
      (λ v ys e. bind-elim _ _ e λ c zs qc e. bind-elim _ _ e λ b ws qb e. bind-elim _ _ e λ g vs qe e.
      ret e (Chart.conditional (sx false qc) (sb qb) (s-else_ifs _ ws vs g qe).0))
      λ _ e. on-elim (λ xs. Derives operand xs rs us) _ _ _ _ e
      (λ v ys e. bind-elim _ _ e λ c zs q e. need (λ zs. Derives (level false 0) ys zs c → Derives operand (token Token.Match v ∷ ys) rs us) _ _ _ e
      (λ w ws e D. bind-elim _ _ e λ a vs q e. ret e (Chart.match D (s-arms _ ws vs a q))) (sx false q))
      λ _ e. not-nothing e

  s-loop : (n : ℕ) (m : Bool) (k : ℕ) (xs ys zs : List RowToken) (t u : Trees) → k ≤ prefix_level → Acc m k xs ys t → read_on R n m k t ys ≡ ok u zs → Derives (level m k) xs zs u × (stop m k zs ≡ true)
  unfolding read_on
  s-loop zero m k xs ys zs t u l a e = not-fail e
  s-loop (suc n) m k xs ys rs t us l a e = on-elim (λ ys. Acc m k xs ys t → Derives (level m k) xs rs us × (stop m k rs ≡ true)) _ _ _ _ e
      (λ v ys e. need (λ ys. Acc m k xs (token Token.Dot v ∷ ys) t → Derives (level m k) xs rs us × (stop m k rs ≡ true)) _ _ _ e
      λ w zs e a. s-loop n m k xs zs rs (branch Node.MemberExpr 0 (t ⊕ named w)) us l (loose (Chart.member (acc-post refl a))) e)
      (λ hd e. on-elim (λ ys. begins Token.Dot ys ≡ false → Acc m k xs ys t → Derives (level m k) xs rs us × (stop m k rs ≡ true)) _ _ _ _ e
      (λ v ys e _ a. bind-elim _ _ e λ g zs q e. s-loop n m k xs zs rs (branch Node.CallExpr 0 (t ⊕ g)) us l (loose (Chart.call (acc-post refl a) (s-arguments _ ys zs g q))) e)
      (λ np e hd a. if-elim _ _ _ e
      (λ b e. need (λ ys. Acc m k xs ys t → Derives (level m k) xs rs us × (stop m k rs ≡ true)) _ _ _ e
      (λ v ys e a. bind-elim _ _ e λ g zs q e. s-loop n m k xs zs rs (branch Node.StructLit 0 (t ⊕ g)) us l (loose (acc-lit (and_left m _ b) a (s-fields _ ys zs g q))) e) a)
      λ nb e. op-elim (λ ys. begins Token.Dot ys ≡ false → begins Token.LeftRound ys ≡ false → (m && begins Token.LeftCurly ys) ≡ false → Acc m k xs ys t → Derives (level m k) xs rs us × (stop m k rs ≡ true)) _ _ _ _ e
      (λ o v j op ys q h e _ _ _ a. bind-elim _ _ e λ u zs qu e.
      let D = S.expr m (suc j) ys zs u (op-top o j op q) qu in
      s-loop n m k xs zs rs (binary_tree op t u) us l (bound j h (let g : suc j ≤ prefix_level = op-top o j op q in omega arith) (binary q (acc-level j op q h a) D.0) D.1) e)
      (λ no e hd np nb a. (ret e (acc-end l a), subst (λ r. stop m k r ≡ true) (ok-rest e) (stop-intro m k ys hd np nb no))) hd np nb a) hd) a

  s-expr : (m : Bool) (k : ℕ) (xs ys : List RowToken) (t : Trees) → k ≤ prefix_level → read_level R m k xs ≡ ok t ys → Derives (level m k) xs ys t × (stop m k ys ≡ true)
  unfolding read_level read_prefix
  s-expr m k xs rs us l e =
      on-elim (λ xs. Derives (level m k) xs rs us × (stop m k rs ≡ true)) _ _ _ _ e
      (λ v ys e. bind-elim _ _ e λ t zs q e. let D = S.expr m prefix_level ys zs t (lit≤ tt) q in
      s-loop _ m k (token Token.Minus v ∷ ys) zs rs (branch Node.UnaryExpr UnaryOp.Minus t) us l (bound prefix_level l (lit≤ tt) (Chart.minus D.0) (stop-mono m prefix_level (suc prefix_level) zs (lit≤ tt) D.1)) e)
      λ _ e. on-elim (λ xs. Derives (level m k) xs rs us × (stop m k rs ≡ true)) _ _ _ _ e
      (λ v ys e. bind-elim _ _ e λ t zs q e. let D = S.expr m prefix_level ys zs t (lit≤ tt) q in
      s-loop _ m k (token Token.Bang v ∷ ys) zs rs (branch Node.UnaryExpr UnaryOp.Bang t) us l (bound prefix_level l (lit≤ tt) (Chart.bang D.0) (stop-mono m prefix_level (suc prefix_level) zs (lit≤ tt) D.1)) e)
      λ _ e. on-elim (λ xs. Derives (level m k) xs rs us × (stop m k rs ≡ true)) _ _ _ _ e
      (λ v ys e. bind-elim _ _ e λ t zs q e. let D = S.expr m prefix_level ys zs t (lit≤ tt) q in
      s-loop _ m k (token Token.Tilde v ∷ ys) zs rs (branch Node.UnaryExpr UnaryOp.Tilde t) us l (bound prefix_level l (lit≤ tt) (Chart.tilde D.0) (stop-mono m prefix_level (suc prefix_level) zs (lit≤ tt) D.1)) e)
      λ _ e. try-elim _ _ _ e (λ t zs q e. s-loop _ m k xs zs rs t us l (loose (Chart.standalone (s-operand xs zs t q))) e) (λ _ e. not-nothing e)

  s-binding_name : (c m : Bool) (xs ys : List RowToken) (t : Trees) → read_binding_name R c m xs ≡ ok t ys → Derives (binding_name c m) xs ys t
  unfolding read_binding_name
  s-binding_name c m xs rs us e = need (λ xs. Derives (binding_name c m) xs rs us) _ _ _ e λ v ys e. on-elim (λ ys. Derives (binding_name c m) (token Token.Identifier v ∷ ys) rs us) _ _ _ _ e
      (λ w zs e. bind-elim _ _ e λ s ws qs e. need (λ ws. Derives (level true 0) zs ws s → Derives (binding_name c m) (token Token.Identifier v ∷ token Token.Colon w ∷ zs) rs us) _ _ _ e
      (λ _ vs e D. bind-elim _ _ e λ t qs q e. need (λ qs. Derives (level true 0) vs qs t → Derives (binding_name c m) (token Token.Identifier v ∷ token Token.Colon w ∷ zs) rs us) _ _ _ e
      (λ _ _ e E. ret e (Chart.binding-typed D E)) (sx true q)) (sx true qs))
      (λ _ e. need (λ ys. Derives (binding_name c m) (token Token.Identifier v ∷ ys) rs us) _ _ _ e λ w vs e. bind-elim _ _ e λ t qs q e.
      need (λ qs. Derives (level true 0) vs qs t → Derives (binding_name c m) (token Token.Identifier v ∷ token Token.Equals w ∷ vs) rs us) _ _ _ e (λ _ _ e E. ret e (Chart.binding-untyped E)) (sx true q))

  s-binding : (c : Bool) (xs ys : List RowToken) (t : Trees) → read_binding R c xs ≡ ok t ys → Derives (binding c) xs ys t
  unfolding read_binding
  s-binding c xs rs us e = on-elim (λ xs. Derives (binding c) xs rs us) _ _ _ _ e (λ v ys e. Chart.binding-mut (s-binding_name c true ys rs us e)) (λ _ e. Chart.binding-fixed (s-binding_name c false xs rs us e))

  s-statement : (C : Type 0) (xs rs : List RowToken) (us : Trees) (k : Trees → List RowToken → Outcome) → read_statement R xs k ≡ ok us rs
      → ((t : Trees) (ys : List RowToken) → Derives statement xs ys t → k t ys ≡ ok us rs → C) → (Derives statements xs rs us × Listed Node.StatementsList us → C) → C
  unfolding read_statement read_expression read_comptime
  s-statement C xs rs us k e = on-elim (λ xs. ((t : Trees) (ys : List RowToken) → Derives statement xs ys t → k t ys ≡ ok us rs → C) → (Derives statements xs rs us × Listed Node.StatementsList us → C) → C) _ _ _ _ e
      (λ u ys e. need (λ ys. ((t : Trees) (zs : List RowToken) → Derives statement (token Token.Inline u ∷ ys) zs t → k t zs ≡ ok us rs → C) → (Derives statements (token Token.Inline u ∷ ys) rs us × Listed Node.StatementsList us → C) → C) _ _ _ e
      λ v zs e f g. bind-elim _ _ e λ c ws qc e. bind-elim _ _ e λ b vs qb e. f _ _ (Chart.inline-while (sx false qc) (sb qb)) e)
      λ _ e. on-elim (λ xs. ((t : Trees) (ys : List RowToken) → Derives statement xs ys t → k t ys ≡ ok us rs → C) → (Derives statements xs rs us × Listed Node.StatementsList us → C) → C) _ _ _ _ e
      (λ v zs e f g. bind-elim _ _ e λ c ws qc e. bind-elim _ _ e λ b vs qb e. f _ _ (Chart.while (sx false qc) (sb qb)) e)
      λ _ e. on-elim (λ xs. ((t : Trees) (ys : List RowToken) → Derives statement xs ys t → k t ys ≡ ok us rs → C) → (Derives statements xs rs us × Listed Node.StatementsList us → C) → C) _ _ _ _ e
      (λ v ys e f g. bind-elim _ _ e λ t zs q e. need (λ zs. Derives (level true 0) ys zs t → C) _ _ _ e (λ _ ws e D. f _ _ (Chart.return D) e) (sx true q))
      λ _ e. on-elim (λ xs. ((t : Trees) (ys : List RowToken) → Derives statement xs ys t → k t ys ≡ ok us rs → C) → (Derives statements xs rs us × Listed Node.StatementsList us → C) → C) _ _ _ _ e
      (λ v ys e. on-elim (λ ys. ((t : Trees) (zs : List RowToken) → Derives statement (token Token.Comptime v ∷ ys) zs t → k t zs ≡ ok us rs → C) → (Derives statements (token Token.Comptime v ∷ ys) rs us × Listed Node.StatementsList us → C) → C) _ _ _ _ e
      (λ w zs e f g. bind-elim _ _ e λ t ws q e. f _ _ (Chart.comptime-let (s-binding true zs ws t q)) e)
      (λ _ e f g. if-elim _ _ _ e (λ _ e. bind-elim _ _ e λ b zs q e. on-elim (λ zs. Derives block ys zs b → C) _ _ _ _ e
      (λ _ ws e D. f _ _ (Chart.comptime-semicolon D) e)
      (λ ns e. on-elim (λ zs. begins Token.Semicolon zs ≡ false → Derives block ys zs b → C) _ _ _ _ e
      (λ _ ws e _ D. g (ret-both (Listed Node.StatementsList) e (Chart.closing-comptime D, is_list _ _)))
      (λ nr e ns D. f _ _ (Chart.comptime-mid D nr) e) ns) (sb q)) (λ _ e. not-fail e)))
      λ nc e. on-elim (λ xs. begins Token.Comptime xs ≡ false → ((t : Trees) (ys : List RowToken) → Derives statement xs ys t → k t ys ≡ ok us rs → C) → (Derives statements xs rs us × Listed Node.StatementsList us → C) → C) _ _ _ _ e
      (λ v ys e _ f g. bind-elim _ _ e λ t zs q e. f _ _ (Chart.let_rule (s-binding false ys zs t q)) e)
      (λ _ e nc f g. bind-elim _ _ e λ t ys q e. let D = S.expr true 0 xs ys t (lit≤ tt) q in
      on-elim (λ ys. Derives (level true 0) xs ys t → C) _ _ _ _ e
      (λ _ zs e D. bind-elim _ _ e λ u ws q e. need (λ ws. Derives (level true 0) zs ws u → C) _ _ _ e (λ _ vs e E. f _ _ (Chart.assign nc D E) e) (sx true q))
      (λ ne e. on-elim (λ ys. Derives (level true 0) xs ys t → C) _ _ _ _ e
      (λ _ ws e D. f _ _ (Chart.semicolon nc D) e)
      (λ ns e. on-elim (λ ys. Derives (level true 0) xs ys t → C) _ _ _ _ e
      (λ _ ws e D. g (ret-both (Listed Node.StatementsList) e (Chart.closing nc D, is_list _ _)))
      (λ nr e D₀. if-elim _ _ _ e
      (λ h e. f _ _ (Chart.mid-block D.0 h (continues-not ys D.1 ne ns) nr) e)
      (λ _ e. not-fail e)))) D.0) nc

  s-statements : (n : ℕ) (xs ys : List RowToken) (t : Trees) → read_statements R n xs ≡ ok t ys → Derives statements xs ys t × Listed Node.StatementsList t
  unfolding read_statements
  s-statements zero xs ys t e = not-fail e
  s-statements (suc n) xs rs us e = on-elim (λ xs. Derives statements xs rs us × Listed Node.StatementsList us) _ _ _ _ e
      (λ v ys e. ret-both (Listed Node.StatementsList) e (Chart.statements-end, is_list _ _))
      (λ _ e. s-statement (Derives statements xs rs us × Listed Node.StatementsList us) xs rs us _ e
      (λ t ys D e. bind-elim _ _ e λ b zs q e. let r = s-statements n ys zs b q in ret-both (Listed Node.StatementsList) e (statement-more D r.0 r.1)) (λ D. D))

  s-block : (xs ys : List RowToken) (t : Trees) → read_block R xs ≡ ok t ys → Derives block xs ys t
  unfolding read_block
  s-block xs rs us e = need (λ xs. Derives block xs rs us) _ _ _ e λ v ys e. Chart.block-rule (s-statements _ ys rs us e).0

pub sound : (d : ℕ) → Sound (readers d)
unfolding readers
sound zero = record { expr = λ m k xs ys t l e. not-deep e; block = λ xs ys t e. not-deep e }
sound (suc d) = record { expr = s-expr (readers d) (sound d); block = s-block (readers d) (sound d) }

s-path : (n : ℕ) (xs ys : List RowToken) (t : Trees) → read_path n xs ≡ ok t ys → Derives path xs ys t
unfolding read_path
s-path zero xs ys t e = not-fail e
s-path (suc n) xs rs us e = need (λ xs. Derives path xs rs us) _ _ _ e λ v ys e. if-elim _ _ _ e
    (λ _ e. need (λ ys. Derives path (token Token.Identifier v ∷ ys) rs us) _ _ _ e λ w zs e. bind-elim _ _ e λ t ws q e. ret e (Chart.path-more (s-path n zs ws t q)))
    (λ _ e. ret e Chart.path-last)

s-item : (xs ys : List RowToken) (t : Trees) → read_item xs ≡ ok t ys → Derives item xs ys t
unfolding read_item
s-item xs rs us e = need (λ xs. Derives item xs rs us) _ _ _ e λ u ys e. on-elim (λ ys. Derives item (token Token.Identifier u ∷ ys) rs us) _ _ _ _ e
    (λ v zs e. need (λ zs. Derives item (token Token.Identifier u ∷ token Token.As v ∷ zs) rs us) _ _ _ e λ w ws e. ret e Chart.item-as)
    (λ h e. ret e Chart.item-plain)

s-items : (n : ℕ) (xs ys : List RowToken) (t : Trees) → read_items n xs ≡ ok t ys → Derives items xs ys t
unfolding read_items
s-items zero xs ys t e = not-fail e
s-items (suc n) xs rs us e = bind-elim _ _ e λ t ys q e. on-elim (λ ys. Derives item xs ys t → Derives items xs rs us) _ _ _ _ e
    (λ v zs e D. ret e (Chart.items-last D))
    (λ _ e. need (λ ys. Derives item xs ys t → Derives items xs rs us) _ _ _ e λ v zs e. on-elim (λ zs. Derives item xs (token Token.Comma v ∷ zs) t → Derives items xs rs us) _ _ _ _ e
    (λ w ws e D. ret e (Chart.items-trailing D))
    (λ _ e D. bind-elim _ _ e λ gs ws q e. ret e (Chart.items_more D (s-items n zs ws gs q))))
    (s-item xs ys t q)

s-import : (p : Bool) (xs ys : List RowToken) (t : Trees) → read_import p xs ≡ ok t ys → Derives (import p) xs ys t
unfolding read_import
s-import p xs rs us e = bind-elim _ _ e λ t ys q e. on-elim (λ ys. Derives path xs ys t → Derives (import p) xs rs us) _ _ _ _ e
    (λ u zs e D. ret e (Chart.import-path D))
    (λ _ e. on-elim (λ ys. Derives path xs ys t → Derives (import p) xs rs us) _ _ _ _ e
    (λ u zs e. need (λ zs. Derives path xs (token Token.As u ∷ zs) t → Derives (import p) xs rs us) _ _ _ e λ v ws e.
    need (λ ws. Derives path xs (token Token.As u ∷ token Token.Identifier v ∷ ws) t → Derives (import p) xs rs us) _ _ _ e λ w vs e D. ret e (Chart.import-as D))
    (λ _ e. need (λ ys. Derives path xs ys t → Derives (import p) xs rs us) _ _ _ e λ u zs e.
    on-elim (λ zs. Derives path xs (token Token.DoubleColon u ∷ zs) t → Derives (import p) xs rs us) _ _ _ _ e
    (λ v ws e. need (λ ws. Derives path xs (token Token.DoubleColon u ∷ token Token.Star v ∷ ws) t → Derives (import p) xs rs us) _ _ _ e λ w vs e D. ret e (Chart.import-all D))
    (λ _ e. need (λ zs. Derives path xs (token Token.DoubleColon u ∷ zs) t → Derives (import p) xs rs us) _ _ _ e λ v ws e D.
    bind-elim _ _ e λ i vs qi e. need (λ vs. Derives item ws vs i → Derives (import p) xs rs us) _ _ _ e
    (λ a qs e I. bind-elim _ _ e λ gs ps q e. need (λ ps. Derives items qs ps gs → Derives (import p) xs rs us) _ _ _ e
    (λ w ss e G. ret e (Chart.import-group D I G)) (s-items _ qs ps gs q)) (s-item ws vs i qi))))
    (s-path _ xs ys t q)

module _ (R : Readers) (S : Sound R) where
  s-declaration : (xs ys : List RowToken) (t : Trees) → read_declaration R xs ≡ ok t ys → Derives declaration xs ys t
  unfolding read_declaration
  s-declaration xs rs us e = on-elim (λ xs. Derives declaration xs rs us) _ _ _ _ e
      (λ v ys e. bind-elim _ _ e λ b zs q e. ret e (Chart.init (sb R S q)))
      λ _ e. on-elim (λ xs. Derives declaration xs rs us) _ _ _ _ e
      (λ v ys e. bind-elim _ _ e λ b zs q e. ret e (Chart.run (sb R S q)))
      λ _ e. on-elim (λ xs. Derives declaration xs rs us) _ _ _ _ e
      (λ u ys e. need (λ ys. Derives declaration (token Token.Const u ∷ ys) rs us) _ _ _ e λ v zs e. on-elim (λ zs. Derives declaration (token Token.Const u ∷ token Token.Identifier v ∷ zs) rs us) _ _ _ _ e
      (λ w ws e. bind-elim _ _ e λ s vs qs e. need (λ vs. Derives (level true 0) ws vs s → Derives declaration (token Token.Const u ∷ token Token.Identifier v ∷ token Token.Colon w ∷ ws) rs us) _ _ _ e
      (λ _ qs e D. bind-elim _ _ e λ t ps q e. need (λ ps. Derives (level true 0) qs ps t → Derives declaration (token Token.Const u ∷ token Token.Identifier v ∷ token Token.Colon w ∷ ws) rs us) _ _ _ e
      (λ _ _ e E. ret e (Chart.const-typed D E)) (sx R S true q)) (sx R S true qs))
      (λ _ e. need (λ zs. Derives declaration (token Token.Const u ∷ token Token.Identifier v ∷ zs) rs us) _ _ _ e λ w vs e. bind-elim _ _ e λ t qs q e.
      need (λ qs. Derives (level true 0) vs qs t → Derives declaration (token Token.Const u ∷ token Token.Identifier v ∷ token Token.Equals w ∷ vs) rs us) _ _ _ e (λ _ _ e E. ret e (Chart.const-untyped E)) (sx R S true q)))
      λ _ e. on-elim (λ xs. Derives declaration xs rs us) _ _ _ _ e
      (λ u ys e. need (λ ys. Derives declaration (token Token.Pub u ∷ ys) rs us) _ _ _ e λ v zs e. Chart.use-public (s-import true zs rs us e))
      λ _ e. need (λ xs. Derives declaration xs rs us) _ _ _ e λ v zs e. Chart.use-private (s-import false zs rs us e)

  pub s-declarations : (n : ℕ) (xs ys : List RowToken) (t : Trees) → read_declarations R n xs ≡ ok t ys → Derives declarations xs ys t
  unfolding read_declarations
  s-declarations zero xs ys t e = not-fail e
  s-declarations (suc n) [] ys t e = ret e Chart.declarations-end
  s-declarations (suc n) (x ∷ xs) rs us e = bind-elim _ _ e λ t ys q e. bind-elim _ _ e λ gs zs r e. ret e (Chart.declarations-more (s-declaration (x ∷ xs) ys t q) (s-declarations n ys zs gs r))

pub s-file : (d : ℕ) (xs : List RowToken) (t : Trees) → read_file (readers d) xs ≡ ok t [] → Derives file xs [] t
unfolding read_file
s-file d xs t e = bind-elim _ _ e λ us ys q e.
    subst (λ u. Derives file xs [] u) (ok-trees e) (Chart.file-rule (subst (λ r. Derives declarations xs r us) (ok-rest e) (s-declarations (readers d) (sound d) (suc (length xs)) xs ys us q)))
