-- Each rule is read: what the parser does on a row that the rule derives.
use Rattle.std.specs.Prelude.{◌≡◌, refl, Bool, true, false, ◌&&◌, ◌||◌, not, List, [], ◌∷◌, ◌++◌, ℕ, zero, suc, ◌+◌, ◌≤◌, ◌<◌, pred, eqb, length}
use Rattle.std.proofs.Common.{sym, ◌∙◌, ap, subst, true≢false, arith, le→leb}
use Rattle.std.proofs.lemmas.Bool.{false≢true}
use Rattle.literals.specs.Strings.{bytes_of}
use Rattle.words.specs.Token
use Rattle.words.specs.Node
use Rattle.words.specs.Flag
use Rattle.words.specs.UnaryOp
use Rattle.chart.specs.Row.{Lexeme, RowToken, begins, token}
use Rattle.chart.specs.Tree.{Trees, ◌⊕◌, branch, listed, flag, let_flags, named, builtin_named, any_type, numeral, decoded, decoded_hex, quiet, string_tree, none}
use Rattle.chart.specs.Parser
use Rattle.chart.specs.Chart.{prefix_level, binary_tree, is_block_like, continues, Nonterminal, file, declarations, declaration, import, path, items, item, level, postfix, operand, strings, expressions, types, fields, else_ifs, arms, arm, signature, parameters, parameter, parameter_type, struct_body, methods, block, statements, statement, binding, binding_name}
use Rattle.chart.specs.Parser.{operator_of, not_binary, binary_of, Outcome, if, on, bind, try, Readers, push, prepend, read_list, read_elements, read_fields, read_on, read_strings, read_else_ifs, read_arm, read_arms, read_parameter_type, read_parameter, read_parameters, read_signature, read_methods, read_struct_body, read_round, read_struct, read_operand, read_prefix, read_level, read_binding_name, read_binding, read_expression, read_comptime, read_statement, read_statements, read_block, readers, goes_on, read_path, read_item, read_items, read_import, read_declaration, read_declarations, read_file, ok, nothing}
use Rattle.chart.specs.Outcome.{Meets, good-ok, weaken, good-trans, if-true, if-false, on-hit, on-miss, bind-good, try-good, try-none, same, sunk}
use Rattle.chart.proofs.Laws.{has_role, below, stop, to-true, stop-mono, stop-top, op_stop, stop-intro, stop-elim, op-hit, op-miss, ended}
use Rattle.chart.proofs.First.{among, operand_start, expression_start, arm_start, statement_start, statements_start, methods_start, declaration_start, brace_start, name_start, heads, apart, widen, name-at, brace-at, brace-stops, meth-stops, follows, calm, calm-fol, fol-calm, fol-else, fol-block, calm-str, calm-hstr, calms, First, least, not-over}

pub back : (d : ℕ) {s : ℕ} → pred d ≤ s → d ≤ suc s
back zero h = omega arith
back (suc d) h = omega arith

-- The reader at `xs` comes to the loop at `ys`, with `t` read.
pub record Reach (d : ℕ) (m : Bool) (k s : ℕ) (xs ys : List RowToken) (t : Trees) : Type 0 where
  pub fuel : ℕ
  pub room : length ys < fuel
  pub goes : Meets (d ≤ s) ((readers d).expr m k xs) (read_on (readers (pred d)) fuel m k t ys)

abbrev pub Claim : Nonterminal → ℕ → List RowToken → List RowToken → Trees → Type 0
Claim (level m k) s xs ys t = (d i : ℕ) → i ≤ k → stop m (suc k) ys ≡ true → follows t ys ≡ true → Reach d m i s xs ys t
Claim (postfix m) s xs ys t = (d i : ℕ) → follows t ys ≡ true → Reach d m i s xs ys t
Claim operand s xs ys t = (d : ℕ) → follows t ys ≡ true → Meets (d ≤ s) (read_operand (readers d) xs) (ok t ys)
Claim file s xs ys t = (d : ℕ) → Meets (d ≤ s) (read_file (readers d) xs) (ok t ys)
Claim strings s xs ys t = (d n : ℕ) → length xs < n → calm ys ≡ true → Meets (d ≤ s) (read_strings n xs) (ok t ys)
Claim expressions s xs ys t = (d n : ℕ) → length xs < n → Meets (d ≤ s) (read_list Token.RightRound (readers d) n xs) (ok t ys) × Meets (d ≤ s) (read_elements (readers d) n xs) (ok t ys)
Claim types s xs ys t = (d n : ℕ) → length xs < n → Meets (d ≤ s) (read_list Token.RightCurly (readers d) n xs) (ok t ys)
Claim fields s xs ys t = (d n : ℕ) → length xs < n → Meets (d ≤ s) (read_fields (readers d) n xs) (ok t ys)
Claim else_ifs s xs ys t = (d n : ℕ) → length xs < n → begins Token.Else ys ≡ false → Meets (d ≤ s) (read_else_ifs (readers d) n xs) (ok t ys)
Claim arms s xs ys t = (d n : ℕ) → length xs < n → Meets (d ≤ s) (read_arms (readers d) n xs) (ok t ys)
Claim arm s xs ys t = (d : ℕ) → stop true 0 ys ≡ true → calm ys ≡ true → Meets (d ≤ s) (read_arm (readers d) xs) (ok t ys)
Claim signature s xs ys t = (d : ℕ) → Meets (d ≤ s) (read_signature (readers d) xs) (ok t ys)
Claim parameters s xs ys t = (d n : ℕ) → length xs < n → Meets (d ≤ s) (read_parameters (readers d) n xs) (ok t ys)
Claim parameter s xs ys t = (d : ℕ) → stop true 0 ys ≡ true → calm ys ≡ true → Meets (d ≤ s) (read_parameter (readers d) xs) (ok t ys)
Claim parameter_type s xs ys t = (d : ℕ) → stop true 0 ys ≡ true → calm ys ≡ true → Meets (d ≤ s) (read_parameter_type (readers d) xs) (ok t ys)
Claim struct_body s xs ys t = (d n : ℕ) → length xs < n → Meets (d ≤ s) (read_struct_body (readers d) n xs) (ok t ys)
Claim methods s xs ys t = (d n : ℕ) → length xs < n → Meets (d ≤ s) (read_methods (readers d) n xs) (ok t ys)
Claim block s xs ys t = (d : ℕ) → Meets (d ≤ s) ((readers d).block xs) (ok t ys)
Claim statements s xs ys t = (d n : ℕ) → length xs < n → Meets (d ≤ s) (read_statements (readers d) n xs) (ok t ys)
Claim statement s xs ys t = (d : ℕ) (k : Trees → List RowToken → Outcome) → begins Token.Else ys ≡ false → begins Token.Semicolon ys ≡ false → Meets (d ≤ s) (read_statement (readers d) xs k) (k t ys)
Claim declarations s xs ys t = (d n : ℕ) → length xs < n → Meets (d ≤ s) (read_declarations (readers d) n xs) (ok t ys)
Claim declaration s xs ys t = (d : ℕ) → Meets (d ≤ s) (read_declaration (readers d) xs) (ok t ys)
Claim path s xs ys t = (d n : ℕ) → length xs < n → goes_on ys ≡ false → Meets (d ≤ s) (read_path n xs) (ok t ys)
Claim items s xs ys t = (d n : ℕ) → length xs < n → Meets (d ≤ s) (read_items n xs) (ok t ys)
Claim item s xs ys t = (d : ℕ) → begins Token.As ys ≡ false → Meets (d ≤ s) (read_item xs) (ok t ys)
Claim (binding c) s xs ys t = (d : ℕ) → Meets (d ≤ s) (read_binding (readers d) c xs) (ok t ys)
Claim (binding_name c m) s xs ys t = (d : ℕ) → Meets (d ≤ s) (read_binding_name (readers d) c m xs) (ok t ys)
Claim (import p) s xs ys t = (d : ℕ) → Meets (d ≤ s) (read_import p xs) (ok t ys)

-- What is shown of a derivation of `xs` up to `ys`. Its size bounds the depth that is needed.
pub record Read (n : Nonterminal) (xs ys : List RowToken) (t : Trees) : Type 0 where
  pub first : First n xs
  pub takes : least n + length ys ≤ length xs
  pub size : ℕ
  pub claim : Claim n size xs ys t

-- The loop stops where the row doesn't go on.
loop-stop : {B : Type 0} (R : Readers) (n : ℕ) (m : Bool) (k : ℕ) (t : Trees) (ys : List RowToken) → length ys < n → stop m k ys ≡ true → Meets B (read_on R n m k t ys) (ok t ys)
unfolding read_on
loop-stop R zero m k t ys l e = absurd (omega arith)
loop-stop R (suc n) m k t ys l e = let s = stop-elim m k ys e in
    on-miss _ _ _ _ s.dot (on-miss _ _ _ _ s.par (if-false _ _ _ s.brace (op-miss _ _ _ _ s.op good-ok)))

-- An expression of level `k` that goes on with nothing of that level is read whole.
pub ends : {m : Bool} {k : ℕ} {xs ys : List RowToken} {t : Trees} (D : Read (level m k) xs ys t) → stop m k ys ≡ true → follows t ys ≡ true → (d : ℕ) → Meets (d ≤ D.size) ((readers d).expr m k xs) (ok t ys)
ends {m} {k} {xs} {ys} {t} D e fo d = let r = D.claim d k (omega arith) (stop-mono m k (suc k) ys (omega arith) e) fo in
    good-trans r.goes (loop-stop (readers (pred d)) r.fuel m k t ys r.room e)

-- One turn of the loop.
turn : {d : ℕ} {m : Bool} {k s s' : ℕ} {xs ys zs : List RowToken} {t u : Trees} → s ≤ s' → length zs < length ys
    → ((n : ℕ) → Meets (d ≤ s') (read_on (readers (pred d)) (suc n) m k t ys) (read_on (readers (pred d)) n m k u zs)) → Reach d m k s xs ys t → Reach d m k s' xs zs u
turn {d} {m} {k} {s} {s'} {xs} {ys} {zs} {t} {u} h l f r = go r.fuel r.room (weaken (λ b. omega arith) r.goes)
  where
    go : (n : ℕ) → length ys < n → Meets (d ≤ s') ((readers d).expr m k xs) (read_on (readers (pred d)) n m k t ys) → Reach d m k s' xs zs u
    go zero q g = absurd (omega arith)
    go (suc n) q g = record { fuel = n; room = omega arith; goes = good-trans g (f n) }

-- The loop's first turn.
begin : {m : Bool} {s s' : ℕ} {xs ys : List RowToken} {t : Trees} → suc s ≤ s'
    → ((d k : ℕ) → Meets (d ≤ s) (read_level (readers d) m k xs) (read_on (readers d) (suc (length ys)) m k t ys)) → (d k : ℕ) → Reach d m k s' xs ys t
unfolding readers
begin {ys} h f zero k = record { fuel = suc (length ys); room = omega arith; goes = sunk refl (omega arith) }
begin {ys} h f (suc d) k = record { fuel = suc (length ys); room = omega arith; goes = weaken (λ b. omega arith) (f d k) }

pub fuelled : {B : Type 0} (F : ℕ → List RowToken → Outcome) (xs : List RowToken) {s : Outcome} (n : ℕ) → length xs < n → ((i : ℕ) → length xs ≤ i → Meets B (F (suc i) xs) s) → Meets B (F n xs) s
fuelled F xs zero l f = absurd (omega arith)
fuelled F xs (suc n) l f = f n (omega arith)

op-not : (o j op K : ℕ) → operator_of o ≡ binary_of j op → operator_of K ≡ not_binary → eqb o K ≡ false
op-not o j op K e h = go (eqb o K) refl
  where
    go : (b : Bool) → eqb o K ≡ b → eqb o K ≡ false
    go true q = absurd (true≢false (sym (ap has_role e) ∙ (ap (λ n. has_role (operator_of n)) (borrow.Author.Tests.eqb-true o K q) ∙ ap has_role h)))
    go false q = q

op-stops : (m : Bool) (o : ℕ) (v : Lexeme) (k op : ℕ) (ys : List RowToken) → operator_of o ≡ binary_of k op → stop m (suc k) (token o v ∷ ys) ≡ true
unfolding begins op_stop operator_of Parser.lookup Parser.within below
op-stops m o v k op ys e = stop-intro m (suc k) (token o v ∷ ys) (op-not o k op Token.Dot e refl) (op-not o k op Token.LeftRound e refl) (go m (eqb o Token.LeftCurly) (op-not o k op Token.LeftCurly e refl))
    (subst (λ l. below l (suc k) ≡ true) (sym e) (to-true (le→leb (suc k) (suc k) (omega arith))))
  where
    go : (a b : Bool) → b ≡ false → (a && b) ≡ false
    go true b h = h
    go false b h = refl

op-fol : (t : Trees) (o : ℕ) (v : Lexeme) (k op : ℕ) (ys : List RowToken) → operator_of o ≡ binary_of k op → follows t (token o v ∷ ys) ≡ true
unfolding follows operator_of Parser.lookup Parser.within
op-fol t o v k op ys e = go (eqb o Token.Else) (eqb o Token.LooseStringLiteral) (eqb o Token.LooseHexStringLiteral) (op-not o k op Token.Else e refl) (op-not o k op Token.LooseStringLiteral e refl) (op-not o k op Token.LooseHexStringLiteral e refl)
  where
    go : (a b c : Bool) → a ≡ false → b ≡ false → c ≡ false → (not a && (not (b || c) || is_block_like t)) ≡ true
    go a b c p q r = rw (p, q, r) refl

no-expr : (m : Bool) (k : ℕ) (v : Lexeme) (xs : List RowToken) (d : ℕ) → Meets (d ≤ 0) ((readers d).expr m k (token Token.RightRound v ∷ xs)) nothing
unfolding readers read_level read_operand begins on if try
no-expr m k v xs zero = sunk refl (omega arith)
no-expr m k v xs (suc d) = same refl

no-expr' : (m : Bool) (k : ℕ) (v : Lexeme) (xs : List RowToken) (d : ℕ) → Meets (d ≤ 0) ((readers d).expr m k (token Token.RightCurly v ∷ xs)) nothing
unfolding readers read_level read_operand begins on if try
no-expr' m k v xs zero = sunk refl (omega arith)
no-expr' m k v xs (suc d) = same refl

enter-lpar : {B : Type 0} (R : Readers) (v : Lexeme) (xs : List RowToken) {s : Outcome} → Meets B (read_round R xs) s → Meets B (read_operand R (token Token.LeftRound v ∷ xs)) s
unfolding read_operand begins on if
enter-lpar R v xs g = g

enter-struct : {B : Type 0} (R : Readers) (v : Lexeme) (xs : List RowToken) {s : Outcome} → Meets B (read_struct R xs) s → Meets B (read_operand R (token Token.Struct v ∷ xs)) s
unfolding read_operand begins on if
enter-struct R v xs g = g

enter-ct : {B : Type 0} (R : Readers) (v : Lexeme) (xs : List RowToken) (k : Trees → List RowToken → Outcome) {s : Outcome} → Meets B (read_comptime R xs k) s → Meets B (read_statement R (token Token.Comptime v ∷ xs) k) s
unfolding read_statement begins on if
enter-ct R v xs k g = g

-- The levels.
pub r-binary : {m : Bool} {k o op : ℕ} {v : Lexeme} {xs ys zs : List RowToken} {t u : Trees} → operator_of o ≡ binary_of k op
    → Read (level m k) xs (token o v ∷ ys) t → Read (level m (suc k)) ys zs u → Read (level m k) xs zs (binary_tree op t u)
unfolding read_on binary_tree branch is_block_like
r-binary {m} {k} {o} {op} {v} {xs} {ys} {zs} {t} {u} e D E = record {
  first = D.first;
  takes = omega arith;
  size = suc (D.size + E.size);
  claim = λ d i h st fo. turn (omega arith) (omega arith)
      (λ n. let p = stop-elim m (suc k) (token o v ∷ ys) (op-stops m o v k op ys e) in
      on-miss _ _ _ _ p.dot (on-miss _ _ _ _ p.par (if-false _ _ _ p.brace
      (op-hit _ _ _ _ _ _ _ _ e h (bind-good _ (weaken (λ b. omega (arith, back d b)) (ends E st (calm-fol u zs (fol-calm (binary_tree op t u) zs refl fo)) (pred d))) good-ok)))))
      (D.claim d i h (op-stops m o v k op ys e) (op-fol t o v k op ys e));
}

pub r-tighter : {m : Bool} {k : ℕ} {xs ys : List RowToken} {t : Trees} → Read (level m (suc k)) xs ys t → Read (level m k) xs ys t
r-tighter {m} {k} {xs} {ys} {t} D = record {
  first = D.first;
  takes = D.takes;
  size = D.size;
  claim = λ d i h st fo. D.claim d i (omega arith) (stop-mono m (suc k) (suc (suc k)) ys (omega arith) st) fo;
}

pub r-minus : {m : Bool} {v : Lexeme} {xs ys : List RowToken} {t : Trees} → Read (level m prefix_level) xs ys t → Read (level m prefix_level) (token Token.Minus v ∷ xs) ys (branch Node.UnaryExpr UnaryOp.Minus t)
unfolding heads read_level read_prefix on if is_block_like branch
r-minus {m} {ys} D = record {
  first = refl;
  takes = omega arith;
  size = suc D.size;
  claim = λ d i h st fo. begin (omega arith) (λ d k. bind-good _ (ends D (stop-top m (suc prefix_level) ys st) (calm-fol _ ys (fol-calm _ ys refl fo)) d) good-ok) d i;
}

pub r-bang : {m : Bool} {v : Lexeme} {xs ys : List RowToken} {t : Trees} → Read (level m prefix_level) xs ys t → Read (level m prefix_level) (token Token.Bang v ∷ xs) ys (branch Node.UnaryExpr UnaryOp.Bang t)
unfolding heads read_level read_prefix on if is_block_like branch
r-bang {m} {ys} D = record {
  first = refl;
  takes = omega arith;
  size = suc D.size;
  claim = λ d i h st fo. begin (omega arith) (λ d k. bind-good _ (ends D (stop-top m (suc prefix_level) ys st) (calm-fol _ ys (fol-calm _ ys refl fo)) d) good-ok) d i;
}

pub r-tilde : {m : Bool} {v : Lexeme} {xs ys : List RowToken} {t : Trees} → Read (level m prefix_level) xs ys t → Read (level m prefix_level) (token Token.Tilde v ∷ xs) ys (branch Node.UnaryExpr UnaryOp.Tilde t)
unfolding heads read_level read_prefix on if is_block_like branch
r-tilde {m} {ys} D = record {
  first = refl;
  takes = omega arith;
  size = suc D.size;
  claim = λ d i h st fo. begin (omega arith) (λ d k. bind-good _ (ends D (stop-top m (suc prefix_level) ys st) (calm-fol _ ys (fol-calm _ ys refl fo)) d) good-ok) d i;
}

pub r-unprefixed : {m : Bool} {xs ys : List RowToken} {t : Trees} → Read (postfix m) xs ys t → Read (level m prefix_level) xs ys t
r-unprefixed {xs} D = record { first = widen operand_start (among expression_start) xs refl D.first; takes = D.takes; size = D.size; claim = λ d i h st fo. D.claim d i fo }

-- Postfix.
pub r-member : {m : Bool} {v w : Lexeme} {xs ys : List RowToken} {t : Trees} → Read (postfix m) xs (token Token.Dot v ∷ token Token.Identifier w ∷ ys) t → Read (postfix m) xs ys (branch Node.MemberExpr 0 (t ⊕ named w))
unfolding read_on follows
r-member D = record {
  first = D.first;
  takes = omega arith;
  size = D.size;
  claim = λ d i fo. turn (omega arith) (omega arith) (λ n. on-hit _ _ _ _ _ (on-hit _ _ _ _ _ good-ok)) (D.claim d i refl);
}

pub r-call : {m : Bool} {v : Lexeme} {xs ys zs : List RowToken} {t us : Trees} → Read (postfix m) xs (token Token.LeftRound v ∷ ys) t → Read expressions ys zs us → Read (postfix m) xs zs (branch Node.CallExpr 0 (t ⊕ us))
unfolding read_on begins follows
r-call {ys} D E = record {
  first = D.first;
  takes = omega arith;
  size = suc (D.size + E.size);
  claim = λ d i fo. turn (omega arith) (omega arith)
      (λ n. on-miss _ _ _ _ refl (on-hit _ _ _ _ _ (bind-good _ (weaken (λ b. omega (arith, back d b)) (E.claim (pred d) (suc (length ys)) (omega arith)).0) good-ok))) (D.claim d i refl);
}

pub r-struct-literal : {v : Lexeme} {xs ys zs : List RowToken} {t us : Trees} → Read (postfix true) xs (token Token.LeftCurly v ∷ ys) t → Read fields ys zs us → Read (postfix true) xs zs (branch Node.StructLit 0 (t ⊕ us))
unfolding read_on begins follows
r-struct-literal {ys} D E = record {
  first = D.first;
  takes = omega arith;
  size = suc (D.size + E.size);
  claim = λ d i fo. turn (omega arith) (omega arith)
      (λ n. on-miss _ _ _ _ refl (on-miss _ _ _ _ refl (if-true _ _ _ refl (on-hit _ _ _ _ _ (bind-good _ (weaken (λ b. omega (arith, back d b)) (E.claim (pred d) (suc (length ys)) (omega arith))) good-ok))))) (D.claim d i refl);
}

pub r-standalone : {m : Bool} {xs ys : List RowToken} {t : Trees} → Read operand xs ys t → Read (postfix m) xs ys t
unfolding read_level
r-standalone {xs} {ys} D = record {
  first = D.first;
  takes = D.takes;
  size = suc D.size;
  claim = λ d i fo. begin (omega arith) (λ d k. on-miss _ _ _ _ (apart (among operand_start) Token.Minus xs refl D.first) (on-miss _ _ _ _ (apart (among operand_start) Token.Bang xs refl D.first) (on-miss _ _ _ _ (apart (among operand_start) Token.Tilde xs refl D.first) (try-good _ _ (D.claim d fo) good-ok)))) d i;
}

pub r-true-literal : {v : Lexeme} {xs : List RowToken} → Read operand (token Token.True v ∷ xs) xs (branch Node.BoolLiteral Flag.BoolLiteral-true none)
unfolding read_operand begins heads on if follows calm stop operator_of Parser.lookup Parser.within below
r-true-literal = record {
  first = refl;
  takes = omega arith;
  size = 0;
  claim = λ d fo. good-ok;
}

pub r-false-literal : {v : Lexeme} {xs : List RowToken} → Read operand (token Token.False v ∷ xs) xs (branch Node.BoolLiteral 0 none)
unfolding read_operand begins heads on if follows calm stop operator_of Parser.lookup Parser.within below
r-false-literal = record {
  first = refl;
  takes = omega arith;
  size = 0;
  claim = λ d fo. good-ok;
}

pub r-decimal : {v : Lexeme} {xs : List RowToken} → Read operand (token Token.DecimalLiteral v ∷ xs) xs (numeral 10 0 v)
unfolding read_operand begins heads on if follows calm stop operator_of Parser.lookup Parser.within below
r-decimal = record {
  first = refl;
  takes = omega arith;
  size = 0;
  claim = λ d fo. good-ok;
}

pub r-hexadecimal : {v : Lexeme} {xs : List RowToken} → Read operand (token Token.HexLiteral v ∷ xs) xs (numeral 16 2 v)
unfolding read_operand begins heads on if follows calm stop operator_of Parser.lookup Parser.within below
r-hexadecimal = record {
  first = refl;
  takes = omega arith;
  size = 0;
  claim = λ d fo. good-ok;
}

pub r-binary-number : {v : Lexeme} {xs : List RowToken} → Read operand (token Token.BinLiteral v ∷ xs) xs (numeral 2 2 v)
unfolding read_operand begins heads on if follows calm stop operator_of Parser.lookup Parser.within below
r-binary-number = record {
  first = refl;
  takes = omega arith;
  size = 0;
  claim = λ d fo. good-ok;
}

pub r-self-type : {v : Lexeme} {xs : List RowToken} → Read operand (token Token.SelfType v ∷ xs) xs (branch Node.SelfType 0 none)
unfolding read_operand begins heads on if follows calm stop operator_of Parser.lookup Parser.within below
r-self-type = record {
  first = refl;
  takes = omega arith;
  size = 0;
  claim = λ d fo. good-ok;
}

pub r-name : {v : Lexeme} {xs : List RowToken} → Read operand (token Token.Identifier v ∷ xs) xs (named v)
unfolding read_operand begins heads on if follows calm stop operator_of Parser.lookup Parser.within below
r-name = record {
  first = refl;
  takes = omega arith;
  size = 0;
  claim = λ d fo. good-ok;
}

pub r-builtin-name : {v : Lexeme} {xs : List RowToken} → Read operand (token Token.BuiltinName v ∷ xs) xs (builtin_named v)
unfolding read_operand begins heads on if follows calm stop operator_of Parser.lookup Parser.within below
r-builtin-name = record {
  first = refl;
  takes = omega arith;
  size = 0;
  claim = λ d fo. good-ok;
}

pub r-string : {v : Lexeme} {xs ys : List RowToken} {bs : List ℕ} → quiet (decoded v) ≡ true → Read strings xs ys (string_tree bs) → Read operand (token Token.LooseStringLiteral v ∷ xs) ys (string_tree (bytes_of (decoded v) ++ bs))
unfolding read_operand begins heads on if follows calm stop operator_of Parser.lookup Parser.within below is_block_like branch prepend
r-string {v} {xs} {ys} {bs} q D = record {
  first = refl;
  takes = omega arith;
  size = D.size;
  claim = λ d fo. if-true _ _ _ q (bind-good _ (weaken (λ b. omega arith) (D.claim d (suc (length xs)) (omega arith) (fol-calm (string_tree (bytes_of (decoded v) ++ bs)) ys refl fo))) (good-ok));
}

pub r-hex-string : {v : Lexeme} {xs ys : List RowToken} {bs : List ℕ} → quiet (decoded_hex v) ≡ true → Read strings xs ys (string_tree bs) → Read operand (token Token.LooseHexStringLiteral v ∷ xs) ys (string_tree (bytes_of (decoded_hex v) ++ bs))
unfolding read_operand begins heads on if follows calm stop operator_of Parser.lookup Parser.within below is_block_like branch prepend
r-hex-string {v} {xs} {ys} {bs} q D = record {
  first = refl;
  takes = omega arith;
  size = D.size;
  claim = λ d fo. if-true _ _ _ q (bind-good _ (weaken (λ b. omega arith) (D.claim d (suc (length xs)) (omega arith) (fol-calm (string_tree (bytes_of (decoded_hex v) ++ bs)) ys refl fo))) (good-ok));
}

pub r_unit : {v w : Lexeme} {xs : List RowToken} → Read operand (token Token.LeftRound v ∷ token Token.RightRound w ∷ xs) xs (branch Node.TupleLit 0 none)
unfolding read_operand begins heads on if follows calm stop operator_of Parser.lookup Parser.within below read_round
r_unit = record {
  first = refl;
  takes = omega arith;
  size = 0;
  claim = λ d fo. good-ok;
}

pub r-paren : {v w : Lexeme} {xs ys : List RowToken} {t : Trees} → Read (level true 0) xs (token Token.RightRound w ∷ ys) t → Read operand (token Token.LeftRound v ∷ xs) ys (branch Node.ParenExpr 0 t)
unfolding read_round begins heads follows calm stop operator_of Parser.lookup Parser.within below
r-paren {xs} D = record {
  first = refl;
  takes = omega arith;
  size = D.size;
  claim = λ d fo. enter-lpar _ _ _ (on-miss _ _ _ _ (apart (among expression_start) Token.RightRound xs refl D.first) (bind-good _ (weaken (λ b. omega arith) (ends D refl refl d)) (on-miss _ _ _ _ refl (on-hit _ _ _ _ _ (good-ok)))));
}

pub r-tuple : {v w : Lexeme} {xs ys zs : List RowToken} {t us : Trees} → Read (level true 0) xs (token Token.Comma w ∷ ys) t → Read expressions ys zs us → Read operand (token Token.LeftRound v ∷ xs) zs (branch Node.TupleLit 0 (t ⊕ us))
unfolding read_round begins heads follows calm stop operator_of Parser.lookup Parser.within below
r-tuple {xs} {ys} D E = record {
  first = refl;
  takes = omega arith;
  size = D.size + E.size;
  claim = λ d fo. enter-lpar _ _ _ (on-miss _ _ _ _ (apart (among expression_start) Token.RightRound xs refl D.first) (bind-good _ (weaken (λ b. omega arith) (ends D refl refl d)) (on-hit _ _ _ _ _ (bind-good _ (weaken (λ b. omega arith) (E.claim d (suc (length ys)) (omega arith)).1) (good-ok)))));
}

pub r-comptime-block : {v : Lexeme} {xs ys : List RowToken} {b : Trees} → Read block xs ys b → Read operand (token Token.Comptime v ∷ xs) ys (branch Node.ComptimeBlock 0 b)
unfolding read_operand begins heads on if follows calm stop operator_of Parser.lookup Parser.within below
r-comptime-block D = record {
  first = refl;
  takes = omega arith;
  size = D.size;
  claim = λ d fo. bind-good _ (weaken (λ b. omega arith) (D.claim d)) (good-ok);
}

pub r-eager-function : {v w : Lexeme} {xs ys : List RowToken} {t : Trees} → Read signature xs ys t → Read operand (token Token.Eager v ∷ token Token.Fn w ∷ xs) ys (branch Node.FnDef Flag.FnDef-eager t)
unfolding read_operand begins heads on if follows calm stop operator_of Parser.lookup Parser.within below
r-eager-function D = record {
  first = refl;
  takes = omega arith;
  size = D.size;
  claim = λ d fo. bind-good _ (weaken (λ b. omega arith) (D.claim d)) (good-ok);
}

pub r-function : {v : Lexeme} {xs ys : List RowToken} {t : Trees} → Read signature xs ys t → Read operand (token Token.Fn v ∷ xs) ys (branch Node.FnDef 0 t)
unfolding read_operand begins heads on if follows calm stop operator_of Parser.lookup Parser.within below
r-function D = record {
  first = refl;
  takes = omega arith;
  size = D.size;
  claim = λ d fo. bind-good _ (weaken (λ b. omega arith) (D.claim d)) (good-ok);
}

pub r-struct : {v w : Lexeme} {xs ys : List RowToken} {t : Trees} → Read struct_body xs ys t → Read operand (token Token.Struct v ∷ token Token.LeftCurly w ∷ xs) ys (branch Node.StructDef 0 (branch Node.StructBody 0 t))
unfolding read_operand begins heads on if follows calm stop operator_of Parser.lookup Parser.within below read_struct
r-struct {xs} D = record {
  first = refl;
  takes = omega arith;
  size = D.size;
  claim = λ d fo. bind-good _ (weaken (λ b. omega arith) (D.claim d (suc (length xs)) (omega arith))) (good-ok);
}

pub r-indexed-struct : {v w : Lexeme} {xs ys zs : List RowToken} {t u : Trees} → begins Token.LeftCurly xs ≡ false → Read (level false 0) xs (token Token.LeftCurly w ∷ ys) t → Read struct_body ys zs u → Read operand (token Token.Struct v ∷ xs) zs (branch Node.StructDef 0 (t ⊕ branch Node.StructBody 0 u))
unfolding read_struct begins heads follows calm stop operator_of Parser.lookup Parser.within below
r-indexed-struct {xs} {ys} h D E = record {
  first = refl;
  takes = omega arith;
  size = D.size + E.size;
  claim = λ d fo. enter-struct _ _ _ (on-miss _ _ _ _ h (bind-good _ (weaken (λ b. omega arith) (ends D refl refl d)) (on-hit _ _ _ _ _ (bind-good _ (weaken (λ b. omega arith) (E.claim d (suc (length ys)) (omega arith))) (good-ok)))));
}

pub r-tuple-type : {v w : Lexeme} {xs ys : List RowToken} {t : Trees} → Read types xs ys t → Read operand (token Token.Tuple v ∷ token Token.LeftCurly w ∷ xs) ys (branch Node.TupleType 0 t)
unfolding read_operand begins heads on if follows calm stop operator_of Parser.lookup Parser.within below
r-tuple-type {xs} D = record {
  first = refl;
  takes = omega arith;
  size = D.size;
  claim = λ d fo. bind-good _ (weaken (λ b. omega arith) (D.claim d (suc (length xs)) (omega arith))) (good-ok);
}

pub r-bare-block : {v : Lexeme} {xs ys : List RowToken} {b : Trees} → Read block (token Token.LeftCurly v ∷ xs) ys b → Read operand (token Token.LeftCurly v ∷ xs) ys (branch Node.Block 0 b)
unfolding read_operand begins heads on if follows calm stop operator_of Parser.lookup Parser.within below
r-bare-block D = record {
  first = refl;
  takes = omega arith;
  size = D.size;
  claim = λ d fo. bind-good _ (weaken (λ b. omega arith) (D.claim d)) (good-ok);
}

pub r-conditional : {v : Lexeme} {xs ys zs ws : List RowToken} {c b e : Trees} → Read (level false 0) xs ys c → Read block ys zs b → Read else_ifs zs ws e → Read operand (token Token.If v ∷ xs) ws (branch Node.If 0 (c ⊕ (branch Node.Block 0 b ⊕ e)))
unfolding read_operand begins heads on if follows calm stop operator_of Parser.lookup Parser.within below
r-conditional {ys} {zs} {ws} C D E = record {
  first = refl;
  takes = omega arith;
  size = C.size + D.size + E.size;
  claim = λ d fo. bind-good _ (weaken (λ b. omega arith) (ends C (brace-stops ys D.first) (calm-fol _ ys (calms brace_start ys refl D.first)) d)) (bind-good _ (weaken (λ b. omega arith) (D.claim d)) (bind-good _ (weaken (λ b. omega arith) (E.claim d (suc (length zs)) (omega arith) (fol-else _ ws fo))) (good-ok)));
}

pub r-match : {v w : Lexeme} {xs ys zs : List RowToken} {c a : Trees} → Read (level false 0) xs (token Token.LeftCurly w ∷ ys) c → Read arms ys zs a → Read operand (token Token.Match v ∷ xs) zs (branch Node.Match 0 (c ⊕ branch Node.MatchArmList 0 a))
unfolding read_operand begins heads on if follows calm stop operator_of Parser.lookup Parser.within below
r-match {ys} D E = record {
  first = refl;
  takes = omega arith;
  size = D.size + E.size;
  claim = λ d fo. bind-good _ (weaken (λ b. omega arith) (ends D refl refl d)) (bind-good _ (weaken (λ b. omega arith) (E.claim d (suc (length ys)) (omega arith))) (good-ok));
}

pub r-strings-end : {xs : List RowToken} → Read strings xs xs (string_tree [])
unfolding read_strings
r-strings-end {xs} = record {
  first = tt;
  takes = omega arith;
  size = 0;
  claim = λ d n l cm. fuelled read_strings _ n l (λ i l. on-miss _ _ _ _ (calm-str xs cm) (on-miss _ _ _ _ (calm-hstr xs cm) good-ok));
}

pub r-strings-more : {v : Lexeme} {xs ys : List RowToken} {bs : List ℕ} → quiet (decoded v) ≡ true → Read strings xs ys (string_tree bs) → Read strings (token Token.LooseStringLiteral v ∷ xs) ys (string_tree (bytes_of (decoded v) ++ bs))
unfolding read_strings begins on if prepend
r-strings-more q D = record {
  first = tt;
  takes = omega arith;
  size = D.size;
  claim = λ d n l cm. fuelled (read_strings) _ n l (λ i l. if-true _ _ _ q (bind-good _ (weaken (λ b. omega arith) (D.claim d i (omega arith) cm)) (good-ok)));
}

pub r-strings-more-hex : {v : Lexeme} {xs ys : List RowToken} {bs : List ℕ} → quiet (decoded_hex v) ≡ true → Read strings xs ys (string_tree bs) → Read strings (token Token.LooseHexStringLiteral v ∷ xs) ys (string_tree (bytes_of (decoded_hex v) ++ bs))
unfolding read_strings begins on if prepend
r-strings-more-hex q D = record {
  first = tt;
  takes = omega arith;
  size = D.size;
  claim = λ d n l cm. fuelled (read_strings) _ n l (λ i l. if-true _ _ _ q (bind-good _ (weaken (λ b. omega arith) (D.claim d i (omega arith) cm)) (good-ok)));
}

pub r-expressions-end : {v : Lexeme} {xs : List RowToken} → Read expressions (token Token.RightRound v ∷ xs) xs none
unfolding read_list read_elements begins heads on if follows calm stop operator_of Parser.lookup Parser.within below
r-expressions-end {v} {xs} = record {
  first = tt;
  takes = omega arith;
  size = 0;
  claim = λ d n l. (fuelled (read_list Token.RightRound (readers d)) _ n l (λ i l. try-none _ _ (no-expr true 0 v xs d) good-ok), fuelled (read_elements (readers d)) _ n l (λ i l. good-ok));
}

pub r-expressions-last : {v : Lexeme} {xs ys : List RowToken} {t : Trees} → Read (level true 0) xs (token Token.RightRound v ∷ ys) t → Read expressions xs ys t
unfolding read_list read_elements begins heads follows calm stop operator_of Parser.lookup Parser.within below
r-expressions-last {xs} D = record {
  first = tt;
  takes = omega arith;
  size = D.size;
  claim = λ d n l. (
    fuelled (read_list Token.RightRound (readers d)) _ n l (λ i l. try-good _ _ (ends D refl refl d) (on-miss _ _ _ _ refl (on-hit _ _ _ _ _ good-ok))),
    fuelled (read_elements (readers d)) _ n l (λ i l. on-miss _ _ _ _ (apart (among expression_start) Token.RightRound xs refl D.first) (bind-good _ (ends D refl refl d) (on-miss _ _ _ _ refl (on-hit _ _ _ _ _ good-ok)))),
  );
}

pub r-expressions-more : {v : Lexeme} {xs ys zs : List RowToken} {t us : Trees} → Read (level true 0) xs (token Token.Comma v ∷ ys) t → Read expressions ys zs us → Read expressions xs zs (t ⊕ us)
unfolding read_list read_elements begins heads follows calm stop operator_of Parser.lookup Parser.within below
r-expressions-more {xs} D E = record {
  first = tt;
  takes = omega arith;
  size = D.size + E.size;
  claim = λ d n l. (
    fuelled (read_list Token.RightRound (readers d)) _ n l (λ i l. try-good _ _ (weaken (λ b. omega arith) (ends D refl refl d)) (on-hit _ _ _ _ _ (bind-good _ (weaken (λ b. omega arith) (E.claim d i (omega arith)).0) good-ok))),
    fuelled (read_elements (readers d)) _ n l (λ i l. on-miss _ _ _ _ (apart (among expression_start) Token.RightRound xs refl D.first) (bind-good _ (weaken (λ b. omega arith) (ends D refl refl d)) (on-hit _ _ _ _ _ (bind-good _ (weaken (λ b. omega arith) (E.claim d i (omega arith)).1) good-ok)))),
  );
}

pub r-types-end : {v : Lexeme} {xs : List RowToken} → Read types (token Token.RightCurly v ∷ xs) xs none
unfolding read_list begins heads on if follows calm stop operator_of Parser.lookup Parser.within below
r-types-end {v} {xs} = record {
  first = tt;
  takes = omega arith;
  size = 0;
  claim = λ d n l. fuelled (read_list Token.RightCurly (readers d)) _ n l (λ i l. try-none _ _ (no-expr' true 0 v xs d) good-ok);
}

pub r-types-last : {v : Lexeme} {xs ys : List RowToken} {t : Trees} → Read (level true 0) xs (token Token.RightCurly v ∷ ys) t → Read types xs ys t
unfolding read_list begins heads on if follows calm stop operator_of Parser.lookup Parser.within below
r-types-last D = record {
  first = tt;
  takes = omega arith;
  size = D.size;
  claim = λ d n l. fuelled (read_list Token.RightCurly (readers d)) _ n l (λ i l. try-good _ _ (ends D refl refl d) good-ok);
}

pub r-types-more : {v : Lexeme} {xs ys zs : List RowToken} {t us : Trees} → Read (level true 0) xs (token Token.Comma v ∷ ys) t → Read types ys zs us → Read types xs zs (t ⊕ us)
unfolding read_list begins heads on if follows calm stop operator_of Parser.lookup Parser.within below
r-types-more D E = record {
  first = tt;
  takes = omega arith;
  size = D.size + E.size;
  claim = λ d n l. fuelled (read_list Token.RightCurly (readers d)) _ n l (λ i l. try-good _ _ (weaken (λ b. omega arith) (ends D refl refl d)) (bind-good _ (weaken (λ b. omega arith) (E.claim d i (omega arith))) (good-ok)));
}

pub r-fields-end : {v : Lexeme} {xs : List RowToken} → Read fields (token Token.RightCurly v ∷ xs) xs none
unfolding read_fields begins heads on if follows calm stop operator_of Parser.lookup Parser.within below
r-fields-end = record {
  first = tt;
  takes = omega arith;
  size = 0;
  claim = λ d n l. fuelled (read_fields (readers d)) _ n l (λ i l. good-ok);
}

pub r-fields-last : {v w u : Lexeme} {xs ys : List RowToken} {t : Trees} → Read (level true 0) xs (token Token.RightCurly u ∷ ys) t → Read fields (token Token.Identifier v ∷ token Token.Colon w ∷ xs) ys (branch Node.FieldAssign 0 (named v ⊕ t))
unfolding read_fields begins heads on if follows calm stop operator_of Parser.lookup Parser.within below
r-fields-last D = record {
  first = tt;
  takes = omega arith;
  size = D.size;
  claim = λ d n l. fuelled (read_fields (readers d)) _ n l (λ i l. bind-good _ (weaken (λ b. omega arith) (ends D refl refl d)) (good-ok));
}

pub r-fields-more : {v w u : Lexeme} {xs ys zs : List RowToken} {t us : Trees} → Read (level true 0) xs (token Token.Comma u ∷ ys) t → Read fields ys zs us → Read fields (token Token.Identifier v ∷ token Token.Colon w ∷ xs) zs (branch Node.FieldAssign 0 (named v ⊕ t) ⊕ us)
unfolding read_fields begins heads on if follows calm stop operator_of Parser.lookup Parser.within below
r-fields-more D E = record {
  first = tt;
  takes = omega arith;
  size = D.size + E.size;
  claim = λ d n l. fuelled (read_fields (readers d)) _ n l (λ i l. bind-good _ (weaken (λ b. omega arith) (ends D refl refl d)) (bind-good _ (weaken (λ b. omega arith) (E.claim d i (omega arith))) (good-ok)));
}

pub r-else-none : {xs : List RowToken} → Read else_ifs xs xs (listed Node.ElseIfBranchList none none)
unfolding read_else_ifs
r-else-none = record {
  first = tt;
  takes = omega arith;
  size = 0;
  claim = λ d n l h. fuelled (read_else_ifs (readers d)) _ n l (λ i l. on-miss _ _ _ _ h good-ok);
}

pub r-else-block : {v : Lexeme} {xs ys : List RowToken} {b : Trees} → Read block xs ys b → Read else_ifs (token Token.Else v ∷ xs) ys (listed Node.ElseIfBranchList none (branch Node.Block 0 b))
unfolding read_else_ifs begins
r-else-block {xs} D = record {
  first = tt;
  takes = omega arith;
  size = D.size;
  claim = λ d n l el. fuelled (read_else_ifs (readers d)) _ n l (λ i l. on-hit _ _ _ _ _ (on-miss _ _ _ _ (apart (among brace_start) Token.If xs refl D.first) (bind-good _ (weaken (λ b. omega arith) (D.claim d)) (good-ok))));
}

pub r-else-if : {v w : Lexeme} {xs ys zs ws : List RowToken} {c b us e : Trees} → Read (level false 0) xs ys c → Read block ys zs b → Read else_ifs zs ws (listed Node.ElseIfBranchList us e) → Read else_ifs (token Token.Else v ∷ token Token.If w ∷ xs) ws (listed Node.ElseIfBranchList (branch Node.ElseIfBranch 0 (c ⊕ branch Node.Block 0 b) ⊕ us) e)
unfolding push read_else_ifs begins on if
r-else-if {ys} {zs} C D E = record {
  first = tt;
  takes = omega arith;
  size = C.size + D.size + E.size;
  claim = λ d n l el. fuelled (read_else_ifs (readers d)) _ n l (λ i l. bind-good _ (weaken (λ b. omega arith) (ends C (brace-stops ys D.first) (calm-fol _ ys (calms brace_start ys refl D.first)) d)) (bind-good _ (weaken (λ b. omega arith) (D.claim d)) (bind-good _ (weaken (λ b. omega arith) (E.claim d i (omega arith) el)) (good-ok))));
}

pub r-arms-end : {v : Lexeme} {xs : List RowToken} → Read arms (token Token.RightCurly v ∷ xs) xs none
unfolding read_arms begins on if
r-arms-end = record {
  first = tt;
  takes = omega arith;
  size = 0;
  claim = λ d n l. fuelled (read_arms (readers d)) _ n l (λ i l. good-ok);
}

pub r-arms-last : {v : Lexeme} {xs ys : List RowToken} {t : Trees} → Read arm xs (token Token.RightCurly v ∷ ys) t → Read arms xs ys t
unfolding read_arms begins heads follows calm stop operator_of Parser.lookup Parser.within below
r-arms-last {xs} D = record {
  first = tt;
  takes = omega arith;
  size = D.size;
  claim = λ d n l. fuelled (read_arms (readers d)) _ n l (λ i l. on-miss _ _ _ _ (apart (among arm_start) Token.RightCurly xs refl D.first) (if-false _ _ _ (not-over (among arm_start) xs D.first) (bind-good _ (weaken (λ b. omega arith) (D.claim d refl refl)) (on-miss _ _ _ _ refl (on-hit _ _ _ _ _ (good-ok))))));
}

pub r-arms-more : {v : Lexeme} {xs ys zs : List RowToken} {t us : Trees} → Read arm xs (token Token.Comma v ∷ ys) t → Read arms ys zs us → Read arms xs zs (t ⊕ us)
unfolding read_arms begins heads follows calm stop operator_of Parser.lookup Parser.within below
r-arms-more {xs} D E = record {
  first = tt;
  takes = omega arith;
  size = D.size + E.size;
  claim = λ d n l. fuelled (read_arms (readers d)) _ n l (λ i l. on-miss _ _ _ _ (apart (among arm_start) Token.RightCurly xs refl D.first) (if-false _ _ _ (not-over (among arm_start) xs D.first) (bind-good _ (weaken (λ b. omega arith) (D.claim d refl refl)) (on-hit _ _ _ _ _ (bind-good _ (weaken (λ b. omega arith) (E.claim d i (omega arith))) (good-ok))))));
}

pub r-arm-else : {v w : Lexeme} {xs ys : List RowToken} {t : Trees} → Read (level true 0) xs ys t → Read arm (token Token.Else v ∷ token Token.FatArrow w ∷ xs) ys (branch Node.MatchFallbackArm 0 t)
unfolding read_arm begins heads on if
r-arm-else {ys} D = record {
  first = refl;
  takes = omega arith;
  size = D.size;
  claim = λ d st cm. bind-good _ (weaken (λ b. omega arith) (ends D st (calm-fol _ ys cm) d)) (good-ok);
}

pub r-arm-else-name : {v u w : Lexeme} {xs ys : List RowToken} {t : Trees} → Read (level true 0) xs ys t → Read arm (token Token.Else v ∷ token Token.Identifier u ∷ token Token.FatArrow w ∷ xs) ys (branch Node.MatchFallbackArm Flag.MatchFallbackArm-binding (named u ⊕ t))
unfolding read_arm begins heads on if
r-arm-else-name {ys} D = record {
  first = refl;
  takes = omega arith;
  size = D.size;
  claim = λ d st cm. bind-good _ (weaken (λ b. omega arith) (ends D st (calm-fol _ ys cm) d)) (good-ok);
}

pub r-arm-key : {v : Lexeme} {xs ys zs : List RowToken} {t u : Trees} → Read (level true 0) xs (token Token.FatArrow v ∷ ys) t → Read (level true 0) ys zs u → Read arm xs zs (branch Node.MatchArm 0 (t ⊕ u))
unfolding read_arm begins heads follows calm stop operator_of Parser.lookup Parser.within below
r-arm-key {xs} {zs = zs} D E = record {
  first = widen expression_start (among arm_start) xs refl D.first;
  takes = omega arith;
  size = D.size + E.size;
  claim = λ d st cm. on-miss _ _ _ _ (apart (among expression_start) Token.Else xs refl D.first) (bind-good _ (weaken (λ b. omega arith) (ends D refl refl d)) (on-hit _ _ _ _ _ (bind-good _ (weaken (λ b. omega arith) (ends E st (calm-fol _ zs cm) d)) (good-ok))));
}

pub r-signature-rule : {v : Lexeme} {xs ys zs ws : List RowToken} {p t b : Trees} → Read parameters xs ys p → Read (level false 0) ys zs t → Read block zs ws b → Read signature (token Token.LeftRound v ∷ xs) ws (branch Node.ParamList 0 p ⊕ (t ⊕ branch Node.Block 0 b))
unfolding read_signature begins on if
r-signature-rule {xs} {zs} P D E = record {
  first = tt;
  takes = omega arith;
  size = P.size + D.size + E.size;
  claim = λ d. bind-good _ (weaken (λ b. omega arith) (P.claim d (suc (length xs)) (omega arith))) (bind-good _ (weaken (λ b. omega arith) (ends D (brace-stops zs E.first) (calm-fol _ zs (calms brace_start zs refl E.first)) d)) (bind-good _ (weaken (λ b. omega arith) (E.claim d)) (good-ok)));
}

pub r-parameters-end : {v : Lexeme} {xs : List RowToken} → Read parameters (token Token.RightRound v ∷ xs) xs none
unfolding read_parameters read_parameter begins on if
r-parameters-end = record {
  first = tt;
  takes = omega arith;
  size = 0;
  claim = λ d n l. fuelled (read_parameters (readers d)) _ n l (λ i l. try-none _ _ (same refl) good-ok);
}

pub r-parameters-last : {v : Lexeme} {xs ys : List RowToken} {t : Trees} → Read parameter xs (token Token.RightRound v ∷ ys) t → Read parameters xs ys t
unfolding read_parameters begins heads on if follows calm stop operator_of Parser.lookup Parser.within below
r-parameters-last D = record {
  first = tt;
  takes = omega arith;
  size = D.size;
  claim = λ d n l. fuelled (read_parameters (readers d)) _ n l (λ i l. try-good _ _ (D.claim d refl refl) good-ok);
}

pub r-parameters-more : {v : Lexeme} {xs ys zs : List RowToken} {t us : Trees} → Read parameter xs (token Token.Comma v ∷ ys) t → Read parameters ys zs us → Read parameters xs zs (t ⊕ us)
unfolding read_parameters begins heads on if follows calm stop operator_of Parser.lookup Parser.within below
r-parameters-more D E = record {
  first = tt;
  takes = omega arith;
  size = D.size + E.size;
  claim = λ d n l. fuelled (read_parameters (readers d)) _ n l (λ i l. try-good _ _ (weaken (λ b. omega arith) (D.claim d refl refl)) (bind-good _ (weaken (λ b. omega arith) (E.claim d i (omega arith))) (good-ok)));
}

pub r-parameter-plain : {v w : Lexeme} {xs ys : List RowToken} {t : Trees} → Read parameter_type xs ys t → Read parameter (token Token.Identifier v ∷ token Token.Colon w ∷ xs) ys (branch Node.Parameter 0 (named v ⊕ t))
unfolding read_parameter begins on if
r-parameter-plain D = record {
  first = tt;
  takes = omega arith;
  size = D.size;
  claim = λ d st cm. bind-good _ (weaken (λ b. omega arith) (D.claim d st cm)) (good-ok);
}

pub r-parameter-comptime : {u v w : Lexeme} {xs ys : List RowToken} {t : Trees} → Read parameter_type xs ys t → Read parameter (token Token.Comptime u ∷ token Token.Identifier v ∷ token Token.Colon w ∷ xs) ys (branch Node.ComptimeParameter 0 (named v ⊕ t))
unfolding read_parameter begins on if
r-parameter-comptime D = record {
  first = tt;
  takes = omega arith;
  size = D.size;
  claim = λ d st cm. bind-good _ (weaken (λ b. omega arith) (D.claim d st cm)) (good-ok);
}

pub r-type-any : {v w : Lexeme} {xs : List RowToken} → Read parameter_type (token Token.Dollar v ∷ token Token.Identifier w ∷ xs) xs (any_type w)
unfolding read_parameter_type begins on if
r-type-any = record {
  first = tt;
  takes = omega arith;
  size = 0;
  claim = λ d st cm. good-ok;
}

pub r-type-expression : {xs ys : List RowToken} {t : Trees} → Read (level true 0) xs ys t → Read parameter_type xs ys t
unfolding read_parameter_type
r-type-expression {xs} {ys} D = record {
  first = tt;
  takes = omega arith;
  size = D.size;
  claim = λ d st cm. on-miss _ _ _ _ (apart (among expression_start) Token.Dollar xs refl D.first) (bind-good _ (weaken (λ b. omega arith) (ends D st (calm-fol _ ys cm) d)) (good-ok));
}

pub r-struct-methods : {xs ys : List RowToken} {t : Trees} → Read methods xs ys t → Read struct_body xs ys t
unfolding read_struct_body
r-struct-methods {xs} D = record {
  first = tt;
  takes = omega arith;
  size = D.size;
  claim = λ d n l. fuelled (read_struct_body (readers d)) _ n l (λ i l. on-miss _ _ _ _ (apart (among methods_start) Token.Identifier xs refl D.first) (D.claim d (suc i) (omega arith)));
}

pub r-struct-field-last : {v w : Lexeme} {xs ys zs : List RowToken} {t us : Trees} → Read (level true 0) xs ys t → Read methods ys zs us → Read struct_body (token Token.Identifier v ∷ token Token.Colon w ∷ xs) zs (branch Node.FieldDef 0 (named v ⊕ t) ⊕ us)
unfolding read_struct_body begins
r-struct-field-last {ys} D E = record {
  first = tt;
  takes = omega arith;
  size = D.size + E.size;
  claim = λ d n l. fuelled (read_struct_body (readers d)) _ n l (λ i l. on-hit _ _ _ _ _ (on-hit _ _ _ _ _ (bind-good _ (weaken (λ b. omega arith) (ends D (meth-stops ys E.first) (calm-fol _ ys (calms methods_start ys refl E.first)) d)) (on-miss _ _ _ _ (apart (among methods_start) Token.Comma ys refl E.first) (bind-good _ (weaken (λ b. omega arith) (E.claim d i (omega arith))) (good-ok))))));
}

pub r-struct-field-more : {v w u : Lexeme} {xs ys zs : List RowToken} {t us : Trees} → Read (level true 0) xs (token Token.Comma u ∷ ys) t → Read struct_body ys zs us → Read struct_body (token Token.Identifier v ∷ token Token.Colon w ∷ xs) zs (branch Node.FieldDef 0 (named v ⊕ t) ⊕ us)
unfolding read_struct_body begins heads on if follows calm stop operator_of Parser.lookup Parser.within below
r-struct-field-more D E = record {
  first = tt;
  takes = omega arith;
  size = D.size + E.size;
  claim = λ d n l. fuelled (read_struct_body (readers d)) _ n l (λ i l. bind-good _ (weaken (λ b. omega arith) (ends D refl refl d)) (bind-good _ (weaken (λ b. omega arith) (E.claim d i (omega arith))) (good-ok)));
}

pub r-methods-end : {v : Lexeme} {xs : List RowToken} → Read methods (token Token.RightCurly v ∷ xs) xs none
unfolding read_methods begins heads on if
r-methods-end = record {
  first = refl;
  takes = omega arith;
  size = 0;
  claim = λ d n l. fuelled (read_methods (readers d)) _ n l (λ i l. good-ok);
}

pub r-methods-fn : {v w : Lexeme} {xs ys zs : List RowToken} {t us : Trees} → Read signature xs ys t → Read methods ys zs us → Read methods (token Token.Fn v ∷ token Token.Identifier w ∷ xs) zs (branch Node.MethodDef 0 (named w ⊕ t) ⊕ us)
unfolding read_methods begins heads on if
r-methods-fn D E = record {
  first = refl;
  takes = omega arith;
  size = D.size + E.size;
  claim = λ d n l. fuelled (read_methods (readers d)) _ n l (λ i l. bind-good _ (weaken (λ b. omega arith) (D.claim d)) (bind-good _ (weaken (λ b. omega arith) (E.claim d i (omega arith))) (good-ok)));
}

pub r-methods-eager : {u v w : Lexeme} {xs ys zs : List RowToken} {t us : Trees} → Read signature xs ys t → Read methods ys zs us → Read methods (token Token.Eager u ∷ token Token.Fn v ∷ token Token.Identifier w ∷ xs) zs (branch Node.MethodDef Flag.MethodDef-eager (named w ⊕ t) ⊕ us)
unfolding read_methods begins heads on if
r-methods-eager D E = record {
  first = refl;
  takes = omega arith;
  size = D.size + E.size;
  claim = λ d n l. fuelled (read_methods (readers d)) _ n l (λ i l. bind-good _ (weaken (λ b. omega arith) (D.claim d)) (bind-good _ (weaken (λ b. omega arith) (E.claim d i (omega arith))) (good-ok)));
}

pub r-block-rule : {v : Lexeme} {xs ys : List RowToken} {b : Trees} → Read statements xs ys b → Read block (token Token.LeftCurly v ∷ xs) ys b
unfolding heads readers read_block on if
r-block-rule {v} {xs} {ys} {b} D = record { first = refl; takes = omega arith; size = suc D.size; claim = go }
  where
    go : (d : ℕ) → Meets (d ≤ suc D.size) ((readers d).block (token Token.LeftCurly v ∷ xs)) (ok b ys)
    go zero = sunk refl (omega arith)
    go (suc d) = weaken (λ b. omega arith) (D.claim d (suc (length xs)) (omega arith))

stmt-expr : {B : Type 0} (R : Readers) (xs : List RowToken) (k : Trees → List RowToken → Outcome) {s : Outcome} → heads (among expression_start) xs ≡ true → begins Token.Comptime xs ≡ false → Meets B (read_expression R xs k) s → Meets B (read_statement R xs k) s
unfolding read_statement
stmt-expr R xs k f h g = on-miss _ _ _ _ (apart (among expression_start) Token.Inline xs refl f) (on-miss _ _ _ _ (apart (among expression_start) Token.While xs refl f) (on-miss _ _ _ _ (apart (among expression_start) Token.Return xs refl f) (on-miss _ _ _ _ h (on-miss _ _ _ _ (apart (among expression_start) Token.Let xs refl f) g))))

pub r-statements-end : {v : Lexeme} {xs : List RowToken} → Read statements (token Token.RightCurly v ∷ xs) xs (listed Node.StatementsList none none)
unfolding read_statements begins heads on if
r-statements-end = record {
  first = refl;
  takes = omega arith;
  size = 0;
  claim = λ d n l. fuelled (read_statements (readers d)) _ n l (λ i l. good-ok);
}

pub r-statements-more : {xs ys zs : List RowToken} {t us e : Trees} → Read statement xs ys t → Read statements ys zs (listed Node.StatementsList us e) → Read statements xs zs (listed Node.StatementsList (t ⊕ us) e)
unfolding push read_statements
r-statements-more {xs} {ys} D E = record {
  first = widen statement_start (among statements_start) xs refl D.first;
  takes = omega arith;
  size = D.size + E.size;
  claim = λ d n l. fuelled (read_statements (readers d)) _ n l (λ i l. on-miss _ _ _ _ (apart (among statement_start) Token.RightCurly xs refl D.first) (good-trans (weaken (λ b. omega arith) (D.claim d _ (apart (among statements_start) Token.Else ys refl E.first) (apart (among statements_start) Token.Semicolon ys refl E.first))) (bind-good _ (weaken (λ b. omega arith) (E.claim d i (omega arith))) (good-ok))));
}

pub r-closing : {v : Lexeme} {xs ys : List RowToken} {t : Trees} → begins Token.Comptime xs ≡ false → Read (level true 0) xs (token Token.RightCurly v ∷ ys) t → Read statements xs ys (listed Node.StatementsList none t)
unfolding read_statements read_expression begins heads follows calm stop operator_of Parser.lookup Parser.within below
r-closing {xs} h D = record {
  first = widen expression_start (among statements_start) xs refl D.first;
  takes = omega arith;
  size = D.size;
  claim = λ d n l. fuelled (read_statements (readers d)) _ n l (λ i l. on-miss _ _ _ _ (apart (among expression_start) Token.RightCurly xs refl D.first) (stmt-expr _ _ _ D.first h (bind-good _ (weaken (λ b. omega arith) (ends D refl refl d)) (on-miss _ _ _ _ refl (on-miss _ _ _ _ refl (on-hit _ _ _ _ _ (good-ok)))))));
}

pub r-closing-comptime : {v w : Lexeme} {xs ys : List RowToken} {b : Trees} → Read block xs (token Token.RightCurly v ∷ ys) b → Read statements (token Token.Comptime w ∷ xs) ys (listed Node.StatementsList none (branch Node.ComptimeBlock 0 b))
unfolding read_statements read_comptime begins heads
r-closing-comptime {xs} D = record {
  first = refl;
  takes = omega arith;
  size = D.size;
  claim = λ d n l. fuelled (read_statements (readers d)) _ n l (λ i l. on-miss _ _ _ _ refl (enter-ct _ _ _ _ (on-miss _ _ _ _ (apart (among brace_start) Token.Let xs refl D.first) (if-true _ _ _ (brace-at xs D.first) (bind-good _ (weaken (λ b. omega arith) (D.claim d)) (on-miss _ _ _ _ refl (on-hit _ _ _ _ _ (good-ok))))))));
}

pub r-while : {v : Lexeme} {xs ys zs : List RowToken} {c b : Trees} → Read (level false 0) xs ys c → Read block ys zs b → Read statement (token Token.While v ∷ xs) zs (branch Node.WhileStmt 0 (c ⊕ branch Node.Block 0 b))
unfolding read_statement begins heads on if follows calm stop operator_of Parser.lookup Parser.within below
r-while {ys} D E = record {
  first = refl;
  takes = omega arith;
  size = D.size + E.size;
  claim = λ d k el se. bind-good _ (weaken (λ b. omega arith) (ends D (brace-stops ys E.first) (calm-fol _ ys (calms brace_start ys refl E.first)) d)) (bind-good _ (weaken (λ b. omega arith) (E.claim d)) (good-ok));
}

pub r-inline-while : {u v : Lexeme} {xs ys zs : List RowToken} {c b : Trees} → Read (level false 0) xs ys c → Read block ys zs b → Read statement (token Token.Inline u ∷ token Token.While v ∷ xs) zs (branch Node.InlineWhileStmt 0 (c ⊕ branch Node.Block 0 b))
unfolding read_statement begins heads on if follows calm stop operator_of Parser.lookup Parser.within below
r-inline-while {ys} D E = record {
  first = refl;
  takes = omega arith;
  size = D.size + E.size;
  claim = λ d k el se. bind-good _ (weaken (λ b. omega arith) (ends D (brace-stops ys E.first) (calm-fol _ ys (calms brace_start ys refl E.first)) d)) (bind-good _ (weaken (λ b. omega arith) (E.claim d)) (good-ok));
}

pub r-return : {v w : Lexeme} {xs ys : List RowToken} {t : Trees} → Read (level true 0) xs (token Token.Semicolon w ∷ ys) t → Read statement (token Token.Return v ∷ xs) ys (branch Node.ReturnStmt 0 t)
unfolding read_statement begins heads on if follows calm stop operator_of Parser.lookup Parser.within below
r-return D = record {
  first = refl;
  takes = omega arith;
  size = D.size;
  claim = λ d k el se. bind-good _ (weaken (λ b. omega arith) (ends D refl refl d)) (good-ok);
}

pub r-comptime-semicolon : {v w : Lexeme} {xs ys : List RowToken} {b : Trees} → Read block xs (token Token.Semicolon v ∷ ys) b → Read statement (token Token.Comptime w ∷ xs) ys (branch Node.ComptimeBlock 0 b)
unfolding read_comptime begins heads follows calm stop operator_of Parser.lookup Parser.within below
r-comptime-semicolon {xs} D = record {
  first = refl;
  takes = omega arith;
  size = D.size;
  claim = λ d k el se. enter-ct _ _ _ _ (on-miss _ _ _ _ (apart (among brace_start) Token.Let xs refl D.first) (if-true _ _ _ (brace-at xs D.first) (bind-good _ (weaken (λ b. omega arith) (D.claim d)) (on-hit _ _ _ _ _ (good-ok)))));
}

pub r-comptime-mid : {w : Lexeme} {xs ys : List RowToken} {b : Trees} → Read block xs ys b → begins Token.RightCurly ys ≡ false → Read statement (token Token.Comptime w ∷ xs) ys (branch Node.ComptimeBlock 0 b)
unfolding read_comptime begins heads follows calm stop operator_of Parser.lookup Parser.within below
r-comptime-mid {xs} D nr = record {
  first = refl;
  takes = omega arith;
  size = D.size;
  claim = λ d k el se. enter-ct _ _ _ _ (on-miss _ _ _ _ (apart (among brace_start) Token.Let xs refl D.first) (if-true _ _ _ (brace-at xs D.first) (bind-good _ (weaken (λ b. omega arith) (D.claim d)) (on-miss _ _ _ _ se (on-miss _ _ _ _ nr good-ok)))));
}

pub r-comptime-let : {v w : Lexeme} {xs ys : List RowToken} {t : Trees} → Read (binding true) xs ys t → Read statement (token Token.Comptime v ∷ token Token.Let w ∷ xs) ys t
unfolding read_statement begins heads on if follows calm stop operator_of Parser.lookup Parser.within below read_comptime
r-comptime-let D = record {
  first = refl;
  takes = omega arith;
  size = D.size;
  claim = λ d k el se. bind-good _ (weaken (λ b. omega arith) (D.claim d)) (good-ok);
}

pub r-let-rule : {v : Lexeme} {xs ys : List RowToken} {t : Trees} → Read (binding false) xs ys t → Read statement (token Token.Let v ∷ xs) ys t
unfolding read_statement begins heads on if follows calm stop operator_of Parser.lookup Parser.within below
r-let-rule D = record {
  first = refl;
  takes = omega arith;
  size = D.size;
  claim = λ d k el se. bind-good _ (weaken (λ b. omega arith) (D.claim d)) (good-ok);
}

pub r-semicolon : {v : Lexeme} {xs ys : List RowToken} {t : Trees} → begins Token.Comptime xs ≡ false → Read (level true 0) xs (token Token.Semicolon v ∷ ys) t → Read statement xs ys t
unfolding read_expression begins heads on if follows calm stop operator_of Parser.lookup Parser.within below
r-semicolon {xs} h D = record {
  first = widen expression_start (among statement_start) xs refl D.first;
  takes = omega arith;
  size = D.size;
  claim = λ d k el se. stmt-expr _ _ _ D.first h (bind-good _ (weaken (λ b. omega arith) (ends D refl refl d)) (good-ok));
}

pub r-assign : {v w : Lexeme} {xs ys zs : List RowToken} {t u : Trees} → begins Token.Comptime xs ≡ false → Read (level true 0) xs (token Token.Equals v ∷ ys) t → Read (level true 0) ys (token Token.Semicolon w ∷ zs) u → Read statement xs zs (branch Node.AssignStmt 0 (t ⊕ u))
unfolding read_expression begins heads on if follows calm stop operator_of Parser.lookup Parser.within below
r-assign {xs} h D E = record {
  first = widen expression_start (among statement_start) xs refl D.first;
  takes = omega arith;
  size = D.size + E.size;
  claim = λ d k el se. stmt-expr _ _ _ D.first h (bind-good _ (weaken (λ b. omega arith) (ends D refl refl d)) (bind-good _ (weaken (λ b. omega arith) (ends E refl refl d)) (good-ok)));
}

pub r-mid-block : {xs ys : List RowToken} {t : Trees} → begins Token.Comptime xs ≡ false → Read (level true 0) xs ys t → is_block_like t ≡ true → continues ys ≡ false → begins Token.RightCurly ys ≡ false → Read statement xs ys t
unfolding read_expression
r-mid-block {xs} {ys} h D f st nr = let q = ended ys st in record {
  first = widen expression_start (among statement_start) xs refl D.first;
  takes = omega arith;
  size = D.size;
  claim = λ d k el se. stmt-expr _ _ _ D.first h (bind-good _ (weaken (λ b. omega arith) (ends D q.stopped (fol-block _ ys f el) d)) (on-miss _ _ _ _ q.equals (on-miss _ _ _ _ q.semicolon (on-miss _ _ _ _ nr (if-true _ _ _ f good-ok)))));
}

pub r-binding-mut : {c : Bool} {v : Lexeme} {xs ys : List RowToken} {t : Trees} → Read (binding_name c true) xs ys t → Read (binding c) (token Token.Mut v ∷ xs) ys t
unfolding read_binding begins on if
r-binding-mut D = record {
  first = tt;
  takes = omega arith;
  size = D.size;
  claim = λ d. D.claim d;
}

pub r-binding-fixed : {c : Bool} {xs ys : List RowToken} {t : Trees} → Read (binding_name c false) xs ys t → Read (binding c) xs ys t
unfolding read_binding
r-binding-fixed {xs} D = record {
  first = tt;
  takes = omega arith;
  size = D.size;
  claim = λ d. on-miss _ _ _ _ (apart (among name_start) Token.Mut xs refl D.first) (D.claim d);
}

pub r-binding-untyped : {c m : Bool} {v w u : Lexeme} {xs ys : List RowToken} {t : Trees} → Read (level true 0) xs (token Token.Semicolon u ∷ ys) t → Read (binding_name c m) (token Token.Identifier v ∷ token Token.Equals w ∷ xs) ys (branch Node.LetStmt (let_flags c m false) (named v ⊕ t))
unfolding read_binding_name begins heads on if follows calm stop operator_of Parser.lookup Parser.within below
r-binding-untyped D = record {
  first = refl;
  takes = omega arith;
  size = D.size;
  claim = λ d. bind-good _ (weaken (λ b. omega arith) (ends D refl refl d)) (good-ok);
}

pub r-binding-typed : {c m : Bool} {v w u z : Lexeme} {xs ys zs : List RowToken} {s t : Trees} → Read (level true 0) xs (token Token.Equals u ∷ ys) s → Read (level true 0) ys (token Token.Semicolon z ∷ zs) t → Read (binding_name c m) (token Token.Identifier v ∷ token Token.Colon w ∷ xs) zs (branch Node.LetStmt (let_flags c m true) (named v ⊕ (s ⊕ t)))
unfolding read_binding_name begins heads on if follows calm stop operator_of Parser.lookup Parser.within below
r-binding-typed D E = record {
  first = refl;
  takes = omega arith;
  size = D.size + E.size;
  claim = λ d. bind-good _ (weaken (λ b. omega arith) (ends D refl refl d)) (bind-good _ (weaken (λ b. omega arith) (ends E refl refl d)) (good-ok));
}

pub r-declarations-end : Read declarations [] [] none
unfolding read_declarations
r-declarations-end = record {
  first = tt;
  takes = omega arith;
  size = 0;
  claim = λ d n l. fuelled (read_declarations (readers d)) _ n l (λ i l. good-ok);
}

cons-decls : {B : Type 0} (R : Readers) (i : ℕ) (xs : List RowToken) {s : Outcome} → heads (among declaration_start) xs ≡ true → Meets B (bind (read_declaration R xs) (λ t ys. bind (read_declarations R i ys) (λ us zs. ok (t ⊕ us) zs))) s → Meets B (read_declarations R (suc i) xs) s
unfolding read_declarations heads
cons-decls R i [] h g = absurd (false≢true h)
cons-decls R i (x ∷ xs) h g = g

pub r-declarations-more : {xs ys zs : List RowToken} {t us : Trees} → Read declaration xs ys t → Read declarations ys zs us → Read declarations xs zs (t ⊕ us)
r-declarations-more D E = record {
  first = tt;
  takes = omega arith;
  size = D.size + E.size;
  claim = λ d n l. fuelled (read_declarations (readers d)) _ n l (λ i l. cons-decls _ _ _ D.first (bind-good _ (weaken (λ b. omega arith) (D.claim d)) (bind-good _ (weaken (λ b. omega arith) (E.claim d i (omega arith))) (good-ok))));
}

pub r-init : {v : Lexeme} {xs ys : List RowToken} {b : Trees} → Read block xs ys b → Read declaration (token Token.Init v ∷ xs) ys (branch Node.InitBlock 0 b)
unfolding read_declaration begins heads on if follows calm stop operator_of Parser.lookup Parser.within below
r-init D = record {
  first = refl;
  takes = omega arith;
  size = D.size;
  claim = λ d. bind-good _ (weaken (λ b. omega arith) (D.claim d)) (good-ok);
}

pub r-run : {v : Lexeme} {xs ys : List RowToken} {b : Trees} → Read block xs ys b → Read declaration (token Token.Run v ∷ xs) ys (branch Node.RunBlock 0 b)
unfolding read_declaration begins heads on if follows calm stop operator_of Parser.lookup Parser.within below
r-run D = record {
  first = refl;
  takes = omega arith;
  size = D.size;
  claim = λ d. bind-good _ (weaken (λ b. omega arith) (D.claim d)) (good-ok);
}

pub r-const-untyped : {u v w z : Lexeme} {xs ys : List RowToken} {t : Trees} → Read (level true 0) xs (token Token.Semicolon z ∷ ys) t → Read declaration (token Token.Const u ∷ token Token.Identifier v ∷ token Token.Equals w ∷ xs) ys (branch Node.ConstDecl 0 (named v ⊕ t))
unfolding read_declaration begins heads on if follows calm stop operator_of Parser.lookup Parser.within below
r-const-untyped D = record {
  first = refl;
  takes = omega arith;
  size = D.size;
  claim = λ d. bind-good _ (weaken (λ b. omega arith) (ends D refl refl d)) (good-ok);
}

pub r-const-typed : {u v w y z : Lexeme} {xs ys zs : List RowToken} {s t : Trees} → Read (level true 0) xs (token Token.Equals y ∷ ys) s → Read (level true 0) ys (token Token.Semicolon z ∷ zs) t → Read declaration (token Token.Const u ∷ token Token.Identifier v ∷ token Token.Colon w ∷ xs) zs (branch Node.ConstDecl Flag.ConstDecl-typed (named v ⊕ (s ⊕ t)))
unfolding read_declaration begins heads on if follows calm stop operator_of Parser.lookup Parser.within below
r-const-typed D E = record {
  first = refl;
  takes = omega arith;
  size = D.size + E.size;
  claim = λ d. bind-good _ (weaken (λ b. omega arith) (ends D refl refl d)) (bind-good _ (weaken (λ b. omega arith) (ends E refl refl d)) (good-ok));
}

pub r-use-private : {v : Lexeme} {xs ys : List RowToken} {t : Trees} → Read (import false) xs ys t → Read declaration (token Token.Use v ∷ xs) ys t
unfolding read_declaration begins heads on if follows calm stop operator_of Parser.lookup Parser.within below
r-use-private D = record {
  first = refl;
  takes = omega arith;
  size = D.size;
  claim = λ d. D.claim d;
}

pub r-use-public : {u v : Lexeme} {xs ys : List RowToken} {t : Trees} → Read (import true) xs ys t → Read declaration (token Token.Pub u ∷ token Token.Use v ∷ xs) ys t
unfolding read_declaration begins heads on if follows calm stop operator_of Parser.lookup Parser.within below
r-use-public D = record {
  first = refl;
  takes = omega arith;
  size = D.size;
  claim = λ d. D.claim d;
}

pub r-import-path : {p : Bool} {u : Lexeme} {xs ys : List RowToken} {t : Trees} → Read path xs (token Token.Semicolon u ∷ ys) t → Read (import p) xs ys (branch Node.ImportDecl (flag p Flag.ImportDecl-public) t)
unfolding read_import goes_on begins on if
r-import-path {xs} D = record {
  first = tt;
  takes = omega arith;
  size = D.size;
  claim = λ d. bind-good _ (weaken (λ b. omega arith) (D.claim d (suc (length xs)) (omega arith) refl)) (good-ok);
}

pub r-import-as : {p : Bool} {u v w : Lexeme} {xs ys : List RowToken} {t : Trees} → Read path xs (token Token.As u ∷ token Token.Identifier v ∷ token Token.Semicolon w ∷ ys) t → Read (import p) xs ys (branch Node.ImportAsDecl (flag p Flag.ImportAsDecl-public) (branch Node.ImportPath 0 t ⊕ named v))
unfolding read_import goes_on begins on if
r-import-as {xs} D = record {
  first = tt;
  takes = omega arith;
  size = D.size;
  claim = λ d. bind-good _ (weaken (λ b. omega arith) (D.claim d (suc (length xs)) (omega arith) refl)) (good-ok);
}

pub r-import-all : {p : Bool} {u v w : Lexeme} {xs ys : List RowToken} {t : Trees} → Read path xs (token Token.DoubleColon u ∷ token Token.Star v ∷ token Token.Semicolon w ∷ ys) t → Read (import p) xs ys (branch Node.ImportDecl (flag p Flag.ImportDecl-public + Flag.ImportDecl-glob) t)
unfolding read_import goes_on begins on if
r-import-all {xs} D = record {
  first = tt;
  takes = omega arith;
  size = D.size;
  claim = λ d. bind-good _ (weaken (λ b. omega arith) (D.claim d (suc (length xs)) (omega arith) refl)) (good-ok);
}

pub r-import-group : {p : Bool} {u v w a : Lexeme} {xs ys zs ws : List RowToken} {t i us : Trees} → Read path xs (token Token.DoubleColon u ∷ token Token.LeftCurly v ∷ ys) t → Read item ys (token Token.Comma a ∷ zs) i → Read items zs (token Token.Semicolon w ∷ ws) us → Read (import p) xs ws (branch Node.ImportGroupDecl (flag p Flag.ImportGroupDecl-public) (t ⊕ (i ⊕ us)))
unfolding read_import goes_on begins on if
r-import-group {xs} {zs = zs} D E G = record {
  first = tt;
  takes = omega arith;
  size = D.size + E.size + G.size;
  claim = λ d. bind-good _ (weaken (λ b. omega arith) (D.claim d (suc (length xs)) (omega arith) refl)) (bind-good _ (weaken (λ b. omega arith) (E.claim d refl)) (bind-good _ (weaken (λ b. omega arith) (G.claim d (suc (length zs)) (omega arith))) (good-ok)));
}

pub r-path-last : {v : Lexeme} {xs : List RowToken} → Read path (token Token.Identifier v ∷ xs) xs (named v)
unfolding read_path heads
r-path-last = record {
  first = refl;
  takes = omega arith;
  size = 0;
  claim = λ d n l h. fuelled read_path _ n l (λ i l. on-hit _ _ _ _ _ (if-false _ _ _ h good-ok));
}

pub r-path-more : {v w : Lexeme} {xs ys : List RowToken} {t : Trees} → Read path xs ys t → Read path (token Token.Identifier v ∷ token Token.DoubleColon w ∷ xs) ys (named v ⊕ t)
unfolding read_path goes_on heads
r-path-more {xs} D = record {
  first = refl;
  takes = omega arith;
  size = D.size;
  claim = λ d n l h. fuelled read_path _ n l (λ i l. on-hit _ _ _ _ _ (if-true _ _ _ (name-at xs D.first) (on-hit _ _ _ _ _ (bind-good _ (weaken (λ b. omega arith) (D.claim d i (omega arith) h)) (good-ok)))));
}

pub r-items-last : {v : Lexeme} {xs ys : List RowToken} {t : Trees} → Read item xs (token Token.RightCurly v ∷ ys) t → Read items xs ys t
unfolding read_items begins on if
r-items-last D = record {
  first = D.first;
  takes = omega arith;
  size = D.size;
  claim = λ d n l. fuelled (read_items) _ n l (λ i l. bind-good _ (weaken (λ b. omega arith) (D.claim d refl)) (good-ok));
}

pub r-items-trailing : {v w : Lexeme} {xs ys : List RowToken} {t : Trees} → Read item xs (token Token.Comma v ∷ token Token.RightCurly w ∷ ys) t → Read items xs ys t
unfolding read_items begins on if
r-items-trailing D = record {
  first = D.first;
  takes = omega arith;
  size = D.size;
  claim = λ d n l. fuelled (read_items) _ n l (λ i l. bind-good _ (weaken (λ b. omega arith) (D.claim d refl)) (good-ok));
}

pub r-items-more : {v : Lexeme} {xs ys zs : List RowToken} {t us : Trees} → Read item xs (token Token.Comma v ∷ ys) t → Read items ys zs us → Read items xs zs (t ⊕ us)
unfolding read_items begins
r-items-more {ys} D E = record {
  first = D.first;
  takes = omega arith;
  size = D.size + E.size;
  claim = λ d n l. fuelled (read_items) _ n l (λ i l. bind-good _ (weaken (λ b. omega arith) (D.claim d refl)) (on-miss _ _ _ _ refl (on-hit _ _ _ _ _ (on-miss _ _ _ _ (apart (among name_start) Token.RightCurly ys refl E.first) (bind-good _ (weaken (λ b. omega arith) (E.claim d i (omega arith))) (good-ok))))));
}

pub r-item-plain : {v : Lexeme} {xs : List RowToken} → Read item (token Token.Identifier v ∷ xs) xs (branch Node.ImportGroupItem 0 (named v))
unfolding read_item heads
r-item-plain = record {
  first = refl;
  takes = omega arith;
  size = 0;
  claim = λ d h. on-hit _ _ _ _ _ (on-miss _ _ _ _ h good-ok);
}

pub r-item-as : {u v w : Lexeme} {xs : List RowToken} → Read item (token Token.Identifier u ∷ token Token.As v ∷ token Token.Identifier w ∷ xs) xs (branch Node.ImportGroupItem 0 (named u ⊕ named w))
unfolding read_item heads begins on if
r-item-as = record {
  first = refl;
  takes = omega arith;
  size = 0;
  claim = λ d h. good-ok;
}

pub r-file-rule : {xs : List RowToken} {us : Trees} → Read declarations xs [] us → Read file xs [] (branch Node.File 0 us)
unfolding read_file
r-file-rule {xs} D = record {
  first = tt;
  takes = omega arith;
  size = D.size;
  claim = λ d. bind-good _ (weaken (λ b. omega arith) (D.claim d (suc (length xs)) (omega arith))) good-ok;
}
