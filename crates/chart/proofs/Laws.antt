-- Laws of operators and of where an expression stops.
use Rattle.std.specs.Prelude.{◌≡◌, refl, Bool, true, false, cond, ◌&&◌, ◌||◌, not, ℕ, suc, ◌+◌, ◌≤◌, ◌<◌, eqb, ltb, leb, T, length}
use Rattle.std.proofs.Common.{sym, ◌∙◌, ap, subst, true≢false, arith, lit≤, le→leb, leb-true, leb-false, ltb-true}
use Rattle.std.proofs.lemmas.Bool.{false≢true}
use mathlib.Core.List.{List, [], ◌∷◌, ◌++◌, flatten}
use Rattle.words.specs.Token
use Rattle.chart.specs.Row.{Lexeme, RowToken, begins, token}
use Rattle.chart.specs.Tree.{Trees}
use Rattle.chart.specs.Chart.{Operator, operator, levels, is_among, is_binary, prefix_level, continues, Nonterminal, Derives}
use Rattle.chart.specs.Parser.{Role, within, lookup, operator_of, not_binary, binary_of, Outcome, on, on_level, on_op, ok, nothing, failed, deep}
use Rattle.chart.specs.Outcome.{Meets, if-true, if-false, not-fail, if-elim, on-elim}

unfoldable pub below : Role → ℕ → Bool
below not_binary k = true
below (binary_of j op) k = ltb j k

abbrev pub post_start : Bool → ℕ → Bool
post_start m o = eqb o Token.Dot || (eqb o Token.LeftRound || (m && eqb o Token.LeftCurly))

-- The row doesn't go on with a postfix, nor with an operator of level `k` or tighter.
unfoldable pub stop : Bool → ℕ → List RowToken → Bool
stop m k [] = true
stop m k (token o v ∷ xs) = not (post_start m o) && below (operator_of o) k

pub to-true : {b : Bool} → T b → b ≡ true
to-true {b = true} t = refl
to-true {b = false} t = absurd t

pub clash : {C : Type 0} {b : Bool} → b ≡ true → b ≡ false → C
clash e f = absurd (true≢false (sym e ∙ f))

pub and_left : (a b : Bool) → (a && b) ≡ true → a ≡ true
and_left true b e = refl
and_left false b e = e

pub and_right : (a b : Bool) → (a && b) ≡ true → b ≡ true
and_right true b e = e
and_right false b e = absurd (false≢true e)

-- Every level of the table is looser than prefix operators.
cond-low : (b : Bool) (j op : ℕ) (l : Role) → ltb j prefix_level ≡ true → below l prefix_level ≡ true → below (cond b (binary_of j op) l) prefix_level ≡ true
unfolding below
cond-low true j op l e f = e
cond-low false j op l e f = f

within_low : (j : ℕ) (r : List Operator) (o : ℕ) (l : Role) → ltb j prefix_level ≡ true → below l prefix_level ≡ true → below (within j r o l) prefix_level ≡ true
unfolding within
within_low j [] o l e f = f
within_low j (operator k op ∷ r) o l e f = cond-low (eqb o k) j op (within j r o l) e (within_low j r o l e f)

lookup-low : (j : ℕ) (rs : List (List Operator)) (o : ℕ) → j + length rs ≤ prefix_level → below (lookup j rs o) prefix_level ≡ true
unfolding lookup below
lookup-low j [] o h = refl
lookup-low j (r ∷ rs) o h = within_low j r o (lookup (suc j) rs o) (to-true (le→leb (suc j) prefix_level (omega arith))) (lookup-low (suc j) rs o (omega arith))

pub op-low : (o : ℕ) → below (operator_of o) prefix_level ≡ true
unfolding operator_of
op-low o = lookup-low 0 levels o (lit≤ tt)

pub op-top : (o j op : ℕ) → operator_of o ≡ binary_of j op → suc j ≤ prefix_level
unfolding below
op-top o j op e = ltb-true j prefix_level (subst (λ l. below l prefix_level ≡ true) e (op-low o))

below-mono : (l : Role) (k k' : ℕ) → k ≤ k' → below l k ≡ true → below l k' ≡ true
unfolding below
below-mono not_binary k k' h e = refl
below-mono (binary_of j op) k k' h e = let q : j < k = ltb-true j k e in to-true (le→leb (suc j) k' (omega arith))

pub stop-mono : (m : Bool) (k k' : ℕ) (xs : List RowToken) → k ≤ k' → stop m k xs ≡ true → stop m k' xs ≡ true
unfolding stop
stop-mono m k k' [] h e = refl
stop-mono m k k' (token o v ∷ xs) h e = go (not (post_start m o)) (below (operator_of o) k) (below (operator_of o) k') (below-mono (operator_of o) k k' h) e
  where
    go : (a b c : Bool) → (b ≡ true → c ≡ true) → (a && b) ≡ true → (a && c) ≡ true
    go true b c f e = f e
    go false b c f e = e

-- No operator is as tight as a prefix operator.
pub stop-top : (m : Bool) (k : ℕ) (xs : List RowToken) → stop m k xs ≡ true → stop m prefix_level xs ≡ true
unfolding stop
stop-top m k [] e = refl
stop-top m k (token o v ∷ xs) e = go (not (post_start m o)) (below (operator_of o) k) (below (operator_of o) prefix_level) (op-low o) e
  where
    go : (a b c : Bool) → c ≡ true → (a && b) ≡ true → (a && c) ≡ true
    go true b c f e = f
    go false b c f e = e

-- The row doesn't go on with an operator of level `k` or tighter.
unfoldable pub op_stop : ℕ → List RowToken → Bool
op_stop k [] = true
op_stop k (token o v ∷ xs) = below (operator_of o) k

pub stop-intro : (m : Bool) (k : ℕ) (xs : List RowToken) → begins Token.Dot xs ≡ false → begins Token.LeftRound xs ≡ false → (m && begins Token.LeftCurly xs) ≡ false → op_stop k xs ≡ true → stop m k xs ≡ true
unfolding stop op_stop begins
stop-intro m k [] a b c d = refl
stop-intro m k (token o v ∷ xs) a b c d = go (eqb o Token.Dot) (eqb o Token.LeftRound) (m && eqb o Token.LeftCurly) (below (operator_of o) k) a b c d
  where
    go : (p q r s : Bool) → p ≡ false → q ≡ false → r ≡ false → s ≡ true → (not (p || (q || r)) && s) ≡ true
    go p q r s a b c d = rw (a, b, c, d) refl

pub record Stops (m : Bool) (k : ℕ) (xs : List RowToken) : Type 0 where
  pub dot : begins Token.Dot xs ≡ false
  pub par : begins Token.LeftRound xs ≡ false
  pub brace : (m && begins Token.LeftCurly xs) ≡ false
  pub op : op_stop k xs ≡ true

pub stop-elim : (m : Bool) (k : ℕ) (xs : List RowToken) → stop m k xs ≡ true → Stops m k xs
unfolding stop op_stop begins
stop-elim m k [] e = record { dot = refl; par = refl; brace = go m; op = refl }
  where
    go : (a : Bool) → (a && false) ≡ false
    go true = refl
    go false = refl
stop-elim m k (token o v ∷ xs) e = record { dot = d (eqb o Token.Dot) (eqb o Token.LeftRound) (m && eqb o Token.LeftCurly) (below (operator_of o) k) e; par = p (eqb o Token.Dot) (eqb o Token.LeftRound) (m && eqb o Token.LeftCurly) (below (operator_of o) k) e; brace = b (eqb o Token.Dot) (eqb o Token.LeftRound) (m && eqb o Token.LeftCurly) (below (operator_of o) k) e; op = and_right (not (post_start m o)) (below (operator_of o) k) e }
  where
    d : (p q r s : Bool) → (not (p || (q || r)) && s) ≡ true → p ≡ false
    d true q r s e = absurd (false≢true e)
    d false q r s e = refl

    p : (p q r s : Bool) → (not (p || (q || r)) && s) ≡ true → q ≡ false
    p true q r s e = absurd (false≢true e)
    p false true r s e = absurd (false≢true e)
    p false false r s e = refl

    b : (p q r s : Bool) → (not (p || (q || r)) && s) ≡ true → r ≡ false
    b true q r s e = absurd (false≢true e)
    b false true r s e = absurd (false≢true e)
    b false false true s e = absurd (false≢true e)
    b false false false s e = refl

-- The step at an operator, forwards and backwards.
pub op-hit : {B : Type 0} (k o : ℕ) (v : Lexeme) (j op : ℕ) (xs : List RowToken) (h : ℕ → ℕ → List RowToken → Outcome) (m : Outcome) {s : Outcome} → operator_of o ≡ binary_of j op → k ≤ j → Meets B (h op j xs) s → Meets B (on_op k (token o v ∷ xs) h m) s
unfolding on_op on_level
op-hit {B} k o v j op xs h m {s} e l g = go (operator_of o) e
  where
    go : (lv : Role) → lv ≡ binary_of j op → Meets B (on_level lv k (λ i j. h i j xs) m) s
    go lv q = rw q (if-true _ _ _ (to-true (le→leb k j l)) g)

pub op-miss : {B : Type 0} (k : ℕ) (xs : List RowToken) (h : ℕ → ℕ → List RowToken → Outcome) (m : Outcome) {s : Outcome} → op_stop k xs ≡ true → Meets B m s → Meets B (on_op k xs h m) s
unfolding on_op op_stop on_level below
op-miss k [] h m e g = g
op-miss {B} k (token o v ∷ xs) h m {s} e g = go (operator_of o) e
  where
    go : (lv : Role) → below lv k ≡ true → Meets B (on_level lv k (λ i j. h i j xs) m) s
    go not_binary q = g
    go (binary_of j op) q = if-false _ _ _ (no_leb k j (ltb-true j k q)) g
      where
        no_leb : (a b : ℕ) → b < a → leb a b ≡ false
        no_leb a b h = dec (leb a b) refl
          where
            dec : (x : Bool) → leb a b ≡ x → leb a b ≡ false
            dec true e = let q : a ≤ b = leb-true a b e in absurd (omega arith)
            dec false e = e

pub op-elim : (C : List RowToken → Type 0) (k : ℕ) (xs : List RowToken) (h : ℕ → ℕ → List RowToken → Outcome) (m : Outcome) {s : Outcome} → on_op k xs h m ≡ s
    → ((o : ℕ) (v : Lexeme) (j op : ℕ) (zs : List RowToken) → operator_of o ≡ binary_of j op → k ≤ j → h op j zs ≡ s → C (token o v ∷ zs)) → (op_stop k xs ≡ true → m ≡ s → C xs) → C xs
unfolding on_op op_stop on_level below
op-elim C k [] h m e f g = g refl e
op-elim C k (token o v ∷ xs) h m {s} e f g = go (operator_of o) refl e
  where
    go : (lv : Role) → operator_of o ≡ lv → on_level lv k (λ i j. h i j xs) m ≡ s → C (token o v ∷ xs)
    go not_binary q e = g (rw q refl) e
    go (binary_of j op) q e = if-elim _ _ _ e (λ b e'. f o v j op xs q (leb-true k j b) e') (λ b e'. g (rw q (to-true (le→leb (suc j) k (leb-false k j b)))) e')

-- Two outcomes with trees agree in both parts.
trees_of : Outcome → Trees → Trees
trees_of (ok t ys) u = t
trees_of nothing u = u
trees_of failed u = u
trees_of deep u = u

rest_of : Outcome → List RowToken
rest_of (ok t ys) = ys
rest_of nothing = []
rest_of failed = []
rest_of deep = []

pub ok-trees : {t u : Trees} {ys zs : List RowToken} → ok t ys ≡ ok u zs → t ≡ u
unfolding trees_of
ok-trees {t} e = ap (λ r. trees_of r t) e

pub ok-rest : {t u : Trees} {ys zs : List RowToken} → ok t ys ≡ ok u zs → ys ≡ zs
unfolding rest_of
ok-rest e = ap rest_of e

pub ret : {n : Nonterminal} {xs ys zs : List RowToken} {t u : Trees} → ok t ys ≡ ok u zs → Derives n xs ys t → Derives n xs zs u
ret {n} {xs} {ys} {u} e D = subst (λ r. Derives n xs r u) (ok-rest e) (subst (λ r. Derives n xs ys r) (ok-trees e) D)

pub need : (C : List RowToken → Type 0) (K : ℕ) (xs : List RowToken) (h : Lexeme → List RowToken → Outcome) {u : Trees} {ws : List RowToken} → on K xs h failed ≡ ok u ws
    → ((v : Lexeme) (zs : List RowToken) → h v zs ≡ ok u ws → C (token K v ∷ zs)) → C xs
need C K xs h e f = on-elim C K xs h failed e f (λ _ q. not-fail q)

abbrev pub has_role : Role → Bool
has_role not_binary = false
has_role (binary_of j op) = true

-- The chart's binary operators are the tokens that have a role.
within-binary : (j : ℕ) (r : List Operator) (kind : ℕ) (rest : Role) (more : List Operator) → has_role rest ≡ is_among more kind → has_role (within j r kind rest) ≡ is_among (r ++ more) kind
unfolding within is_among
within-binary j [] kind rest more e = e
within-binary j (operator k op ∷ r) kind rest more e = go (eqb kind k) (within j r kind rest) (is_among (r ++ more) kind) (within-binary j r kind rest more e)
  where
    go : (c : Bool) (x : Role) (y : Bool) → has_role x ≡ y → has_role (cond c (binary_of j op) x) ≡ (c || y)
    go true x y e = refl
    go false x y e = e

lookup-binary : (j : ℕ) (rs : List (List Operator)) (kind : ℕ) → has_role (lookup j rs kind) ≡ is_among (flatten rs) kind
unfolding lookup flatten is_among
lookup-binary j [] kind = refl
lookup-binary j (r ∷ rs) kind = within-binary j r kind (lookup (suc j) rs kind) (flatten rs) (lookup-binary (suc j) rs kind)

role-binary : (kind : ℕ) → has_role (operator_of kind) ≡ is_binary kind
unfolding operator_of is_binary
role-binary kind = lookup-binary 0 levels kind

role-loose : (r : Role) → has_role r ≡ false → below r 0 ≡ true
unfolding below
role-loose not_binary e = refl
role-loose (binary_of j op) e = absurd (true≢false e)

loose-role : (r : Role) → below r 0 ≡ true → has_role r ≡ false
unfolding below
loose-role not_binary e = refl
loose-role (binary_of j op) e = absurd (no_ltb j e)
  where
    no_ltb : (j : ℕ) → ltb j 0 ≡ true → ⊥
    no_ltb j e = let q : j < 0 = ltb-true j 0 e in omega arith

-- What is none of 01's list of what a Block, If or Match in mid-block isn't followed by stops an expression, and backwards.
pub record Ended (xs : List RowToken) : Type 0 where
  pub stopped : stop true 0 xs ≡ true
  pub equals : begins Token.Equals xs ≡ false
  pub semicolon : begins Token.Semicolon xs ≡ false

or_left : (a b : Bool) → (a || b) ≡ false → a ≡ false
or_left true b e = e
or_left false b e = refl

or_right : (a b : Bool) → (a || b) ≡ false → b ≡ false
or_right true b e = absurd (true≢false e)
or_right false b e = e

pub ended : (xs : List RowToken) → continues xs ≡ false → Ended xs
unfolding continues stop begins
ended [] e = record { stopped = refl; equals = refl; semicolon = refl }
ended (token k v ∷ xs) e =
    let a = or_right (eqb k Token.Dot) _ e in
    let b = or_right (eqb k Token.LeftRound) _ a in
    let c = or_right (eqb k Token.LeftCurly) _ b in
    let d = or_right (eqb k Token.Equals) _ c in
    record {
      stopped = go (eqb k Token.Dot) (eqb k Token.LeftRound) (eqb k Token.LeftCurly) (below (operator_of k) 0) (or_left (eqb k Token.Dot) _ e) (or_left (eqb k Token.LeftRound) _ a) (or_left (eqb k Token.LeftCurly) _ b) (role-loose (operator_of k) (role-binary k ∙ or_right (eqb k Token.Semicolon) _ d));
      equals = or_left (eqb k Token.Equals) _ c;
      semicolon = or_left (eqb k Token.Semicolon) _ d;
    }
  where
    go : (p q r s : Bool) → p ≡ false → q ≡ false → r ≡ false → s ≡ true → (not (p || (q || (true && r))) && s) ≡ true
    go p q r s a b c d = rw (a, b, c, d) refl

pub continues-not : (xs : List RowToken) → stop true 0 xs ≡ true → begins Token.Equals xs ≡ false → begins Token.Semicolon xs ≡ false → continues xs ≡ false
unfolding continues op_stop begins
continues-not [] e f g = refl
continues-not (token k v ∷ xs) e f g = let s = stop-elim true 0 (token k v ∷ xs) e in
    go (eqb k Token.Dot) (eqb k Token.LeftRound) (eqb k Token.LeftCurly) (eqb k Token.Equals) (eqb k Token.Semicolon) (is_binary k) s.dot s.par s.brace f g (sym (role-binary k) ∙ loose-role (operator_of k) s.op)
  where
    go : (a b c d e f : Bool) → a ≡ false → b ≡ false → c ≡ false → d ≡ false → e ≡ false → f ≡ false → (a || (b || (c || (d || (e || f))))) ≡ false
    go a b c d e f p q r s t u = rw (p, q, r, s, t, u) refl
