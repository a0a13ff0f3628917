-- The nine rules of operators as one: a rule of any level, by the role that the parser of rows looks up.
-- A function that goes by cases on derivations has a clause for each of the nine; all cite one law, with `role 0` to `role 8`.
use Rattle.std.specs.Prelude.{◌≡◌, refl, Bool, true, cond, ◌⊎◌, ℕ, zero, suc, ◌+◌, eqb, get_or}
use Rattle.std.proofs.Common.{sym, true≢false, arith, eqb-true}
use Rattle.std.proofs.Math.Path.{ap}
use Rattle.std.proofs.Math.Bool.{false}
use Rattle.std.proofs.Math.Logic.{inl, inr}
use mathlib.Core.List.{List, [], ◌∷◌, tail}
use Rattle.chart.specs.Row.{Lexeme, RowToken, token}
use Rattle.chart.specs.Tree.{Trees}
use Rattle.chart.specs.Chart
use Rattle.chart.specs.Chart.{Operator, operator, levels, OneOf, this, other, binary_tree, Derives, level}
use Rattle.chart.specs.Parser.{Role, not_binary, binary_of, within, lookup, operator_of}
use Rattle.chart.proofs.Laws.{has_role}

-- What `f` gives for each operator of a row, before `rest`.
abbrev pub of_row : {A : Type 0} → (ℕ → ℕ → A) → List Operator → List A → List A
of_row f [] rest = rest
of_row f (operator o op ∷ r) rest = f o op ∷ of_row f r rest

-- What `f` gives for each level, with each operator of its row.
abbrev pub of_levels : {A : Type 0} → (ℕ → ℕ → ℕ → A) → List (List Operator) → List A
of_levels f [] = []
of_levels f (r ∷ rs) = of_row (f 0) r (of_levels (λ k. f (suc k)) rs)

in_row : {A : Type 0} (f g : ℕ → ℕ → A) (r : List Operator) (x y : List A) → of_row f r x ≡ of_row g r y → {o op : ℕ} → OneOf r o op → f o op ≡ g o op
in_row {A = A} f g [] x y e {o = o} {op = op} x4 = elim x4 [ ]
in_row f g (operator o op ∷ r) x y e this = ap (λ l. get_or l 0 (f o op)) e
in_row f g (operator o op ∷ r) x y e (other a) = in_row f g r x y (ap tail e) a

past_row : {A : Type 0} (f g : ℕ → ℕ → A) (r : List Operator) (x y : List A) → of_row f r x ≡ of_row g r y → x ≡ y
past_row f g [] x y e = e
past_row f g (operator o op ∷ r) x y e = past_row f g r x y (ap tail e)

-- What a computed statement says of all operators holds of the one that a rule has.
pub each : {A : Type 0} (f g : ℕ → ℕ → ℕ → A) (rs : List (List Operator)) → of_levels f rs ≡ of_levels g rs → (k : ℕ) {o op : ℕ} → OneOf (get_or rs k []) o op → f k o op ≡ g k o op
each f g [] e k a = elim a [ ]
each f g (r ∷ rs) e zero a = in_row (f 0) (g 0) r _ _ e a
each f g (r ∷ rs) e (suc k) a = each (λ k. f (suc k)) (λ k. g (suc k)) rs (past_row (f 0) (g 0) r _ _ e) k a

-- An operator of a level's row has the level's role.
pub role : (k : ℕ) {o op : ℕ} → OneOf (get_or levels k []) o op → operator_of o ≡ binary_of k op
unfolding operator_of lookup within
role = each (λ k o op. operator_of o) (λ k o op. binary_of k op) levels refl

level_in : Role → ℕ
level_in not_binary = 0
level_in (binary_of j op) = j

payload_in : Role → ℕ
payload_in not_binary = 0
payload_in (binary_of j op) = op

within-one : (j k op : ℕ) (r : List Operator) (o : ℕ) (rest : Role) → within j r o rest ≡ binary_of k op → ((j ≡ k) × OneOf r o op) ⊎ (rest ≡ binary_of k op)
unfolding within
within-one j k op [] o rest e = inr e
within-one j k op (operator o' op' ∷ r) o rest e = go (eqb o o') refl e (within-one j k op r o rest)
  where
    Found : List Operator → Type 0
    Found r = ((j ≡ k) × OneOf r o op) ⊎ (rest ≡ binary_of k op)

    go : (b : Bool) → eqb o o' ≡ b → cond b (binary_of j op') (within j r o rest) ≡ binary_of k op → (within j r o rest ≡ binary_of k op → Found r) → Found (operator o' op' ∷ r)
    go true h e f =
        let x : o ≡ o' = eqb-true o o' h in
        let y : op' ≡ op = unfold payload_in in ap payload_in e in
        inl (unfold level_in in ap level_in e, rw (x, y) this)
    go false h e f = elim (f e) [ inl q ↦ inl (q.0, other q.1) | inr q ↦ inr q ]

lookup-one : (j k op : ℕ) (rs : List (List Operator)) (o : ℕ) → lookup j rs o ≡ binary_of k op → (i : ℕ) × (k ≡ j + i) × OneOf (get_or rs i []) o op
unfolding lookup
lookup-one j k op [] o e = absurd (true≢false (sym (ap has_role e)))
lookup-one j k op (r ∷ rs) o e = go (within-one j k op r o (lookup (suc j) rs o) e) (lookup-one (suc j) k op rs o)
  where
    go : ((j ≡ k) × OneOf r o op) ⊎ (lookup (suc j) rs o ≡ binary_of k op) → (lookup (suc j) rs o ≡ binary_of k op → (i : ℕ) × (k ≡ suc j + i) × OneOf (get_or rs i []) o op)
        → (i : ℕ) × (k ≡ j + i) × OneOf (get_or (r ∷ rs) i []) o op
    go (inl (q, a)) f = (0, omega arith, a)
    go (inr q) f = let (i, h, a) = f q in (suc i, omega arith, a)

-- And what has a level's role is an operator of its row.
pub one-of : {o k op : ℕ} → operator_of o ≡ binary_of k op → OneOf (get_or levels k []) o op
unfolding operator_of
one-of {o} {k} {op} e = let (i, q, a) = lookup-one 0 k op levels o e in let z : k ≡ i = omega arith in rw z a

-- The rule of any level.
pub binary : {m : Bool} {k o op : ℕ} {v : Lexeme} {xs ys zs : List RowToken} {t u : Trees} → operator_of o ≡ binary_of k op
    → Derives (level m k) xs (token o v ∷ ys) t → Derives (level m (suc k)) ys zs u → Derives (level m k) xs zs (binary_tree op t u)
binary {m} {k} {o} {op} {v} {xs} {ys} {zs} {t} {u} e = go k (one-of e)
  where
    go : (k : ℕ) → OneOf (get_or levels k []) o op → Derives (level m k) xs (token o v ∷ ys) t → Derives (level m (suc k)) ys zs u → Derives (level m k) xs zs (binary_tree op t u)
    go zero = Chart.or
    go (suc zero) = Chart.and
    go (suc (suc zero)) = Chart.comparison
    go (suc (suc (suc zero))) = Chart.pipe
    go (suc (suc (suc (suc zero)))) = Chart.caret
    go (suc (suc (suc (suc (suc zero))))) = Chart.ampersand
    go (suc (suc (suc (suc (suc (suc zero)))))) = Chart.shift
    go (suc (suc (suc (suc (suc (suc (suc zero))))))) = Chart.sum
    go (suc (suc (suc (suc (suc (suc (suc (suc zero)))))))) = Chart.product
    go (suc (suc (suc (suc (suc (suc (suc (suc (suc k))))))))) = elim [ ]
