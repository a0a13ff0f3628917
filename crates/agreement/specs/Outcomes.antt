-- Laws of the steps that the parser of rows is made of.
use Rattle.std.specs.Prelude.{◌≡◌, refl, Bool, true, false, List, [], ◌∷◌, ℕ, eqb}
use Rattle.std.proofs.Common.{sym, ◌∙◌, ap, true≢false, eqb-true, eq-eqb}
use Rattle.std.proofs.lemmas.Bool.{false≢true}
use Rattle.chart.specs.Row.{Lexeme, RowToken, token, begins}
use Rattle.chart.specs.Tree.{Trees}
use Rattle.chart.specs.Parser.{Outcome, if, on, bind, try, nothing, failed}
use Rattle.chart.specs.Parser as Chart

-- The same on a token and without it.
pub on_same : (K : ℕ) (xs : List RowToken) (o : Outcome) → on K xs (λ _ _. o) o ≡ o
unfolding on if
on_same K [] o = refl
on_same K (token k v ∷ xs) o = go (eqb k K)
  where
    go : (b : Bool) → if b o o ≡ o
    go true = refl
    go false = refl

-- Another token begins the row.
pub on_none : (K : ℕ) (xs : List RowToken) (h : Lexeme → List RowToken → Outcome) (m : Outcome) → begins K xs ≡ false → on K xs h m ≡ m
unfolding on if begins
on_none K [] h m e = refl
on_none K (token k v ∷ xs) h m e = rw e refl

-- That token begins it.
pub on-first : (K : ℕ) (xs : List RowToken) (h : Lexeme → List RowToken → Outcome) (m : Outcome) {v : Lexeme} {ys : List RowToken} → xs ≡ token K v ∷ ys → on K xs h m ≡ h v ys
unfolding on if
on-first K xs h m e = rw (e, eq-eqb K K refl) refl

-- A row begins with one kind.
pub begins-other : (K L : ℕ) → eqb K L ≡ false → (xs : List RowToken) → begins K xs ≡ true → begins L xs ≡ false
unfolding begins
begins-other K L n [] e = absurd (true≢false (sym e))
begins-other K L n (token k v ∷ xs) e = let z : k ≡ K = eqb-true k K e in ap (λ (i : ℕ). eqb i L) z ∙ n

-- What is done with the token, and without it, is exchanged.
pub on_alike : (K : ℕ) (xs : List RowToken) (h g : Lexeme → List RowToken → Outcome) (m n : Outcome) → ((v : Lexeme) (ys : List RowToken) → xs ≡ token K v ∷ ys → h v ys ≡ g v ys) → (begins K xs ≡ false → m ≡ n) → on K xs h m ≡ on K xs g n
unfolding on if begins
on_alike K [] h g m n a b = b refl
on_alike K (token k v ∷ xs) h g m n a b = go (eqb k K) refl
  where
    go : (t : Bool) → eqb k K ≡ t → if t (h v xs) m ≡ if t (g v xs) n
    go true e = let q : k ≡ K = eqb-true k K e in a v xs (rw q refl)
    go false e = b e

-- Two tokens may be asked for in either order.
pub on-swap : (K L : ℕ) → eqb K L ≡ false → (xs : List RowToken) (h g : Lexeme → List RowToken → Outcome) (m : Outcome) → on K xs h (on L xs g m) ≡ on L xs g (on K xs h m)
unfolding on if
on-swap K L n [] h g m = refl
on-swap K L n (token k v ∷ xs) h g m = go (eqb k K) (eqb k L) refl refl
  where
    go : (a b : Bool) → eqb k K ≡ a → eqb k L ≡ b → if a (h v xs) (if b (g v xs) m) ≡ if b (g v xs) (if a (h v xs) m)
    go true true e q = let z : k ≡ K = eqb-true k K e in absurd (true≢false (sym q ∙ (ap (λ (i : ℕ). eqb i L) z ∙ n)))
    go true false e q = refl
    go false true e q = refl
    go false false e q = refl

-- What comes after is done on the token and without it.
pub bind-on : (K : ℕ) (xs : List RowToken) (h : Lexeme → List RowToken → Outcome) (m : Outcome) (c : Trees → List RowToken → Outcome) → bind (on K xs h m) c ≡ on K xs (λ v ys. bind (h v ys) c) (bind m c)
unfolding on if
bind-on K [] h m c = refl
bind-on K (token k v ∷ xs) h m c = go (eqb k K)
  where
    go : (b : Bool) → bind (if b (h v xs) m) c ≡ if b (bind (h v xs) c) (bind m c)
    go true = refl
    go false = refl

-- What comes after is exchanged.
pub bind-alike : (o : Outcome) (c d : Trees → List RowToken → Outcome) → ((t : Trees) (ys : List RowToken) → c t ys ≡ d t ys) → bind o c ≡ bind o d
unfolding bind
bind-alike (Chart.ok t ys) c d h = h t ys
bind-alike nothing c d h = refl
bind-alike failed c d h = refl
bind-alike Chart.deep c d h = refl

-- What comes after is grouped anew.
pub bind-bind : (o : Outcome) (c d : Trees → List RowToken → Outcome) → bind (bind o c) d ≡ bind o (λ t ys. bind (c t ys) d)
unfolding bind
bind-bind (Chart.ok t ys) c d = refl
bind-bind nothing c d = refl
bind-bind failed c d = refl
bind-bind Chart.deep c d = refl

-- A token that is there: what is done without it doesn't matter.
pub on-yes : (K : ℕ) (xs : List RowToken) (h : Lexeme → List RowToken → Outcome) (m m₁ : Outcome) → begins K xs ≡ true → on K xs h m ≡ on K xs h m₁
unfolding on begins if
on-yes K [] h m m₁ e = absurd (false≢true e)
on-yes K (token k v ∷ xs) h m m₁ e = rw (e, if)

-- What has to be there is what may be there, or the row is in no rule.
pub bind_try : (o : Outcome) (c : Trees → List RowToken → Outcome) → bind o c ≡ try o c failed
unfolding bind try
bind_try (Chart.ok t ys) c = refl
bind_try nothing c = refl
bind_try failed c = refl
bind_try Chart.deep c = refl
