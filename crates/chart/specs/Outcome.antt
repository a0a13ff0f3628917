-- Laws of the steps that the parser is made of.
use Rattle.std.specs.Prelude.{◌≡◌, refl, Bool, true, false, List, [], ◌∷◌, ℕ, eqb, T}
use Rattle.std.proofs.Common.{sym, ◌∙◌, subst, eqb→eq}
use Rattle.std.proofs.Math.Dec.{eqb_refl}
use Rattle.chart.specs.Row.{Lexeme, RowToken, begins, token}
use Rattle.chart.specs.Tree.{Trees}
use Rattle.chart.specs.Parser.{Outcome, if, on, bind, try, ok, nothing, failed, deep}

-- `r` is `s`, or the depth was not enough, and then `B` holds of it.
pub data Meets (B : Type 0) (r s : Outcome) : Type 0 where
  same : r ≡ s → Meets B r s
  sunk : r ≡ deep → B → Meets B r s

pub good-ok : {B : Type 0} {r : Outcome} → Meets B r r
good-ok = same refl

pub weaken : {B C : Type 0} {r s : Outcome} → (B → C) → Meets B r s → Meets C r s
weaken f (same e) = same e
weaken f (sunk e b) = sunk e (f b)

pub good-trans : {B : Type 0} {r s u : Outcome} → Meets B r s → Meets B s u → Meets B r u
good-trans (same e) (same h) = same (e ∙ h)
good-trans (same e) (sunk h b) = sunk (e ∙ h) b
good-trans (sunk e b) g = sunk e b

pub if-true : {B : Type 0} (b : Bool) (x y : Outcome) {s : Outcome} → b ≡ true → Meets B x s → Meets B (if b x y) s
unfolding if
if-true b x y e g = rw e g

pub if-false : {B : Type 0} (b : Bool) (x y : Outcome) {s : Outcome} → b ≡ false → Meets B y s → Meets B (if b x y) s
unfolding if
if-false b x y e g = rw e g

eqb_same : (n : ℕ) → eqb n n ≡ true
eqb_same n = go (eqb n n) (eqb_refl n)
  where
    go : (b : Bool) → T b → b ≡ true
    go true t = refl
    go false t = absurd t

pub on-hit : {B : Type 0} (K : ℕ) (v : Lexeme) (xs : List RowToken) (h : Lexeme → List RowToken → Outcome) (m : Outcome) {s : Outcome} → Meets B (h v xs) s → Meets B (on K (token K v ∷ xs) h m) s
unfolding on
on-hit K v xs h m g = if-true _ _ _ (eqb_same K) g

pub on-miss : {B : Type 0} (K : ℕ) (xs : List RowToken) (h : Lexeme → List RowToken → Outcome) (m : Outcome) {s : Outcome} → begins K xs ≡ false → Meets B m s → Meets B (on K xs h m) s
unfolding on begins
on-miss K [] h m e g = g
on-miss K (token k v ∷ xs) h m e g = if-false _ _ _ e g

pub bind-good : {B : Type 0} {r s : Outcome} {t : Trees} {ys : List RowToken} (k : Trees → List RowToken → Outcome) → Meets B r (ok t ys) → Meets B (k t ys) s → Meets B (bind r k) s
unfolding bind
bind-good k (same e) g = rw e g
bind-good k (sunk e b) g = sunk (rw e refl) b

pub try-good : {B : Type 0} {r s : Outcome} {t : Trees} {ys : List RowToken} (k : Trees → List RowToken → Outcome) (z : Outcome) → Meets B r (ok t ys) → Meets B (k t ys) s → Meets B (try r k z) s
unfolding try
try-good k z (same e) g = rw e g
try-good k z (sunk e b) g = sunk (rw e refl) b

pub try-none : {B : Type 0} {r s : Outcome} (k : Trees → List RowToken → Outcome) (z : Outcome) → Meets B r nothing → Meets B z s → Meets B (try r k z) s
unfolding try
try-none k z (same e) g = rw e g
try-none k z (sunk e b) g = sunk (rw e refl) b

-- Backwards: what it says of the parts that trees were read.

IsDerived : Outcome → Type 0
IsDerived (ok t ys) = Unit {0}
IsDerived nothing = ⊥
IsDerived failed = ⊥
IsDerived deep = ⊥

pub not-nothing : {t : Trees} {ys : List RowToken} {C : Type 0} → nothing ≡ ok t ys → C
unfolding IsDerived
not-nothing e = absurd (subst IsDerived (sym e) tt)

pub not-fail : {t : Trees} {ys : List RowToken} {C : Type 0} → failed ≡ ok t ys → C
unfolding IsDerived
not-fail e = absurd (subst IsDerived (sym e) tt)

pub not-deep : {t : Trees} {ys : List RowToken} {C : Type 0} → deep ≡ ok t ys → C
unfolding IsDerived
not-deep e = absurd (subst IsDerived (sym e) tt)

pub if-elim : {C : Type 0} (b : Bool) (x y : Outcome) {s : Outcome} → if b x y ≡ s → (b ≡ true → x ≡ s → C) → (b ≡ false → y ≡ s → C) → C
unfolding if
if-elim true x y e f g = f refl e
if-elim false x y e f g = g refl e

true-eq : (k K : ℕ) → eqb k K ≡ true → k ≡ K
true-eq k K e = eqb→eq k K (subst T (sym e) tt)

pub on-elim : (C : List RowToken → Type 0) (K : ℕ) (xs : List RowToken) (h : Lexeme → List RowToken → Outcome) (m : Outcome) {s : Outcome} → on K xs h m ≡ s
    → ((v : Lexeme) (zs : List RowToken) → h v zs ≡ s → C (token K v ∷ zs)) → (begins K xs ≡ false → m ≡ s → C xs) → C xs
unfolding on begins
on-elim C K [] h m e f g = g refl e
on-elim C K (token k v ∷ xs) h m e f g = if-elim (eqb k K) _ _ e (λ b q. subst (λ n. C (token n v ∷ xs)) (sym (true-eq k K b)) (f v xs q)) g

pub bind-elim : {C : Type 0} (r : Outcome) {u : Trees} {zs : List RowToken} (k : Trees → List RowToken → Outcome) → bind r k ≡ ok u zs
    → ((t : Trees) (ys : List RowToken) → r ≡ ok t ys → k t ys ≡ ok u zs → C) → C
unfolding bind
bind-elim (ok t ys) k e f = f t ys refl e
bind-elim nothing k e f = not-fail e
bind-elim failed k e f = not-fail e
bind-elim deep k e f = not-deep e

pub try-elim : {C : Type 0} (r : Outcome) {u : Trees} {zs : List RowToken} (k : Trees → List RowToken → Outcome) (z : Outcome) → try r k z ≡ ok u zs
    → ((t : Trees) (ys : List RowToken) → r ≡ ok t ys → k t ys ≡ ok u zs → C) → (r ≡ nothing → z ≡ ok u zs → C) → C
unfolding try
try-elim (ok t ys) k z e f g = f t ys refl e
try-elim nothing k z e f g = g refl e
try-elim failed k z e f g = not-fail e
try-elim deep k z e f g = not-deep e
