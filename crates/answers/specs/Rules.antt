-- Rules for programs that one function does as a part of another's.
use Rattle.std.specs.Prelude.{◌≡◌, refl, Bool, true, false, ◌||◌, List, [], ◌∷◌, ℕ, ◌≤◌, is_some, Option as Maybe, Some, None}
use Rattle.std.proofs.Math.Option.{Option, none, some}
use Rattle.std.proofs.Common.{arith, ne_eqb}
use Rattle.definition.specs.declared.State.{State}
use Rattle.definition.specs.Prog.{Prog, Then, Branch, Memory, Out, done, refused, bind}
use Rattle.definition.specs.Tokens.{check, eat}
use Rattle.definition.specs.Nodes.{flag}
use Rattle.definition.specs.Expressions.{Binary, binary_of, eats, checks, ◌or_else◌}
use Rattle.reading.specs.declared.parser.Parser.{Parser}
use Rattle.reading.specs.Does.{Does, then, gives, when_true, when_false}
use Rattle.stream.specs.Delimited.{regroup-both}
use Rattle.cst.specs.Cst.{maybe}
use Rattle.answers.specs.Parts.{one_of}
-- A part of two steps stands for its steps.
pub use Rattle.stream.specs.Delimited.{regroup as two}

pub bind-same : {A B : Type 0} (x : Out A) (f g : A → State → Memory → Out B) → ((a : A) (s : State) (m : Memory) → f a s m ≡ g a s m) → bind x f ≡ bind x g
bind-same (done a s m) f g e = e a s m
bind-same (refused number place) f g e = refl

module _ {r r' : Parser} where
  -- `if let Some(node) = p { return Some(node); }`
  pub or_some : {p q : Prog (Option ℕ)} (x : Maybe ℕ) → is_some x ≡ true → Does p r (maybe x) r' → Does (p or_else q) r (maybe x) r'
  or_some (Some n) h e = then e gives
  or_some None h e = absurd (let z : ◌≡◌ {A = ℕ} 0 1 = cc in omega arith)

module _ {r r₁ r₂ : Parser} where
  pub or-missed : {p q : Prog (Option ℕ)} {a : Option ℕ} → Does p r none r₁ → Does q r₁ a r₂ → Does (p or_else q) r a r₂
  or-missed e g = then e g

  pub or-none : {p q : Prog (Option ℕ)} (x : Maybe ℕ) {a : Option ℕ} → is_some x ≡ false → Does p r (maybe x) r₁ → Does q r₁ a r₂
      → Does (p or_else q) r a r₂
  or-none (Some n) h e g = absurd (let z : ◌≡◌ {A = ℕ} 0 1 = cc in omega arith)
  or-none None h e g = then e g

  -- `if self.eat(token) { .. }`, and the same with `check`.
  pub eats-found : (token : ℕ) {n : ℕ} {b : Bool} {p : Prog ℕ} → Does (eat token) r b r₁ → b ≡ true → Does p r₁ n r₂
      → Does (eats token p) r (some n) r₂
  unfolding eats
  eats-found token e h g = then e (when_true h (then g gives))

  pub checks-found : (token : ℕ) {n : ℕ} {b : Bool} {p : Prog ℕ} → Does (check token) r b r₁ → b ≡ true → Does p r₁ n r₂
      → Does (checks token p) r (some n) r₂
  unfolding checks
  checks-found token e h g = then e (when_true h (then g gives))

  -- Both of two tokens are looked for, then one of two ways is gone.
  pub one-of : {A : Type 0} (first second : ℕ) {b : Bool} {p q : Prog A} {a : A} → Does (one_of first second) r b r₁ → Does (Branch b p q) r₁ a r₂
      → Does (Then (check first) (λ x. Then (check second) (λ y. Branch (x || y) p q))) r a r₂
  one-of first second {p = p} {q = q} e g = regroup-both {f = λ x y. x || y} {g = λ b. Branch b p q} (then e g)

module _ {r r₁ : Parser} where
  pub eats-missed : (token : ℕ) (p : Prog ℕ) {b : Bool} → Does (eat token) r b r₁ → b ≡ false → Does (eats token p) r none r₁
  unfolding eats
  eats-missed token p e h = then e (when_false h gives)

  pub checks-missed : (token : ℕ) (p : Prog ℕ) {b : Bool} → Does (check token) r b r₁ → b ≡ false → Does (checks token p) r none r₁
  unfolding checks
  checks-missed token p e h = then e (when_false h gives)

-- ---- operators and flags

-- A token that is none of some operators.
unfoldable pub NoneOf : List Binary → ℕ → Type 0
NoneOf [] token = Unit {0}
NoneOf (b ∷ bs) token = (token ≡ b.token → ⊥) × NoneOf bs token

pub no-binary : (bs : List Binary) (token : ℕ) → NoneOf bs token → none ≡ binary_of bs token
unfolding binary_of NoneOf
no-binary [] token h = refl
no-binary (b ∷ bs) token h = rw (ne_eqb token b.token h.0, binary_of) (no-binary bs token h.1)

pub flag_small : (set : Bool) (bit : ℕ) {n : ℕ} → n ≡ flag set bit → n ≤ bit
flag_small true bit e = omega arith
flag_small false bit e = omega arith
