-- Programs that come to the same, and the laws by which one is taken for the other.
use Rattle.std.specs.Prelude.{◌≡◌, List, [], ◌∷◌, length}
use Rattle.std.proofs.Math.Path.{refl, ap}
use Rattle.std.proofs.Common.{sym, ◌∙◌, arith}
use Rattle.std.proofs.Math.Bool.{Bool, true, false}
use Prim.Native.Nat.{ℕ, zero, suc, ◌≤◌}
use Rattle.definition.specs.declared.State.{State}
use Rattle.definition.specs.Prog.{Prog, Give, Then, Branch, give, ◌>>=◌, whether◌then◌else◌, Memory, Out, done, refused, bind, eval}
use Rattle.definition.specs.Tokens.{eat, if_eat◌then◌else◌}
use Rattle.reading.specs.declared.parser.Parser.{Parser}
use Rattle.reading.specs.Standing.{words}
use Rattle.reading.specs.Does.{run_of, Does}
use Rattle.stream.specs.Delimited.{alike, bind-bind}
use Rattle.answers.specs.Steps.{eat_first}
use Rattle.answers.specs.Rules.{bind-same}

pub bind_done : {A : Type 0} (x : Out A) → bind x (λ a s m. done a s m) ≡ x
bind_done (done a s m) = refl
bind_done (refused number place) = refl

-- Tokens, and what each begins.
pub data Ways (A : Type 0) : Type 1 where
  over : Ways A
  way : ℕ → Prog A → Ways A → Ways A

abbrev pub tokens_of : {A : Type 0} → Ways A → List ℕ
tokens_of over = []
tokens_of (way token p ws) = token ∷ tokens_of ws

-- The way at a place, or what is left where none is taken.
abbrev pub taken : {A : Type 0} → Ways A → Prog A → ℕ → Prog A
taken over q i = q
taken (way token p ws) q zero = p
taken (way token p ws) q (suc i) = taken ws q i

pub taken_none : {A : Type 0} (ws : Ways A) (q : Prog A) (i : ℕ) → length (tokens_of ws) ≤ i → taken ws q i ≡ q
taken_none over q i h = refl
taken_none (way token p ws) q zero h = absurd (omega arith)
taken_none (way token p ws) q (suc i) h = taken_none ws q i (omega arith)

-- `if self.eat(token) { p } else ..`
abbrev pub tried : {A : Type 0} → Ways A → Prog A → Prog A
tried over q = q
tried (way token p ws) q = if_eat token then p else tried ws q

-- Programs that come to the same.
pub record Same {A : Type 0} (text tokens : List ℕ) (d : ℕ) (p q : Prog A) : Type 0 where
  pub is : (s : State) (n : Memory) → run_of text tokens d p s n ≡ run_of text tokens d q s n

module _ {text tokens : List ℕ} {d : ℕ} where
  pub also : {A : Type 0} {p q t : Prog A} → Same text tokens d p q → Same text tokens d q t → Same text tokens d p t
  also e f = record { is = λ s n. e.is s n ∙ f.is s n }

  pub assoc : {A B C : Type 0} (p : Prog A) (f : A → Prog B) (g : B → Prog C) → Same text tokens d (Then (Then p f) g) (Then p (λ a. Then (f a) g))
  unfolding eval
  assoc p f g = record { is = λ s n. simp bind-bind }

  pub then_same : {A B : Type 0} (p : Prog A) {f g : A → Prog B} → ((a : A) → Same text tokens d (f a) (g a)) → Same text tokens d (Then p f) (Then p g)
  unfolding eval
  then_same p {f = f} {g = g} e = record { is = λ s n. bind-same (run_of text tokens d p s n) (λ a u k. run_of text tokens d (f a) u k) (λ a u k. run_of text tokens d (g a) u k) (λ a u k. (e a).is u k) }

  pub back : {A : Type 0} {p q : Prog A} → Same text tokens d p q → Same text tokens d q p
  back e = record { is = λ s n. sym (e.is s n) }

  pub first-same : {A B : Type 0} {p q : Prog A} (f : A → Prog B) → Same text tokens d p q → Same text tokens d (Then p f) (Then q f)
  unfolding eval
  first-same f e = record { is = λ s n. ap (λ o. bind o (λ a u k. run_of text tokens d (f a) u k)) (e.is s n) }

  pub branch_same : {A : Type 0} (b : Bool) {p q p' q' : Prog A} → Same text tokens d p p' → Same text tokens d q q' → Same text tokens d (Branch b p q) (Branch b p' q')
  unfolding eval
  branch_same true e f = record { is = λ s n. e.is s n }
  branch_same false e f = record { is = λ s n. f.is s n }

  pub itself : {A : Type 0} {p : Prog A} → Same text tokens d p p
  itself = record { is = λ s n. refl }

  pub ways-same : {A : Type 0} (ws : Ways A) (q : Prog A) → Same text tokens d (Then (eat_first (tokens_of ws)) (taken ws q)) (tried ws q)
  unfolding eat_first
  ways-same over q = record { is = λ s n. unfold eval in refl }
  ways-same {A = A} (way token p ws) q = also grouped (then_same (eat token) (ways (ways-same ws q)))
    where
      first : Bool → Prog ℕ
      first x =
          whether x then give 0 else do
            i ← eat_first (tokens_of ws)
            give (suc i)

      grouped : Same text tokens d (Then (eat_first (token ∷ tokens_of ws)) (taken (way token p ws) q)) (Then (eat token) (λ x. Then (first x) (taken (way token p ws) q)))
      grouped = record { is = λ s n. unfold eval eat_first in (simp bind-bind) }

      rest : Same text tokens d (Then (first false) (taken (way token p ws) q)) (Then (eat_first (tokens_of ws)) (taken ws q))
      rest = record { is = λ s n. unfold eval in ((assoc (eat_first (tokens_of ws)) (λ i. Give (suc i)) (taken (way token p ws) q)).is s n) }

      ways : Same text tokens d (Then (eat_first (tokens_of ws)) (taken ws q)) (tried ws q) → (x : Bool) → Same text tokens d (Then (first x) (taken (way token p ws) q)) (whether x then p else tried ws q)
      ways e true = record { is = λ s n. unfold eval in refl }
      ways e false = record { is = λ s n. unfold eval in ((also rest e).is s n) }

-- What does a program's steps does the program.
pub regrouped : {A : Type 0} {p q : Prog A} {a : A} {r r' : Parser} → Same r.text.now r.tokens.now r.levels p q → Does p r a r' → Does q r a r'
regrouped {r = r} e g = alike (e.is r.state (words r)) g
