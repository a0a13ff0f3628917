-- What a function of the parser does, held against a program of the definition; and the rules by which such functions,
-- called one after the other, do what programs do one after the other.
use Rattle.std.specs.Prelude.{◌≡◌, refl, Bool, true, false, List, ℕ, ◌+◌, Option, Some, None}
use Rattle.std.proofs.Common.{sym, ◌∙◌}
use Rattle.words.specs.Refusal.{number}
use Rattle.words.specs.declared.refusal.Refusal.{Refusal}
use Rattle.words.specs.declared.refusal.Refused.{Refused}
use Rattle.definition.specs.declared.State.{State}
use Rattle.definition.specs.Prog.{Prog, Give, Then, Branch, Memory, Out, done, refused, bind, eval}
use Rattle.definition.specs.Parse.{readers, token_limit}
use Rattle.reading.specs.declared.parser.Parser.{Parser}
use Rattle.reading.specs.Source.{Right}
use Rattle.reading.specs.Standing.{is_refused, words, refused_at, Kept}

-- A parser goes on from where it stands, or was refused and stays so.
abbrev pub from : {A : Type 0} → Parser → (State → Memory → Out A) → Out A
from p k = elim p.refused [ None ↦ k p.state (words p) | Some r ↦ refused (number r.refusal) r.place ]

-- What a function answers, with the words at its end.
abbrev pub view : {A : Type 0} → A → Parser → Out A
view a p = from p (λ s m. done a s m)

-- A loop has more turns than there are tokens.
abbrev pub turns_of : List ℕ → ℕ
turns_of tokens = token_limit tokens + 1

abbrev pub run_of : {A : Type 0} → List ℕ → List ℕ → ℕ → Prog A → State → Memory → Out A
run_of text tokens levels c s m = eval text tokens (turns_of tokens) (readers text tokens (turns_of tokens) levels) c s m

abbrev pub run : {A : Type 0} → Parser → Prog A → State → Memory → Out A
run p c s m = run_of p.text.now p.tokens.now p.levels c s m

-- A function that starts with the parser `p`, answers `a` and leaves `p'` does what the program does. A table of names behind the text
-- must be right for that.
-- Free are the words, the answer and the state of a parser that was refused, which `view` leaves out: every function leaves it so,
-- and `parse`, which all others are called from, clears the three slices then; so its own equation has every word.
pub record Does {A : Type 0} (c : Prog A) (p : Parser) (a : A) (p' : Parser) : Type 0 where
  pub is : Right p.text.now p.tokens.now → view a p' ≡ from p (run p c)
  pub kept : Kept p p'

-- A function that takes one step of the definition's, which goes by no table of names.
pub record Steps (step : List ℕ → List ℕ → State → Memory → Out (Unit {0})) (p p' : Parser) : Type 0 where
  pub is : view tt p' ≡ from p (step p.text.now p.tokens.now)
  pub kept : Kept p p'

pub same : {p : Parser} → Kept p p
same = record { text = refl; tokens = refl; nodes = refl; values = refl; reports = refl; levels = refl }

pub kept_then : {p p₁ p₂ : Parser} → Kept p p₁ → Kept p₁ p₂ → Kept p p₂
kept_then e g =
    record {
      text = g.text ∙ e.text;
      tokens = g.tokens ∙ e.tokens;
      nodes = g.nodes ∙ e.nodes;
      values = g.values ∙ e.values;
      reports = g.reports ∙ e.reports;
      levels = g.levels ∙ e.levels;
    }

-- After a step, the parser goes on from where the step left it.
module _ {A B : Type 0} where
  pub from-bind : (x : A) (p p₁ : Parser) (g : State → Memory → Out A) (h : State → Memory → Out B) (k : A → State → Memory → Out B)
      → view x p₁ ≡ from p g → ((s : State) (n : Memory) → h s n ≡ bind (g s n) k) → from p₁ (k x) ≡ from p h
  from-bind x p p₁ g h k e eq = go p.refused p₁.refused refl refl
    where
      go : (t u : Option Refused) → p.refused ≡ t → p₁.refused ≡ u → from p₁ (k x) ≡ from p h
      go None None et eu =
          let e' : done x p₁.state (words p₁) ≡ g p.state (words p) = rw (eu, et) at e in
          rw (et, eu, eq p.state (words p), ← e')
      go None (Some z) et eu =
          let e' : refused (number z.refusal) z.place ≡ g p.state (words p) = rw (eu, et) at e in
          rw (et, eu, eq p.state (words p), ← e')
      go (Some y) None et eu =
          let e' : ◌≡◌ {A = Out A} (done x p₁.state (words p₁)) (refused (number y.refusal) y.place) = rw (eu, et) at e in
          absurd cc
      go (Some y) (Some z) et eu =
          let e' : ◌≡◌ {A = Out A} (refused (number z.refusal) z.place) (refused (number y.refusal) y.place) = rw (eu, et) at e in
          let n : number z.refusal ≡ number y.refusal = cc in
          let l : z.place ≡ y.place = cc in
          rw (et, eu, n, l)

  pub then-view : (x : A) (b : B) (p p₁ p₂ : Parser) (g : State → Memory → Out A) (h : State → Memory → Out B) (k : A → State → Memory → Out B)
      → view x p₁ ≡ from p g → view b p₂ ≡ from p₁ (k x) → ((s : State) (n : Memory) → h s n ≡ bind (g s n) k) → view b p₂ ≡ from p h
  then-view x b p p₁ p₂ g h k e f eq = f ∙ from-bind x p p₁ g h k e eq

-- What is kept decides what a program's run is.
pub shifted : {A : Type 0} {c : Prog A} {a : A} {p p₁ p₂ : Parser} → Kept p p₁ → Does c p₁ a p₂ → Right p.text.now p.tokens.now → view a p₂ ≡ from p₁ (run p c)
shifted {c = c} {a = a} {p = p} {p₁ = p₁} {p₂ = p₂} k g = go p.text.now p₁.text.now p.tokens.now p₁.tokens.now p.levels p₁.levels (cc) (cc) (cc) g.is
  where
    go : (text text' tokens tokens' : List ℕ) (levels levels' : ℕ) → text' ≡ text → tokens' ≡ tokens → levels' ≡ levels
        → (Right text' tokens' → view a p₂ ≡ from p₁ (run_of text' tokens' levels' c)) → Right text tokens → view a p₂ ≡ from p₁ (run_of text tokens levels c)
    go text text' tokens tokens' levels levels' e f h does w = rw (e, f, h) at (does (rw (e, f) w))

-- What is done where the table is right is all that is asked.
pub granted : {A : Type 0} {c : Prog A} {p p' : Parser} {a : A} → Kept p p' → (Right p.text.now p.tokens.now → Does c p a p') → Does c p a p'
granted k f = record { is = λ w. (f w).is w; kept = k }

pub not_refused : (p : Parser) → is_refused p ≡ false → p.refused ≡ None
not_refused p h = go p.refused refl
  where
    go : (t : Option Refused) → p.refused ≡ t → p.refused ≡ None
    go None e = e
    go (Some r) e =
        let h' : true ≡ false = rw e at h in
        absurd cc

pub refused-kept : {p : Parser} {r : Refusal} → Kept p (refused_at p r)
refused-kept = record { text = refl; tokens = refl; nodes = refl; values = refl; reports = refl; levels = refl }

-- A parser that was refused stays so, whatever is tried.
pub standing : {A : Type 0} (a : A) (p : Parser) (k : State → Memory → Out A) → is_refused p ≡ true → view a p ≡ from p k
standing a p k h = go p.refused refl
  where
    go : (t : Option Refused) → p.refused ≡ t → view a p ≡ from p k
    go None e =
        let h' : false ≡ true = rw e at h in
        absurd cc
    go (Some r) e = rw e

module _ {p : Parser} where
  pub gives : {A : Type 0} {a : A} → Does (Give a) p a p
  unfolding eval
  gives = record { is = λ w. refl; kept = same }

  pub then : {A B : Type 0} {c : Prog A} {f : A → Prog B} {a : A} {b : B} {p₁ p₂ : Parser} → Does c p a p₁ → Does (f a) p₁ b p₂ → Does (Then c f) p b p₂
  then {c = c} {f = f} {a = a} {b = b} {p₁ = p₁} {p₂ = p₂} e g =
      record {
        is = λ w. then-view a b p p₁ p₂ (run p c) (run p (Then c f)) (λ x s n. run p (f x) s n) (e.is w) (shifted e.kept g w) (λ s n. unfold eval in refl);
        kept = kept_then e.kept g.kept;
      }

  pub when_true : {A : Type 0} {b : Bool} {c d : Prog A} {a : A} {p' : Parser} → b ≡ true → Does c p a p' → Does (Branch b c d) p a p'
  unfolding eval
  when_true e g = record { is = λ w. rw e (g.is w); kept = g.kept }

  pub when_false : {A : Type 0} {b : Bool} {c d : Prog A} {a : A} {p' : Parser} → b ≡ false → Does d p a p' → Does (Branch b c d) p a p'
  unfolding eval
  when_false e g = record { is = λ w. rw e (g.is w); kept = g.kept }

  pub stays : {A : Type 0} {c : Prog A} {a : A} → is_refused p ≡ true → Does c p a p
  stays {c = c} {a = a} h = record { is = λ w. standing a p (run p c) h; kept = same }

  -- One that goes on does what the program's run says.
  pub goes : {A : Type 0} {c : Prog A} {a : A} {p' : Parser} → is_refused p ≡ false → p'.refused ≡ p.refused → Kept p p'
      → run p c p.state (words p) ≡ done a p'.state (words p') → Does c p a p'
  goes {p' = p'} h g k e = record { is = λ w. rw (g, not_refused p h) (sym e); kept = k }

  -- Or is refused, whatever words and state it then has.
  pub halts-so : {A : Type 0} {c : Prog A} {a : A} {r : Refusal} {p' : Parser} → is_refused p ≡ false → p'.refused ≡ (refused_at p r).refused → Kept p p'
      → run p c p.state (words p) ≡ refused (number r) p.state.cursor.at → Does c p a p'
  halts-so h g k e = record { is = λ w. rw (g, not_refused p h) (sym e); kept = k }

  pub halts : {A : Type 0} {c : Prog A} {a : A} {r : Refusal} → is_refused p ≡ false → run p c p.state (words p) ≡ refused (number r) p.state.cursor.at → Does c p a (refused_at p r)
  halts h e = halts-so h refl refused-kept e
