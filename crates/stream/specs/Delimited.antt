-- A turn of the loop in `parse_delimited`, over any list: what its functions do, one after the other, is the turn that goes on
-- or the last. And the law for functions that do a part of a program: how steps are grouped doesn't matter.
use Rattle.std.specs.Prelude.{◌≡◌, Bool, true, false, not, ◌||◌, ℕ, ◌+◌, ◌≤◌, ◌<◌, Some, None}
use Rattle.std.proofs.Math.Path.{refl}
use Rattle.std.proofs.Common.{◌∙◌, ap}
use Rattle.std.proofs.Math.Option.{Option, none, some}
use Rattle.definition.specs.declared.State.{State}
use Rattle.definition.specs.Prog.{Prog, Act, Give, Then, Branch, give, ◌>>=◌, ◌>>◌, loop, when, pass, Memory, Out, done, refused, bind, eval}
use Rattle.definition.specs.Tokens.{check, eat, eof, emit_unexpected, expect, delimited, delimited_turn, parse_delimited}
use Rattle.words.specs.Refusal.{number}
use Rattle.reading.specs.Standing.{is_refused, words}
use Rattle.reading.specs.declared.parser.Parser.{Parser}
use Rattle.reading.specs.Does.{Does, run, then, gives, when_true, when_false, turns_of}
use Rattle.reading.specs.Turns.{Turns, first-turn, next-turn, last_turn, no-turn-left, refused-turn}

pub bind-bind : {A B C : Type 0} (o : Out A) (f : A → State → Memory → Out B) (g : B → State → Memory → Out C) → bind (bind o f) g ≡ bind o (λ a s m. bind (f a s m) g)
bind-bind (done a s m) f g = refl
bind-bind (refused number place) f g = refl

twice : {A B C D : Type 0} (o : Out A) (q : State → Memory → Out B) (f : A → B → C) (g : C → State → Memory → Out D)
    → bind (bind o (λ a s m. bind (q s m) (λ b t n. done (f a b) t n))) g ≡ bind o (λ a s m. bind (q s m) (λ b t n. g (f a b) t n))
twice (done a s m) q f g = bind-bind (q s m) (λ b t n. done (f a b) t n) g
twice (refused number place) q f g = refl

module _ {r r' : Parser} where
  -- What does a program does any other that comes to the same.
  pub alike : {A : Type 0} {p q : Prog A} {a : A} → run r p r.state (words r) ≡ run r q r.state (words r) → Does p r a r' → Does q r a r'
  alike {A = A} e g = record { is = λ w. g.is w ∙ ap (λ (o : Out A). elim r.refused [ None ↦ o | Some x ↦ refused (number x.refusal) x.place ]) e; kept = g.kept }

  pub regroup : {A B C : Type 0} {p : Prog A} {f : A → Prog B} {g : B → Prog C} {c : C} → Does (Then (Then p f) g) r c r' → Does (Then p (λ a. Then (f a) g)) r c r'
  unfolding eval
  regroup {p = p} {f = f} {g = g} h = alike (bind-bind (run r p r.state (words r)) (λ a s n. run r (f a) s n) (λ b s n. run r (g b) s n)) h

  -- The same where the first steps only make what the others go by.
  pub regroup-one : {A B C : Type 0} {p : Prog A} {f : A → B} {g : B → Prog C} {c : C} → Does (Then (Then p (λ a. Give (f a))) g) r c r' → Does (Then p (λ a. g (f a))) r c r'
  unfolding eval
  regroup-one {p = p} {f = f} {g = g} h = alike (bind-bind (run r p r.state (words r)) (λ a s n. done (f a) s n) (λ b s n. run r (g b) s n)) h

  pub regroup-both : {A B C D : Type 0} {p : Prog A} {q : Prog B} {f : A → B → C} {g : C → Prog D} {e : D} → Does (Then (Then p (λ a. Then q (λ b. Give (f a b)))) g) r e r' → Does (Then p (λ a. Then q (λ b. g (f a b)))) r e r'
  unfolding eval
  regroup-both {p = p} {q = q} {f = f} {g = g} h = alike (twice (run r p r.state (words r)) (λ s n. run r q s n) f (λ c s n. run r (g c) s n)) h

-- The loop alone, without the tokens around the list.
unfoldable pub elements : {S : Type 0} → ℕ → ℕ → (S → Prog (Option S)) → S → Prog S
elements terminator delimiter element first = do
  d ← loop (delimited first false) (delimited_turn terminator delimiter element)
  give d.list

-- Whether a list ends here: at its terminator, or at the end of all.
unfoldable pub list_ends : ℕ → Prog Bool
list_ends terminator = do
  closed ← check terminator
  ended ← eof
  give (closed || ended)

module _ {r r₁ r₂ : Parser} (terminator : ℕ) where
  ends : {A : Type 0} {p q : Prog A} {b : Bool} {a : A} → Does (list_ends terminator) r b r₁ → Does (Branch b p q) r₁ a r₂
      → Does (Then (check terminator) (λ closed. Then eof (λ ended. Branch (closed || ended) p q))) r a r₂
  unfolding list_ends
  ends {p = p} {q = q} g h = regroup-both {f = λ closed ended. closed || ended} {g = λ b. Branch b p q} (then g h)

-- A token that no element starts with is passed, with a report unless one was made since the last element.
unfoldable pub pass_unexpected : Bool → Act
pass_unexpected emitted = do
  when (not emitted) emit_unexpected
  pass

-- What is left of a list's loop after i turns comes to what the whole loop comes to.
pub record Listing {S : Type 0} (terminator delimiter : ℕ) (element : S → Prog (Option S)) (first : S) (r₀ : Parser) (i : ℕ) (list : S) (emitted : Bool) (r : Parser) : Type 0 where
  pub is : Turns (delimited_turn terminator delimiter element) (delimited first false) r₀ i (delimited list emitted) r

module _ {S : Type 0} {terminator delimiter : ℕ} {element : S → Prog (Option S)} {first : S} {r₀ : Parser} where
  pub list-starts : Listing terminator delimiter element first r₀ 0 first false r₀
  list-starts = record { is = first-turn }

  module _ {i : ℕ} {list : S} {emitted : Bool} {r : Parser} (t : Listing terminator delimiter element first r₀ i list emitted r) where
    pub list-refused : is_refused r ≡ true → Does (elements terminator delimiter element first) r₀ list r
    unfolding elements
    list-refused h = then (refused-turn t.is h) gives

    pub list_over : {n : ℕ} → n ≡ turns_of r₀.tokens.now → n ≤ i → Does (elements terminator delimiter element first) r₀ list r
    unfolding elements
    list_over e h = then (no-turn-left t.is e h) gives

    module _ {next : S} {r₁ r₂ : Parser} {n : ℕ} (all : n ≡ turns_of r₀.tokens.now) (left : i < n) (found : Does (element list) r (some next) r₁) where
      pub found-next : Does (eat delimiter) r₁ true r₂ → Listing terminator delimiter element first r₀ (i + 1) next false r₂
      unfolding delimited_turn
      found-next g = record { is = next-turn t.is all left (then found (then g (when_true refl gives))) }

      pub found-last : Does (eat delimiter) r₁ false r₂ → Does (elements terminator delimiter element first) r₀ next r₂
      unfolding delimited_turn elements
      found-last g = then (last_turn t.is all left (then found (then g (when_false refl gives)))) gives

    module _ {r₁ r₂ : Parser} {n : ℕ} (all : n ≡ turns_of r₀.tokens.now) (left : i < n) (missing : Does (element list) r none r₁) where
      pub missing-last : Does (list_ends terminator) r₁ true r₂ → Does (elements terminator delimiter element first) r₀ list r₂
      unfolding delimited_turn elements
      missing-last g = then (last_turn t.is all left (then missing (ends terminator g (when_true refl gives)))) gives

      pub missing-next : {r₃ : Parser} → Does (list_ends terminator) r₁ false r₂ → Does (pass_unexpected emitted) r₂ tt r₃
          → Listing terminator delimiter element first r₀ (i + 1) list true r₃
      unfolding delimited_turn pass_unexpected
      missing-next g h = record { is = next-turn t.is all left (then missing (ends terminator g (when_false refl (regroup (then h gives))))) }

-- A list in its tokens.
module _ {S : Type 0} (opener terminator delimiter : ℕ) (element : S → Prog (Option S)) (first : S) {list : S} {b c : Bool} {r r₁ r₂ r₃ : Parser} where
  pub list-within : Does (expect opener) r b r₁ → Does (elements terminator delimiter element first) r₁ list r₂ → Does (expect terminator) r₂ c r₃
      → Does (parse_delimited opener terminator delimiter element first) r list r₃
  unfolding parse_delimited elements
  list-within e g h = then e (regroup-one {f = λ x. x.list} {g = λ x. Then (expect terminator) (λ _. Give x)} (then g (then h gives)))
