-- Loops of the parser's functions, held against those of the definition's programs.
use Rattle.std.specs.Prelude.{◌≡◌, refl, true, ℕ, suc, ◌+◌, ◌-◌, ◌≤◌, ◌<◌}
use Rattle.std.proofs.Common.{◌∙◌, arith}
use Rattle.definition.specs.declared.State.{State}
use Rattle.definition.specs.Prog.{Turn, again, stop, Prog, Loop, Memory, Out, done, eval, iter}
use Rattle.reading.specs.declared.parser.Parser.{Parser}
use Rattle.reading.specs.Source.{Right}
use Rattle.reading.specs.Standing.{is_refused, Kept}
use Rattle.reading.specs.Does.{Does, from, run, turns_of, from-bind, standing, shifted, same, kept_then}

-- A loop of at most k turns more.
abbrev pub turns : {S : Type 0} → Parser → (S → Prog (Turn S)) → ℕ → S → State → Memory → Out S
turns p body k x s m = iter (λ y t n. run p (body y) t n) k x s m

-- What is left of a loop at `x` and `p`, after i turns, comes to what the whole loop comes to.
pub record Turns {S : Type 0} (body : S → Prog (Turn S)) (x₀ : S) (p₀ : Parser) (i : ℕ) (x : S) (p : Parser) : Type 0 where
  pub is : Right p₀.text.now p₀.tokens.now → from p (turns p₀ body (turns_of p₀.tokens.now - i) x) ≡ from p₀ (run p₀ (Loop x₀ body))
  pub kept : Kept p₀ p

abbrev after : {S : Type 0} → Parser → (S → Prog (Turn S)) → ℕ → Turn S → State → Memory → Out S
after p body k t u n = elim t [ again y ↦ turns p body k y u n | stop y ↦ done y u n ]

module _ {S : Type 0} {body : S → Prog (Turn S)} {x₀ : S} {p₀ : Parser} where
  pub first-turn : Turns body x₀ p₀ 0 x₀ p₀
  unfolding eval
  first-turn =
      let all : turns_of p₀.tokens.now - 0 ≡ turns_of p₀.tokens.now = omega arith in
      record { is = λ w. rw all refl; kept = same }

  module _ {i : ℕ} {x : S} {p : Parser} (t : Turns body x₀ p₀ i x p) where
    pub refused-turn : is_refused p ≡ true → Does (Loop x₀ body) p₀ x p
    refused-turn h = record { is = λ w. standing x p (turns p₀ body (turns_of p₀.tokens.now - i) x) h ∙ t.is w; kept = t.kept }

    pub no-turn : turns_of p₀.tokens.now - i ≡ 0 → Does (Loop x₀ body) p₀ x p
    unfolding iter
    no-turn none = record { is = λ w. (rw none at t.is w); kept = t.kept }

    pub no-turn-left : {n : ℕ} → n ≡ turns_of p₀.tokens.now → n ≤ i → Does (Loop x₀ body) p₀ x p
    no-turn-left e h = no-turn (omega arith)

    turned : {a : Turn S} {p' : Parser} {n : ℕ} → n ≡ turns_of p₀.tokens.now → i < n → Does (body x) p a p'
        → Right p₀.text.now p₀.tokens.now → from p' (after p₀ body (turns_of p₀.tokens.now - (i + 1)) a) ≡ from p₀ (run p₀ (Loop x₀ body))
    turned {a = a} {p' = p'} e h g w =
        let k : ℕ = turns_of p₀.tokens.now - (i + 1) in
        let one : turns_of p₀.tokens.now - i ≡ suc k = omega arith in
        from-bind a p p' (run p₀ (body x)) (turns p₀ body (suc k) x) (after p₀ body k) (shifted t.kept g w) (λ s n. unfold iter in refl) ∙ (rw one at t.is w)

    pub next-turn : {y : S} {p' : Parser} {n : ℕ} → n ≡ turns_of p₀.tokens.now → i < n → Does (body x) p (again y) p' → Turns body x₀ p₀ (i + 1) y p'
    next-turn e h g = record { is = turned e h g; kept = kept_then t.kept g.kept }

    pub last_turn : {y : S} {p' : Parser} {n : ℕ} → n ≡ turns_of p₀.tokens.now → i < n → Does (body x) p (stop y) p' → Does (Loop x₀ body) p₀ y p'
    last_turn e h g = record { is = turned e h g; kept = kept_then t.kept g.kept }
