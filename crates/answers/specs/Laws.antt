-- Laws of the steps: a list of tokens that are tried one after the other.
use Rattle.std.specs.Prelude.{◌≡◌, refl, Bool, true, false, List, [], ◌∷◌, length, get_or, drop}
use Prim.Native.Nat.{ℕ, suc, ◌+◌, ◌≤◌, ◌<◌}
use native.Mathlib.Omega.{arith}
use Rattle.std.proofs.Math.Nat.{add-zero}
use Rattle.std.proofs.Common.{zero-add, add-one, drop_of_length-le, drop-cons}
use Rattle.definition.specs.declared.Unfinished.{Unfinished}
use Rattle.definition.specs.Prog.{Give, Branch, again, stop}
use Rattle.definition.specs.Tokens.{eat}
use Rattle.reading.specs.declared.parser.Parser.{Parser}
use Rattle.reading.specs.Does.{Does, then, gives, when_true, when_false}
use Rattle.answers.specs.Steps.{eat_first, arm_turn}

drop-none : (l : List ℕ) → drop 0 l ≡ l
drop-none [] = refl
drop-none (x ∷ l) = refl

-- What is left of a list, tried from here on, comes to what the whole comes to.
pub record Trying (list : List ℕ) (r₀ : Parser) (i : ℕ) (r : Parser) : Type 0 where
  pub rest : (a : ℕ) (r' : Parser) → Does (eat_first (drop i list)) r a r' → Does (eat_first list) r₀ (i + a) r'

module _ {list : List ℕ} {r₀ : Parser} where
  pub tries-first : Trying list r₀ 0 r₀
  tries-first = record { rest = λ a r' e. rw (zero-add a) (rw (drop-none list) at e) }

  pub tries-none : {i : ℕ} {r : Parser} → Trying list r₀ i r → length list ≤ i → Does (eat_first list) r₀ i r
  unfolding eat_first
  tries-none {r = r} t h = rw add-zero at (t.rest 0 r (rw (drop_of_length-le list h) gives))

  module _ {i token : ℕ} {b : Bool} {r r₁ : Parser} (t : Trying list r₀ i r) where
    module _ (h : i < length list) (e : token ≡ get_or list i 0) (g : Does (eat token) r b r₁) where
      pub tries-this : b ≡ true → Does (eat_first list) r₀ i r₁
      unfolding eat_first
      tries-this k = rw add-zero at (t.rest 0 r₁ (rw (drop-cons list i 0 h) (then (rw e at g) (when_true k gives))))

      pub tries-next : b ≡ false → Trying list r₀ (i + 1) r₁
      unfolding eat_first
      tries-next k =
          record {
            rest = λ a r' f.
                let there : Does (eat_first (drop i list)) r (suc a) r' = rw (drop-cons list i 0 h) (then (rw e at g) (when_false k (then (rw (add-one i) at f) gives))) in
                let moved : i + suc a ≡ i + 1 + a = omega arith in
                rw moved at (t.rest (suc a) r' there);
          }

-- Whether a comma follows an arm tells whether the loop goes on.
pub turn-if : {r : Parser} (on : Bool) {list : Unfinished}
    → Does (Branch on (Give (again list)) (Give (stop list))) r (arm_turn on list) r
turn-if true = when_true refl gives
turn-if false = when_false refl gives
