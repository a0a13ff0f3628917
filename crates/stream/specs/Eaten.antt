-- `eat`, by what looking and passing do: the token is passed where it is the one that is asked for.
use Rattle.std.specs.Prelude.{◌≡◌, true, false, ℕ, eqb}
use Rattle.definition.specs.Prog.{peek, pass}
use Rattle.definition.specs.Tokens.{check, eat}
use Rattle.reading.specs.declared.parser.Parser.{Parser}
use Rattle.reading.specs.Does.{Does, then, gives, when_true, when_false}

module _ (token : ℕ) {k : ℕ} {p r : Parser} (looked : Does peek p k r) where
  pub eats : {r₂ : Parser} → eqb k token ≡ true → Does pass r tt r₂ → Does (eat token) p true r₂
  unfolding eat check
  eats e g = then {a = eqb k token} (then looked gives) (when_true e (then g gives))

  pub leaves : eqb k token ≡ false → Does (eat token) p false r
  unfolding eat check
  leaves e = then {a = eqb k token} (then looked gives) (when_false e gives)
