-- `eat_unary` meets its contract.
use Rattle.std.specs.Prelude.{◌≡◌, true, false, ℕ, is_some, Option, Some, None}
use Rattle.std.proofs.Common.{sym, ◌∙◌}
use Rattle.definition.specs.Prog.{peek, pass}
use Rattle.definition.specs.Expressions.{eat_unary, unary_of}
use Rattle.reading.specs.declared.parser.Parser.{Parser}
use Rattle.reading.specs.Does.{Does, then, gives}
use Rattle.cst.specs.Cst.{maybe}
use Rattle.parts.proofs.eat_unary.Goals as goal

module _ {r r₁ : Parser} {k : ℕ} (next : Does peek r k r₁) where
  taken : (x : Option ℕ) {r₂ : Parser} → maybe x ≡ unary_of k → is_some x ≡ true → Does pass r₁ tt r₂ → Does eat_unary r (maybe x) r₂
  unfolding eat_unary
  taken (Some n) e h g = then next (rw (← e) (then g gives))
  taken None e h g = absurd cc

  left : (x : Option ℕ) → maybe x ≡ unary_of k → is_some x ≡ false → Does eat_unary r (maybe x) r₁
  unfolding eat_unary
  left (Some n) e h = absurd cc
  left None e h = then next (rw (← e) gives)

pub returns-then-is_some : goal.returns-then-is_some
returns-then-is_some c = taken c.peek.ensures _ c.unary_of-found.ensures (sym c.is_some.ensures ∙ c.if-is_some.true) c.pass.ensures

pub returns-else-is_some : goal.returns-else-is_some
returns-else-is_some c = left c.peek.ensures _ c.unary_of-found.ensures (sym c.is_some.ensures ∙ c.if-is_some.false)
