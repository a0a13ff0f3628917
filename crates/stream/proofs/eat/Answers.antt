-- `eat` meets its contract.
use mathlib.Core.Path.{sym, ◌∙◌}
use Rattle.stream.specs.Commands.{peek_is, pass-here}
use Rattle.stream.specs.Skip.{kind-kept}
use Rattle.stream.specs.Eaten.{eats, leaves}
use Rattle.std.proofs.Common.{eq-eqb, ne_eqb}
use Rattle.stream.proofs.eat.Goals as goal

pub returns-then-found-token : goal.returns-then-found-token
returns-then-found-token c = leaves _ (peek_is c.look-found.ensures.1 _ c.look-found.ensures.0) (ne_eqb _ _ c.if-found-token.true)

pub returns-then-token-lt-WHITESPACE : goal.returns-then-token-lt-WHITESPACE
returns-then-token-lt-WHITESPACE c = eats _ (peek_is c.look-found.ensures.1 _ c.look-found.ensures.0) (eq-eqb _ _ c.if-found-token.false) (pass-here _ (kind-kept _ c.look-found.ensures.1.kept (sym c.if-found-token.false ∙ c.look-found.ensures.0)) c.if-token-lt-WHITESPACE.true c.advance-p.ensures.0)

pub returns-else-token-lt-WHITESPACE : goal.returns-else-token-lt-WHITESPACE
returns-else-token-lt-WHITESPACE c = eats _ (peek_is c.look-found.ensures.1 _ c.look-found.ensures.0) (eq-eqb _ _ c.if-found-token.false) c.pass_behind.ensures
