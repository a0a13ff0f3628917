-- `look_behind` meets its contract.
use mathlib.Core.Path.{sym, ◌∙◌}
use Rattle.stream.specs.Trivia.{skips-blank}
use Rattle.stream.proofs.look_behind.Goals as goal

pub returns-then-kind-lt-WHITESPACE : goal.returns-then-kind-lt-WHITESPACE
returns-then-kind-lt-WHITESPACE c = (c.peek-kind.ensures, skips-blank _ _ _ (sym c.peek.ensures ∙ c.if-peek-eq-WHITESPACE.true) c.advance-next.ensures.0 c.peek-kind.ensures c.if-kind-lt-WHITESPACE.true)
