-- `look` meets its contract.
use Rattle.stream.specs.Trivia.{stays_here}
use Rattle.stream.proofs.look.Goals as goal

pub returns-then-kind-lt-WHITESPACE : goal.returns-then-kind-lt-WHITESPACE
returns-then-kind-lt-WHITESPACE c = (c.peek-kind.ensures, stays_here _ _ c.peek-kind.ensures c.if-kind-lt-WHITESPACE.true)
