-- `pass` meets its contract.
use Rattle.stream.specs.Commands.{pass-here}
use Rattle.stream.proofs.pass.Goals as goal

pub returns-then-peek-lt-WHITESPACE : goal.returns-then-peek-lt-WHITESPACE
returns-then-peek-lt-WHITESPACE c = pass-here _ c.peek.ensures c.if-peek-lt-WHITESPACE.true c.advance-p.ensures.0
