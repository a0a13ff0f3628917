-- `expect` meets its contract.
use mathlib.Core.Path.{ap}
use mathlib.Core.Bool.{not}
use Rattle.definition.specs.Tokens.{expect}
use Rattle.reading.specs.Does.{then, gives, when_true, when_false}
use Rattle.stream.proofs.expect.Goals as goal

pub returns-then-not-eaten : goal.returns-then-not-eaten
unfolding expect
returns-then-not-eaten c = then c.eat-eaten.ensures (then (when_true (ap not c.if-not-eaten.true) c.emit_unexpected.ensures) gives)

pub returns-else-not-eaten : goal.returns-else-not-eaten
unfolding expect
returns-else-not-eaten c = then c.eat-eaten.ensures (then (when_false (ap not c.if-not-eaten.false) gives) gives)
