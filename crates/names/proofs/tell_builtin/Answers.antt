-- `tell_builtin` meets its contract.
use mathlib.Core.Path.{ap}
use mathlib.Core.Bool.{not}
use Rattle.reading.specs.Does.{then, gives, when_true, when_false}
use Rattle.stream.specs.Commands.{marked-is, here-is}
use Rattle.names.proofs.tell_builtin.Goals as goal

pub returns-then-is_marked : goal.returns-then-is_marked
returns-then-is_marked c = then (marked-is c.is_marked.ensures) (when_false (ap not c.if-is_marked.true) gives)

pub returns : goal.returns
returns c = then (marked-is c.is_marked.ensures) (when_true (ap not c.if-is_marked.false) (then (here-is c.token_start-start.ensures c.token_end-end.ensures) c.emit_and_mark.ensures))
