-- `prefix` meets its contract.
use Rattle.reading.specs.Does.{then, gives}
use Rattle.steps.proofs.prefix.Goals as goal

pub returns-in-None : goal.returns-in-None
returns-in-None c = then c.skip_trivia_start-start.ensures (then (rw c.in-None.is at c.eat_unary.ensures) gives)

pub returns-in-Some : goal.returns-in-Some
returns-in-Some c = then c.skip_trivia_start-start.ensures (then (rw c.in-Some.is at c.eat_unary.ensures) (then c.open_from.ensures gives))
