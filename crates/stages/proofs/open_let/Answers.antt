-- `open_let` meets its contract.
use Rattle.reading.specs.Does.{then, gives}
use Rattle.stages.proofs.open_let.Goals as goal

pub returns : goal.returns
returns c = then c.eat-mutable.ensures (then (rw c.let_flags-payload.ensures at c.open_from-u.ensures) (then c.expect_ident-name.ensures (then c.push_child-it.ensures (then c.eat-typed.ensures gives))))
