-- `push_closing` meets its contract.
use Rattle.reading.specs.Does.{gives}
use Rattle.definition.specs.Expressions.{push_closing}
use Rattle.cst.specs.Laws.{steps}
use Rattle.cst.proofs.push_closing.Goals as goal

pub returns-in-None : goal.returns-in-None
unfolding push_closing
returns-in-None c = rw c.in-None.is gives

pub returns-in-Some : goal.returns-in-Some
unfolding push_closing
returns-in-Some c = rw c.in-Some.is (search steps)
