-- `push_option` meets its contract.
use Rattle.reading.specs.Does.{gives}
use Rattle.definition.specs.Expressions.{push_option}
use Rattle.cst.proofs.push_option.Goals as goal

pub returns-in-None : goal.returns-in-None
unfolding push_option
returns-in-None c = rw c.in-None.is gives

pub returns-in-Some : goal.returns-in-Some
unfolding push_option
returns-in-Some c = rw c.in-Some.is c.push_child.ensures
