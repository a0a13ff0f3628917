-- `fallback_arm` meets its contract.
use Rattle.definition.specs.Expressions.{fallback_arm}
use Rattle.reading.specs.Does.{then, gives}
use Rattle.clauses.proofs.fallback_arm.Goals as goal

pub returns-in_default : goal.returns-in_default
unfolding fallback_arm
returns-in_default c = then c.open_from-arm.ensures (then (rw c.in_default.is at c.try_parse_ident.ensures) gives)

pub returns : goal.returns
unfolding fallback_arm
returns c = then c.open_from-arm.ensures (then (rw c.in-Some.is at c.try_parse_ident.ensures) (then c.update_kind.ensures c.push_child.ensures))
