-- `member_expr` meets its contract.
use Rattle.definition.specs.Expressions.{member_expr}
use Rattle.reading.specs.Does.{then}
use Rattle.parts.proofs.member_expr.Goals as goal

pub returns : goal.returns
unfolding member_expr
returns c = then c.open_from-u.ensures (then c.push_child-u2.ensures (then c.access_name-name.ensures c.push_close.ensures))
