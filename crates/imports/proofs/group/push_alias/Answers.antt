-- `push_alias` meets its contract.
use Rattle.reading.specs.Does.{then, gives, when_true, when_false}
use Rattle.imports.proofs.group.push_alias.Goals as goal

pub returns-then-eat : goal.returns-then-eat
returns-then-eat c = then c.eat.ensures (when_true c.if-eat.true (then c.expect_ident-alias.ensures c.push_child.ensures))

pub returns : goal.returns
returns c = then c.eat.ensures (when_false c.if-eat.false gives)
