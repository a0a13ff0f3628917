-- `group_item` meets its contract.
use Rattle.definition.specs.Declarations.{group_item}
use Rattle.reading.specs.Does.{then, gives, when_true, when_false}
use Rattle.stream.specs.Delimited.{regroup}
use Rattle.imports.proofs.group.group_item.Goals as goal

pub returns-then-eat : goal.returns-then-eat
unfolding group_item
returns-then-eat c = record { is = λ n. then c.eat.ensures (when_true c.if-eat.true (regroup (then c.star_in_group.ensures gives))) }

pub returns-then-check : goal.returns-then-check
unfolding group_item
returns-then-check c = record { is = λ n. then c.eat.ensures (when_false c.if-eat.false (then c.check.ensures (when_true c.if-check.true (regroup (then c.push_item.ensures gives))))) }

pub returns : goal.returns
unfolding group_item
returns c = record { is = λ n. then c.eat.ensures (when_false c.if-eat.false (then c.check.ensures (when_false c.if-check.false gives))) }
