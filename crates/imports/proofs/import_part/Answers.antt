-- `import_part` meets its contract.
use Rattle.reading.specs.Does.{then, gives, when_true, when_false}
use Rattle.imports.proofs.import_part.Goals as goal

pub returns-then-eat : goal.returns-then-eat
returns-then-eat c = then c.eat.ensures (when_true c.if-eat.true c.glob_import.ensures)

pub returns-then-check : goal.returns-then-check
returns-then-check c = then c.eat.ensures (when_false c.if-eat.false (then c.check.ensures (when_true c.if-check.true c.group_import.ensures)))

pub returns : goal.returns
returns c = then c.eat.ensures (when_false c.if-eat.false (then c.check.ensures (when_false c.if-check.false (then c.expect_ident-ident.ensures (then c.push_child.ensures gives)))))
