-- `import_end` meets its contract.
use Rattle.reading.specs.Does.{then, when_true, when_false}
use Rattle.imports.proofs.import_end.Goals as goal

pub returns-then-eat : goal.returns-then-eat
returns-then-eat c = then c.eat.ensures (when_true c.if-eat.true c.close_node.ensures)

pub returns : goal.returns
returns c = then c.eat.ensures (when_false c.if-eat.false c.import_as.ensures)
