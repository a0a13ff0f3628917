-- `import_turn` meets its contract.
use Rattle.definition.specs.Declarations.{import_turn}
use Rattle.reading.specs.Does.{then, gives, when_true, when_false}
use Rattle.imports.proofs.import_turn.Goals as goal

pub returns-then-eat : goal.returns-then-eat
unfolding import_turn
returns-then-eat c = then c.eat.ensures (when_true c.if-eat.true c.import_part.ensures)

pub returns : goal.returns
unfolding import_turn
returns c = then c.eat.ensures (when_false c.if-eat.false gives)
