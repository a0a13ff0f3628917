-- `public_decl` meets its contract.
use Rattle.reading.specs.Does.{then, when_true, when_false}
use Rattle.declarations.proofs.public_decl.Goals as goal

pub returns-then-eat : goal.returns-then-eat
returns-then-eat c = then c.eat.ensures (when_true c.if-eat.true c.parse_import_decl.ensures)

pub returns : goal.returns
returns c = then c.eat.ensures (when_false c.if-eat.false c.no_decl.ensures)
