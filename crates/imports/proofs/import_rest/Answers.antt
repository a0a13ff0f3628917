-- `import_rest` meets its contract.
use Rattle.reading.specs.Does.{then, gives}
use Rattle.imports.proofs.import_rest.Goals as goal

pub returns-in-Some : goal.returns-in-Some
returns-in-Some c = then (rw c.in-Some.is at c.import_path-read.ensures) gives

pub returns-in-None : goal.returns-in-None
returns-in-None c = then (rw c.in-None.is at c.import_path-read.ensures) c.import_end.ensures
