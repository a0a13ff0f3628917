-- `import_as` meets its contract.
use Rattle.definition.specs.Declarations.{import_as}
use Rattle.reading.specs.Does.{then}
use Rattle.imports.proofs.import_as.Goals as goal

pub returns : goal.returns
unfolding import_as
returns c = then c.update_kind.ensures (then c.close_node-closed.ensures c.as_decl.ensures)
