-- `as_decl` meets its contract.
use Rattle.reading.specs.Does.{then}
use Rattle.imports.proofs.as_decl.Goals as goal

pub returns : goal.returns
returns c = then (rw c.flag-flags.ensures at c.open_from-import.ensures) (then c.push_child-pushed.ensures c.as_name.ensures)
