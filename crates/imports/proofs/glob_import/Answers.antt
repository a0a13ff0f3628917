-- `glob_import` meets its contract.
use Rattle.definition.specs.Declarations.{glob_import}
use Rattle.reading.specs.Does.{then, gives}
use Rattle.imports.proofs.glob_import.Goals as goal

pub returns : goal.returns
unfolding glob_import
returns c = then (rw c.glob_flags.ensures at c.update_kind.ensures) (then c.expect.ensures (then c.close_node-made.ensures gives))
