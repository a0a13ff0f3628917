-- `group_import` meets its contract.
use Rattle.definition.specs.Declarations.{group_import}
use Rattle.reading.specs.Does.{then, gives}
use Rattle.imports.proofs.group_import.Goals as goal

pub returns : goal.returns
unfolding group_import
returns c = then (rw c.flag-flags.ensures at c.update_kind.ensures) (then c.parse_import_group-made.ensures gives)
