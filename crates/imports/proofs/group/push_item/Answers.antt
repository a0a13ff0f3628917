-- `push_item` meets its contract.
use Rattle.reading.specs.Does.{then}
use Rattle.imports.proofs.group.push_item.Goals as goal

pub returns : goal.returns
returns c = then c.parse_import_group_item-item.ensures c.push_child.ensures
