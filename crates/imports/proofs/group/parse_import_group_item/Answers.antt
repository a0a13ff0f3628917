-- `parse_import_group_item` meets its contract.
use Rattle.definition.specs.Declarations.{parse_import_group_item}
use Rattle.reading.specs.Does.{then}
use Rattle.stream.specs.Commands.{before-is}
use Rattle.stream.specs.Delimited.{regroup}
use Rattle.imports.proofs.group.parse_import_group_item.Goals as goal

pub returns : goal.returns
unfolding parse_import_group_item
returns c = then c.open_here-item.ensures (then c.expect_ident-name.ensures (then (before-is c.before_start-start.ensures c.token_start-end.ensures) (then c.push_child-named.ensures (regroup (then c.path_in_group.ensures (then c.push_alias-whole.ensures c.close_node.ensures))))))
