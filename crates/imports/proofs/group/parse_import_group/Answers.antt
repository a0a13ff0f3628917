-- `parse_import_group` meets its contract.
use Rattle.definition.specs.Declarations.{parse_import_group}
use Rattle.reading.specs.Does.{then}
use Rattle.stream.specs.Commands.{here-is}
use Rattle.stream.specs.Delimited.{regroup}
use Rattle.imports.proofs.group.parse_import_group.Goals as goal

pub returns : goal.returns
unfolding parse_import_group
returns c = then c.peek.ensures (then (here-is c.token_start-start.ensures c.token_end-end.ensures) (then c.braced_items-items.ensures (regroup (then c.tell_count.ensures (then c.expect.ensures c.close_node.ensures)))))
