-- `parse_file` meets its contract.
use Rattle.definition.specs.Declarations.{parse_file}
use Rattle.reading.specs.Does.{then}
use Rattle.declarations.proofs.parse_file.Goals as goal

pub returns : goal.returns
unfolding parse_file
returns c = then c.open_here-u.ensures (then c.decls-u.ensures c.close_node.ensures)
