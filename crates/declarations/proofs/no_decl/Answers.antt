-- `no_decl` meets its contract.
use Rattle.definition.specs.Declarations.{no_decl}
use Rattle.reading.specs.Does.{then}
use Rattle.declarations.proofs.no_decl.Goals as goal

pub returns : goal.returns
unfolding no_decl
returns c = then c.emit_unexpected.ensures (then c.skip.ensures (then c.open_from-u.ensures c.close_node.ensures))
