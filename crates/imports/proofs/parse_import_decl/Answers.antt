-- `parse_import_decl` meets its contract.
use Rattle.definition.specs.Declarations.{parse_import_decl}
use Rattle.reading.specs.Does.{then}
use Rattle.imports.proofs.parse_import_decl.Goals as goal

pub returns : goal.returns
unfolding parse_import_decl
returns c = then (rw c.flag-flags.ensures at c.open_from-opened.ensures) (then c.expect_ident-ident.ensures (then c.push_child-pushed.ensures c.import_rest.ensures))
