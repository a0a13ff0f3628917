-- `parse_const_decl` meets its contract.
use Rattle.reading.specs.Does.{then}
use Rattle.answers.specs.Same.{regrouped}
use Rattle.declarations.specs.Decls.{const-same}
use Rattle.declarations.proofs.parse_const_decl.Goals as goal

pub returns : goal.returns
returns c = regrouped (const-same _) (then c.open_const-u.ensures (then c.const_type-u.ensures (then c.expect_check_recovery.ensures (then c.must-value.ensures c.end_const.ensures))))
