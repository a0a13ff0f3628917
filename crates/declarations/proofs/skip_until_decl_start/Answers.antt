-- `skip_until_decl_start` meets its contract.
use Rattle.definition.specs.Tokens.{skip_until_decl_start}
use Rattle.reading.specs.Does.{then}
use Rattle.declarations.proofs.skip_until_decl_start.Goals as goal

pub returns : goal.returns
unfolding skip_until_decl_start
returns c = then c.pass.ensures c.skip_until_recovery_token.ensures
