-- `eof` meets its contract.
use Rattle.definition.specs.Tokens.{eof}
use Rattle.stream.proofs.eof.Goals as goal

pub returns : goal.returns
unfolding eof
returns c = c.check.ensures
