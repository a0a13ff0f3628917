-- `pass_behind` meets its contract.
use Rattle.stream.specs.Commands.{pass-is}
use Rattle.stream.proofs.pass_behind.Goals as goal

pub returns : goal.returns
returns c = pass-is c.look_behind.ensures.1 c.advance.ensures
