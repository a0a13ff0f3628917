-- `peek` meets its contract.
use Rattle.stream.specs.Commands.{peek_is}
use Rattle.stream.proofs.peek.Goals as goal

pub returns : goal.returns
returns c = peek_is c.look.ensures.1 _ c.look.ensures.0
