-- `token_start` meets its contract.
use Rattle.literals.specs.Spelling.{token_start}
use Rattle.stream.specs.Skip.{start-next}
use Rattle.stream.proofs.token_start.Goals as goal

pub returns-then-i-eq0 : goal.returns-then-i-eq0
unfolding token_start
returns-then-i-eq0 c = rw c.if-i-eq0.true

pub returns : goal.returns
returns c = start-next _ _ _ c.if-i-eq0.false c.token_end.ensures
