-- `line_in` meets its contract.
use Rattle.position.specs.Laws.{line-found}
use Rattle.position.proofs.line_in.Goals as goal

pub returns : goal.returns
returns c = line-found _ _ _ _ _ c.min-at.ensures c.line_start.ensures c.line_end.ensures
