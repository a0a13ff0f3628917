-- `line_behind` meets its contract.
use Rattle.position.specs.Position.{line_behind}
use Rattle.position.proofs.line_behind.Goals as goal

pub returns : goal.returns
unfolding line_behind
returns c = rw c.skip_lines.ensures at c.source_line.ensures
