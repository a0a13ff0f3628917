-- `line_start` meets its contract: the line starts behind the last newline in front.
use Rattle.position.specs.Laws.{start-some, start-none}
use Rattle.position.proofs.line_start.Goals as goal

pub returns-in-Some : goal.returns-in-Some
returns-in-Some c = start-some _ _ c.requires _ c.last_newline.ensures _ c.in-Some.is

pub returns-in-None : goal.returns-in-None
returns-in-None c = start-none _ _ c.requires _ c.last_newline.ensures c.in-None.is
