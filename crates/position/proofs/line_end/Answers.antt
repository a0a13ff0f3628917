-- `line_end` meets its contract: the line ends at the next newline.
use Rattle.words.specs.Parts.{part-whole}
use Rattle.position.specs.Laws.{end-some, end-none}
use Rattle.position.proofs.line_end.Goals as goal

pub returns-in-Some : goal.returns-in-Some
returns-in-Some c = end-some _ _ c.requires _ (rw (part-whole c.args.at c.args.text.now) at c.newline.ensures) _ c.in-Some.is

pub returns-in-None : goal.returns-in-None
returns-in-None c = end-none _ _ c.requires _ (rw (part-whole c.args.at c.args.text.now) at c.newline.ensures) c.in-None.is
