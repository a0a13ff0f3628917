-- `source_line` meets its contract: it looks at what stands behind a mark.
use Rattle.words.specs.Parts.{part-whole}
use Rattle.position.specs.Position.{source_line}
use Rattle.position.proofs.source_line.Goals as goal

pub returns : goal.returns
unfolding source_line
returns c = let found = rw (part-whole c.mark_length-mark.result c.args.text.now) at c.line_in-line.ensures.0 in rw (found, c.saturating_sub.ensures, c.mark_length-mark.ensures.0)
