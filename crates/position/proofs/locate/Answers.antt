-- `locate` meets its contract: it looks at what stands behind a mark.
use Rattle.words.specs.Parts.{part-whole}
use Rattle.position.specs.Position.{position_of}
use Rattle.position.proofs.locate.Goals as goal

pub returns : goal.returns
unfolding position_of
returns c = let found = rw (part-whole c.mark_length-mark.result c.args.text.now) at c.locate_in.ensures in rw (← c.mark_length-mark.ensures.0, ← c.saturating_sub.ensures) found
