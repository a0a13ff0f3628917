-- `piece_at` meets its contract, by case.
use Rattle.decoder.specs.Plain.{plain-cut}
use Rattle.decoder.proofs.piece_at.Goals as goal

pub returns-then-plain : goal.returns-then-plain
returns-then-plain c = plain-cut _ _ c.requires.1 _ (c.plain.ensures.0 c.if-plain.true)
