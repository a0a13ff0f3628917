-- `bad_digit` meets its contract, by case.
use Rattle.decoder.specs.Decodes.{decodes-none}
use Rattle.decoder.specs.Hex.{bad-already, bad-fine, bad-new}
use Rattle.decoder.proofs.bad_digit.Goals as goal
use Rattle.decoder.proofs.bad_digit.Goals.{then-already-via-then-already, then-already-via-else-already+then-not-c}

pub returns-then-already : goal.returns-then-already
returns-then-already c =
    elim c.then-already.branch [
      | then-already-via-then-already w ↦ rw (bad-already _ _ w.if-already.true) (decodes-none _ _ _)
      | then-already-via-else-already+then-not-c w ↦ rw (bad-fine _ _ _ c.requires.2 w.if-not-c.true) (decodes-none _ _ _)
    ]

pub returns : goal.returns
returns c = rw (bad-new _ _ _ c.requires.2 c.if-already.false c.if-not-c.false) c.step.ensures
