-- `step` meets its contract, by case.
use Rattle.decoder.specs.Decodes.{decodes-byte, decodes-report}
use Rattle.reading.specs.Leaves.{emit-does}
use Rattle.decoder.proofs.step.Goals as goal

pub returns-in-Byte : goal.returns-in-Byte
returns-in-Byte c = rw c.in-Byte.is (decodes-byte _ _ _ _ _ _ c.push_byte.ensures)

pub returns-in-Report : goal.returns-in-Report
returns-in-Report c = rw c.in-Report.is (decodes-report _ _ _ _ _ _ _ (emit-does c.emit.ensures.reports))
