-- `emit` meets its contract.
use mathlib.Core.Path.{refl}
use Rattle.reading.specs.Leaves.{emit-stays, emit-full, emit-fits}
use native.Mathlib.Omega.{arith}
use Rattle.reading.proofs.report.emit.Goals as goal

pub returns-then-is_refused : goal.returns-then-is_refused
returns-then-is_refused c = record { reports = emit-stays (rw c.is_refused.ensures at c.if-is_refused.true); nodes = refl; values = refl }

pub returns-then-p-n : goal.returns-then-p-n
returns-then-p-n c = rw c.refuse.ensures (record { reports = emit-full _ (rw c.is_refused.ensures at c.if-is_refused.false) _ _ _ _ (omega arith); nodes = refl; values = refl })

pub returns : goal.returns
returns c = record { reports = emit-fits _ (rw c.is_refused.ensures at c.if-is_refused.false) _ _ _ _ _ _ (omega arith) c.report_words-w.ensures refl (record { text = refl; tokens = refl; nodes = refl; values = refl; reports = refl; levels = refl }) refl refl; nodes = refl; values = refl }
