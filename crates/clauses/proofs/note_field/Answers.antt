-- `note_field` meets its contract.
use Rattle.reading.specs.Does.{gives, when_true, when_false}
use Rattle.clauses.proofs.note_field.Goals as goal

pub returns-then-seen : goal.returns-then-seen
returns-then-seen c = when_true c.if-seen.true c.emit_here.ensures

pub returns-else-seen : goal.returns-else-seen
returns-else-seen c = when_false c.if-seen.false gives
