-- `emit_missing` meets its contract.
use mathlib.Core.Path.{refl, sym, ◌∙◌}
use Rattle.reading.specs.Does.{then, when_true, when_false}
use Rattle.stream.specs.Commands.{position-is, before-is}
use Rattle.recovery.proofs.emit_missing.Goals as goal

pub returns-then-is_missing : goal.returns-then-is_missing
returns-then-is_missing c = then c.peek-found.ensures (then (position-is refl) (when_true (sym c.is_missing.ensures ∙ c.if-is_missing.true) (then (before-is c.before_start-before.ensures c.token_start-end.ensures) c.emit_and_mark.ensures)))

pub returns : goal.returns
returns c = then c.peek-found.ensures (then (position-is refl) (when_false (sym c.is_missing.ensures ∙ c.if-is_missing.false) c.emit_unexpected.ensures))
