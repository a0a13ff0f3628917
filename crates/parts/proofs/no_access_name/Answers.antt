-- `no_access_name` meets its contract.
use mathlib.Core.Path.{sym, ap, ◌∙◌}
use mathlib.Core.Bool.{not}
use Rattle.reading.specs.Does.{then, gives, when_true, when_false}
use Rattle.parts.proofs.no_access_name.Goals.{then-not-contains, else-not-contains}
use Rattle.parts.proofs.no_access_name.Goals as goal

pub returns : goal.returns
returns c = then c.emit_unexpected.ensures (then c.open_here-u.ensures (then c.peek.ensures (then (elim c.if-not-contains.branch [ then-not-contains w ↦ rw w.p-is (when_true (ap not (sym c.contains.ensures ∙ w.if-not-contains.true)) w.pass.ensures) | else-not-contains w ↦ rw w.p-is (when_false (ap not (sym c.contains.ensures ∙ w.if-not-contains.false)) gives) ]) c.close_node.ensures)))
