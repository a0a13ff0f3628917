-- `tell_count` meets its contract.
use Rattle.std.specs.Prelude.{refl}
use Rattle.std.proofs.Common.{ne_eqb}
use Rattle.reading.specs.Does.{then, gives, when_true, when_false}
use Rattle.reading.specs.Leaves.{emit-does}
use Rattle.imports.proofs.group.tell_count.Goals as goal

pub returns-in-0 : goal.returns-in-0
returns-in-0 c = rw c.in-0.is (then (when_true refl (emit-does c.emit.ensures.reports)) (when_false refl gives))

pub returns-in-1 : goal.returns-in-1
returns-in-1 c = rw c.in-1.is (then (when_false refl gives) (when_true refl (emit-does c.emit-in-1.ensures.reports)))

pub returns-in_default : goal.returns-in_default
returns-in_default c = then (when_false (ne_eqb _ _ c.in_default.in_default-own.rest.0.1) gives) (when_false (ne_eqb _ _ c.in_default.in_default-own.rest.1) gives)
