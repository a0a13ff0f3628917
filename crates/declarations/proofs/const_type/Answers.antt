-- `const_type` meets its contract.
use Rattle.std.specs.Prelude.{refl}
use Rattle.reading.specs.Does.{then, gives, when_true, when_false}
use Rattle.declarations.proofs.const_type.Goals as goal

pub returns-then-not-eat : goal.returns-then-not-eat
returns-then-not-eat c = then c.if-not-eat.ensures (when_false refl gives)

pub returns : goal.returns
returns c = then c.if-not-eat.ensures (when_true refl (then c.update_kind.ensures (then c.must-kind.ensures c.push_child.ensures)))
