-- `push_byte` meets its contract, by case.
use mathlib.Core.Path.{refl}
use Rattle.std.proofs.Common.{rules}
use Rattle.decoder.specs.Fours.{push-still, push-none, push-put}
use Rattle.decoder.proofs.bytes.push_byte.Goals as goal

pub returns-in_err-n : goal.returns-in_err-n
returns-in_err-n c = rw c.from_residual.ensures (push-still _ _ c.requires _ _ refl _ c.in_err-n.was)

pub returns-then-values-at : goal.returns-then-values-at
returns-then-values-at c = push-none _ _ c.requires _ _ refl _ _ c.in_ok-n.was c.if-values-at.true

pub returns : goal.returns
returns c = push-put _ _ c.requires _ _ (search rules) _ _ c.in_ok-n.was c.if-values-at.false _ _ c.put_byte.ensures refl
