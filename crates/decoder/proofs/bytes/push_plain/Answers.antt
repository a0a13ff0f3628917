-- `push_plain` meets its contract, by case.
use Rattle.decoder.specs.Plain.{stretch-none}
use native.Mathlib.Omega.{arith}
use Rattle.decoder.proofs.bytes.push_plain.Goals as goal

pub returns-then-n-ne0 : goal.returns-then-n-ne0
returns-then-n-ne0 c = rw c.in-Some.is (λ base. stretch-none _ _ _ _ _ _ (omega arith))

pub returns-then-values-first : goal.returns-then-values-first
returns-then-values-first c = rw c.in-Some.is (λ base. stretch-none _ _ _ _ _ _ (omega arith))

pub returns-in_default : goal.returns-in_default
returns-in_default c = λ base. stretch-none _ _ _ _ _ _ (omega arith)
