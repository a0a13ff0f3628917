-- `joined` meets its contract, by case.
use Rattle.decoder.specs.Fours.{joined-first, joined_is}
use native.Mathlib.Omega.{arith}
use Rattle.decoder.proofs.bytes.joined.Goals as goal

pub returns-in-0 : goal.returns-in-0
returns-in-0 c = joined-first _ _ _ c.in-0.is

pub returns-in-1 : goal.returns-in-1
returns-in-1 c = joined_is _ 1 _ _ c.in-1.is

pub returns-in-2 : goal.returns-in-2
returns-in-2 c = joined_is _ 2 _ _ c.in-2.is

pub returns-in_default : goal.returns-in_default
returns-in_default c = joined_is _ 3 _ _ (omega arith)
