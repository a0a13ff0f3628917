-- `advance` meets its contract.
use Rattle.definition.specs.Quiet.{advanced-on, advanced-over}
use native.Mathlib.Omega.{arith}
use Rattle.definition.proofs.Cursor.advance.Goals as goal

pub returns-then-at-self : goal.returns-then-at-self
returns-then-at-self c = (advanced-on _ c.if-at-self.true, omega arith)

pub returns : goal.returns
returns c = (advanced-over _ c.if-at-self.false, omega arith)
