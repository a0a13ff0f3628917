-- `before_start` meets its contract.
use native.Mathlib.Numerals.{sub-one}
use Rattle.literals.specs.Spelling.{token_start}
use Rattle.stream.proofs.before_start.Goals as goal

pub returns-then-i-eq0 : goal.returns-then-i-eq0
unfolding token_start
returns-then-i-eq0 c = rw c.if-i-eq0.true

pub returns : goal.returns
returns c = rw (← sub-one) c.token_start.ensures
