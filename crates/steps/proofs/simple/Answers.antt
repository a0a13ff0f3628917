-- `simple` meets its contract.
use Rattle.answers.specs.Rules.{or_some, or-none}
use Rattle.steps.proofs.simple.Goals as goal

pub returns-then-is_some : goal.returns-then-is_some
returns-then-is_some c = or_some c.literal-one.result (rw c.is_some.ensures at c.if-is_some.true) c.literal-one.ensures

pub returns : goal.returns
returns c = or-none c.literal-one.result (rw c.is_some.ensures at c.if-is_some.false) c.literal-one.ensures c.named.ensures
