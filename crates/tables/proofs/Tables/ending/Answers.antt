-- `ending` meets its contract.
use native.Mathlib.Omega.{arith}
use Rattle.rules.proofs.Steps.{on-low, on-high, on-ends, stop-ends, end-ends, start-two}
use Rattle.std.proofs.Common.{rules}
use Rattle.tables.proofs.Tables.ending.Goals as goal

pub walk-requires : goal.walk-requires
walk-requires c = (search (rules, on-low), search (rules, on-high), search rules)

pub returns-then-goes_on : goal.returns-then-goes_on
returns-then-goes_on c = (search (rules, on-ends), search rules, search rules, λ e. omega (arith, c.walk.ensures.3 e))

pub returns-then-first-eq-STOP : goal.returns-then-first-eq-STOP
returns-then-first-eq-STOP c = (search (rules, stop-ends), search rules, search rules, λ e. search rules)

pub returns : goal.returns
returns c = (search (rules, end-ends), search rules, search rules, λ e. search (rules, start-two))
