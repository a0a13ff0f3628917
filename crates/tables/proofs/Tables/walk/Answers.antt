-- `walk` meets its contract: what is left of the walk at `i` ends where, and in which state, all of it ends.
use Rattle.rules.proofs.Steps.{walk-over, walk-stop, walk_end, walk-go, on-low, on-high}
use Rattle.std.proofs.Common.{rules}
use Rattle.tables.proofs.Tables.walk.Goals as goal

pub stays-i-requires : goal.stays-i-requires
stays-i-requires c = (search (rules, on-low), search (rules, on-high), search rules)

pub loop-i-preserved : goal.loop-i-preserved
loop-i-preserved c = (search (rules, walk-go), search (rules, on-low), search (rules, on-high), search rules)

pub returns-then-n-eq-STOP : goal.returns-then-n-eq-STOP
returns-then-n-eq-STOP c = (search (rules, walk-stop), search rules, search rules, λ e. search rules)

pub returns-else-goes_on : goal.returns-else-goes_on
returns-else-goes_on c = (search (rules, walk_end), search rules, search rules, λ e. search rules)

pub returns : goal.returns
returns c = (search (rules, walk-over), search rules, search rules, λ e. search rules)
