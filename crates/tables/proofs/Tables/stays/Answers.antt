-- `stays` meets its contract: the walk goes over the run in one step.
use Rattle.rules.proofs.Steps.{keeps, walk-run}
use Rattle.std.proofs.Common.{rules}
use Rattle.tables.proofs.Tables.stays.Goals as goal

pub returns : goal.returns
returns c = walk-run _ _ _ _ c.requires.0 c.requires.1 c.requires.2 (c.run_end.ensures (keeps c.args.state) (λ b r p. search rules))
