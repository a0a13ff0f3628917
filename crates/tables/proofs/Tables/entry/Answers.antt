-- `entry` meets its contract, by the test over the table.
use mathlib.Core.Path.{◌∙◌, ap}
use Prim.Native.Nat.{◌+◌, ◌-◌, ◌*◌}
use Rattle.rules.specs.Tables.{next-at}
use lib.ListN.{get_or}
use Rattle.tables.proofs.Tables.entry.Goals as goal

pub returns : goal.returns
returns c = ap (λ l. get_or l ((c.args.state - 97) * 38 + (c.args.class - 48)) 0) c.args.self.now.states_are ∙ next-at _ _ c.requires.0 c.requires.1 c.requires.2 c.requires.3
