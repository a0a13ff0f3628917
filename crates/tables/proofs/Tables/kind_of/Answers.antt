-- `kind_of` meets its contract, by the test over the table.
use mathlib.Core.Path.{◌∙◌, ap}
use Prim.Native.Nat.{◌-◌}
use Rattle.rules.specs.Tables.{kind_at}
use lib.ListN.{get_or}
use Rattle.tables.proofs.Tables.kind_of.Goals as goal

pub returns : goal.returns
returns c = ap (λ l. get_or l (c.args.state - 32) 0) c.args.self.now.kinds_are ∙ kind_at _ c.requires.0 c.requires.1
