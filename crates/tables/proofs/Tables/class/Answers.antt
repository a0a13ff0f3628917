-- `class` meets its contract, by the test over the table.
use mathlib.Core.Path.{◌∙◌, ap}
use Prim.Native.Nat.{◌<◌}
use Rattle.rules.specs.Tables.{class-at}
use lib.ListN.{get_or}
use Rattle.std.proofs.Common.{rules}
use Rattle.tables.proofs.Tables.class.Goals as goal

pub returns : goal.returns
returns c = let h : c.args.b < 256 = search rules in (ap (λ l. get_or l c.args.b 0) c.args.self.now.classes_are ∙ class-at _ h, h)
