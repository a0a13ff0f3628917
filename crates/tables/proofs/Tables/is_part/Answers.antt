-- `is_part` meets its contract.
use Prim.Native.Nat.{◌<◌}
use mathlib.Core.Path.{◌∙◌, ap}
use lib.Dec.{ltb}
use Rattle.rules.specs.Alike.{part-class}
use Rattle.std.proofs.Common.{rules}
use Rattle.tables.proofs.Tables.is_part.Goals as goal

pub returns : goal.returns
returns c = let h : c.args.b < 256 = search rules in (ap (λ x. ltb x 58) c.class.ensures.0 ∙ part-class _ h, h)
