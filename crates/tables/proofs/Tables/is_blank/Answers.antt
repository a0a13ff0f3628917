-- `is_blank` meets its contract.
use Prim.Native.Nat.{◌<◌}
use mathlib.Core.Path.{◌∙◌, ap}
use lib.Dec.{eqb}
use Rattle.rules.specs.Alike.{blank-class}
use Rattle.std.proofs.Common.{rules}
use Rattle.tables.proofs.Tables.is_blank.Goals as goal

pub returns : goal.returns
returns c = let h : c.args.b < 256 = search rules in ap (λ x. eqb x 58) c.class.ensures.0 ∙ blank-class _ h
