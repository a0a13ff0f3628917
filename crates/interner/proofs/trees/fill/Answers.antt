-- `fill` meets its contract: the state of the tokens that were passed.
use mathlib.Core.Path.{◌≡◌}
use lib.ListN.{length}
use Rattle.std.proofs.Common.{arith}
use Rattle.interner.proofs.trees.fill.Goals as goal

pub returns : goal.returns
returns c = let z : c.loop-i.i ≡ length c.args.tokens.now = omega arith in rw z at c.loop-i.invariant.told
