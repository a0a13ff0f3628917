-- `hash` meets its contract: the rest of the bytes gives the bucket of all.
use mathlib.Core.Path.{sym, ◌∙◌}
use Rattle.interner.specs.Hash.{hash-next, hash-over}
use Rattle.std.proofs.Common.{arith}
use Rattle.interner.proofs.trees.hash.Goals as goal

pub loop-b-preserved : goal.loop-b-preserved
loop-b-preserved c = (omega arith, c.loop-b.invariant.1 ∙ hash-next c.args.s.now _ c.loop-b.b-index (omega arith))

pub returns : goal.returns
returns c = (sym (c.loop-b.invariant.1 ∙ hash-over c.args.s.now _ c.loop-b.b-index (omega arith)), omega arith)
