-- `parse_lexed` meets its contract: what parsing comes to is gone on from.
use mathlib.Core.Path.{sym}
use lib.Seq.{length-take-le}
use Rattle.plank.specs.Reads.{parsed-done, parsed-refused}
use Rattle.std.proofs.Common.{rules}
use Rattle.plank.proofs.parse_lexed.Goals as goal

pub slice_bounds-parse-end-2 : goal.slice_bounds-parse-end-2
slice_bounds-parse-end-2 c = sym (length-take-le _ _ (search rules))

pub returns-in-Ok : goal.returns-in-Ok
returns-in-Ok c = parsed-done c.args.text.now c.args.tokens.now c.args.nodes.now c.args.values.now c.args.reports.now c.args.n c.parse.result c.parse.ensures (search rules) _ c.in-Ok.is

pub returns-in-Err : goal.returns-in-Err
returns-in-Err c = rw c.clear.ensures (parsed-refused c.args.text.now c.args.tokens.now c.args.nodes.now c.args.values.now c.args.reports.now c.args.n c.parse.result c.parse.ensures (search rules) _ c.in-Err.is)
