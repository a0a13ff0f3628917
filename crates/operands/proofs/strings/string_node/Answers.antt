-- `string_node` meets its contract.
use mathlib.Core.Path.{sym, ◌∙◌}
use Rattle.words.specs.Node
use Rattle.reading.specs.Does.{then, gives, kept_then}
use Rattle.cst.specs.Payload.{cut-from}
use Rattle.operands.proofs.strings.string_node.Goals as goal

pub returns : goal.returns
returns c =
    record {
      does = λ lent bs k. then (c.string_value-made.ensures.does lent bs (k (sym c.is_refused.ensures ∙ c.if-is_refused.false))) (then (cut-from c.args.start Node.StringLiteral _ (rw c.payload-offset.ensures at c.open_from-u.ensures)) (then c.close_node_at.ensures gives));
      kept = kept_then c.string_value-made.ensures.kept (kept_then c.open_from-u.ensures.kept c.close_node_at.ensures.kept);
    }
