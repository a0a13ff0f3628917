-- `no_ident` meets its contract.
use Rattle.reading.specs.Does.{then, when_true, when_false}
use Rattle.stream.specs.Delimited.{regroup}
use Rattle.names.proofs.no_ident.Goals as goal

pub returns-then-check : goal.returns-then-check
returns-then-check c = then c.check.ensures (when_true c.if-check.true (regroup (then c.tell_builtin.ensures (then c.pass.ensures c.alloc_last_token_as_node.ensures))))

pub returns : goal.returns
returns c = then c.check.ensures (when_false c.if-check.false (then c.emit_unexpected.ensures c.error_node.ensures))
