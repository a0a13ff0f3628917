-- `comptime_error` meets its contract.
use Rattle.reading.specs.Does.{then, gives}
use Rattle.stream.specs.Delimited.{regroup}
use Rattle.clauses.proofs.comptime_error.Goals as goal

pub returns : goal.returns
returns c = then c.emit_unexpected.ensures (then c.skip_until_recovery_token.ensures (regroup (then c.past_semicolon.ensures (then c.open_from-u.ensures (then c.close_node.ensures gives)))))
