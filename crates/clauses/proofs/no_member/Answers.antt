-- `no_member` meets its contract.
use Rattle.definition.specs.Expressions.{no_member_turn}
use Rattle.reading.specs.Does.{then, gives}
use Rattle.clauses.proofs.no_member.Goals as goal

pub returns : goal.returns
unfolding no_member_turn
returns c = then c.emit_unexpected.ensures (then c.open_here-u.ensures (then c.pass.ensures (then c.skip_until_recovery_token.ensures (then c.close_node-n.ensures (then c.push_child.ensures gives)))))
