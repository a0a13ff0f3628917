-- `string_turn` meets its contract, by the kind of the token.
use Rattle.operands.specs.Turns.{turned-string, turned-hex, turned-broken, turned_none}
use native.Mathlib.Omega.{arith}
use Rattle.std.proofs.Common.{rules}
use Rattle.operands.proofs.strings.string_turn.Goals as goal

pub returns-in-70 : goal.returns-in-70
returns-in-70 c = turned-string _ _ _ _ _ c.peek-found.ensures _ _ _ _ _ c.pass_token.ensures c.in-70.is c.decode_string-more.ensures

pub returns-in-71 : goal.returns-in-71
returns-in-71 c = turned-hex _ _ _ _ _ c.peek-found.ensures _ _ _ _ _ c.pass_token-in-71.ensures c.in-71.is c.decode_hex-more.ensures

pub returns-in-78 : goal.returns-in-78
returns-in-78 c = turned-broken _ _ _ _ _ c.peek-found.ensures _ _ _ c.pass_token-in-78.ensures c.in-78.is

pub returns-in_default : goal.returns-in_default
returns-in_default c = turned_none _ _ _ _ _ c.peek-found.ensures (λ e. omega (arith, e)) (λ e. omega (arith, e)) (search rules)
