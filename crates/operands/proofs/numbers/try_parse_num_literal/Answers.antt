-- `try_parse_num_literal` meets its contract, by the kind of the token.
use Rattle.definition.specs.Nodes.{try_parse_num_literal}
use Rattle.reading.specs.Does.{then, gives}
use Rattle.operands.specs.Number.{radix-decimal, radix-hex, radix-bin, radix-none}
use native.Mathlib.Omega.{arith}
use Rattle.operands.proofs.numbers.try_parse_num_literal.Goals as goal

pub returns-in-67 : goal.returns-in-67
unfolding try_parse_num_literal
returns-in-67 c = then c.peek.ensures (rw (radix-decimal _ c.in-67.is) c.number_of.ensures)

pub returns-in-68 : goal.returns-in-68
unfolding try_parse_num_literal
returns-in-68 c = then c.peek.ensures (rw (radix-hex _ c.in-68.is) c.number_of-in-68.ensures)

pub returns-in-69 : goal.returns-in-69
unfolding try_parse_num_literal
returns-in-69 c = then c.peek.ensures (rw (radix-bin _ c.in-69.is) c.number_of-in-69.ensures)

pub returns-in_default : goal.returns-in_default
unfolding try_parse_num_literal
returns-in_default c = then c.peek.ensures (rw (radix-none c.peek.result (λ e. omega (arith, e)) (λ e. omega (arith, e)) (λ e. omega (arith, e))) gives)
