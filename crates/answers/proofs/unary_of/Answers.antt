-- `unary_of` meets its contract.
use Rattle.words.specs.Token
use Rattle.definition.specs.Expressions.{unary_of}
use native.Mathlib.Omega.{arith}
use Rattle.std.proofs.Common.{ne_eqb}
use Rattle.answers.proofs.unary_of.Goals as goal

pub returns-in-16 : goal.returns-in-16
unfolding unary_of
returns-in-16 c = rw c.in-16.is

pub returns-in-32 : goal.returns-in-32
unfolding unary_of
returns-in-32 c = rw c.in-32.is

pub returns-in-38 : goal.returns-in-38
unfolding unary_of
returns-in-38 c = rw c.in-38.is

pub returns-in_default : goal.returns-in_default
unfolding unary_of
returns-in_default c = rw (ne_eqb c.args.token Token.Minus (λ e. omega arith), ne_eqb c.args.token Token.Bang (λ e. omega arith), ne_eqb c.args.token Token.Tilde (λ e. omega arith), unary_of)
