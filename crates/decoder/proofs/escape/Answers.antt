-- `escape` meets its contract, by case.
use mathlib.Core.Path.{refl}
use borrow.Author.Tests.{ne_eqb}
use lib.Dec.{lit<}
use native.Mathlib.Omega.{arith}
use Rattle.literals.specs.Strings.{escape}
use Rattle.decoder.proofs.escape.Goals as goal

pub returns-in-110 : goal.returns-in-110
unfolding escape
returns-in-110 c = (rw c.in-110.is refl, lit< tt)

pub returns-in-114 : goal.returns-in-114
unfolding escape
returns-in-114 c = (rw c.in-114.is refl, lit< tt)

pub returns-in-116 : goal.returns-in-116
unfolding escape
returns-in-116 c = (rw c.in-116.is refl, lit< tt)

pub returns-in-48 : goal.returns-in-48
unfolding escape
returns-in-48 c = (rw c.in-48.is refl, lit< tt)

pub returns-in-92 : goal.returns-in-92
unfolding escape
returns-in-92 c = (rw c.in-92.is refl, lit< tt)

pub returns-in-34 : goal.returns-in-34
unfolding escape
returns-in-34 c = (rw c.in-34.is refl, lit< tt)

pub returns-in_default : goal.returns-in_default
unfolding escape
returns-in_default c = (rw (ne_eqb c.args.c 110 (λ e. omega (arith, e)), ne_eqb c.args.c 114 (λ e. omega (arith, e)), ne_eqb c.args.c 116 (λ e. omega (arith, e)), ne_eqb c.args.c 48 (λ e. omega (arith, e)), ne_eqb c.args.c 92 (λ e. omega (arith, e)), ne_eqb c.args.c 34 (λ e. omega (arith, e))), tt)
