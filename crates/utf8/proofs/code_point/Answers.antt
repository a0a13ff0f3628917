-- `utf8::code_point` meets its contract: at each `return` the length is known, and so which bits each byte gives.
use mathlib.Core.Path.{◌≡◌, sym}
use native.Mathlib.Omega.{arith}
use Rattle.utf8.specs.Utf8.{lead_bits, joined, code_point}
use Rattle.utf8.proofs.Points.{point-is}
use Rattle.utf8.proofs.code_point.Goals as goal

pub returns-then-n-eq1 : goal.returns-then-n-eq1
unfolding lead_bits joined code_point
returns-then-n-eq1 c = rw c.if-n-eq1.true (sym (point-is c.args.text.now c.args.at 0 (omega arith)))

pub returns-then-n-eq2 : goal.returns-then-n-eq2
unfolding lead_bits joined code_point
returns-then-n-eq2 c = rw (c.if-n-eq2.true, c.joined.ensures) (sym (point-is c.args.text.now c.args.at 1 (omega arith)))

pub returns-then-n-eq3 : goal.returns-then-n-eq3
unfolding lead_bits joined code_point
returns-then-n-eq3 c = rw (c.if-n-eq3.true, c.joined-then-n-eq3-2.ensures, c.joined-then-n-eq3.ensures) (sym (point-is c.args.text.now c.args.at 2 (omega arith)))

pub returns : goal.returns
unfolding lead_bits joined code_point
returns c = let e : c.args.n ≡ 4 = omega arith in rw (e, c.joined-4.ensures, c.joined-3.ensures, c.joined-2.ensures) (sym (point-is c.args.text.now c.args.at 3 (omega arith)))
