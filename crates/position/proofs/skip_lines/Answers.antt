-- `skip_lines` meets its contract. The loop's invariant: what is left to pass from `at` on ends where the whole does.
use Rattle.std.proofs.Common.{◌≡◌, ◌-◌, cond, get_or, drop, arith}
use Rattle.std.proofs.lemmas.Bool.Decides.{nat_tests}
use Rattle.position.specs.Position.{is_newline}
use Rattle.position.specs.Laws.{behind-next, behind-none, behind-past}
use Rattle.position.proofs.skip_lines.Goals as goal

pub returns-then-left-eq0 : goal.returns-then-left-eq0
returns-then-left-eq0 c = omega (arith, behind-none (drop c.loop-at.at c.args.text.now) c.loop-at.left c.if-left-eq0.true)

pub loop-at-preserved : goal.loop-at-preserved
loop-at-preserved c =
    let text = c.args.text.now in
    let e : c.if-byte-eq-NEWLINE.left ≡ c.loop-at.left - cond (is_newline (get_or text c.loop-at.at 0)) 1 0 = grind (arith, nat_tests) in
    rw e (omega (arith, behind-next text c.loop-at.at c.loop-at.left (omega arith) (omega arith)))

pub returns : goal.returns
returns c = omega (arith, behind-past c.args.text.now c.loop-at.at c.loop-at.left (omega arith))
