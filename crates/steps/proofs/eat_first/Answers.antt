-- `eat_first` meets its contract: what is left of the list, tried from here on, comes to what the whole comes to.
use Rattle.std.proofs.Common.{◌≡◌, length, arith}
use mathlib.Core.Path.{refl}
use Rattle.answers.specs.Laws.{tries-first, tries-none, tries-this, tries-next}
use Rattle.steps.proofs.eat_first.Goals as goal

pub loop-i-init : goal.loop-i-init
loop-i-init c = tries-first

pub loop-i-preserved : goal.loop-i-preserved
loop-i-preserved c = tries-next c.loop-i.invariant c.loop-i-test.true refl c.eat.ensures c.if-eat.false

pub returns : goal.returns
returns c =
    let e : length c.args.list.now ≡ c.loop-i.i = omega arith in
    rw e (tries-none c.loop-i.invariant (omega arith))

pub returns-then-eat : goal.returns-then-eat
returns-then-eat c = tries-this c.loop-i.invariant c.loop-i-test.true refl c.eat.ensures c.if-eat.true
