-- `put_four` meets its contract: each chunk is pushed behind those before it.
use Rattle.numerals.specs.Four.{full-one, full-two, full-three, put_all}
use Rattle.numerals.proofs.put_four.Goals as goal

pub returns-in_err-a : goal.returns-in_err-a
returns-in_err-a c = rw c.from_residual.ensures (full-one _ _ c.requires _ _ _ c.push.ensures c.in_err-a.was)

pub returns-in_err-b : goal.returns-in_err-b
returns-in_err-b c = rw c.from_residual-in_err-b.ensures (full-two _ _ c.requires _ _ _ c.push.ensures _ c.in_ok-a.was _ _ c.push-2.ensures c.in_err-b.was)

pub returns-in_err-c : goal.returns-in_err-c
returns-in_err-c c = rw c.from_residual-in_err-c.ensures (full-three _ _ c.requires _ _ _ c.push.ensures _ c.in_ok-a.was _ _ c.push-2.ensures _ c.in_ok-b.was _ _ c.push-3.ensures c.in_err-c.was)

pub returns : goal.returns
returns c = put_all c.args.units c.args.values c.requires _ _ _ c.push.ensures _ c.in_ok-a.was _ _ c.push-2.ensures _ c.in_ok-b.was _ _ c.push-3.ensures _ c.in_ok-c.was c.push-4.result c.push-4.new.room c.push-4.ensures
