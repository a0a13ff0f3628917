-- `put_chunks` meets its contract: the limbs of the number so far, and the digits that are left, make the whole.
use Rattle.numerals.specs.Put.{Digits, digits-there, digits_more, digits-full, digits_last}
use native.Mathlib.Omega.{arith}
use Rattle.numerals.proofs.put_chunks.Goals as goal

pub loop-i-preserved : goal.loop-i-preserved
loop-i-preserved c = let more = digits_more _ _ _ _ _ _ _ c.loop-i.invariant.1 (omega (arith, c.requires.0)) _ _ _ (record { value = _; unit = _; chunk = c.chunk_at-p.ensures; pushed = c.push.ensures }) _ c.in_ok-n-2.was in (omega (arith, c.loop-i.invariant.0, more.0), more.1)

pub returns-in_err-n-2 : goal.returns-in_err-n-2
returns-in_err-n-2 c = rw c.from_residual-in_err-n-2.ensures (let there : Digits c.args.radix c.args.source.now c.args.prefix c.args.room.now c.loop-i.room c.loop-i.n c.loop-i.i = digits-there _ _ _ _ _ _ _ (rw c.in_ok-n.was at c.put_fours-t.ensures) _ _ _ c.loop-i.invariant.0 c.loop-i.invariant.1 in digits-full _ _ _ _ _ _ _ (there) (omega (arith, c.requires.0)) _ _ _ (record { value = _; unit = _; chunk = c.chunk_at-p.ensures; pushed = c.push.ensures }) c.in_err-n-2.was)

pub returns : goal.returns
returns c = let there : Digits c.args.radix c.args.source.now c.args.prefix c.args.room.now c.loop-i.room c.loop-i.n c.loop-i.i = digits-there _ _ _ _ _ _ _ (rw c.in_ok-n.was at c.put_fours-t.ensures) _ _ _ c.loop-i.invariant.0 c.loop-i.invariant.1 in digits_last _ _ _ _ _ _ _ (there) c.loop-i-test.false
