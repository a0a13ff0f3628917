-- `locate_in` meets its contract. The loop's invariant: `p` is the position of the byte that comes next.
use Rattle.std.proofs.Common.{◌≡◌, ◌<◌, ◌≤◌, sym, ◌∙◌, ap, length, min, arith, length-take}
use Rattle.std.proofs.lemmas.List.{get_or-take}
use Rattle.position.specs.Position.{position_in}
use Rattle.position.specs.Laws.{position-clip, position_first, position-most, position-next}
use Rattle.position.proofs.locate_in.Goals as goal

pub loop-byte-init : goal.loop-byte-init
loop-byte-init c = sym (position_first _)

pub past-p-requires : goal.past-p-requires
past-p-requires c =
    let text = c.args.text.now in
    let h : c.loop-byte.byte-index ≤ length text = omega (arith, length-take c.min.result text) in
    rw c.loop-byte.invariant (omega (arith, position-most text c.loop-byte.byte-index h))

pub loop-byte-preserved : goal.loop-byte-preserved
loop-byte-preserved c =
    let text = c.args.text.now in
    let i = c.loop-byte.byte-index in
    let here : i < min c.min.result (length text) = omega (arith, length-take c.min.result text) in
    let e = rw (c.loop-byte.invariant, get_or-take c.min.result text i 0 (omega arith)) at c.past-p.ensures in
    e ∙ sym (position-next text i (omega arith))

pub returns : goal.returns
returns c =
    let text = c.args.text.now in
    let e : c.loop-byte.byte-index ≡ min c.args.offset (length text) = omega (arith, length-take c.min.result text) in
    c.loop-byte.invariant ∙ ap (position_in text) e ∙ position-clip text c.args.offset
