-- `words::pack` meets its contract. Assumes nothing.
use mathlib.Core.Path.{◌≡◌}
use Prim.Native.Nat.{◌+◌, ◌*◌, ◌%◌, ◌^◌}
use native.Mathlib.Omega.{arith}
use Rattle.words.specs.Words.{pack, low}
use Rattle.words.specs.Laws.{pack-fits}
use Rattle.words.proofs.Shift.{shifted}
use Rattle.words.proofs.pack.Goals as goal

pub overflow_add-result : goal.overflow_add-result
unfolding pack low
overflow_add-result c = let sum : let a = c.args in a.h * 2 ^ a.k % 2 ^ 32 + c.low.result ≡ pack a.k a.h a.l = rw (shifted _ _ c.requires, c.low.ensures) in record { fits = rw (sum) (pack-fits _ _ _ (omega arith)) }

pub returns : goal.returns
unfolding pack low
returns c = let sum : let a = c.args in a.h * 2 ^ a.k % 2 ^ 32 + c.low.result ≡ pack a.k a.h a.l = rw (shifted _ _ c.requires, c.low.ensures) in sum
