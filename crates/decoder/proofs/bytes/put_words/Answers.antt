-- `put_words` meets its contract: the words so far are a stretch of plain bytes.
use mathlib.Core.Path.{refl}
use native.Mathlib.Omega.{arith}
use Rattle.decoder.specs.Plain.{stretch-first, stretch-next}
use Rattle.decoder.proofs.bytes.put_words.Goals as goal

pub loop-t-init : goal.loop-t-init
loop-t-init c = λ base. stretch-first _ _ _ _ _ _ (omega arith) _ refl

pub loop-t-preserved : goal.loop-t-preserved
loop-t-preserved c = λ base. stretch-next base _ _ _ _ _ _ _ _ (c.loop-t.invariant base) (omega arith) (c.all_plain.ensures c.if-not-all_plain.false) c.requires.0 (omega arith) _ c.word.ensures
