-- `word` meets its contract.
use Rattle.tokens.specs.At.{hex-at, hex-fits, word_at, word_fits, spelled-there}
use native.Mathlib.Omega.{arith}
use Rattle.tokens.proofs.word.Goals as goal

pub overflow_add-at : goal.overflow_add-at
overflow_add-at c = omega (arith, hex-fits c.args.text.now c.args.at _ (spelled-there _ c.args.text.now c.args.at _ c.starts_with.ensures.value) c.if-starts_with.true)

pub returns-then-starts_with : goal.returns-then-starts_with
returns-then-starts_with c = hex-at _ _ _ _ (spelled-there _ c.args.text.now c.args.at _ c.starts_with.ensures.value) c.if-starts_with.true c.string.ensures

pub slice_bounds-keyword-end : goal.slice_bounds-keyword-end
slice_bounds-keyword-end c = (word_fits _ _ c.requires.0 _ c.ident_end-end.ensures).1

pub returns : goal.returns
returns c = word_at _ _ c.requires.0 _ _ _ c.requires.1 (spelled-there _ c.args.text.now c.args.at _ c.starts_with.ensures.value) c.if-starts_with.false c.ident_end-end.ensures c.keyword-kind.ensures
