-- `keyword` meets its contract: where the table has no keyword, or the word is spelled otherwise, it is an Identifier.
use mathlib.Core.Path.{refl, sym, ◌∙◌, ap}
use native.Mathlib.Omega.{arith}
use Rattle.scan.specs.Longest.{same, equal-same}
use Rattle.rules.specs.Keys.{other_length, no_word, own-word, other_word, key-from, key-to, spelt-part}
use Rattle.tables.proofs.Tables.keyword.Goals as goal
use Rattle.tables.proofs.Tables.keyword.Goals.{then-n-lt1-via-then-n-lt1, then-n-lt1-via-else-n-lt1+then-n-gt8}

pub returns-then-n-lt1 : goal.returns-then-n-lt1
returns-then-n-lt1 c = other_length _ (λ l g. elim c.then-n-lt1.branch [ then-n-lt1-via-then-n-lt1 w ↦ omega (arith, w.if-n-lt1.true) | then-n-lt1-via-else-n-lt1+then-n-gt8 w ↦ omega (arith, w.if-n-gt8.true) ])

pub returns-then-key-eq45 : goal.returns-then-key-eq45
returns-then-key-eq45 c = no_word _ _ c.key_of-key.ensures c.if-n-lt1.false c.if-key-eq45.true

pub overflow_sub-line : goal.overflow_sub-line
overflow_sub-line c = key-from c.args.word.now _ c.key_of-key.ensures c.if-key-eq45.false

pub overflow_mul-line : goal.overflow_mul-line
overflow_mul-line c = omega (arith, key-to c.args.word.now _ c.key_of-key.ensures c.if-key-eq45.false)

pub overflow_add-line : goal.overflow_add-line
overflow_add-line c = omega (arith, key-to c.args.word.now _ c.key_of-key.ensures c.if-key-eq45.false, c.if-n-gt8.false)

pub slice_bounds-eq-end : goal.slice_bounds-eq-end
slice_bounds-eq-end c = omega (arith, key-to c.args.word.now _ c.key_of-key.ensures c.if-key-eq45.false, c.if-n-gt8.false)

pub overflow_sub-result : goal.overflow_sub-result
overflow_sub-result c = omega (arith, key-from c.args.word.now _ c.key_of-key.ensures c.if-key-eq45.false)

pub returns-then-eq : goal.returns-then-eq
returns-then-eq c = let word = c.args.word.now in let part = spelt-part word _ c.key_of-key.ensures c.if-key-eq45.false _ _ _ c.args.self.now.spellings_are refl refl in own-word word _ c.key_of-key.ensures c.if-key-eq45.false (ap (λ w. same w word) (sym part) ∙ (sym (c.eq.ensures ∙ equal-same _ _) ∙ c.if-eq.true))

pub returns : goal.returns
returns c = let word = c.args.word.now in let part = spelt-part word _ c.key_of-key.ensures c.if-key-eq45.false _ _ _ c.args.self.now.spellings_are refl refl in other_word word c.key_of-key.result c.key_of-key.ensures (ap (λ w. same w word) (sym part) ∙ (sym (c.eq.ensures ∙ equal-same _ _) ∙ c.if-eq.false))
