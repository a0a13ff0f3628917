-- Law: no rule of the chart looks at the number of a token, so rows that agree in kinds and spellings are derived alike.
use Rattle.std.specs.Prelude.{◌≡◌, false, ℕ}
use mathlib.Core.List.{List, [], ◌∷◌}
use Rattle.chart.specs.Row.{RowToken, token, begins}
use Rattle.chart.specs.Tree.{Trees}
use Rattle.chart.specs.Chart
use Rattle.chart.specs.Chart.{Nonterminal, Derives, continues}

module _ (f : ℕ → ℕ) where
  -- The same row with other numbers.
  unfoldable pub renumbered : List RowToken → List RowToken
  renumbered [] = []
  renumbered (token k v ∷ xs) = token k (record { number = f v.number; spelling = v.spelling }) ∷ renumbered xs

  begins-renumbered : (K : ℕ) (xs : List RowToken) → begins K xs ≡ false → begins K (renumbered xs) ≡ false
  unfolding renumbered begins
  begins-renumbered K [] e = e
  begins-renumbered K (token k v ∷ xs) e = e

  continues-renumbered : (xs : List RowToken) → continues xs ≡ false → continues (renumbered xs) ≡ false
  unfolding renumbered continues
  continues-renumbered [] e = e
  continues-renumbered (token k v ∷ xs) e = e

  pub renumber : {n : Nonterminal} {xs ys : List RowToken} {t : Trees} → Derives n xs ys t → Derives n (renumbered xs) (renumbered ys) t
  unfolding renumbered
  renumber (Chart.file-rule a) = Chart.file-rule (renumber a)
  renumber Chart.declarations-end = Chart.declarations-end
  renumber (Chart.declarations-more a b) = Chart.declarations-more (renumber a) (renumber b)
  renumber (Chart.init a) = Chart.init (renumber a)
  renumber (Chart.run a) = Chart.run (renumber a)
  renumber (Chart.const-untyped a) = Chart.const-untyped (renumber a)
  renumber (Chart.const-typed a b) = Chart.const-typed (renumber a) (renumber b)
  renumber (Chart.use-private a) = Chart.use-private (renumber a)
  renumber (Chart.use-public a) = Chart.use-public (renumber a)
  renumber (Chart.import-path a) = Chart.import-path (renumber a)
  renumber (Chart.import-as a) = Chart.import-as (renumber a)
  renumber (Chart.import-all a) = Chart.import-all (renumber a)
  renumber (Chart.import-group a b c) = Chart.import-group (renumber a) (renumber b) (renumber c)
  renumber Chart.path-last = Chart.path-last
  renumber (Chart.path-more a) = Chart.path-more (renumber a)
  renumber (Chart.items-last a) = Chart.items-last (renumber a)
  renumber (Chart.items-trailing a) = Chart.items-trailing (renumber a)
  renumber (Chart.items_more a b) = Chart.items_more (renumber a) (renumber b)
  renumber Chart.item-plain = Chart.item-plain
  renumber Chart.item-as = Chart.item-as
  renumber (Chart.or a b c) = Chart.or a (renumber b) (renumber c)
  renumber (Chart.and a b c) = Chart.and a (renumber b) (renumber c)
  renumber (Chart.comparison a b c) = Chart.comparison a (renumber b) (renumber c)
  renumber (Chart.pipe a b c) = Chart.pipe a (renumber b) (renumber c)
  renumber (Chart.caret a b c) = Chart.caret a (renumber b) (renumber c)
  renumber (Chart.ampersand a b c) = Chart.ampersand a (renumber b) (renumber c)
  renumber (Chart.shift a b c) = Chart.shift a (renumber b) (renumber c)
  renumber (Chart.sum a b c) = Chart.sum a (renumber b) (renumber c)
  renumber (Chart.product a b c) = Chart.product a (renumber b) (renumber c)
  renumber (Chart.tighter a) = Chart.tighter (renumber a)
  renumber (Chart.minus a) = Chart.minus (renumber a)
  renumber (Chart.bang a) = Chart.bang (renumber a)
  renumber (Chart.tilde a) = Chart.tilde (renumber a)
  renumber (Chart.unprefixed a) = Chart.unprefixed (renumber a)
  renumber (Chart.member a) = Chart.member (renumber a)
  renumber (Chart.call a b) = Chart.call (renumber a) (renumber b)
  renumber (Chart.struct-literal a b) = Chart.struct-literal (renumber a) (renumber b)
  renumber (Chart.standalone a) = Chart.standalone (renumber a)
  renumber Chart.true-literal = Chart.true-literal
  renumber Chart.false-literal = Chart.false-literal
  renumber Chart.decimal = Chart.decimal
  renumber Chart.hexadecimal = Chart.hexadecimal
  renumber Chart.binary-number = Chart.binary-number
  renumber (Chart.string a b) = Chart.string a (renumber b)
  renumber (Chart.hex-string a b) = Chart.hex-string a (renumber b)
  renumber Chart.strings-end = Chart.strings-end
  renumber (Chart.strings-more a b) = Chart.strings-more a (renumber b)
  renumber (Chart.strings-more-hex a b) = Chart.strings-more-hex a (renumber b)
  renumber Chart.self_type = Chart.self_type
  renumber Chart.name = Chart.name
  renumber Chart.builtin-name = Chart.builtin-name
  renumber Chart.unit = Chart.unit
  renumber (Chart.paren a) = Chart.paren (renumber a)
  renumber (Chart.tuple a b) = Chart.tuple (renumber a) (renumber b)
  renumber (Chart.comptime-block a) = Chart.comptime-block (renumber a)
  renumber (Chart.eager-function a) = Chart.eager-function (renumber a)
  renumber (Chart.function a) = Chart.function (renumber a)
  renumber (Chart.struct a) = Chart.struct (renumber a)
  renumber (Chart.indexed-struct a b c) = Chart.indexed-struct (begins-renumbered _ _ a) (renumber b) (renumber c)
  renumber (Chart.tuple_type a) = Chart.tuple_type (renumber a)
  renumber (Chart.bare-block a) = Chart.bare-block (renumber a)
  renumber (Chart.conditional a b c) = Chart.conditional (renumber a) (renumber b) (renumber c)
  renumber (Chart.match a b) = Chart.match (renumber a) (renumber b)
  renumber Chart.expressions-end = Chart.expressions-end
  renumber (Chart.expressions-last a) = Chart.expressions-last (renumber a)
  renumber (Chart.expressions-more a b) = Chart.expressions-more (renumber a) (renumber b)
  renumber Chart.types-end = Chart.types-end
  renumber (Chart.types-last a) = Chart.types-last (renumber a)
  renumber (Chart.types_more a b) = Chart.types_more (renumber a) (renumber b)
  renumber Chart.fields-end = Chart.fields-end
  renumber (Chart.fields-last a) = Chart.fields-last (renumber a)
  renumber (Chart.fields-more a b) = Chart.fields-more (renumber a) (renumber b)
  renumber Chart.else-none = Chart.else-none
  renumber (Chart.else-block a) = Chart.else-block (renumber a)
  renumber (Chart.else-if a b c) = Chart.else-if (renumber a) (renumber b) (renumber c)
  renumber Chart.arms_end = Chart.arms_end
  renumber (Chart.arms_last a) = Chart.arms_last (renumber a)
  renumber (Chart.arms_more a b) = Chart.arms_more (renumber a) (renumber b)
  renumber (Chart.arm-else a) = Chart.arm-else (renumber a)
  renumber (Chart.arm-else-name a) = Chart.arm-else-name (renumber a)
  renumber (Chart.arm-key a b) = Chart.arm-key (renumber a) (renumber b)
  renumber (Chart.signature-rule a b c) = Chart.signature-rule (renumber a) (renumber b) (renumber c)
  renumber Chart.parameters-end = Chart.parameters-end
  renumber (Chart.parameters-last a) = Chart.parameters-last (renumber a)
  renumber (Chart.parameters-more a b) = Chart.parameters-more (renumber a) (renumber b)
  renumber (Chart.parameter-plain a) = Chart.parameter-plain (renumber a)
  renumber (Chart.parameter-comptime a) = Chart.parameter-comptime (renumber a)
  renumber Chart.type-any = Chart.type-any
  renumber (Chart.type-expression a) = Chart.type-expression (renumber a)
  renumber (Chart.struct-methods a) = Chart.struct-methods (renumber a)
  renumber (Chart.struct-field-last a b) = Chart.struct-field-last (renumber a) (renumber b)
  renumber (Chart.struct-field-more a b) = Chart.struct-field-more (renumber a) (renumber b)
  renumber Chart.methods-end = Chart.methods-end
  renumber (Chart.methods-fn a b) = Chart.methods-fn (renumber a) (renumber b)
  renumber (Chart.methods-eager a b) = Chart.methods-eager (renumber a) (renumber b)
  renumber (Chart.block-rule a) = Chart.block-rule (renumber a)
  renumber Chart.statements-end = Chart.statements-end
  renumber (Chart.statements-more a b) = Chart.statements-more (renumber a) (renumber b)
  renumber (Chart.closing a b) = Chart.closing (begins-renumbered _ _ a) (renumber b)
  renumber (Chart.closing-comptime a) = Chart.closing-comptime (renumber a)
  renumber (Chart.while a b) = Chart.while (renumber a) (renumber b)
  renumber (Chart.inline-while a b) = Chart.inline-while (renumber a) (renumber b)
  renumber (Chart.return a) = Chart.return (renumber a)
  renumber (Chart.comptime-semicolon a) = Chart.comptime-semicolon (renumber a)
  renumber (Chart.comptime-mid a b) = Chart.comptime-mid (renumber a) (begins-renumbered _ _ b)
  renumber (Chart.comptime-let a) = Chart.comptime-let (renumber a)
  renumber (Chart.let_rule a) = Chart.let_rule (renumber a)
  renumber (Chart.semicolon a b) = Chart.semicolon (begins-renumbered _ _ a) (renumber b)
  renumber (Chart.assign a b c) = Chart.assign (begins-renumbered _ _ a) (renumber b) (renumber c)
  renumber (Chart.mid-block a b c d) = Chart.mid-block (renumber a) b (continues-renumbered _ c) (begins-renumbered _ _ d)
  renumber (Chart.binding-mut a) = Chart.binding-mut (renumber a)
  renumber (Chart.binding-fixed a) = Chart.binding-fixed (renumber a)
  renumber (Chart.binding-untyped a) = Chart.binding-untyped (renumber a)
  renumber (Chart.binding-typed a b) = Chart.binding-typed (renumber a) (renumber b)
