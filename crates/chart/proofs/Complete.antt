-- The chart and the parser: sound, complete, one tree.
use Rattle.std.specs.Prelude.{◌≡◌, ◌⊎◌, ◌↔◌, List, [], ℕ, suc, ◌+◌, ◌<◌}
use Rattle.std.proofs.Common.{sym, ◌∙◌, inl, inr, arith}
use Rattle.chart.specs.Row.{RowToken}
use Rattle.chart.specs.Tree.{Trees}
use Rattle.chart.specs.Chart
use Rattle.chart.specs.Chart.{Nonterminal, Derives, file}
use Rattle.chart.specs.Parser.{parse, ok, deep}
use Rattle.chart.specs.Outcome.{same, sunk}
use Rattle.chart.proofs.Levels.{role}
use Rattle.chart.proofs.Laws.{ok-trees}
use Rattle.chart.proofs.First.{block_start}
use Rattle.chart.proofs.Rules
use Rattle.chart.proofs.Rules.{Read}
use Rattle.chart.proofs.Sound.{s-file}

-- Every rule at once.
pub read : {n : Nonterminal} {xs ys : List RowToken} {t : Trees} → Derives n xs ys t → Read n xs ys t
read (Chart.or a b c) = Rules.r-binary (role 0 a) (read b) (read c)
read (Chart.and a b c) = Rules.r-binary (role 1 a) (read b) (read c)
read (Chart.comparison a b c) = Rules.r-binary (role 2 a) (read b) (read c)
read (Chart.pipe a b c) = Rules.r-binary (role 3 a) (read b) (read c)
read (Chart.caret a b c) = Rules.r-binary (role 4 a) (read b) (read c)
read (Chart.ampersand a b c) = Rules.r-binary (role 5 a) (read b) (read c)
read (Chart.shift a b c) = Rules.r-binary (role 6 a) (read b) (read c)
read (Chart.sum a b c) = Rules.r-binary (role 7 a) (read b) (read c)
read (Chart.product a b c) = Rules.r-binary (role 8 a) (read b) (read c)
read (Chart.tighter a) = Rules.r-tighter (read a)
read (Chart.minus a) = Rules.r-minus (read a)
read (Chart.bang a) = Rules.r-bang (read a)
read (Chart.tilde a) = Rules.r-tilde (read a)
read (Chart.unprefixed a) = Rules.r-unprefixed (read a)
read (Chart.member a) = Rules.r-member (read a)
read (Chart.call a b) = Rules.r-call (read a) (read b)
read (Chart.struct-literal a b) = Rules.r-struct-literal (read a) (read b)
read (Chart.standalone a) = Rules.r-standalone (read a)
read Chart.true-literal = Rules.r-true-literal
read Chart.false-literal = Rules.r-false-literal
read Chart.decimal = Rules.r-decimal
read Chart.hexadecimal = Rules.r-hexadecimal
read Chart.binary-number = Rules.r-binary-number
read Chart.self_type = Rules.r-self-type
read Chart.name = Rules.r-name
read Chart.builtin-name = Rules.r-builtin-name
read (Chart.string a b) = Rules.r-string a (read b)
read (Chart.hex-string a b) = Rules.r-hex-string a (read b)
read Chart.unit = Rules.r_unit
read (Chart.paren a) = Rules.r-paren (read a)
read (Chart.tuple a b) = Rules.r-tuple (read a) (read b)
read (Chart.comptime-block a) = Rules.r-comptime-block (read a)
read (Chart.eager-function a) = Rules.r-eager-function (read a)
read (Chart.function a) = Rules.r-function (read a)
read (Chart.struct a) = Rules.r-struct (read a)
read (Chart.indexed-struct a b c) = Rules.r-indexed-struct a (read b) (read c)
read (Chart.tuple_type a) = Rules.r-tuple-type (read a)
read (Chart.bare-block a) = Rules.r-bare-block (read a)
read (Chart.conditional a b c) = Rules.r-conditional (read a) (read b) (read c)
read (Chart.match a b) = Rules.r-match (read a) (read b)
read Chart.strings-end = Rules.r-strings-end
read (Chart.strings-more a b) = Rules.r-strings-more a (read b)
read (Chart.strings-more-hex a b) = Rules.r-strings-more-hex a (read b)
read Chart.expressions-end = Rules.r-expressions-end
read (Chart.expressions-last a) = Rules.r-expressions-last (read a)
read (Chart.expressions-more a b) = Rules.r-expressions-more (read a) (read b)
read Chart.types-end = Rules.r-types-end
read (Chart.types-last a) = Rules.r-types-last (read a)
read (Chart.types_more a b) = Rules.r-types-more (read a) (read b)
read Chart.fields-end = Rules.r-fields-end
read (Chart.fields-last a) = Rules.r-fields-last (read a)
read (Chart.fields-more a b) = Rules.r-fields-more (read a) (read b)
read Chart.else-none = Rules.r-else-none
read (Chart.else-block a) = Rules.r-else-block (read a)
read (Chart.else-if a b c) = Rules.r-else-if (read a) (read b) (read c)
read Chart.arms_end = Rules.r-arms-end
read (Chart.arms_last a) = Rules.r-arms-last (read a)
read (Chart.arms_more a b) = Rules.r-arms-more (read a) (read b)
read (Chart.arm-else a) = Rules.r-arm-else (read a)
read (Chart.arm-else-name a) = Rules.r-arm-else-name (read a)
read (Chart.arm-key a b) = Rules.r-arm-key (read a) (read b)
read (Chart.signature-rule a b c) = Rules.r-signature-rule (read a) (read b) (read c)
read Chart.parameters-end = Rules.r-parameters-end
read (Chart.parameters-last a) = Rules.r-parameters-last (read a)
read (Chart.parameters-more a b) = Rules.r-parameters-more (read a) (read b)
read (Chart.parameter-plain a) = Rules.r-parameter-plain (read a)
read (Chart.parameter-comptime a) = Rules.r-parameter-comptime (read a)
read Chart.type-any = Rules.r-type-any
read (Chart.type-expression a) = Rules.r-type-expression (read a)
read (Chart.struct-methods a) = Rules.r-struct-methods (read a)
read (Chart.struct-field-last a b) = Rules.r-struct-field-last (read a) (read b)
read (Chart.struct-field-more a b) = Rules.r-struct-field-more (read a) (read b)
read Chart.methods-end = Rules.r-methods-end
read (Chart.methods-fn a b) = Rules.r-methods-fn (read a) (read b)
read (Chart.methods-eager a b) = Rules.r-methods-eager (read a) (read b)
read (Chart.block-rule a) = Rules.r-block-rule (read a)
read Chart.statements-end = Rules.r-statements-end
read (Chart.statements-more a b) = Rules.r-statements-more (read a) (read b)
read (Chart.closing a b) = Rules.r-closing a (read b)
read (Chart.closing-comptime a) = Rules.r-closing-comptime (read a)
read (Chart.while a b) = Rules.r-while (read a) (read b)
read (Chart.inline-while a b) = Rules.r-inline-while (read a) (read b)
read (Chart.return a) = Rules.r-return (read a)
read (Chart.comptime-semicolon a) = Rules.r-comptime-semicolon (read a)
read (Chart.comptime-mid a b) = Rules.r-comptime-mid (read a) b
read (Chart.comptime-let a) = Rules.r-comptime-let (read a)
read (Chart.let_rule a) = Rules.r-let-rule (read a)
read (Chart.semicolon a b) = Rules.r-semicolon a (read b)
read (Chart.assign a b c) = Rules.r-assign a (read b) (read c)
read (Chart.mid-block a b c d) = Rules.r-mid-block (block_start _ a b) (read a) b c d
read (Chart.binding-mut a) = Rules.r-binding-mut (read a)
read (Chart.binding-fixed a) = Rules.r-binding-fixed (read a)
read (Chart.binding-untyped a) = Rules.r-binding-untyped (read a)
read (Chart.binding-typed a b) = Rules.r-binding-typed (read a) (read b)
read Chart.declarations-end = Rules.r-declarations-end
read (Chart.declarations-more a b) = Rules.r-declarations-more (read a) (read b)
read (Chart.init a) = Rules.r-init (read a)
read (Chart.run a) = Rules.r-run (read a)
read (Chart.const-untyped a) = Rules.r-const-untyped (read a)
read (Chart.const-typed a b) = Rules.r-const-typed (read a) (read b)
read (Chart.use-private a) = Rules.r-use-private (read a)
read (Chart.use-public a) = Rules.r-use-public (read a)
read (Chart.import-path a) = Rules.r-import-path (read a)
read (Chart.import-as a) = Rules.r-import-as (read a)
read (Chart.import-all a) = Rules.r-import-all (read a)
read (Chart.import-group a b c) = Rules.r-import-group (read a) (read b) (read c)
read Chart.path-last = Rules.r-path-last
read (Chart.path-more a) = Rules.r-path-more (read a)
read (Chart.items-last a) = Rules.r-items-last (read a)
read (Chart.items-trailing a) = Rules.r-items-trailing (read a)
read (Chart.items_more a b) = Rules.r-items-more (read a) (read b)
read Chart.item-plain = Rules.r-item-plain
read Chart.item-as = Rules.r-item-as
read (Chart.file-rule a) = Rules.r-file-rule (read a)

-- What is derived is read, unless the depth is not enough.
pub complete : (xs : List RowToken) (t : Trees) → Derives file xs [] t → (depth : ℕ) → (parse depth xs ≡ ok t []) ⊎ (parse depth xs ≡ deep)
unfolding parse
complete xs t D depth = elim ((read D).claim depth) [ same e ↦ inl e | sunk e b ↦ inr e ]

-- Some depth is enough.
pub enough : (xs : List RowToken) (t : Trees) → Derives file xs [] t → (n : ℕ) × ((depth : ℕ) → n < depth → parse depth xs ≡ ok t [])
unfolding parse
enough xs t D = let r = read D in (r.size, λ depth l. elim (r.claim depth) [ same e ↦ e | sunk e b ↦ absurd (omega arith) ])

-- What is read is derived.
pub derived : (depth : ℕ) (xs : List RowToken) (t : Trees) → parse depth xs ≡ ok t [] → Derives file xs [] t
unfolding parse
derived depth xs t e = s-file depth xs t e

-- A row has at most one tree.
pub one-tree : (xs : List RowToken) (t u : Trees) → Derives file xs [] t → Derives file xs [] u → t ≡ u
one-tree xs t u D E = let a = enough xs t D in let b = enough xs u E in
    ok-trees (sym (a.1 (suc (a.0 + b.0)) (omega arith)) ∙ b.1 (suc (a.0 + b.0)) (omega arith))

-- Where the depth is enough, the parser gives a tree just where the chart derives it. So the bounds that its lists are read with never run out on a row that is derived.
pub exact : (depth : ℕ) (xs : List RowToken) → ¬ (parse depth xs ≡ deep) → (t : Trees) → (parse depth xs ≡ ok t []) ↔ Derives file xs [] t
exact depth xs h t = (derived depth xs t, λ D. elim (complete xs t D depth) [ inl e ↦ e | inr e ↦ absurd (h e) ])
