-- No rule holds an error token: "No rule holds an error token" (01, The wall chart), as a law of the grammar.
use Rattle.std.specs.Prelude.{◌≡◌, refl, List, [], ◌∷◌, ◌++◌, ℕ, get_or}
use Rattle.std.proofs.Common.{ap}
use Rattle.words.specs.Token.{lex_error}
use Rattle.std.specs.Prelude.{None}
use Rattle.chart.specs.Row.{Lexeme, RowToken, token}
use Rattle.chart.specs.Tree.{Trees}
use Rattle.chart.specs.Chart
use Rattle.chart.specs.Chart.{OneOf, levels, Nonterminal, Derives, file}
use Rattle.chart.proofs.Levels.{each}

-- No token of a row is an error token.
pub data NoErrors : List RowToken → Type 0 where
  no-errors : NoErrors []
  no-error-more : {k : ℕ} {v : Lexeme} {xs : List RowToken} → lex_error k ≡ None → NoErrors xs → NoErrors (token k v ∷ xs)

-- From one row to what is left of it, no error token is passed.
data Free : List RowToken → List RowToken → Type 0 where
  done : {xs : List RowToken} → Free xs xs
  more : {k : ℕ} {v : Lexeme} {xs ys : List RowToken} → lex_error k ≡ None → Free xs ys → Free (token k v ∷ xs) ys

then : {xs ys zs : List RowToken} → Free xs ys → Free ys zs → Free xs zs
then done q = q
then (more e p) q = more e (then p q)

-- No operator is an error token.
clean : (k : ℕ) {o op : ℕ} → OneOf (get_or levels k []) o op → lex_error o ≡ None
unfolding lex_error
clean = each (λ k o op. lex_error o) (λ k o op. None) levels refl

free : {n : Nonterminal} {xs ys : List RowToken} {t : Trees} → Derives n xs ys t → Free xs ys
unfolding lex_error
free (Chart.file-rule a) = free a
free Chart.declarations-end = done
free (Chart.declarations-more a b) = then (free a) (free b)
free (Chart.init a) = more refl (free a)
free (Chart.run a) = more refl (free a)
free (Chart.const-untyped a) = more refl (more refl (more refl (then (free a) (more refl done))))
free (Chart.const-typed a b) = more refl (more refl (more refl (then (free a) (more refl (then (free b) (more refl done))))))
free (Chart.use-private a) = more refl (free a)
free (Chart.use-public a) = more refl (more refl (free a))
free (Chart.import-path a) = then (free a) (more refl done)
free (Chart.import-as a) = then (free a) (more refl (more refl (more refl done)))
free (Chart.import-all a) = then (free a) (more refl (more refl (more refl done)))
free (Chart.import-group a b c) = then (free a) (more refl (more refl (then (free b) (more refl (then (free c) (more refl done))))))
free Chart.path-last = more refl done
free (Chart.path-more a) = more refl (more refl (free a))
free (Chart.items-last a) = then (free a) (more refl done)
free (Chart.items-trailing a) = then (free a) (more refl (more refl done))
free (Chart.items_more a b) = then (free a) (more refl (free b))
free Chart.item-plain = more refl done
free Chart.item-as = more refl (more refl (more refl done))
free (Chart.or a b c) = then (free b) (more (clean 0 a) (free c))
free (Chart.and a b c) = then (free b) (more (clean 1 a) (free c))
free (Chart.comparison a b c) = then (free b) (more (clean 2 a) (free c))
free (Chart.pipe a b c) = then (free b) (more (clean 3 a) (free c))
free (Chart.caret a b c) = then (free b) (more (clean 4 a) (free c))
free (Chart.ampersand a b c) = then (free b) (more (clean 5 a) (free c))
free (Chart.shift a b c) = then (free b) (more (clean 6 a) (free c))
free (Chart.sum a b c) = then (free b) (more (clean 7 a) (free c))
free (Chart.product a b c) = then (free b) (more (clean 8 a) (free c))
free (Chart.tighter a) = free a
free (Chart.minus a) = more refl (free a)
free (Chart.bang a) = more refl (free a)
free (Chart.tilde a) = more refl (free a)
free (Chart.unprefixed a) = free a
free (Chart.member a) = then (free a) (more refl (more refl done))
free (Chart.call a b) = then (free a) (more refl (free b))
free (Chart.struct-literal a b) = then (free a) (more refl (free b))
free (Chart.standalone a) = free a
free Chart.true-literal = more refl done
free Chart.false-literal = more refl done
free Chart.decimal = more refl done
free Chart.hexadecimal = more refl done
free Chart.binary-number = more refl done
free (Chart.string a b) = more refl (free b)
free (Chart.hex-string a b) = more refl (free b)
free Chart.strings-end = done
free (Chart.strings-more a b) = more refl (free b)
free (Chart.strings-more-hex a b) = more refl (free b)
free Chart.self_type = more refl done
free Chart.name = more refl done
free Chart.builtin-name = more refl done
free Chart.unit = more refl (more refl done)
free (Chart.paren a) = more refl (then (free a) (more refl done))
free (Chart.tuple a b) = more refl (then (free a) (more refl (free b)))
free (Chart.comptime-block a) = more refl (free a)
free (Chart.eager-function a) = more refl (more refl (free a))
free (Chart.function a) = more refl (free a)
free (Chart.struct a) = more refl (more refl (free a))
free (Chart.indexed-struct a b c) = more refl (then (free b) (more refl (free c)))
free (Chart.tuple_type a) = more refl (more refl (free a))
free (Chart.bare-block a) = free a
free (Chart.conditional a b c) = more refl (then (free a) (then (free b) (free c)))
free (Chart.match a b) = more refl (then (free a) (more refl (free b)))
free Chart.expressions-end = more refl done
free (Chart.expressions-last a) = then (free a) (more refl done)
free (Chart.expressions-more a b) = then (free a) (more refl (free b))
free Chart.types-end = more refl done
free (Chart.types-last a) = then (free a) (more refl done)
free (Chart.types_more a b) = then (free a) (more refl (free b))
free Chart.fields-end = more refl done
free (Chart.fields-last a) = more refl (more refl (then (free a) (more refl done)))
free (Chart.fields-more a b) = more refl (more refl (then (free a) (more refl (free b))))
free Chart.else-none = done
free (Chart.else-block a) = more refl (free a)
free (Chart.else-if a b c) = more refl (more refl (then (free a) (then (free b) (free c))))
free Chart.arms_end = more refl done
free (Chart.arms_last a) = then (free a) (more refl done)
free (Chart.arms_more a b) = then (free a) (more refl (free b))
free (Chart.arm-else a) = more refl (more refl (free a))
free (Chart.arm-else-name a) = more refl (more refl (more refl (free a)))
free (Chart.arm-key a b) = then (free a) (more refl (free b))
free (Chart.signature-rule a b c) = more refl (then (free a) (then (free b) (free c)))
free Chart.parameters-end = more refl done
free (Chart.parameters-last a) = then (free a) (more refl done)
free (Chart.parameters-more a b) = then (free a) (more refl (free b))
free (Chart.parameter-plain a) = more refl (more refl (free a))
free (Chart.parameter-comptime a) = more refl (more refl (more refl (free a)))
free Chart.type-any = more refl (more refl done)
free (Chart.type-expression a) = free a
free (Chart.struct-methods a) = free a
free (Chart.struct-field-last a b) = more refl (more refl (then (free a) (free b)))
free (Chart.struct-field-more a b) = more refl (more refl (then (free a) (more refl (free b))))
free Chart.methods-end = more refl done
free (Chart.methods-fn a b) = more refl (more refl (then (free a) (free b)))
free (Chart.methods-eager a b) = more refl (more refl (more refl (then (free a) (free b))))
free (Chart.block-rule a) = more refl (free a)
free Chart.statements-end = more refl done
free (Chart.statements-more a b) = then (free a) (free b)
free (Chart.closing a b) = then (free b) (more refl done)
free (Chart.closing-comptime a) = more refl (then (free a) (more refl done))
free (Chart.while a b) = more refl (then (free a) (free b))
free (Chart.inline-while a b) = more refl (more refl (then (free a) (free b)))
free (Chart.return a) = more refl (then (free a) (more refl done))
free (Chart.comptime-semicolon a) = more refl (then (free a) (more refl done))
free (Chart.comptime-mid a b) = more refl (free a)
free (Chart.comptime-let a) = more refl (more refl (free a))
free (Chart.let_rule a) = more refl (free a)
free (Chart.semicolon a b) = then (free b) (more refl done)
free (Chart.assign a b c) = then (free b) (more refl (then (free c) (more refl done)))
free (Chart.mid-block a b c d) = free a
free (Chart.binding-mut a) = more refl (free a)
free (Chart.binding-fixed a) = free a
free (Chart.binding-untyped a) = more refl (more refl (then (free a) (more refl done)))
free (Chart.binding-typed a b) = more refl (more refl (then (free a) (more refl (then (free b) (more refl done)))))

-- What a rule leaves is the end of the row that it was given.
pub splits : {n : Nonterminal} {xs ys : List RowToken} {t : Trees} → Derives n xs ys t → (zs : List RowToken) × (xs ≡ zs ++ ys)
splits d = go (free d)
  where
    go : {xs ys : List RowToken} → Free xs ys → (zs : List RowToken) × (xs ≡ zs ++ ys)
    go done = ([], refl)
    go (more {k} {v} q p) = let (zs, e) = go p in (token k v ∷ zs, ap (λ l. token k v ∷ l) e)

all-free : {xs : List RowToken} → Free xs [] → NoErrors xs
all-free p = go p refl
  where
    go : {xs ys : List RowToken} → Free xs ys → ys ≡ [] → NoErrors xs
    go done e = rw e no-errors
    go (more q p) e = no-error-more q (go p e)

-- A row that is derived holds no error token.
pub derived-clean : {xs : List RowToken} {t : Trees} → Derives file xs [] t → NoErrors xs
derived-clean d = all-free (free d)
