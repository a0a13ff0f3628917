-- "Chart and parser both drop it, so a marked script may be free of reports." (01, W4): a marked text is derived where the text behind the mark is, with
-- the same tree.
use Rattle.std.specs.Prelude.{◌≡◌, Bool, ◌&&◌, ◌↔◌, leb, length, take}
use Rattle.std.proofs.Math.Path.{refl, subst}
use Rattle.std.proofs.Common.{sym, ◌∙◌, ap, ap₂, mod-lt, arith, lit<, pow_pos}
use Rattle.std.proofs.Math.Bool.{true, false, cond}
use Rattle.std.proofs.Math.Option as Option
use mathlib.Core.List.{List, [], ◌∷◌, ◌++◌, map}
use Prim.Native.Nat.{ℕ, zero, suc, pred, ◌+◌, ◌%◌, ◌^◌, ◌<◌, ◌≤◌}
use Rattle.std.proofs.Math.Dec.{leb-suc-suc}
use Rattle.std.proofs.Math.Seq.{slice}
use Rattle.words.specs.declared.error_token.ErrorToken.TheVariants as Case
use Rattle.words.specs.Token
use Rattle.words.specs.Token.{lex_error}
use Rattle.std.specs.Prelude.{Some, None}
use Rattle.std.proofs.Math.Pow as Pow
use Rattle.words.specs.Words.{pack, high, token_kind, token_end}
use Rattle.words.specs.Laws.{high-pack, low-pack}
use Rattle.scan.specs.declared.Token.{Token as LexToken}
use Rattle.scan.specs.Lexer.{longest_text, Lexeme as LexLexeme, from, token_at, tokens_from, mark, has_mark, word}
use Rattle.scan.specs.Laws.{ended}
use Rattle.scan.specs.Fits.{token-fits}
use Rattle.scan.specs.Marked.{unmarked, marked, moved, elsewhere}
use Rattle.literals.specs.Spelling.{span, word_at, token_start, covered, spelling}
use Rattle.chart.specs.Row.{RowToken, token, Lexeme, is_blank, row_from, row}
use Rattle.chart.specs.Tree.{Trees}
use Rattle.chart.specs.Chart.{Derives, file}
use Rattle.chart.proofs.Errors.{NoErrors, no-error-more, derived-clean}
use Rattle.chart.specs.Renumbered.{renumbered, renumber}
use Rattle.tree.specs.Stored.{stored}
use Rattle.reader.specs.Demand.{row_of, Derived, Agreed}

-- Words of tokens, and those of the same tokens three bytes later.
data Later : List ℕ → List ℕ → Type 0 where
  none : Later [] []
  next : {v w : ℕ} {vs ws : List ℕ} → token_kind v ≡ token_kind w → token_end v ≡ token_end w + 3 → Later ws vs → Later (w ∷ ws) (v ∷ vs)

later-end : {ws vs : List ℕ} → Later ws vs → (i : ℕ) → i < length ws → token_end (word_at vs i) ≡ token_end (word_at ws i) + 3
later-end none i h = absurd (omega arith)
later-end (next k e l) zero h = e
later-end (next k e l) (suc i) h = later-end l i (omega arith)

three : (n : ℕ) → n + 3 ≡ suc (suc (suc n))
three n = omega arith

leb-three : (m n : ℕ) → leb (suc (suc (suc m))) (suc (suc (suc n))) ≡ leb m n
leb-three m n = leb-suc-suc (suc (suc m)) (suc (suc n)) ∙ leb-suc-suc (suc m) (suc n) ∙ leb-suc-suc m n

covered-later : (t : List ℕ) (s e : ℕ) → covered (mark ++ t) (span (s + 3) (e + 3)) ≡ covered t (span s e)
unfolding covered
covered-later t s e = rw (three s, three e) (ap₂ (λ (p q : Bool). cond (p && q) (slice s e t) []) (leb-three s e) (leb-three e (length t)))

module _ (t ws vs : List ℕ) (m : ℕ) (m-end : token_end m ≡ 3) (l : Later ws vs) where
  start-later : (i : ℕ) → i ≤ length ws → token_start (m ∷ vs) (suc i) ≡ token_start ws i + 3
  unfolding token_start
  start-later zero h = m-end
  start-later (suc i) h = later-end l i (omega arith)

  spelled-later : (i : ℕ) → i < length ws → spelling (mark ++ t) (m ∷ vs) (suc i) ≡ spelling t ws i
  spelled-later i h = rw (start-later i (omega arith), later-end l i h) (covered-later t (token_start ws i) (token_end (word_at ws i)))

  row-later : (us ys : List ℕ) → Later us ys → (i : ℕ) → i + length us ≡ length ws → row_from (mark ++ t) (m ∷ vs) (suc i) ys ≡ renumbered suc (row_from t ws i us)
  unfolding row_from renumbered
  row-later [] [] none i h = refl
  row-later [] (y ∷ ys) r i h = elim r [ ]
  row-later (u ∷ us) [] r i h = elim r [ ]
  row-later (u ∷ us) (y ∷ ys) (next k e r) i h = rw (k, spelled-later i (omega arith), row-later us ys r (suc i) (omega arith)) (go (is_blank (token_kind u)))
    where
      go : (b : Bool) → cond b (renumbered suc (row_from t ws (suc i) us)) (token (token_kind u) (record { number = suc i; spelling = spelling t ws i }) ∷ renumbered suc (row_from t ws (suc i) us))
          ≡ renumbered suc (cond b (row_from t ws (suc i) us) (token (token_kind u) (record { number = i; spelling = spelling t ws i }) ∷ row_from t ws (suc i) us))
      go true = refl
      go false = refl

-- The kind of a word doesn't depend on its end.
kind-alone : (k l m : ℕ) → token_kind (pack 25 k l) ≡ token_kind (pack 25 k m)
unfolding pack high
kind-alone k l m = Pow.high (k % 2 ^ 7) 25 (mod-lt l (pow_pos 25)) ∙ sym (Pow.high (k % 2 ^ 7) 25 (mod-lt m (pow_pos 25)))

word-later : (t : LexToken) {ws vs : List ℕ} → t.end + 3 < 2 ^ 25 → Later ws vs → Later (word t ∷ ws) (word (moved 3 t) ∷ vs)
word-later t h l =
    next (kind-alone t.kind (t.end + 3) t.end)
    (low-pack 25 t.kind (t.end + 3) h ∙ ap (λ (e : ℕ). e + 3) (sym (low-pack 25 t.kind t.end (omega arith)))) l

later-tokens : (s : List ℕ) (at skip : ℕ) → at + length s ≤ longest_text → Later (map word (tokens_from at skip s)) (map word (map (moved 3) (tokens_from at skip s)))
unfolding tokens_from
later-tokens [] at skip h = word-later (ended Token.Eof at) (omega arith) none
later-tokens (b ∷ s) at zero h =
    let f = token-fits b s in
    word-later (from at (token_at (b ∷ s))) (omega (arith, f.within)) (later-tokens s (suc at) (pred (token_at (b ∷ s)).len) (omega arith))
later-tokens (b ∷ s) at (suc skip) h = later-tokens s (suc at) skip (omega arith)

-- The row of a text from its start on, a mark read as elsewhere.
abbrev pub plain_row : List ℕ → List RowToken
plain_row t = row t (map word (tokens_from 0 0 t))

mark-blank : (text tokens ws : List ℕ) → row_from text tokens 0 (word (ended Token.Whitespace 3) ∷ ws) ≡ row_from text tokens 1 ws
unfolding row_from is_blank
mark-blank text tokens ws = rw (high-pack 25 Token.Whitespace 3 (lit< tt))

back : (xs : List RowToken) → renumbered pred (renumbered suc xs) ≡ xs
unfolding renumbered
back [] = refl
back (token k v ∷ xs) = ap (λ (ys : List RowToken). token k v ∷ ys) (back xs)

module _ (t : List ℕ) (short : length t ≤ longest_text) where
  -- The row of a marked text: the mark is no part of it, and token numbers are one higher.
  pub marked_row : row_of (mark ++ t) ≡ renumbered suc (plain_row t)
  marked_row =
      let l = later-tokens t 0 0 (omega arith) in
      ap (λ (ts : List LexToken). row (mark ++ t) (map word ts)) (marked t)
      ∙ (mark-blank (mark ++ t) _ _ ∙ row-later t _ _ _ (low-pack 25 Token.Whitespace 3 (lit< tt)) l _ _ l 0 (omega arith))

  pub marked-derived : (u : Trees) → Derived (mark ++ t) u ↔ Derives file (plain_row t) [] u
  unfolding renumbered
  marked-derived u = (
    λ D. subst (λ (xs : List RowToken). Derives file xs [] u) (back (plain_row t)) (renumber pred (subst (λ (xs : List RowToken). Derives file xs [] u) marked_row D)),
    λ D. subst (λ (xs : List RowToken). Derives file xs [] u) (sym marked_row) (renumber suc D),
  )

  -- Behind the mark stands no other: derived exactly where the text behind it is.
  pub mark-dropped : has_mark t ≡ false → (u : Trees) → Derived (mark ++ t) u ↔ Derived t u
  mark-dropped e u = rw (unmarked t e) (marked-derived u)

  -- Both read: the one is free of reports where the other is, and then the words of both hold one tree, node for node.
  module _ (e : has_mark t ≡ false) {tokens nodes values tokens' nodes' values' : List ℕ} {tc nc vc rc tc' nc' vc' rc' : ℕ}
      (a : Agreed (mark ++ t) tokens nodes values tc nc vc rc) (b : Agreed t tokens' nodes' values' tc' nc' vc' rc') where
    pub marked-reports : (rc ≡ 0) ↔ (rc' ≡ 0)
    marked-reports = (
      λ z. b.exactly.1 (let (u, d) = a.exactly.0 z in (u, (mark-dropped e u).0 d)),
      λ z. a.exactly.1 (let (u, d) = b.exactly.0 z in (u, (mark-dropped e u).1 d)),
    )

    pub marked-tree : (u : Trees) → Derived t u
        → (stored (mark ++ t) (take tc tokens) nodes (take vc values) nc ≡ Option.some u)
        × (stored t (take tc' tokens') nodes' (take vc' values') nc' ≡ Option.some u)
        × (nc ≡ nc')
    marked-tree u d =
        let d⁺ = (mark-dropped e u).1 d in
        (a.tree u d⁺, b.tree u d, sym (a.all u d⁺) ∙ b.all u d)

first-clean : {k : ℕ} {v : Lexeme} {xs : List RowToken} → NoErrors (token k v ∷ xs) → lex_error k ≡ None
first-clean (no-error-more e n) = e

invalid-first : (text tokens ws : List ℕ) (w : ℕ) → token_kind w ≡ Token.InvalidCharError → NoErrors (row_from text tokens 0 (w ∷ ws)) → ⊥
unfolding row_from is_blank lex_error
invalid-first text tokens ws w e n =
    let v : Lexeme = record { number = 0; spelling = spelling text tokens 0 } in
    let xs = row_from text tokens 1 ws in
    let clean : Some Case.InvalidChar ≡ None = first-clean (subst (λ (k : ℕ). NoErrors (cond (is_blank k) xs (token k v ∷ xs))) e n) in
    absurd (let z : ◌≡◌ {A = ℕ} 0 1 = cc in omega arith)

-- A second mark is an invalid character, and no rule holds one: such a text is derived nowhere.
pub marked-twice : (t : List ℕ) → length (mark ++ t) ≤ longest_text → (u : Trees) → Derived (mark ++ (mark ++ t)) u → ⊥
unfolding tokens_from
marked-twice t short u d =
    invalid-first (mark ++ t) _ _ _
    (ap (λ (l : LexLexeme). token_kind (word (from 0 l))) (elsewhere t) ∙ high-pack 25 Token.InvalidCharError 3 (lit< tt))
    (derived-clean ((marked-derived (mark ++ t) short u).0 d))
