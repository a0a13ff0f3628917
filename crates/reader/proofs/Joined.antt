-- Demand 3 is met: the four steps from the chart to the words, put together, and what lexing gives.
use Rattle.std.specs.Prelude.{◌≡◌, refl, ◌⊎◌, List, [], ◌∷◌, ℕ, length, take}
use Rattle.std.proofs.Common.{◌∙◌, ap, inl, inr, arith}
use Rattle.std.proofs.Math.Option.{Option}
use Rattle.words.specs.Refusal
use Rattle.words.specs.Answer.{Answer, done, refused}
use Rattle.lexer.specs.Lex.{lexed, lexed_words}
use Rattle.scan.specs.Lexer.{tokens_of}
use Rattle.definition.specs.Parse.{Parsed, parsed, max_depth}
use Rattle.definition.specs.Abstract.{row_from, World, Fate, ok, deep, parsed_a}
use Rattle.definition.proofs.Simulates.{Outcome, is_read, has-reports, is-late, is-deep, is-short, is-short-deep, simulates, Enough, answered, too-deep}
use Rattle.definition.proofs.Ends.{Whole, whole, read_whole}
use Rattle.chart.specs.Row.{row}
use Rattle.chart.specs.Tree.{Trees, none, ◌▸◌}
use Rattle.chart.specs.Chart.{Derives, file}
use Rattle.chart.specs.Parser.{parse}
use Rattle.chart.specs.Parser as Chart
use Rattle.chart.proofs.Complete.{derived, complete, one-tree}
use Rattle.chart.proofs.Errors.{NoErrors, derived-clean}
use Rattle.tree.specs.Stored.{stored}
use Rattle.tree.specs.Grown.{sizes}
use Rattle.tree.proofs.Holds.{file-held}
use Rattle.rising.proofs.Parsed.{parsed-family}
use Rattle.tree.specs.Rows.{Clean}
use Rattle.agreement.specs.Sim.{Sim, gives, fails, sinks, Made, made}
use Rattle.agreement.specs.Files.{FileRead, file-read, file-agrees}
use Rattle.reader.specs.Read.{Read, Lent, after, parsing, after_lexing, reads}
use Rattle.reader.specs.Rows.{Counted, counted, not-lexed, lexed-counted, lexed-tokens, lexed-length, tokens-few, row-short, row-clean, text-bytes, given-cost, given-limit, given-ahead, given-clean}
use Rattle.reader.specs.Demand.{row_of, Derived, Agreed, Agrees}

-- An answer beside an outcome is a tree of the row.
tree_of : {text tokens : List ℕ} {f : Fate ℕ} {o : Chart.Outcome} {a : ℕ} {w : World} → Sim (Made (FileRead text tokens)) f o → f ≡ ok a w → (t : Trees) × (o ≡ Chart.ok t [])
tree_of (gives (made (file-read {t} z b g))) e = (t ▸ none, refl)
tree_of fails e = absurd (let z : ◌≡◌ {A = ℕ} 0 1 = cc in omega arith)
tree_of sinks e = absurd (let z : ◌≡◌ {A = ℕ} 0 1 = cc in omega arith)

-- A tree of the row is an answer; a row too deep is too deep.
answer-of : {text tokens : List ℕ} {f : Fate ℕ} {o : Chart.Outcome} {t : Trees} → Sim (Made (FileRead text tokens)) f o → o ≡ Chart.ok t [] → (a : ℕ) × (w : World) × (f ≡ ok a w)
answer-of (gives {a} {u} x) e = (a, u, refl)
answer-of fails e = absurd (let z : ◌≡◌ {A = ℕ} 0 1 = cc in omega arith)
answer-of sinks e = absurd (let z : ◌≡◌ {A = ℕ} 0 1 = cc in omega arith)

depth-of : {text tokens : List ℕ} {f : Fate ℕ} {o : Chart.Outcome} → Sim (Made (FileRead text tokens)) f o → o ≡ Chart.deep → (w : World) × (f ≡ deep w)
depth-of (gives (made x)) e = absurd (let z : ◌≡◌ {A = ℕ} 0 1 = cc in omega arith)
depth-of fails e = absurd (let z : ◌≡◌ {A = ℕ} 0 1 = cc in omega arith)
depth-of (sinks {u}) e = (u, refl)

-- A tree of the row beside what was parsed: no report, and the words hold it.
held_by : {text tokens : List ℕ} {a b c nodes values reports : ℕ} {p : Parsed} {f : Fate ℕ} {o : Chart.Outcome} {t : Trees} → Outcome text tokens a b c p f → Sim (Made (FileRead text tokens)) f o → (o ≡ Chart.ok t []) ⊎ (o ≡ Chart.deep) → p.answer ≡ done (nodes ∷ values ∷ reports ∷ [])
    → (reports ≡ 0) × (stored text tokens p.words.nodes (take values p.words.values) nodes ≡ Option.some t) × (sizes t ≡ nodes)
unfolding sizes
held_by {text} {tokens} {nodes = nodes} {values = values} {reports = reports} {t = t} (is_read {w = w} {m = m} x y) (gives (made (file-read {t = t₁} z b g))) (inl e) q =
    let n : nodes ≡ length w.store = cc in
    let v : values ≡ length w.values = cc in
    let r : reports ≡ 0 = cc in
    let tree : t ≡ t₁ ▸ none = cc in
    (r, rw (n, v, y.words, tree) (file-held x.plain (x.links g) b), rw (n, tree) (omega (arith, b.size_is)))
held_by (is_read x y) (gives (made (file-read z b g))) (inr e) q = absurd (let z : ◌≡◌ {A = ℕ} 0 1 = cc in omega arith)
held_by (has-reports h) fails (inl e) q = absurd (let z : ◌≡◌ {A = ℕ} 0 1 = cc in omega arith)
held_by (has-reports h) fails (inr e) q = absurd (let z : ◌≡◌ {A = ℕ} 0 1 = cc in omega arith)
held_by is-late x e q = absurd (let z : ◌≡◌ {A = ℕ} 0 1 = cc in omega arith)
held_by is-deep x e q = absurd (let z : ◌≡◌ {A = ℕ} 0 1 = cc in omega arith)
held_by (is-short l) x e q = absurd (let z : ◌≡◌ {A = ℕ} 0 1 = cc in omega arith)
held_by (is-short-deep l) x e q = absurd (let z : ◌≡◌ {A = ℕ} 0 1 = cc in omega arith)

module _ (text : List ℕ) (lent n : ℕ) (e : lexed text lent ≡ done (n ∷ [])) where
  abbrev tokens : List ℕ
  tokens = take n (lexed_words text lent)

  same_rows : row text tokens ≡ row_of text
  same_rows = ap (row text) (lexed-tokens text lent n e)

  -- Where no token is an error, parsing agrees with the parser of rows.
  parsing-agrees : Clean (row_from tokens 0 (length tokens)) → Sim (Made (FileRead text tokens)) (parsed_a text tokens) (parse max_depth (row text tokens))
  parsing-agrees c =
      file-agrees text tokens (omega (arith, lexed-length text lent n e, tokens-few text lent n e)) (text-bytes text lent n e)
      (rw (given-limit text lent n e) (given-ahead text lent n e _ _ _ _ c))
      (given-cost text lent n e)
      (omega (arith, row-short text tokens tokens 0, given-limit text lent n e))

  -- Where the parser of rows answers a tree at the depth that is allowed, reading into long enough slices doesn't refuse.
  pub reads-through : (t : Trees) → parse max_depth (row_of text) ≡ Chart.ok t [] → (w : World) × ((a b c : ℕ) → Enough text tokens a b c w → (parsed text tokens a b c).answer ≡ done (length w.store ∷ length w.values ∷ 0 ∷ []))
  reads-through t p =
      let p₁ : parse max_depth (row text tokens) ≡ Chart.ok t [] = rw same_rows p in
      let x = answer-of (parsing-agrees (row-clean text tokens (derived-clean (derived max_depth (row text tokens) t p₁)))) p₁ in
      (x.1, λ a b c h. answered text tokens a b c x.2 h)

  -- Where no token is an error and it is too deep, reading into long enough slices refuses with 3.
  pub sinks-too : NoErrors (row_of text) → parse max_depth (row_of text) ≡ Chart.deep → (w : World) × ((a b c : ℕ) → Enough text tokens a b c w → (parsed text tokens a b c).answer ≡ refused Refusal.TooDeep w.at)
  sinks-too h p =
      let x = depth-of (parsing-agrees (row-clean text tokens (rw same_rows h))) (rw same_rows p) in
      (x.0, λ a b c h. too-deep text tokens a b c x.1 h)

  module _ (a b c : ℕ) {nodes values reports : ℕ} (q : (parsed text tokens a b c).answer ≡ done (nodes ∷ values ∷ reports ∷ [])) where
    derives : reports ≡ 0 → (t : Trees) × Derived text t
    derives z = rw (← same_rows) (go (read_whole text tokens a b c (rw z at q)) refl)
      where
        go : {f : Fate ℕ} → Whole text tokens a b nodes values (parsed text tokens a b c).words f → parsed_a text tokens ≡ f → (t : Trees) × Derives file (row text tokens) [] t
        go (whole x y p h) r = let (t, o) = tree_of (parsing-agrees (given-clean text lent n e p h)) r in (t, derived max_depth (row text tokens) t o)

    held : (t : Trees) → Derived text t → (reports ≡ 0) × (stored text tokens (parsed text tokens a b c).words.nodes (take values (parsed text tokens a b c).words.values) nodes ≡ Option.some t) × (sizes t ≡ nodes)
    held t d =
        let d₁ : Derives file (row text tokens) [] t = rw same_rows d in
        held_by (simulates text tokens a b c) (parsing-agrees (row-clean text tokens (derived-clean d₁))) (complete (row text tokens) t d₁ max_depth) q

    pub parsed-agreed : Agreed text (lexed_words text lent) (parsed text tokens a b c).words.nodes (parsed text tokens a b c).words.values n nodes values reports
    parsed-agreed =
        record {
          exactly = (derives, λ x. (held x.0 x.1).0);
          one = λ t u. one-tree (row_of text) t u;
          tree = λ t d. (held t d).1;
          all = λ t d. (held t d).2;
          family = parsed-family text tokens a b c q;
        }

-- Demand 3 of reading, whatever slices are lent: where it doesn't refuse.
pub agreed : (text : List ℕ) (lent : Lent) {tokens nodes values reports : ℕ} → (reads text lent).answer ≡ done (tokens ∷ nodes ∷ values ∷ reports ∷ [])
    → Agreed text (reads text lent).tokens (reads text lent).nodes (reads text lent).values tokens nodes values reports
unfolding reads after_lexing after
agreed text lent {tokens = n} {nodes = nodes} {values = values} {reports = reports} = lexing (lexed text lent.tokens) refl
  where
    words : List ℕ
    words = lexed_words text lent.tokens

    parsed-to : (k : ℕ) → lexed text lent.tokens ≡ done (k ∷ []) → (y : Answer) → (parsing text lent words k).answer ≡ y → (after lent words k (parsing text lent words k) y).answer ≡ done (n ∷ nodes ∷ values ∷ reports ∷ [])
        → Agreed text (after lent words k (parsing text lent words k) y).tokens (after lent words k (parsing text lent words k) y).nodes (after lent words k (parsing text lent words k) y).values n nodes values reports
    parsed-to k e (done counts) p q =
        let c : counts ≡ nodes ∷ values ∷ reports ∷ [] = cc in
        let z : k ≡ n = cc in
        rw (← z) (parsed-agreed text lent.tokens k e lent.nodes lent.values lent.reports (p ∙ ap done c))
    parsed-to k e (refused number place) p q = absurd (let z : ◌≡◌ {A = ℕ} 0 1 = cc in omega arith)

    lexing : (x : Answer) → lexed text lent.tokens ≡ x → (after_lexing text lent words x).answer ≡ done (n ∷ nodes ∷ values ∷ reports ∷ [])
        → Agreed text (after_lexing text lent words x).tokens (after_lexing text lent words x).nodes (after_lexing text lent words x).values n nodes values reports
    lexing (refused number place) e q = absurd (let z : ◌≡◌ {A = ℕ} 0 1 = cc in omega arith)
    lexing (done counts) e q = go (lexed-counted text lent.tokens) e q
      where
        go : {x : Answer} → Counted text x → x ≡ done counts → (after_lexing text lent words (done counts)).answer ≡ done (n ∷ nodes ∷ values ∷ reports ∷ [])
            → Agreed text (after_lexing text lent words (done counts)).tokens (after_lexing text lent words (done counts)).nodes (after_lexing text lent words (done counts)).values n nodes values reports
        go (counted h g) r q = let c : counts ≡ length (tokens_of text) ∷ [] = cc in rw c (parsed-to (length (tokens_of text)) (e ∙ ap done c) _ refl (rw c at q))
        go not-lexed r q = absurd (let z : ◌≡◌ {A = ℕ} 0 1 = cc in omega arith)

pub agrees-of : (text : List ℕ) (lent : Lent) {q : Read} → q ≡ reads text lent → Agrees text q
agrees-of text lent e n nodes values reports h = rw e (agreed text lent (rw e at h))
