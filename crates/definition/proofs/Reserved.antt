-- "Report kind 11 is never made again." (01, W7): whatever is read, no report has that kind.
use Rattle.std.specs.Prelude.{◌≡◌, refl, Bool, cond, ◌&&◌, List, [], ◌∷◌, T, eqb, ltb, leb, length, get_or, set, replicate}
use Rattle.std.proofs.Common.{sym, ◌∙◌, ap, arith, leb-true, eqb-true, get_or-set_other, get_or-set_same}
use Rattle.std.proofs.Math.Bool.{true, false}
use Prim.Native.Nat.{ℕ, zero, suc, ◌+◌, ◌-◌, ◌*◌, ◌≤◌}
use Rattle.std.proofs.lemmas.Bool.{eqb-false}
use Rattle.std.proofs.lemmas.List.Edits.{sets}
use Rattle.words.specs.ErrorToken.{error_number}
use Rattle.words.specs.Token.{is_trivia, lex_error, LexError}
use Rattle.std.specs.Prelude.{Some, None}
use Rattle.words.specs.Report
use Rattle.words.specs.Refusal
use Rattle.words.specs.Words.{high, node_width, node_words, report_width, report_kind, report_head}
use Rattle.words.specs.Laws.{high-pack}
use Rattle.literals.specs.declared.Span.{Span}
use Rattle.literals.specs.Reserved.{is_made, made-fits, made_other}
use Rattle.literals.specs.Spelling as Source
use Rattle.definition.specs.declared.State.{State}
use Rattle.definition.specs.declared.Mode.{Mode}
use Rattle.definition.specs.Prog.{Turn, again, stop, Prog, Memory, memory, Out, done, refused, bind, with_cursor, with_nodes, with_values, with_reports, advanced, marked_here, reported, allocated, stored, linked, child_word, next_word, parent_word, valued, iter, Readers, kind_at, passed, skipped, is_marked, eval, tower, last_node}
use Rattle.definition.specs.Expressions.{try_parse_expr_min_bp}
use Rattle.definition.specs.Statements.{parse_block}
use Rattle.definition.specs.Declarations.{parse_file}
use Rattle.definition.specs.Parse.{max_depth, readers, token_limit, start, zeros, parsed_to, parsed, parsed_within}
use Rattle.definition.proofs.Lengths.{zero-at}
use Rattle.definition.proofs.Proper.{Proper, proper-give, thens, branches, loops, names, names-later, proper-peek, proper-pass, proper-position, proper-here, proper-before, proper-spelling, proper-marked, emits, emits-marked, proper-alloc, proper-close_at, proper-close_at_start, proper-set_kind, proper-link, proper-kind_of, proper-value, proper-enter_expr, proper-enter_block, try_parse_expr_min_bp-proper, parse_block-proper, parse_file-proper}

-- No report of the reserved kind stands in these words: neither among those that are counted nor behind them.
abbrev pub NoneReserved : List ℕ → Type 0
NoneReserved reports = (i : ℕ) → report_kind (get_or reports (report_width * i) 0) ≡ Report.NonAscii → ⊥

-- Words that are all 0 hold no report.
pub none_yet : (n : ℕ) → NoneReserved (replicate n 0)
unfolding high
none_yet n i e =
    let z : report_kind 0 ≡ Report.NonAscii = ap report_kind (sym (zero-at n (report_width * i))) ∙ e in
    let y : ◌≡◌ {A = ℕ} 0 1 = cc in
    omega arith

-- What a run leaves has none; of a refusal nothing is said here.
abbrev pub Kept : {A : Type 0} → Out A → Type 0
Kept (done a s m) = NoneReserved m.reports
Kept (refused number place) = Unit {0}

abbrev Keeps : {A : Type 0} → (State → Memory → Out A) → Type 0
Keeps f = (s : State) (m : Memory) → NoneReserved m.reports → Kept (f s m)

kept-bind : {A B : Type 0} (o : Out A) (f : A → State → Memory → Out B) → Kept o → ((a : A) → Keeps (f a)) → Kept (bind o f)
kept-bind (done a s m) f h g = g a s m h
kept-bind (refused number place) f h g = tt

-- The kind of a report that is made, in its head.
head-kind : (k d : ℕ) → T (is_made k) → report_kind (report_head k d) ≡ Report.NonAscii → ⊥
head-kind k d t e = made_other k t (sym (high-pack 26 k d (made-fits k t)) ∙ e)

-- A word of three that are stored, and one before them.
stored_other : (l : List ℕ) (n j a b c : ℕ) → (j ≡ suc n → ⊥) → (j ≡ suc (suc n) → ⊥) → get_or (sets l n (a ∷ b ∷ c ∷ [])) j 0 ≡ get_or (set l n a) j 0
stored_other l n j a b c p q = get_or-set_other (set (set l n a) (suc n) b) (suc (suc n)) j c 0 q ∙ get_or-set_other (set l n a) (suc n) j b 0 p

reported-none : (k d x y count : ℕ) (l : List ℕ) → T (is_made k) → NoneReserved l → report_width * count + report_width ≤ length l
    → NoneReserved (sets l (report_width * count) (report_head k d ∷ x ∷ y ∷ []))
reported-none k d x y count l t h room i e = go (eqb i count) refl
  where
    n : ℕ
    n = report_width * count

    same : get_or (sets l n (report_head k d ∷ x ∷ y ∷ [])) (report_width * i) 0 ≡ get_or (set l n (report_head k d)) (report_width * i) 0
    same = stored_other l n (report_width * i) (report_head k d) x y (λ z. omega arith) (λ z. omega arith)

    go : (b : Bool) → eqb i count ≡ b → ⊥
    go true q =
        let here : report_width * i ≡ n = ap (λ (j : ℕ). report_width * j) (eqb-true i count q) in
        let new : get_or (set l n (report_head k d)) (report_width * i) 0 ≡ report_head k d = rw here (get_or-set_same l n (report_head k d) 0 (omega arith)) in
        head-kind k d t (ap report_kind (sym (same ∙ new)) ∙ e)
    go false q =
        let other = eqb-false i count q in
        let old : get_or (set l n (report_head k d)) (report_width * i) 0 ≡ get_or l (report_width * i) 0 = get_or-set_other l n (report_width * i) (report_head k d) 0 (λ z. other (omega arith)) in
        h i (ap report_kind (sym (same ∙ old)) ∙ e)

reported-kept : (k d : ℕ) (p : Span) → T (is_made k) → Keeps (reported k d p)
unfolding reported
reported-kept k d p t s m h = go (leb (report_width * s.reports + report_width) (length m.reports)) refl
  where
    go : (b : Bool) → leb (report_width * s.reports + report_width) (length m.reports) ≡ b
        → Kept {A = Unit {0}} (elim b [
          | true ↦ done tt (with_reports (s.reports + 1) s) (memory m.nodes m.values (sets m.reports (report_width * s.reports) (report_head k d ∷ p.start ∷ p.end ∷ [])))
          | false ↦ refused Refusal.ReportsDontFit s.cursor.at
        ])
    go true q = reported-none k d p.start p.end s.reports m.reports t h (leb-true (report_width * s.reports + report_width) (length m.reports) q)
    go false q = tt

allocated-kept : (start kind payload : ℕ) → Keeps (allocated start kind payload)
unfolding allocated
allocated-kept start kind payload s m h = go (ltb s.nodes last_node && leb (node_width * s.nodes + node_width) (length m.nodes))
  where
    go : (b : Bool) → Kept {A = ℕ} (elim b [
      | true ↦
          done s.nodes (with_nodes (s.nodes + 1) s)
          (memory
          (sets m.nodes (node_width * s.nodes) (node_words (record { kind = kind; payload = payload; first = start; end = start; next = 0; child = 0; parent = 0 })))
          m.values
          m.reports)
      | false ↦ refused Refusal.NodesDontFit s.cursor.at
    ])
    go true = h
    go false = tt

valued-kept : (ws : List ℕ) → Keeps (valued ws)
unfolding valued
valued-kept ws s m h = go (leb (s.values + length ws) (length m.values))
  where
    go : (b : Bool) → Kept {A = ℕ} (elim b [
      | true ↦ done s.values (with_values (s.values + length ws) s) (memory m.nodes (sets m.values s.values ws) m.reports)
      | false ↦ refused Refusal.ValuesDontFit s.cursor.at
    ])
    go true = h
    go false = tt

-- A word that is stored in a node leaves the reports alone.
stored-reports : (n word w : ℕ) (s : State) (m : Memory) → (stored n word w s m).reports ≡ m.reports
unfolding stored
stored-reports n word w s m = go (ltb n s.nodes)
  where
    go : (b : Bool) → (cond b (memory (set m.nodes (node_width * n + word) w) m.values m.reports) m).reports ≡ m.reports
    go true = refl
    go false = refl

linked-reports : (parent last child : ℕ) (s : State) (m : Memory) → (linked parent last child s m).reports ≡ m.reports
unfolding linked
linked-reports parent last child s m = stored-reports child parent_word parent s _ ∙ go (eqb last 0)
  where
    go : (b : Bool) → (cond b (stored parent child_word child s m) (stored last next_word child s m)).reports ≡ m.reports
    go true = stored-reports parent child_word child s m
    go false = stored-reports last next_word child s m

module _ (text tokens : List ℕ) where
  passed-kept : Keeps (passed text tokens)
  unfolding passed
  passed-kept s m h = go (lex_error (kind_at text tokens s.cursor)) (is_marked s)
    where
      t : State
      t = with_cursor (advanced s.cursor) s

      go : (e : LexError) (b : Bool) → Kept {A = Unit {0}} (elim e [
        | None ↦ done tt t m
        | Some error ↦ elim b [
          | true ↦ done tt t m
          | false ↦ reported Report.LexerError (error_number error) (Source.token_span tokens s.cursor.at) t m
        ]
      ])
      go None b = h
      go (Some error) true = h
      go (Some error) false = reported-kept Report.LexerError (error_number error) (Source.token_span tokens s.cursor.at) tt t m h

  skipped-kept : (left : ℕ) → Keeps (skipped text tokens left)
  unfolding skipped
  skipped-kept zero s m h = h
  skipped-kept (suc left) s m h = go (is_trivia (kind_at text tokens s.cursor)) (skipped-kept left)
    where
      go : (b : Bool) → Keeps (skipped text tokens left) → Kept {A = Unit {0}} (elim b [ true ↦ bind (passed text tokens s m) (λ _ t n. skipped text tokens left t n) | false ↦ done tt s m ])
      go true ih = kept-bind (passed text tokens s m) (λ _ t n. skipped text tokens left t n) (passed-kept s m h) (λ _. ih)
      go false ih = h

  module _ (bound : ℕ) (r : Readers) (exprs : (mode : Mode) (min : ℕ) → Keeps (r.expr mode min)) (blocks : (start kind : ℕ) → Keeps (r.block start kind)) where
    iter-kept : {S : Type 0} (body : S → State → Memory → Out (Turn S)) → ((x : S) → Keeps (body x)) → (k : ℕ) (x : S) → Keeps (iter body k x)
    unfolding iter
    iter-kept body h zero x s m g = g
    iter-kept body h (suc k) x s m g = kept-bind (body x s m) _ (h x s m g) (elim [ again y ↦ iter-kept body h k y | stop y ↦ λ t n q. q ])

    keeps : {A : Type 0} {p : Prog A} → Proper p → Keeps (eval text tokens bound r p)
    unfolding eval
    keeps proper-give s m h = h
    keeps (thens {p = p} {f = f} x g) s m h = kept-bind (eval text tokens bound r p s m) _ (keeps x s m h) (λ a t n q. keeps (g a) t n q)
    keeps (branches {b = true} x y) s m h = keeps x s m h
    keeps (branches {b = false} x y) s m h = keeps y s m h
    keeps (loops {body = body} {x = x} g i) s m h = iter-kept (λ y t n. eval text tokens bound r (body y) t n) (λ y t n q. keeps (g y) t n q) bound x s m h
    keeps (names {g = g} v z x f y) s m h =
        kept-bind (eval text tokens bound r g s m) _ (keeps x s m h) (elim [ true ↦ λ t n q. keeps (f _) t n q | false ↦ λ t n q. keeps y t n q ])
    keeps (names-later {g = g} {h = l} v z c x x₁ f y) s m h =
        kept-bind (eval text tokens bound r g s m) _ (keeps x s m h)
        (elim [ true ↦ λ t n q. kept-bind (eval text tokens bound r l t n) _ (keeps x₁ t n q) (λ u t₁ n₁ q₁. keeps (f u _) t₁ n₁ q₁) | false ↦ λ t n q. keeps y t n q ])
    keeps proper-peek s m h = kept-bind (skipped text tokens (s.cursor.end - s.cursor.at) s m) _ (skipped-kept _ s m h) (λ _ t n q. q)
    keeps proper-pass s m h = kept-bind (skipped text tokens (s.cursor.end - s.cursor.at) s m) _ (skipped-kept _ s m h) (λ _. passed-kept)
    keeps proper-position s m h = h
    keeps proper-here s m h = h
    keeps proper-before s m h = h
    keeps proper-spelling s m h = h
    keeps proper-marked s m h = h
    keeps (emits {k} {d} {p} t) s m h = reported-kept k d p t s m h
    keeps (emits-marked {k} {d} {p} t) s m h = reported-kept k d p t (marked_here s) m h
    keeps (proper-alloc {start} {k} {payload}) s m h = allocated-kept start k payload s m h
    keeps proper-close_at s m h = rw stored-reports h
    keeps proper-close_at_start s m h = rw stored-reports h
    keeps proper-set_kind s m h = rw stored-reports h
    keeps proper-link s m h = rw linked-reports h
    keeps proper-kind_of s m h = h
    keeps (proper-value {ws}) s m h = valued-kept ws s m h
    keeps proper-enter_expr s m h = exprs _ _ s m h
    keeps proper-enter_block s m h = blocks _ _ s m h

  -- At every depth.
  tower-kept : (bound depth : ℕ) → ((mode : Mode) (min : ℕ) → Keeps ((tower text tokens bound try_parse_expr_min_bp parse_block depth).expr mode min)) × ((start kind : ℕ) → Keeps ((tower text tokens bound try_parse_expr_min_bp parse_block depth).block start kind))
  unfolding tower
  tower-kept bound zero = (λ mode min s m h. tt, λ start kind s m h. tt)
  tower-kept bound (suc depth) =
      let below = tower-kept bound depth in
      (λ mode min. keeps bound _ below.0 below.1 (try_parse_expr_min_bp-proper mode min), λ start kind. keeps bound _ below.0 below.1 (parse_block-proper start kind))

  -- The whole: of all that parsing leaves, on a refusal too.
  pub parsed-none : (nodes values reports : ℕ) → NoneReserved (parsed text tokens nodes values reports).words.reports
  unfolding parsed parsed_within parsed_to
  parsed-none nodes values reports = go (eval text tokens bound (readers text tokens bound max_depth) parse_file (start tokens) blank) (keeps bound _ below.0 below.1 parse_file-proper (start tokens) blank none)
    where
      bound : ℕ
      bound = token_limit tokens + 1

      blank : Memory
      blank = zeros nodes values reports

      below : ((mode : Mode) (min : ℕ) → Keeps ((readers text tokens bound max_depth).expr mode min)) × ((start kind : ℕ) → Keeps ((readers text tokens bound max_depth).block start kind))
      below = tower-kept bound max_depth

      none : NoneReserved (replicate reports 0)
      none = none_yet reports

      go : (o : Out ℕ) → Kept o → NoneReserved (parsed_to blank o).words.reports
      go (done file s m) h = h
      go (refused number place) h = none
