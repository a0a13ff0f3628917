-- What every program keeps: the cursor and the counts never go back, the cursor stops where it stops, and the lists keep their lengths.
use Rattle.std.specs.Prelude.{◌≡◌, refl, Bool, true, false, cond, ◌&&◌, List, eqb, ltb, leb, length, set}
use Rattle.std.proofs.Math.Option.{Option}
use Prim.Native.Nat.{ℕ, zero, suc, ◌+◌, ◌*◌, ◌≤◌}
use Rattle.std.proofs.Common.{arith, ltb-true, length-set}
use Rattle.std.proofs.lemmas.List.Edits.{sets}
use Rattle.std.proofs.Math.Seq.{length-sets}
use Rattle.words.specs.ErrorToken.{error_number}
use Rattle.words.specs.Token.{is_trivia, lex_error, LexError}
use Rattle.std.specs.Prelude.{Some, None}
use Rattle.words.specs.Report
use Rattle.words.specs.Words
use Rattle.words.specs.Words.{node_width, report_width}
use Rattle.literals.specs.declared.Span.{Span}
use Rattle.literals.specs.Spelling as Source
use Rattle.definition.specs.declared.State.{State}
use Rattle.definition.specs.declared.Mode.{Mode}
use Rattle.definition.specs.Prog.{Turn, again, stop, Prog, Give, Then, Branch, Loop, peek, pass, position, here, before, spelling, intern, marked, emit, emit_and_mark, alloc, close_at, close_at_start, set_kind, link, kind_of, value, enter_expr, enter_block, Memory, memory, Out, done, refused, bind, with_cursor, with_nodes, with_values, with_reports, advanced, reported, is_marked, marked_here, last_node, allocated, stored, linked, parent_word, child_word, next_word, valued, iter, Readers, kind_at, passed, skipped, eval, tower}

-- From one state and its words to a later one.
pub record Later (s : State) (m : Memory) (t : State) (n : Memory) : Type 0 where
  pub cursor : s.cursor.at ≤ t.cursor.at
  pub limit : t.cursor.end ≡ s.cursor.end
  pub inside : s.cursor.at ≤ s.cursor.end → t.cursor.at ≤ t.cursor.end
  pub nodes : s.nodes ≤ t.nodes
  pub values : s.values ≤ t.values
  pub reports : s.reports ≤ t.reports
  pub node_words : length n.nodes ≡ length m.nodes
  pub value_words : length n.values ≡ length m.values
  pub report_words : length n.reports ≡ length m.reports

-- The same for an outcome; a refusal's place is not before the cursor either.
pub data After {A : Type 0} (s : State) (m : Memory) : Out A → Type 0 where
  ran : {a : A} {t : State} {n : Memory} → Later s m t n → After s m (done a t n)
  halted : {number place : ℕ} → s.cursor.at ≤ place → After s m (refused number place)

abbrev pub Mono : {A : Type 0} → (State → Memory → Out A) → Type 0
Mono f = (s : State) (m : Memory) → After s m (f s m)

pub same : (s : State) (m : Memory) → Later s m s m
same s m = record { cursor = omega arith; limit = refl; inside = λ h. h; nodes = omega arith; values = omega arith; reports = omega arith; node_words = refl; value_words = refl; report_words = refl }

pub later : {s t u : State} {m n k : Memory} → Later s m t n → Later t n u k → Later s m u k
later p q =
    record {
      cursor = omega arith;
      limit = omega arith;
      inside = λ h. q.inside (p.inside h);
      nodes = omega arith;
      values = omega arith;
      reports = omega arith;
      node_words = omega arith;
      value_words = omega arith;
      report_words = omega arith;
    }

pub later-after : {A : Type 0} {s t : State} {m n : Memory} {o : Out A} → Later s m t n → After t n o → After s m o
later-after p (ran q) = ran (later p q)
later-after p (halted {place = place} q) = halted {place = place} (omega (arith, p.cursor))

pub after : {A B : Type 0} {s : State} {m : Memory} {o : Out A} (f : A → State → Memory → Out B) → After s m o → ((a : A) → Mono (f a)) → After s m (bind o f)
after f (ran {a} {t} {n} p) h = later-after p (h a t n)
after f (halted p) h = halted p

pub one-of : {A : Type 0} {s : State} {m : Memory} {x y : Out A} (b : Bool) → After s m x → After s m y → After {A = A} s m (elim b [ true ↦ x | false ↦ y ])
one-of true p q = p
one-of false p q = q

-- ---- the commands

pub advanced-later : (s : State) (m : Memory) → Later s m (with_cursor (advanced s.cursor) s) m
unfolding advanced
advanced-later s m = go (ltb s.cursor.at s.cursor.end) refl
  where
    go : (b : Bool) → ltb s.cursor.at s.cursor.end ≡ b → Later s m (with_cursor (cond b (record { at = s.cursor.at + 1; end = s.cursor.end }) s.cursor) s) m
    go true e =
        record {
          cursor = omega arith;
          limit = refl;
          inside = λ h. omega (arith, ltb-true s.cursor.at s.cursor.end e);
          nodes = omega arith;
          values = omega arith;
          reports = omega arith;
          node_words = refl;
          value_words = refl;
          report_words = refl;
        }
    go false e = same s m

pub marked-later : (s : State) (m : Memory) → Later s m (marked_here s) m
marked-later s m = record { cursor = omega arith; limit = refl; inside = λ h. h; nodes = omega arith; values = omega arith; reports = omega arith; node_words = refl; value_words = refl; report_words = refl }

pub reported-later : (kind detail : ℕ) (p : Span) → Mono (reported kind detail p)
unfolding reported
reported-later kind detail p s m =
    one-of (leb (report_width * s.reports + report_width) (length m.reports))
    (ran {t = with_reports (s.reports + 1) s} {n = memory m.nodes m.values (sets m.reports (report_width * s.reports) (Words.report_words (record { kind = kind; detail = detail; start = p.start; end = p.end })))} (record {
      cursor = omega arith;
      limit = refl;
      inside = λ h. h;
      nodes = omega arith;
      values = omega arith;
      reports = omega arith;
      node_words = refl;
      value_words = refl;
      report_words = simp length-sets;
    }))
    (halted {place = s.cursor.at} (omega arith))

pub allocated-later : (start kind payload : ℕ) → Mono (allocated start kind payload)
unfolding allocated
allocated-later start kind payload s m =
    one-of (ltb s.nodes last_node && leb (node_width * s.nodes + node_width) (length m.nodes))
    (ran {t = with_nodes (s.nodes + 1) s} (record {
      cursor = omega arith;
      limit = refl;
      inside = λ h. h;
      nodes = omega arith;
      values = omega arith;
      reports = omega arith;
      node_words = simp length-sets;
      value_words = refl;
      report_words = refl;
    }))
    (halted {place = s.cursor.at} (omega arith))

pub valued-later : (ws : List ℕ) → Mono (valued ws)
unfolding valued
valued-later ws s m =
    one-of (leb (s.values + length ws) (length m.values))
    (ran {t = with_values (s.values + length ws) s} (record {
      cursor = omega arith;
      limit = refl;
      inside = λ h. h;
      nodes = omega arith;
      values = omega arith;
      reports = omega arith;
      node_words = refl;
      value_words = simp length-sets;
      report_words = refl;
    }))
    (halted {place = s.cursor.at} (omega arith))

pub stored-later : (i word w : ℕ) (s : State) (m : Memory) → Later s m s (stored i word w s m)
unfolding stored
stored-later i word w s m = go (ltb i s.nodes)
  where
    go : (b : Bool) → Later s m s (cond b (memory (set m.nodes (node_width * i + word) w) m.values m.reports) m)
    go true =
        record {
          cursor = omega arith;
          limit = refl;
          inside = λ h. h;
          nodes = omega arith;
          values = omega arith;
          reports = omega arith;
          node_words = simp length-set;
          value_words = refl;
          report_words = refl;
        }
    go false = same s m

pub linked-later : (parent last child : ℕ) (s : State) (m : Memory) → Later s m s (linked parent last child s m)
unfolding linked
linked-later parent last child s m = later (go (eqb last 0)) (stored-later child parent_word _ s _)
  where
    go : (b : Bool) → Later s m s (cond b (stored parent child_word child s m) (stored last next_word child s m))
    go true = stored-later parent child_word child s m
    go false = stored-later last next_word child s m

pub turn : {S : Type 0} (f : S → State → Memory → Out S) (t : Turn S) → ((x : S) → Mono (f x)) → Mono {A = S} (λ u n. elim t [ again y ↦ f y u n | stop y ↦ done y u n ])
turn f (again y) h u n = h y u n
turn f (stop y) h u n = ran (same u n)

pub iter-later : {S : Type 0} (body : S → State → Memory → Out (Turn S)) (k : ℕ) → ((x : S) → Mono (body x)) → (x : S) → Mono (iter body k x)
unfolding iter
iter-later body zero h x s m = ran (same s m)
iter-later body (suc k) h x s m = after _ (h x s m) (λ t. turn (iter body k) t (iter-later body k h))

pub record Steady (r : Readers) : Type 0 where
  pub exprs : (mode : Mode) (min : ℕ) → Mono (r.expr mode min)
  pub blocks : (start kind : ℕ) → Mono (r.block start kind)

module _ (text tokens : List ℕ) where
  pub passed_later : Mono (passed text tokens)
  unfolding passed
  passed_later s m = go (lex_error (kind_at text tokens s.cursor))
    where
      t : State
      t = with_cursor (advanced s.cursor) s

      go : (e : LexError) → After {A = Unit {0}} s m
          (elim e [
            | None ↦ done tt t m
            | Some error ↦ elim (is_marked s) [ true ↦ done tt t m | false ↦ reported Report.LexerError (error_number error) (Source.token_span tokens s.cursor.at) t m ]
          ])
      go None = ran (advanced-later s m)
      go (Some error) = one-of (is_marked s) (ran (advanced-later s m)) (later-after (advanced-later s m) (reported-later _ _ _ t m))

  pub skipped-later : (left : ℕ) → Mono (skipped text tokens left)
  unfolding skipped
  skipped-later zero s m = ran (same s m)
  skipped-later (suc left) s m =
      one-of (is_trivia (kind_at text tokens s.cursor))
      (after (λ _ t n. skipped text tokens left t n) (passed_later s m) (λ _. skipped-later left))
      (ran (same s m))

  module _ (bound : ℕ) (r : Readers) (h : Steady r) where
    pub mono : {A : Type 0} (p : Prog A) → Mono (eval text tokens bound r p)
    unfolding eval
    mono (Give a) s m = ran (same s m)
    mono (Then p f) s m = after (λ a t n. eval text tokens bound r (f a) t n) (mono p s m) (λ a t n. mono (f a) t n)
    mono (Branch b p q) s m = one-of b (mono p s m) (mono q s m)
    mono (Loop x body) s m = iter-later (λ y t n. eval text tokens bound r (body y) t n) bound (λ y t n. mono (body y) t n) x s m
    mono peek s m = after _ (skipped-later _ s m) (λ _ t n. ran (same t n))
    mono pass s m = after _ (skipped-later _ s m) (λ _ t n. passed_later t n)
    mono position s m = ran (same s m)
    mono here s m = ran (same s m)
    mono before s m = ran (same s m)
    mono spelling s m = ran (same s m)
    mono (intern kind) s m = ran (same s m)
    mono marked s m = ran (same s m)
    mono (emit kind detail p) s m = reported-later kind detail p s m
    mono (emit_and_mark kind detail p) s m = later-after (marked-later s m) (reported-later kind detail p (marked_here s) m)
    mono (alloc start kind payload) s m = allocated-later start kind payload s m
    mono (close_at i end) s m = ran (stored-later i _ end s m)
    mono (close_at_start i k) s m = ran (stored-later i _ _ s m)
    mono (set_kind i kind payload) s m = ran (stored-later i _ _ s m)
    mono (link parent last child) s m = ran (linked-later parent last child s m)
    mono (kind_of i) s m = ran (same s m)
    mono (value ws) s m = valued-later ws s m
    mono (enter_expr mode min) s m = h.exprs mode min s m
    mono (enter_block start kind) s m = h.blocks start kind s m

  -- At every depth.
  module _ (bound : ℕ) (expr_program : Mode → ℕ → Prog (Option ℕ)) (block_program : ℕ → ℕ → Prog ℕ) where
    pub steady : (depth : ℕ) → Steady (tower text tokens bound expr_program block_program depth)
    unfolding tower
    steady zero = record { exprs = λ mode min s m. halted {place = s.cursor.at} (omega arith); blocks = λ start kind s m. halted {place = s.cursor.at} (omega arith) }
    steady (suc depth) =
        record {
          exprs = λ mode min. mono bound _ (steady depth) (expr_program mode min);
          blocks = λ start kind. mono bound _ (steady depth) (block_program start kind);
        }
