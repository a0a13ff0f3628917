-- Where nothing is refused, counts and words depend on the text alone, not on how many words are lent; the rest of each slice is 0.
-- One induction on programs: with more words lent, a run that is not refused comes to the same, and leaves the words past it alone.
use Rattle.std.specs.Prelude.{◌≡◌, Bool, ◌&&◌, List, [], ◌∷◌, ◌++◌, eqb, get_or, set, take, drop, replicate}
use Rattle.std.proofs.Math.Path.{refl, sym, ap}
use Rattle.std.proofs.Common.{◌∙◌, length-set, length-append, length-drop, take-append-drop, get_or-set_other, length-take-le, ext_get_or, get_or-drop}
use Rattle.std.proofs.Math.Bool.{true, false, cond}
use Rattle.std.proofs.Math.Option.{Option}
use Prim.Native.Nat.{ℕ, zero, suc, ◌+◌, ◌-◌, ◌*◌, ◌≤◌, ◌<◌}
use native.Mathlib.Omega.{arith}
use borrow.Author.Tests.{ltb-true, leb-true, le-leb}
use Rattle.std.proofs.Math.Dec.{ltb, leb}
use Rattle.std.proofs.Math.ListN.{length, get_or-append}
use Rattle.std.proofs.lemmas.List.{length-replicate, replicate-append-replicate, set-append_left, take-append-le}
use Rattle.std.proofs.lemmas.List.Edits.{sets}
use Rattle.std.proofs.Math.Seq.{length-sets}
use Rattle.words.specs.ErrorToken.{error_number}
use Rattle.words.specs.Token.{is_trivia, lex_error, LexError}
use Rattle.std.specs.Prelude.{Some, None}
use Rattle.words.specs.Report
use Rattle.words.specs.Words
use Rattle.words.specs.Words.{node_width, report_width}
use Rattle.words.specs.Answer as Answer
use Rattle.literals.specs.declared.Span.{Span}
use Rattle.literals.specs.Spelling as Source
use Rattle.definition.specs.declared.State.{State}
use Rattle.definition.specs.declared.Mode.{Mode}
use Rattle.definition.specs.Prog.{Turn, again, stop, Prog, Give, Then, Branch, Loop, peek, pass, position, here, before, spelling, intern, marked, emit, emit_and_mark, alloc, close_at, close_at_start, set_kind, link, kind_of, value, enter_expr, enter_block, Memory, memory, Out, done, refused, bind, with_cursor, advanced, reported, is_marked, marked_here, last_node, allocated, word_of, stored, linked, parent_word, child_word, next_word, end_word, first_word, head_word, valued, iter, Readers, kind_at, passed, skipped, eval, tower}
use Rattle.definition.specs.Expressions.{try_parse_expr_min_bp}
use Rattle.definition.specs.Statements.{parse_block}
use Rattle.definition.specs.Declarations.{parse_file}
use Rattle.definition.proofs.Mono as Mono
use Rattle.definition.proofs.Mono.{After, mono, steady}
use Rattle.definition.specs.Parse.{max_depth, readers, token_limit, start, Parsed, zeros, parsed_to, parsed_within, parsed}

-- ---- a list of which the first `count` words are written, and the rest is 0

pub record Written (count : ℕ) (l : List ℕ) : Type 0 where
  pub fits : count ≤ length l
  pub rest : (i : ℕ) → count ≤ i → get_or l i 0 ≡ 0

-- Words that are stored past the last one, and a word that is stored again.
get_d-sets-past : (vs l : List ℕ) (i j : ℕ) → i + length vs ≤ j → get_or (sets l i vs) j 0 ≡ get_or l j 0
get_d-sets-past [] l i j h = refl
get_d-sets-past (v ∷ vs) l i j h = get_d-sets-past vs (set l i v) (suc i) j (omega arith) ∙ get_or-set_other l i j v 0 (omega arith)

written-sets : {c : ℕ} {l : List ℕ} (vs : List ℕ) → Written c l → c + length vs ≤ length l → Written (c + length vs) (sets l c vs)
written-sets {c} {l} vs w h = record { fits = simp length-sets h; rest = λ i g. get_d-sets-past vs l c i g ∙ w.rest i (omega arith) }

written-set : {c : ℕ} {l : List ℕ} (i v : ℕ) → i < c → Written c l → Written c (set l i v)
written-set {c} {l} i v h w = record { fits = simp length-set w.fits; rest = λ j g. get_or-set_other l i j v 0 (omega arith) ∙ w.rest j g }

-- Both leave the words past the list alone.
sets-append : (vs l e : List ℕ) (i : ℕ) → i + length vs ≤ length l → sets (l ++ e) i vs ≡ sets l i vs ++ e
sets-append [] l e i h = refl
sets-append (v ∷ vs) l e i h = rw (set-append_left l e i v (omega arith)) (sets-append vs (set l i v) e (suc i) (simp length-set (omega arith)))

fits-append : (k : ℕ) (l e : List ℕ) → leb k (length l) ≡ true → leb k (length (l ++ e)) ≡ true
fits-append k l e h = le-leb k (length (l ++ e)) (simp length-append (omega (arith, leb-true k (length l) h)))

second : (b c : Bool) → (b && c) ≡ true → c ≡ true
second true c h = h
second false c h = cc

-- As much is written as the counts say.
pub record Tidy (s : State) (m : Memory) : Type 0 where
  pub nodes : Written (node_width * s.nodes) m.nodes
  pub values : Written s.values m.values
  pub reports : Written (report_width * s.reports) m.reports

-- More words at the end of each list.
module _ (more : Memory) where
  abbrev pub longer : Memory → Memory
  longer m = memory (m.nodes ++ more.nodes) (m.values ++ more.values) (m.reports ++ more.reports)

  -- The second outcome is the first, with more words; of a refusal nothing is said.
  pub data Grows {A : Type 0} : Out A → Out A → Type 0 where
    ran : {a : A} {t : State} {n : Memory} → Tidy t n → Grows (done a t n) (done a t (longer n))
    halted : {number place : ℕ} {o : Out A} → Grows (refused number place) o

  abbrev pub Grow : {A : Type 0} → (State → Memory → Out A) → Type 0
  Grow f = (s : State) (m : Memory) → Tidy s m → Grows (f s m) (f s (longer m))

  after : {A B : Type 0} {o o' : Out A} (f : A → State → Memory → Out B) → Grows o o' → ((a : A) → Grow (f a)) → Grows (bind o f) (bind o' f)
  after f (ran {a} {t} {n} w) h = h a t n w
  after f halted h = halted

  one-of : {A : Type 0} {x y x' y' : Out A} (b : Bool) → Grows x x' → Grows y y' → Grows {A = A} (elim b [ true ↦ x | false ↦ y ]) (elim b [ true ↦ x' | false ↦ y' ])
  one-of true p q = p
  one-of false p q = q

  -- What fits, fits among more words.
  fits : {A : Type 0} {x x' : Out A} (number place : ℕ) (y : Out A) (b b' : Bool) → (b ≡ true → b' ≡ true) → (b ≡ true → Grows x x')
      → Grows {A = A} (elim b [ true ↦ x | false ↦ refused number place ]) (elim b' [ true ↦ x' | false ↦ y ])
  fits number place y true b' h g = rw (h refl) (g refl)
  fits number place y false b' h g = halted

  -- ---- the commands

  reported-grows : (kind detail : ℕ) (p : Span) → Grow (reported kind detail p)
  unfolding reported
  reported-grows kind detail p s m w =
      let ws = Words.report_words (record { kind = kind; detail = detail; start = p.start; end = p.end }) in
      fits _ _ _ (leb (report_width * s.reports + report_width) (length m.reports)) _ (fits-append _ m.reports more.reports) (λ h.
      let g : report_width * s.reports + report_width ≤ length m.reports = leb-true _ _ h in
      let e : report_width * (s.reports + 1) ≡ report_width * s.reports + report_width = omega arith in
      let t : Written (report_width * (s.reports + 1)) (sets m.reports (report_width * s.reports) ws) = rw e (written-sets ws w.reports g) in
      rw (sets-append ws m.reports more.reports (report_width * s.reports) g) (ran (record { nodes = w.nodes; values = w.values; reports = t })))

  allocated-grows : (first kind payload : ℕ) → Grow (allocated first kind payload)
  unfolding allocated
  allocated-grows first kind payload s m w =
      let ws = Words.node_words (record { kind = kind; payload = payload; first = first; end = first; next = 0; child = 0; parent = 0 }) in
      let b = ltb s.nodes last_node in
      let c = leb (node_width * s.nodes + node_width) (length m.nodes) in
      fits _ _ _ (b && c) (b && leb (node_width * s.nodes + node_width) (length (m.nodes ++ more.nodes)))
      (λ h. ap (λ x. b && x) (fits-append _ m.nodes more.nodes (second b c h) ∙ sym (second b c h)) ∙ h) (λ h.
      let g : node_width * s.nodes + node_width ≤ length m.nodes = leb-true _ _ (second b c h) in
      let e : node_width * (s.nodes + 1) ≡ node_width * s.nodes + node_width = omega arith in
      let t : Written (node_width * (s.nodes + 1)) (sets m.nodes (node_width * s.nodes) ws) = rw e (written-sets ws w.nodes g) in
      rw (sets-append ws m.nodes more.nodes (node_width * s.nodes) g) (ran (record { nodes = t; values = w.values; reports = w.reports })))

  valued-grows : (ws : List ℕ) → Grow (valued ws)
  unfolding valued
  valued-grows ws s m w =
      fits _ _ _ (leb (s.values + length ws) (length m.values)) _ (fits-append _ m.values more.values) (λ h.
      rw (sets-append ws m.values more.values s.values (leb-true _ _ h))
      (ran (record { nodes = w.nodes; values = written-sets ws w.values (leb-true _ _ h); reports = w.reports })))

  -- A node's words are among the written ones.
  word_of-longer : (i word : ℕ) (s : State) (m : Memory) → Tidy s m → word < node_width → word_of i word s (longer m) ≡ word_of i word s m
  unfolding word_of
  word_of-longer i word s m w l = go (ltb i s.nodes) refl
    where
      go : (b : Bool) → ltb i s.nodes ≡ b → cond b (get_or (m.nodes ++ more.nodes) (node_width * i + word) 0) 0 ≡ cond b (get_or m.nodes (node_width * i + word) 0) 0
      go true e = get_or-append m.nodes more.nodes 0 _ (omega (arith, ltb-true i s.nodes e, w.nodes.fits))
      go false e = refl

  stored_grows : (i word v : ℕ) (s : State) (m : Memory) → Tidy s m → word < node_width → Grows {A = Unit {0}} (done tt s (stored i word v s m)) (done tt s (stored i word v s (longer m)))
  unfolding stored
  stored_grows i word v s m w l = go (ltb i s.nodes) refl
    where
      go : (b : Bool) → ltb i s.nodes ≡ b → Grows {A = Unit {0}} (done tt s (cond b (memory (set m.nodes (node_width * i + word) v) m.values m.reports) m))
          (done tt s (cond b (memory (set (m.nodes ++ more.nodes) (node_width * i + word) v) (m.values ++ more.values) (m.reports ++ more.reports)) (longer m)))
      go true e =
          let h : node_width * i + word < node_width * s.nodes = omega (arith, ltb-true i s.nodes e) in
          rw (set-append_left m.nodes more.nodes (node_width * i + word) v (omega (arith, w.nodes.fits)))
          (ran (record { nodes = written-set (node_width * i + word) v h w.nodes; values = w.values; reports = w.reports }))
      go false e = ran w

  -- One word more is stored.
  also-stored : (i word v : ℕ) (s : State) {m n : Memory} → Grows {A = Unit {0}} (done tt s m) (done tt s n) → word < node_width
      → Grows {A = Unit {0}} (done tt s (stored i word v s m)) (done tt s (stored i word v s n))
  also-stored i word v s g l = after {A = Unit {0}} (λ _ t n. done tt t (stored i word v t n)) g (λ _ t n w. stored_grows i word v t n w l)

  linked-grows : (parent last child : ℕ) (s : State) (m : Memory) → Tidy s m → Grows {A = Unit {0}} (done tt s (linked parent last child s m)) (done tt s (linked parent last child s (longer m)))
  unfolding linked
  linked-grows parent last child s m w = also-stored child parent_word _ s (go (eqb last 0)) (omega arith)
    where
      go : (b : Bool) → Grows {A = Unit {0}} (done tt s (cond b (stored parent child_word child s m) (stored last next_word child s m)))
          (done tt s (cond b (stored parent child_word child s (longer m)) (stored last next_word child s (longer m))))
      go true = stored_grows parent child_word child s m w (omega arith)
      go false = stored_grows last next_word child s m w (omega arith)

  turn : {S : Type 0} (f : S → State → Memory → Out S) (t : Turn S) → ((x : S) → Grow (f x)) → Grow {A = S} (λ u n. elim t [ again y ↦ f y u n | stop y ↦ done y u n ])
  turn f (again y) h u n w = h y u n w
  turn f (stop y) h u n w = ran w

  iter-grows : {S : Type 0} (body : S → State → Memory → Out (Turn S)) (k : ℕ) → ((x : S) → Grow (body x)) → (x : S) → Grow (iter body k x)
  unfolding iter
  iter-grows body zero h x s m w = ran w
  iter-grows body (suc k) h x s m w = after _ (h x s m w) (λ t. turn (iter body k) t (iter-grows body k h))

  pub record Growing (r : Readers) : Type 0 where
    pub exprs : (mode : Mode) (min : ℕ) → Grow (r.expr mode min)
    pub blocks : (start kind : ℕ) → Grow (r.block start kind)

  module _ (text tokens : List ℕ) where
    passed-grows : Grow (passed text tokens)
    unfolding passed
    passed-grows s m w = go (lex_error (kind_at text tokens s.cursor))
      where
        t : State
        t = with_cursor (advanced s.cursor) s

        w' : Tidy t m
        w' = record { nodes = w.nodes; values = w.values; reports = w.reports }

        one : Memory → LexError → Out (Unit {0})
        one n e = elim e [
          | None ↦ done tt t n
          | Some error ↦ elim (is_marked s) [ true ↦ done tt t n | false ↦ reported Report.LexerError (error_number error) (Source.token_span tokens s.cursor.at) t n ]
        ]

        go : (e : LexError) → Grows (one m e) (one (longer m) e)
        go None = ran w'
        go (Some error) = one-of (is_marked s) (ran w') (reported-grows _ _ _ t m w')

    skipped-grows : (left : ℕ) → Grow (skipped text tokens left)
    unfolding skipped
    skipped-grows zero s m w = ran w
    skipped-grows (suc left) s m w =
        one-of (is_trivia (kind_at text tokens s.cursor)) (after (λ _ t n. skipped text tokens left t n) (passed-grows s m w) (λ _. skipped-grows left)) (ran w)

    module _ (bound : ℕ) (r : Readers) (h : Growing r) where
      pub grows : {A : Type 0} (p : Prog A) → Grow (eval text tokens bound r p)
      unfolding eval
      grows (Give a) s m w = ran w
      grows (Then p f) s m w = after (λ a t n. eval text tokens bound r (f a) t n) (grows p s m w) (λ a t n v. grows (f a) t n v)
      grows (Branch b p q) s m w = one-of b (grows p s m w) (grows q s m w)
      grows (Loop x body) s m w = iter-grows (λ y t n. eval text tokens bound r (body y) t n) bound (λ y t n v. grows (body y) t n v) x s m w
      grows peek s m w = after _ (skipped-grows _ s m w) (λ _ t n v. ran v)
      grows pass s m w = after _ (skipped-grows _ s m w) (λ _ t n v. passed-grows t n v)
      grows position s m w = ran w
      grows here s m w = ran w
      grows before s m w = ran w
      grows spelling s m w = ran w
      grows (intern kind) s m w = ran w
      grows marked s m w = ran w
      grows (emit kind detail p) s m w = reported-grows kind detail p s m w
      grows (emit_and_mark kind detail p) s m w = reported-grows kind detail p (marked_here s) m (record { nodes = w.nodes; values = w.values; reports = w.reports })
      grows (alloc first kind payload) s m w = allocated-grows first kind payload s m w
      grows (close_at i end) s m w = stored_grows i end_word end s m w (omega arith)
      grows (close_at_start i k) s m w = rw (word_of-longer k first_word s m w (omega arith)) (stored_grows i end_word _ s m w (omega arith))
      grows (set_kind i kind payload) s m w = stored_grows i head_word _ s m w (omega arith)
      grows (link parent last child) s m w = linked-grows parent last child s m w
      grows (kind_of i) s m w = rw (word_of-longer i head_word s m w (omega arith)) (ran w)
      grows (value ws) s m w = valued-grows ws s m w
      grows (enter_expr mode min) s m w = h.exprs mode min s m w
      grows (enter_block first kind) s m w = h.blocks first kind s m w

    -- At every depth.
    module _ (bound : ℕ) (expr_program : Mode → ℕ → Prog (Option ℕ)) (block_program : ℕ → ℕ → Prog ℕ) where
      pub growing : (depth : ℕ) → Growing (tower text tokens bound expr_program block_program depth)
      unfolding tower
      growing zero = record { exprs = λ mode min s m w. halted; blocks = λ start kind s m w. halted }
      growing (suc depth) =
          record {
            exprs = λ mode min. grows bound _ (growing depth) (expr_program mode min);
            blocks = λ start kind. grows bound _ (growing depth) (block_program start kind);
          }

-- ---- what a text is parsed to

-- The words that an answer's counts speak of.
abbrev pub counted : List ℕ → Memory → Memory
counted counts m = memory (take (node_width * get_or counts 0 0) m.nodes) (take (get_or counts 1 0) m.values) (take (report_width * get_or counts 2 0) m.reports)

pub record Filled (counts : List ℕ) (m : Memory) : Type 0 where
  pub nodes : Written (node_width * get_or counts 0 0) m.nodes
  pub values : Written (get_or counts 1 0) m.values
  pub reports : Written (report_width * get_or counts 2 0) m.reports

parsed-longer : {more : Memory} {o o' : Out ℕ} (blank blank' : Memory) {counts : List ℕ} → Grows more o o' → (parsed_to blank o).answer ≡ Answer.done counts
    → parsed_to blank' o' ≡ record { answer = Answer.done counts; words = longer more (parsed_to blank o).words }
unfolding parsed_to
parsed-longer blank blank' (ran w) e = rw e
parsed-longer blank blank' halted e = cc

parsed-filled : {more : Memory} {o o' : Out ℕ} (blank : Memory) {counts : List ℕ} → Grows more o o' → (parsed_to blank o).answer ≡ Answer.done counts → Filled counts (parsed_to blank o).words
unfolding parsed_to
parsed-filled blank {counts} (ran {t = t} w) e =
    let f : t.nodes ∷ t.values ∷ t.reports ∷ [] ≡ counts = cc in
    rw (← f) (record { nodes = w.nodes; values = w.values; reports = w.reports })
parsed-filled blank halted e = absurd (let z : ◌≡◌ {A = ℕ} 0 1 = cc in omega arith)

counted-longer : {counts : List ℕ} {m : Memory} (more : Memory) → Filled counts m → counted counts (longer more m) ≡ counted counts m
counted-longer {counts} {m} more f = rw (take-append-le _ m.nodes more.nodes f.nodes.fits, take-append-le _ m.values more.values f.values.fits, take-append-le _ m.reports more.reports f.reports.fits)

same-counted : {counts counts' : List ℕ} {m m' : Memory} {q : Parsed} (more more' : Memory) → q ≡ record { answer = Answer.done counts; words = longer more m } → q ≡ record { answer = Answer.done counts'; words = longer more' m' }
    → Filled counts m → Filled counts' m' → (counts ≡ counts') × (counted counts m ≡ counted counts' m')
same-counted {counts} {counts'} more more' p p' f f' =
    let a : Answer.done counts ≡ Answer.done counts' = ap (λ x. x.answer) (sym p ∙ p') in
    let c : counts ≡ counts' = cc in
    (c, sym (counted-longer more f) ∙ (ap (λ x. counted counts x.words) (sym p ∙ p') ∙ (rw c (counted-longer more' f'))))

pub zero-at : (n i : ℕ) → get_or {A = ℕ} (replicate n 0) i 0 ≡ 0
zero-at zero i = refl
zero-at (suc n) zero = refl
zero-at (suc n) (suc i) = zero-at n i

-- The same as an equation.
written-left : {c n : ℕ} {l : List ℕ} → Written c l → length l ≡ n → l ≡ take c l ++ replicate (n - length (take c l)) 0
written-left {c} {n} {l} w h = sym (take-append-drop c l) ∙ ap (λ x. take c l ++ x) (ext_get_or 0 (drop c l) (replicate k 0) lengths (λ i g. get_or-drop c l i 0 ∙ (w.rest (c + i) (omega arith) ∙ sym (zero-at k i))))
  where
    k : ℕ
    k = n - length (take c l)

    lengths : length (drop c l) ≡ length (replicate {A = ℕ} k 0)
    lengths = simp (length-drop, length-replicate) (omega (arith, h, length-take-le c l w.fits))

written_none : (n : ℕ) → Written 0 (replicate n 0)
written_none n = record { fits = omega arith; rest = λ i h. zero-at n i }

lent-more : {n n' : ℕ} → n ≤ n' → replicate {A = ℕ} n 0 ++ replicate (n' - n) 0 ≡ replicate n' 0
lent-more {n} {n'} h = let e : n + (n' - n) ≡ n' = omega arith in rw e at (replicate-append-replicate {A = ℕ} n (n' - n) 0)

parsed-lengths : {n v r : ℕ} {s : State} {o : Out ℕ} → After s (zeros n v r) o
    → let m = (parsed_to (zeros n v r) o).words in (length m.nodes ≡ n) × (length m.values ≡ v) × (length m.reports ≡ r)
unfolding parsed_to
parsed-lengths {n} {v} {r} (Mono.ran l) = (l.node_words ∙ length-replicate n 0, l.value_words ∙ length-replicate v 0, l.report_words ∙ length-replicate r 0)
parsed-lengths {n} {v} {r} (Mono.halted p) = (length-replicate n 0, length-replicate v 0, length-replicate r 0)

memory-is : {m : Memory} {a b c : List ℕ} → m.nodes ≡ a → m.values ≡ b → m.reports ≡ c → m ≡ memory a b c
memory-is p q r i = memory (p i) (q i) (r i)

module _ (text tokens : List ℕ) (n v r : ℕ) {counts : List ℕ} (e : (parsed text tokens n v r).answer ≡ Answer.done counts) where
  abbrev file : Memory → Out ℕ
  file m = eval text tokens (token_limit tokens + 1) (readers text tokens (token_limit tokens + 1) max_depth) parse_file (start tokens) m

  file-grows : (more : Memory) → Grows more (file (zeros n v r)) (file (longer more (zeros n v r)))
  file-grows more =
      grows more text tokens (token_limit tokens + 1) _ (growing more text tokens (token_limit tokens + 1) try_parse_expr_min_bp parse_block max_depth) parse_file (start tokens) (zeros n v r)
      (record { nodes = written_none n; values = written_none v; reports = written_none r })

  -- With more words lent, the same counts and words; what is more stays 0.
  pub more-lent : {n' v' r' : ℕ} → n ≤ n' → v ≤ v' → r ≤ r'
      → parsed text tokens n' v' r' ≡ record { answer = Answer.done counts; words = longer (zeros (n' - n) (v' - v) (r' - r)) (parsed text tokens n v r).words }
  unfolding parsed parsed_within
  more-lent {n'} {v'} {r'} hn hv hr = rw (lent-more hn, lent-more hv, lent-more hr) at (parsed-longer (zeros n v r) (zeros n' v' r') (file-grows (zeros (n' - n) (v' - v) (r' - r))) e)

  -- The counts fit, and past them each list is 0.
  pub rest-zero : Filled counts (parsed text tokens n v r).words
  unfolding parsed parsed_within
  rest-zero = parsed-filled (zeros n v r) (file-grows (zeros 0 0 0)) e

  -- The same as 01 has it: "the rest of each slice is 0".
  pub rest-left : (parsed text tokens n v r).words
      ≡ memory
      (Answer.left (Answer.done counts) (counted counts (parsed text tokens n v r).words).nodes n)
      (Answer.left (Answer.done counts) (counted counts (parsed text tokens n v r).words).values v)
      (Answer.left (Answer.done counts) (counted counts (parsed text tokens n v r).words).reports r)
  unfolding parsed parsed_within
  rest-left =
      let (a, b, c) = parsed-lengths (mono text tokens (token_limit tokens + 1) _ (steady text tokens (token_limit tokens + 1) try_parse_expr_min_bp parse_block max_depth) parse_file (start tokens) (zeros n v r)) in
      memory-is (written-left rest-zero.nodes a) (written-left rest-zero.values b) (written-left rest-zero.reports c)

-- Any two lengths that are enough give the same counts and words.
pub any-lengths : (text tokens : List ℕ) (n v r n' v' r' : ℕ) {counts counts' : List ℕ}
    → (parsed text tokens n v r).answer ≡ Answer.done counts → (parsed text tokens n' v' r').answer ≡ Answer.done counts'
    → (counts ≡ counts') × (counted counts (parsed text tokens n v r).words ≡ counted counts' (parsed text tokens n' v' r').words)
any-lengths text tokens n v r n' v' r' e e' =
    same-counted _ _
    (more-lent text tokens n v r e {n' = n + n'} {v' = v + v'} {r' = r + r'} (omega arith) (omega arith) (omega arith))
    (more-lent text tokens n' v' r' e' {n' = n + n'} {v' = v + v'} {r' = r + r'} (omega arith) (omega arith) (omega arith))
    (rest-zero text tokens n v r e)
    (rest-zero text tokens n' v' r' e')
