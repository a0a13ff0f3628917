-- The run on words and the abstract run, held side by side: while no report is made, they give the same answers, and the words stand for the
-- store; where the abstract run gives up, a report was made; where it is too deep, so is the run on words. A refusal for want of words is one
-- of which the abstract run says how many were wanted.
use Rattle.std.specs.Prelude.{◌≡◌, Bool, ◌&&◌, eqb, get_or, set}
use Rattle.std.proofs.Math.Path.{refl, sym, ap}
use Rattle.std.proofs.Common.{◌∙◌, add-one, length-set, length-take, take_at}
use Rattle.std.proofs.Math.Bool.{true, false, cond}
use Rattle.std.proofs.Math.Option.{Option}
use mathlib.Core.List.{List, [], ◌∷◌, ◌++◌}
use Prim.Native.Nat.{ℕ, zero, suc, ◌+◌, ◌-◌, ◌*◌, ◌≤◌, ◌<◌, pred}
use native.Mathlib.Omega.{arith}
use Rattle.std.proofs.Math.Nat.{le_of_eq}
use borrow.Author.Tests.{ltb-true, ltb-false, leb-true, leb-false, le-ltb, eqb-true, eqb-false, ne_eqb}
use Rattle.std.proofs.Math.Dec.{ltb, leb}
use Rattle.std.proofs.Math.ListN.{length, take, length-append}
use Rattle.std.proofs.lemmas.List.{length-replicate}
use Rattle.std.proofs.lemmas.List.Edits.{sets, sets-eq}
use Rattle.std.proofs.Math.Seq.{length-sets}
use Rattle.words.specs.Token
use Rattle.words.specs.ErrorToken.{error_number}
use Rattle.words.specs.declared.error_token.ErrorToken.{ErrorToken}
use Rattle.words.specs.Token.{is_trivia, lex_error, LexError}
use Rattle.std.specs.Prelude.{Some, None}
use Rattle.words.specs.Report
use Rattle.words.specs.Refusal
use Rattle.words.specs.Answer as Answer
use Rattle.words.specs.Words
use Rattle.words.specs.Words.{token_kind, node_kind, node_head, node_width, report_width}
use Rattle.literals.specs.declared.Span.{Span}
use Rattle.literals.specs.Spelling as Source
use Rattle.definition.specs.declared.Cursor.{Cursor}
use Rattle.definition.specs.declared.State.{State}
use Rattle.definition.specs.declared.Mode.{Mode}
use Rattle.definition.specs.Prog.{Turn, again, stop, Prog, Give, Then, Branch, Loop, peek, pass, position, here, before, spelling, intern, marked, emit, emit_and_mark, alloc, close_at, close_at_start, set_kind, link, kind_of, value, enter_expr, enter_block, Memory, memory, Out, done, refused, bind, with_cursor, with_nodes, with_values, with_reports, advanced, reported, marked_here, last_node, allocated, head_word, first_word, end_word, next_word, child_word, parent_word, word_of, stored, linked, valued, iter, Readers, kind_at, passed, skipped, eval, tower}
use Rattle.definition.specs.Expressions.{try_parse_expr_min_bp}
use Rattle.definition.specs.Statements.{parse_block}
use Rattle.definition.specs.Declarations.{parse_file}
use Rattle.definition.specs.Parse.{max_depth, readers, token_limit, start, Parsed, zeros, parsed_to, parsed_within, parsed}
use Rattle.definition.proofs.Mono as Mono
use Rattle.definition.proofs.Mono.{After, Steady, mono, steady, passed_later, skipped-later, iter-later, turn}
use Rattle.definition.proofs.Progress as Progress
use Rattle.definition.proofs.Proper.{kind-inside}
use Rattle.definition.specs.Quiet.{advanced-over}
use Rattle.definition.specs.Abstract.{Seen, good, bad, stray, Passed, none_passed, one-passed, seen, row_from, Node, node_at, word, new_node, written, adopted, may_adopt, World, Fate, ok, fail, deep, bind_a, move_to, with_store, with_link, with_value, word_in, kind_a, pass_a, skip_a, iter_a, ReadersA, eval_a, tower_a, start_a, parsed_a}
use Rattle.definition.specs.Encodes.{Plain, Encodes, place, written-length, written_none, plain-written, links-written, plain-new, links-new, adopted-length, plain-adopted, plain-set, both_true, links-adopted}

-- ---- the store and the values never shrink, and only tokens that are read are passed

passed_on : {x y z : List Seen} → Passed x y → Passed y z → Passed x z
passed_on none_passed q = q
passed_on (one-passed p) q = one-passed (passed_on p q)

pub record Larger (w u : World) : Type 0 where
  pub row : Passed w.row u.row
  pub store : length w.store ≤ length u.store
  pub values : length w.values ≤ length u.values

pub data Grows {A : Type 0} (w : World) : Fate A → Type 0 where
  grew : {a : A} {u : World} → Larger w u → Grows w (ok a u)
  sank : {u : World} → Larger w u → Grows w (deep u)
  gave-up : Grows w fail

abbrev pub Grow : {A : Type 0} → (World → Fate A) → Type 0
Grow f = (w : World) → Grows w (f w)

at_least : (w : World) → Larger w w
at_least w = record { row = none_passed; store = omega arith; values = omega arith }

larger : {w u v : World} → Larger w u → Larger u v → Larger w v
larger l k = record { row = passed_on l.row k.row; store = omega arith; values = omega arith }

grows-on : {A : Type 0} {w u : World} {v : Fate A} → Larger w u → Grows u v → Grows w v
grows-on l (grew k) = grew (larger l k)
grows-on l (sank k) = sank (larger l k)
grows-on l gave-up = gave-up

grows_then : {A B : Type 0} {w : World} {v : Fate A} (f : A → World → Fate B) → Grows w v → ((a : A) → Grow (f a)) → Grows w (bind_a v f)
grows_then f (grew {a} {u} l) h = grows-on l (h a u)
grows_then f (sank l) h = sank l
grows_then f gave-up h = gave-up

grows_one : {A : Type 0} {w : World} {x y : Fate A} (b : Bool) → Grows w x → Grows w y → Grows {A = A} w (elim b [ true ↦ x | false ↦ y ])
grows_one true p q = p
grows_one false p q = q

grows-turn : {S : Type 0} (f : S → World → Fate S) (t : Turn S) → ((x : S) → Grow (f x)) → Grow {A = S} (λ u. elim t [ again y ↦ f y u | stop y ↦ ok y u ])
grows-turn f (again y) h u = h y u
grows-turn f (stop y) h u = grew (at_least u)

grows-iter : {S : Type 0} (body : S → World → Fate (Turn S)) (k : ℕ) → ((x : S) → Grow (body x)) → (x : S) → Grow (iter_a body k x)
unfolding iter_a
grows-iter body zero h x w = grew (at_least w)
grows-iter body (suc k) h x w = grows_then _ (h x w) (λ t. grows-turn (iter_a body k) t (grows-iter body k h))

moves-on : (i : ℕ) (row : List Seen) (w : World) → Passed w.row row → Larger w (move_to i row w)
moves-on i row w h = record { row = h; store = omega arith; values = omega arith }

grows-skip : (end : ℕ) (row : List Seen) (w : World) → w.row ≡ row → Grows w (skip_a end row w)
unfolding skip_a
grows-skip end [] w e = grew (moves-on end [] w (rw e none_passed))
grows-skip end (good i k ∷ row) w e = grew (moves-on i (good i k ∷ row) w (rw e none_passed))
grows-skip end (bad i k ∷ row) w e = grew (moves-on i (bad i k ∷ row) w (rw e none_passed))
grows-skip end (stray ∷ row) w e = gave-up

grows-pass : (row : List Seen) (w : World) → w.row ≡ row → Grows w (pass_a row w)
unfolding pass_a
grows-pass [] w e = grew (at_least w)
grows-pass (good i k ∷ row) w e = grew (moves-on (suc i) row w (rw e (one-passed none_passed)))
grows-pass (bad i k ∷ row) w e = gave-up
grows-pass (stray ∷ row) w e = gave-up

stores : (st : List Node) (w : World) → length w.store ≤ length st → Larger w (with_store st w)
stores st w h = record { row = none_passed; store = h; values = omega arith }

pub record Growing (r : ReadersA) : Type 0 where
  pub exprs : (mode : Mode) (min : ℕ) → Grow (r.expr mode min)
  pub blocks : (start kind : ℕ) → Grow (r.block start kind)

module _ (text tokens : List ℕ) (end : ℕ) where
  module _ (bound : ℕ) (r : ReadersA) (h : Growing r) where
    pub grows : {A : Type 0} (p : Prog A) → Grow (eval_a text tokens end bound r p)
    unfolding eval_a
    grows (Give a) w = grew (at_least w)
    grows (Then p f) w = grows_then (λ a u. eval_a text tokens end bound r (f a) u) (grows p w) (λ a u. grows (f a) u)
    grows (Branch b p q) w = grows_one b (grows p w) (grows q w)
    grows (Loop x body) w = grows-iter (λ y u. eval_a text tokens end bound r (body y) u) bound (λ y u. grows (body y) u) x w
    grows peek w = grows_then _ (grows-skip end w.row w refl) (λ _ u. grew (at_least u))
    grows pass w = grows_then _ (grows-skip end w.row w refl) (λ _ u. grows-pass u.row u refl)
    grows position w = grew (at_least w)
    grows here w = grew (at_least w)
    grows before w = grew (at_least w)
    grows spelling w = grew (at_least w)
    grows (intern kind) w = grew (at_least w)
    grows marked w = grew (at_least w)
    grows (emit kind detail p) w = gave-up
    grows (emit_and_mark kind detail p) w = gave-up
    grows (alloc start kind payload) w = grew (stores (w.store ++ (new_node start kind payload ∷ [])) w (simp length-append (omega arith)))
    grows (close_at n e) w = grew (stores _ w (le_of_eq (sym (written-length n end_word e w.store))))
    grows (close_at_start n k) w = grew (stores _ w (le_of_eq (sym (written-length n end_word (word_in k first_word w.store) w.store))))
    grows (set_kind n kind payload) w = grew (stores _ w (le_of_eq (sym (written-length n head_word (node_head kind payload) w.store))))
    grows (link parent last child) w = grew {u = with_link parent last child w} (record { row = none_passed; store = le_of_eq (sym (adopted-length parent child w.store)); values = omega arith })
    grows (kind_of n) w = grew (at_least w)
    grows (value ws) w = grew {u = with_value ws w} (record { row = none_passed; store = omega arith; values = omega (arith, length-append w.values ws) })
    grows (enter_expr mode min) w = h.exprs mode min w
    grows (enter_block start kind) w = h.blocks start kind w

  module _ (bound : ℕ) (expr_program : Mode → ℕ → Prog (Option ℕ)) (block_program : ℕ → ℕ → Prog ℕ) where
    pub growing : (depth : ℕ) → Growing (tower_a text tokens end bound expr_program block_program depth)
    unfolding tower_a
    growing zero = record { exprs = λ mode min w. sank (at_least w); blocks = λ start kind w. sank (at_least w) }
    growing (suc depth) =
        record {
          exprs = λ mode min. grows bound _ (growing depth) (expr_program mode min);
          blocks = λ start kind. grows bound _ (growing depth) (block_program start kind);
        }

-- ---- the two runs

-- Of so many words that are lent, a store and values want more, or the store more nodes than have a number.
pub data Lacks (lent_nodes lent_values : ℕ) (w : World) : ℕ → Type 0 where
  nodes : lent_nodes < node_width * length w.store → Lacks lent_nodes lent_values w Refusal.NodesDontFit
  numbers : last_node < length w.store → Lacks lent_nodes lent_values w Refusal.NodesDontFit
  values : lent_values < length w.values → Lacks lent_nodes lent_values w Refusal.ValuesDontFit

lacks-on : {a b number : ℕ} {w u : World} → Larger w u → Lacks a b w number → Lacks a b u number
lacks-on l (nodes h) = nodes (omega (arith, l.store))
lacks-on l (numbers h) = numbers (omega (arith, l.store))
lacks-on l (values h) = values (omega (arith, l.values))

-- Of `lent` words, so many nodes or words are written; they stand for the store, or are the values.
pub record Nodes (lent count : ℕ) (ws : List ℕ) (st : List Node) (sane : Bool) : Type 0 where
  pub counted : count ≡ length st
  pub length-is : length ws ≡ lent
  pub plain : Plain ws st
  pub links : sane ≡ true → Encodes ws st

pub record Values (lent count : ℕ) (ws vs : List ℕ) : Type 0 where
  pub counted : count ≡ length vs
  pub length-is : length ws ≡ lent
  pub fits : count ≤ length ws
  pub words : take count ws ≡ vs

module _ (text tokens : List ℕ) (end lent_nodes lent_values : ℕ) where
  -- A cursor, unmarked, stands where the row begins.
  pub record Placed (c : Cursor) (mark at : ℕ) (row : List Seen) : Type 0 where
    pub place : at ≡ c.at
    pub limit : c.end ≡ end
    pub inside : c.at ≤ end
    pub ahead : row ≡ row_from tokens c.at (end - c.at)
    pub unmarked : mark ≡ 0

  -- A state and its words stand for a world; no report was made so far.
  pub record Rel (s : State) (m : Memory) (w : World) : Type 0 where
    pub placed : Placed s.cursor s.mark w.at w.row
    pub nodes : Nodes lent_nodes s.nodes m.nodes w.store w.sane
    pub values : Values lent_values s.values m.values w.values

  -- A run beside its abstract run, from `b` reports: no report; a report, and whatever comes after it; too deep; or too few words lent.
  pub data Sim {A : Type 0} (b : ℕ) : Out A → Fate A → Type 0 where
    same : {a : A} {t : State} {n : Memory} {w : World} → t.reports ≡ b → Rel t n w → Sim b (done a t n) (ok a w)
    more : {a : A} {t : State} {n : Memory} → b < t.reports → Sim b (done a t n) fail
    late : {number place : ℕ} → Sim b (refused number place) fail
    sunk : {place : ℕ} {w : World} → place ≡ w.at → Sim b (refused Refusal.TooDeep place) (deep w)
    short : {a : A} {number place : ℕ} {w : World} → Lacks lent_nodes lent_values w number → Sim b (refused number place) (ok a w)
    short-deep : {number place : ℕ} {w : World} → Lacks lent_nodes lent_values w number → Sim b (refused number place) (deep w)

  abbrev pub Sims : {A : Type 0} → (State → Memory → Out A) → (World → Fate A) → Type 0
  Sims f g = (s : State) (m : Memory) (w : World) → Rel s m w → Sim s.reports (f s m) (g w)

  lacking : {A : Type 0} {b number place : ℕ} {w : World} {v : Fate A} → Lacks lent_nodes lent_values w number → Grows w v → Sim b (refused number place) v
  lacking l (grew k) = short (lacks-on k l)
  lacking l (sank k) = short-deep (lacks-on k l)
  lacking l gave-up = late

  raised : {A : Type 0} {b : ℕ} {s : State} {m : Memory} {o : Out A} → b < s.reports → After s m o → Sim b o fail
  raised h (Mono.ran {t = t} l) = more {t = t} (omega (arith, l.reports))
  raised h (Mono.halted l) = late

  then : {A B : Type 0} {b : ℕ} {o : Out A} {v : Fate A} (f : A → State → Memory → Out B) (g : A → World → Fate B) → Sim b o v → ((a : A) → Mono.Mono (f a)) → ((a : A) → Grow (g a)) → ((a : A) → Sims (f a) (g a))
      → Sim b (bind o f) (bind_a v g)
  then f g (same {a} {t} {n} {w} e r) c k h = rw (← e) (h a t n w r)
  then f g (more {a} {t} {n} e) c k h = raised e (c a t n)
  then f g late c k h = late
  then f g (sunk e) c k h = sunk e
  then f g (short {a} {w = w} l) c k h = lacking l (k a w)
  then f g (short-deep l) c k h = short-deep l

  one-of : {A : Type 0} {b : ℕ} {x y : Out A} {u v : Fate A} (t : Bool) → Sim b x u → Sim b y v → Sim {A = A} b (elim t [ true ↦ x | false ↦ y ]) (elim t [ true ↦ u | false ↦ v ])
  one-of true p q = p
  one-of false p q = q

  -- The same state, with an answer that is the same.
  agree : {A : Type 0} {x y : A} {s : State} {m : Memory} {w : World} → x ≡ y → Rel s m w → Sim s.reports (done x s m) (ok y w)
  agree e r = rw e (same refl r)

  pub record Like (r : Readers) (q : ReadersA) : Type 0 where
    pub exprs : (mode : Mode) (min : ℕ) → Sims (r.expr mode min) (q.expr mode min)
    pub blocks : (start kind : ℕ) → Sims (r.block start kind) (q.block start kind)

  -- ---- trivia

  abbrev kind_of_token : ℕ → ℕ
  kind_of_token i = token_kind (Source.word_at tokens i)

  -- The row past the cursor's token.
  abbrev rest : State → List Seen
  rest s = row_from tokens (suc s.cursor.at) (end - suc s.cursor.at)

  -- What stands at the cursor once trivia is skipped.
  data Ready (s : State) (w : World) : Type 0 where
    at-end : end ≤ s.cursor.at → w.row ≡ [] → Ready s w
    at-good : s.cursor.at < end → lex_error (kind_of_token s.cursor.at) ≡ None → w.row ≡ good s.cursor.at (kind_of_token s.cursor.at) ∷ rest s → Ready s w
    at-bad : (error : ErrorToken) → s.cursor.at < end → lex_error (kind_of_token s.cursor.at) ≡ Some error → w.row ≡ bad s.cursor.at (kind_of_token s.cursor.at) ∷ rest s → Ready s w

  kind-here : (s : State) → s.cursor.end ≡ end → s.cursor.at < end → kind_at text tokens s.cursor ≡ kind_of_token s.cursor.at
  kind-here s e h = kind-inside text tokens s.cursor (omega arith)

  abbrev on : State → State
  on s = with_cursor (advanced s.cursor) s

  passed-quiet : (s : State) (m : Memory) → lex_error (kind_at text tokens s.cursor) ≡ None → passed text tokens s m ≡ done tt (on s) m
  unfolding passed
  passed-quiet s m h = rw (h, passed)

  passed-error : (error : ErrorToken) (s : State) (m : Memory) → lex_error (kind_at text tokens s.cursor) ≡ Some error → s.mark ≡ 0
      → passed text tokens s m ≡ reported Report.LexerError (error_number error) (Source.token_span tokens s.cursor.at) (on s) m
  unfolding passed
  passed-error error s m h e = rw (h, ne_eqb s.mark (s.cursor.at + 1) (omega arith), passed)

  skipped-trivia : (left : ℕ) (s : State) (m : Memory) → is_trivia (kind_at text tokens s.cursor) ≡ true → skipped text tokens (suc left) s m ≡ bind (passed text tokens s m) (λ _ t n. skipped text tokens left t n)
  unfolding skipped
  skipped-trivia left s m h = rw (h, skipped)

  skipped-plain : (left : ℕ) (s : State) (m : Memory) → is_trivia (kind_at text tokens s.cursor) ≡ false → skipped text tokens (suc left) s m ≡ done tt s m
  unfolding skipped
  skipped-plain left s m h = rw (h, skipped)

  -- A report that is made, or doesn't fit.
  reported-fails : (kind detail : ℕ) (q : Span) (s : State) (m : Memory) → Sim s.reports (reported kind detail q s m) fail
  unfolding reported
  reported-fails kind detail q s m = go (leb (report_width * s.reports + report_width) (length m.reports))
    where
      ws : List ℕ
      ws = Words.report_words (record { kind = kind; detail = detail; start = q.start; end = q.end })

      go : (b : Bool) → Sim {A = Unit {0}} s.reports
          (elim b [
            | true ↦ done tt (with_reports (s.reports + 1) s) (memory m.nodes m.values (sets m.reports (report_width * s.reports) ws))
            | false ↦ refused Refusal.ReportsDontFit s.cursor.at
          ]) fail
      go true = more {t = with_reports (s.reports + 1) s} (omega arith)
      go false = late

  fails-on : {A B : Type 0} {b : ℕ} {o : Out A} (f : A → State → Memory → Out B) → Sim b o fail → ((a : A) → Mono.Mono (f a)) → Sim b (bind o f) fail
  fails-on f (more {a} {t} {n} h) c = raised h (c a t n)
  fails-on f late c = late

  passed-fails : (error : ErrorToken) (s : State) (m : Memory) → lex_error (kind_at text tokens s.cursor) ≡ Some error → s.mark ≡ 0 → Sim s.reports (passed text tokens s m) fail
  passed-fails error s m h e = rw (passed-error error s m h e) (reported-fails _ _ _ (on s) m)

  -- The cursor moved over a token, or stays.
  on-is : (s : State) → s.cursor.end ≡ end → s.cursor.at < end → (on s).cursor ≡ record { at = suc s.cursor.at; end = end }
  on-is s e h = Progress.advanced-at text tokens s.cursor (omega arith) ∙ (λ i. record { at = add-one s.cursor.at i; end = e i })

  on-rel : (s : State) (m : Memory) (w : World) → Rel s m w → s.cursor.at < end → Rel (on s) m (move_to (suc s.cursor.at) (rest s) w)
  on-rel s m w r h =
      let c = on-is s r.placed.limit h in
      let a : (on s).cursor.at ≡ suc s.cursor.at = ap (λ (c : Cursor). c.at) c in
      record { placed = record { place = sym a; limit = ap (λ (c : Cursor). c.end) c; inside = omega arith; ahead = rw a; unmarked = r.placed.unmarked }; nodes = r.nodes; values = r.values }

  stay-rel : (s : State) (m : Memory) (w : World) (i : ℕ) (row : List Seen) → i ≡ s.cursor.at → row ≡ row_from tokens s.cursor.at (end - s.cursor.at) → Rel s m w → Rel s m (move_to i row w)
  stay-rel s m w i row e f r = record { placed = record { place = e; limit = r.placed.limit; inside = r.placed.inside; ahead = f; unmarked = r.placed.unmarked }; nodes = r.nodes; values = r.values }

  -- Where the row is skipped from doesn't matter.
  skip-any : (row : List Seen) (i : ℕ) (x : List Seen) (w : World) → skip_a end row (move_to i x w) ≡ skip_a end row w
  unfolding skip_a
  skip-any [] i x w = refl
  skip-any (good j k ∷ row) i x w = refl
  skip-any (bad j k ∷ row) i x w = refl
  skip-any (stray ∷ row) i x w = refl

  module _ {A : Type 0} (k : State → Memory → Out A) (g : World → Fate A) (c : Mono.Mono k) (h : (t : State) (n : Memory) (w : World) → Rel t n w → Ready t w → Sim t.reports (k t n) (g w)) where
    -- One token of it, of which the kind says what it is.
    blank : (left : ℕ) (s : State) (m : Memory) (w : World) (r : Rel s m w) → s.cursor.at < end
        → (Sim s.reports (bind (skipped text tokens left (on s) m) (λ _ t n. k t n))
        (bind_a (skip_a end (rest s) (move_to (suc s.cursor.at) (rest s) w)) (λ _ u. g u)))
        → (b : Bool) (e : LexError) → is_trivia (kind_of_token s.cursor.at) ≡ b → lex_error (kind_of_token s.cursor.at) ≡ e
        → w.row ≡ seen b e s.cursor.at (kind_of_token s.cursor.at) (rest s)
        → Sim s.reports (bind (skipped text tokens (suc left) s m) (λ _ t n. k t n)) (bind_a (skip_a end w.row w) (λ _ u. g u))
    unfolding skip_a
    blank left s m w r l next true None b e q =
        let z = kind-here s r.placed.limit l in
        rw (skipped-trivia left s m (ap is_trivia z ∙ b), passed-quiet s m (ap lex_error z ∙ e), q) (rw (skip-any (rest s) w.at (rest s) w) (rw (skip-any (rest s) (suc s.cursor.at) (rest s) w) at next))
    blank left s m w r l next true (Some error) b e q =
        let z = kind-here s r.placed.limit l in
        rw (skipped-trivia left s m (ap is_trivia z ∙ b), q)
        (fails-on (λ _ t n. k t n) (fails-on (λ _ t n. skipped text tokens left t n) (passed-fails error s m (ap lex_error z ∙ e) r.placed.unmarked) (λ _. skipped-later text tokens left)) (λ _. c))
    blank left s m w r l next false None b e q =
        let z = kind-here s r.placed.limit l in
        rw (skipped-plain left s m (ap is_trivia z ∙ b), q) (h s m (move_to s.cursor.at _ w) (stay-rel s m w _ _ refl (sym q ∙ r.placed.ahead) r) (at-good l e refl))
    blank left s m w r l next false (Some error) b e q =
        let z = kind-here s r.placed.limit l in
        rw (skipped-plain left s m (ap is_trivia z ∙ b), q) (h s m (move_to s.cursor.at _ w) (stay-rel s m w _ _ refl (sym q ∙ r.placed.ahead) r) (at-bad error l e refl))

    over-blanks : (left : ℕ) (s : State) (m : Memory) (w : World) → Rel s m w → left ≡ end - s.cursor.at
        → Sim s.reports (bind (skipped text tokens left s m) (λ _ t n. k t n)) (bind_a (skip_a end w.row w) (λ _ u. g u))
    unfolding skipped skip_a row_from
    over-blanks zero s m w r f =
        let z : end - s.cursor.at ≡ 0 = sym f in
        let q : w.row ≡ [] = rw z at r.placed.ahead in
        rw q (h s m (move_to end [] w) (stay-rel s m w end [] (omega (arith, r.placed.inside)) (rw z) r) (at-end (omega arith) refl))
    over-blanks (suc left) s m w r f =
        let l : s.cursor.at < end = omega arith in
        let z : end - s.cursor.at ≡ suc (end - suc s.cursor.at) = omega arith in
        let y = rw z at r.placed.ahead in
        let a : (on s).cursor.at ≡ suc s.cursor.at = ap (λ (c : Cursor). c.at) (on-is s r.placed.limit l) in
        blank left s m w r l (over-blanks left (on s) m (move_to (suc s.cursor.at) (rest s) w) (on-rel s m w r l) (omega arith)) _ _ refl refl y

  kind-same : {s : State} {w : World} → s.cursor.end ≡ end → Ready s w → kind_at text tokens s.cursor ≡ kind_a w.row
  unfolding kind_at kind_a
  kind-same {s} {w} e (at-end h q) = rw (q, le-ltb s.cursor.at s.cursor.end (omega arith))
  kind-same {s} {w} e (at-good h x q) = rw q (kind-here s e h)
  kind-same {s} {w} e (at-bad error h x q) = rw q (kind-here s e h)

  passed-sim : (s : State) (m : Memory) (w : World) → Rel s m w → Ready s w → Sim s.reports (passed text tokens s m) (pass_a w.row w)
  unfolding pass_a lex_error
  passed-sim s m w r (at-end h q) =
      let k : kind_at text tokens s.cursor ≡ Token.Eof = Progress.eof-at text tokens s.cursor (omega (arith, r.placed.limit)) in
      let c : s.cursor ≡ advanced s.cursor = advanced-over s.cursor (omega (arith, r.placed.limit)) in
      rw (passed-quiet s m (ap lex_error k), q, ← c) (same refl (stay-rel s m w w.at [] r.placed.place (sym q ∙ r.placed.ahead) r))
  passed-sim s m w r (at-good h x q) = rw (passed-quiet s m (ap lex_error (kind-here s r.placed.limit h) ∙ x), q) (same refl (on-rel s m w r h))
  passed-sim s m w r (at-bad error h x q) = rw q (passed-fails error s m (ap lex_error (kind-here s r.placed.limit h) ∙ x) r.placed.unmarked)

  -- ---- nodes and values

  -- Another store, for which other words stand.
  store-rel : {s : State} {m : Memory} {w : World} (ws : List ℕ) (st : List Node) → Rel s m w → length st ≡ length w.store → length ws ≡ length m.nodes → Plain ws st → (w.sane ≡ true → Encodes ws st)
      → Rel s (memory ws m.values m.reports) (with_store st w)
  store-rel ws st r e f p l = record { placed = r.placed; nodes = record { counted = r.nodes.counted ∙ sym e; length-is = f ∙ r.nodes.length-is; plain = p; links = l }; values = r.values }

  stored-sim : (i j v : ℕ) (s : State) (m : Memory) (w : World) → Rel s m w → j < 3 → Sim {A = Unit {0}} s.reports (done tt s (stored i j v s m)) (ok tt (with_store (written i j v w.store) w))
  unfolding stored
  stored-sim i j v s m w r h = go (ltb i s.nodes) refl
    where
      go : (b : Bool) → ltb i s.nodes ≡ b → Sim {A = Unit {0}} s.reports (done tt s (cond b (memory (set m.nodes (place i j) v) m.values m.reports) m)) (ok tt (with_store (written i j v w.store) w))
      go true e =
          let l : i < length w.store = omega (arith, ltb-true i s.nodes e, r.nodes.counted) in
          same refl (store-rel _ _ r (written-length i j v w.store) (length-set m.nodes (place i j) v) (plain-written i j v l h r.nodes.plain) (λ t. links-written i j v l h (r.nodes.links t)))
      go false e = rw (written_none i j v w.store (omega (arith, ltb-false i s.nodes e, r.nodes.counted))) (same refl r)

  word_same : (i j : ℕ) (s : State) (m : Memory) (w : World) → Rel s m w → j < 3 → word_of i j s m ≡ word_in i j w.store
  unfolding word_of
  word_same i j s m w r h = rw r.nodes.counted (go (ltb i (length w.store)) refl)
    where
      go : (b : Bool) → ltb i (length w.store) ≡ b → cond b (get_or m.nodes (place i j) 0) 0 ≡ cond b (word j (node_at w.store i)) 0
      go true e = r.nodes.plain.words i j (ltb-true i (length w.store) e) h
      go false e = refl

  allocated-sim : (start kind payload : ℕ) (s : State) (m : Memory) (w : World) → Rel s m w
      → Sim s.reports (allocated start kind payload s m) (ok (length w.store) (with_store (w.store ++ (new_node start kind payload ∷ [])) w))
  unfolding allocated
  allocated-sim start kind payload s m w r = go (ltb s.nodes last_node) (leb (node_width * s.nodes + node_width) (length m.nodes)) refl refl
    where
      new : List Node
      new = w.store ++ (new_node start kind payload ∷ [])

      new_words : List ℕ
      new_words = Words.node_words (record { kind = kind; payload = payload; first = start; end = start; next = 0; child = 0; parent = 0 })

      ws : List ℕ
      ws = sets m.nodes (node_width * s.nodes) new_words

      longer : length new ≡ length w.store + 1
      longer = length-append w.store (new_node start kind payload ∷ [])

      go : (b c : Bool) → ltb s.nodes last_node ≡ b → leb (node_width * s.nodes + node_width) (length m.nodes) ≡ c
          → Sim {A = ℕ} s.reports (elim (b && c) [ true ↦ done s.nodes (with_nodes (s.nodes + 1) s) (memory ws m.values m.reports) | false ↦ refused Refusal.NodesDontFit s.cursor.at ]) (ok (length w.store) (with_store new w))
      go true true e f =
          let k = r.nodes.counted in
          let g : node_width * length w.store + node_width ≤ length m.nodes = rw k at (leb-true (node_width * s.nodes + node_width) (length m.nodes) f) in
          let n : s.nodes + 1 ≡ length new = omega (arith, longer) in
          let p : Plain ws new = rw k (plain-new m.nodes w.store start kind payload g r.nodes.plain) in
          let l : w.sane ≡ true → Encodes ws new = λ t. rw k (links-new m.nodes w.store start kind payload g (r.nodes.links t)) in
          agree {s = with_nodes (s.nodes + 1) s} k (record { placed = r.placed; nodes = record { counted = n; length-is = length-sets m.nodes (node_width * s.nodes) new_words ∙ r.nodes.length-is; plain = p; links = l }; values = r.values })
      go true false e f = let h : lent_nodes < node_width * length new = omega (arith, longer, leb-false (node_width * s.nodes + node_width) (length m.nodes) f, r.nodes.counted, r.nodes.length-is) in short (nodes h)
      go false c e f = let h : last_node < length new = omega (arith, longer, ltb-false s.nodes last_node e, r.nodes.counted) in short (numbers h)

  valued-sim : (ws : List ℕ) (s : State) (m : Memory) (w : World) → Rel s m w → Sim s.reports (valued ws s m) (ok (length w.values) (with_value ws w))
  unfolding valued
  valued-sim ws s m w r = go (leb (s.values + length ws) (length m.values)) refl
    where
      go : (b : Bool) → leb (s.values + length ws) (length m.values) ≡ b
          → Sim s.reports
          (elim b [
            | true ↦ done s.values (with_values (s.values + length ws) s) (memory m.nodes (sets m.values s.values ws) m.reports)
            | false ↦ refused Refusal.ValuesDontFit s.cursor.at
          ])
          (ok (length w.values) (with_value ws w))
      go true e =
          let g : s.values + length ws ≤ length m.values = leb-true _ _ e in
          let z : length (take s.values m.values ++ ws) ≡ s.values + length ws = simp (length-append, length-take) (omega arith) in
          let t : take (s.values + length ws) (sets m.values s.values ws) ≡ w.values ++ ws = rw (sets-eq ws m.values s.values g) (take_at (take s.values m.values ++ ws) _ _ z ∙ ap (λ x. x ++ ws) r.values.words) in
          let c : s.values + length ws ≡ length (w.values ++ ws) = simp length-append (omega (arith, r.values.counted)) in
          let f : s.values + length ws ≤ length (sets m.values s.values ws) = simp length-sets g in
          let v : Values lent_values (s.values + length ws) (sets m.values s.values ws) (w.values ++ ws) = record { counted = c; length-is = length-sets m.values s.values ws ∙ r.values.length-is; fits = f; words = t } in
          agree {s = with_values (s.values + length ws) s} r.values.counted (record { placed = r.placed; nodes = r.nodes; values = v })
      go false e =
          let h : lent_values < length (w.values ++ ws) = omega (arith, leb-false (s.values + length ws) (length m.values) e, r.values.counted, r.values.length-is, length-append w.values ws) in
          short (values h)

  -- A link, by the words that are written, if any.
  link-rel : (parent last child : ℕ) {s : State} {m : Memory} {w : World} (ws : List ℕ) → Rel s m w → length ws ≡ length m.nodes → Plain ws w.store
      → (Encodes m.nodes w.store → may_adopt parent last child w.store ≡ true → Encodes ws (adopted parent child w.store)) → Rel s (memory ws m.values m.reports) (with_link parent last child w)
  link-rel parent last child {s} {m} {w} ws r e p l =
      record {
        placed = r.placed;
        nodes = record {
          counted = r.nodes.counted ∙ sym (adopted-length parent child w.store);
          length-is = e ∙ r.nodes.length-is;
          plain = plain-adopted parent child p;
          links = λ t. let x = both_true w.sane _ t in l (r.nodes.links x.0) x.1;
        };
        values = r.values;
      }

  linked-sim : (parent last child : ℕ) (s : State) (m : Memory) (w : World) → Rel s m w → Sim {A = Unit {0}} s.reports (done tt s (linked parent last child s m)) (ok tt (with_link parent last child w))
  unfolding linked stored
  linked-sim parent last child s m w r = go (eqb last 0) (ltb parent s.nodes) (ltb last s.nodes) refl refl refl
    where
      -- the child's parent is written where the child is a node
      tell : (ws : List ℕ) (d : Bool) → ltb child s.nodes ≡ d → length ws ≡ length m.nodes → Plain ws w.store
          → (Encodes m.nodes w.store → may_adopt parent last child w.store ≡ true → Encodes (set ws (place child parent_word) parent) (adopted parent child w.store))
          → Sim {A = Unit {0}} s.reports (done tt s (cond d (memory (set ws (place child parent_word) parent) m.values m.reports) (memory ws m.values m.reports))) (ok tt (with_link parent last child w))
      tell ws true e l p k = same refl (link-rel parent last child (set ws (place child parent_word) parent) r (length-set ws _ parent ∙ l) (plain-set child parent_word parent (omega arith) (omega arith) p) k)
      tell ws false e l p k = same refl (link-rel parent last child ws r l p (λ x y. absurd (omega (arith, (links-adopted parent last child r.nodes.plain.room x y).1, ltb-false child s.nodes e, r.nodes.counted))))

      first : List ℕ
      first = set m.nodes (place parent child_word) child

      next : List ℕ
      next = set m.nodes (place last next_word) child

      go : (z a b : Bool) → eqb last 0 ≡ z → ltb parent s.nodes ≡ a → ltb last s.nodes ≡ b
          → Sim {A = Unit {0}} s.reports (done tt s (stored child parent_word parent s (cond z (cond a (memory first m.values m.reports) m) (cond b (memory next m.values m.reports) m)))) (ok tt (with_link parent last child w))
      go true true b e f g = tell first _ refl (length-set m.nodes _ child) (plain-set parent child_word child (omega arith) (omega arith) r.nodes.plain) (λ x y. (links-adopted parent last child r.nodes.plain.room x y).2 (eqb-true _ _ e))
      go true false b e f g = tell m.nodes _ refl refl r.nodes.plain (λ x y. absurd (omega (arith, (links-adopted parent last child r.nodes.plain.room x y).0, ltb-false parent s.nodes f, r.nodes.counted)))
      go false a true e f g = tell next _ refl (length-set m.nodes _ child) (plain-set last next_word child (omega arith) (omega arith) r.nodes.plain) (λ x y. ((links-adopted parent last child r.nodes.plain.room x y).3 (eqb-false _ _ e)).1)
      go false a false e f g = tell m.nodes _ refl refl r.nodes.plain (λ x y. absurd (omega (arith, ((links-adopted parent last child r.nodes.plain.room x y).3 (eqb-false _ _ e)).0, ltb-false last s.nodes g, r.nodes.counted)))

  turn_sim : {S : Type 0} (f : S → State → Memory → Out S) (g : S → World → Fate S) → ((x : S) → Sims (f x) (g x)) → (t : Turn S)
      → Sims {A = S} (λ u n. elim t [ again y ↦ f y u n | stop y ↦ done y u n ]) (λ u. elim t [ again y ↦ g y u | stop y ↦ ok y u ])
  turn_sim f g h (again y) s m w r = h y s m w r
  turn_sim f g h (stop y) s m w r = same refl r

  iter-sim : {S : Type 0} (f : S → State → Memory → Out (Turn S)) (g : S → World → Fate (Turn S)) → ((x : S) → Mono.Mono (f x)) → ((x : S) → Grow (g x)) → ((x : S) → Sims (f x) (g x)) → (k : ℕ) (x : S) → Sims (iter f k x) (iter_a g k x)
  unfolding iter iter_a
  iter-sim f g c d h zero x s m w r = same refl r
  iter-sim f g c d h (suc k) x s m w r = then _ _ (h x s m w r) (λ t. turn (iter f k) t (iter-later f k c)) (λ t. grows-turn (iter_a g k) t (grows-iter g k d)) (turn_sim (iter f k) (iter_a g k) (iter-sim f g c d h k))

  module _ (bound : ℕ) (r : Readers) (q : ReadersA) (calm : Steady r) (large : Growing q) (like : Like r q) where
    pub sim : {A : Type 0} (p : Prog A) → Sims (eval text tokens bound r p) (eval_a text tokens end bound q p)
    unfolding eval eval_a
    sim (Give a) s m w h = same refl h
    sim (Then p f) s m w h =
        then (λ a t n. eval text tokens bound r (f a) t n) (λ a u. eval_a text tokens end bound q (f a) u) (sim p s m w h) (λ a. mono text tokens bound r calm (f a)) (λ a. grows text tokens end bound q large (f a)) (λ a t n u g. sim (f a) t n u g)
    sim (Branch b x y) s m w h = one-of b (sim x s m w h) (sim y s m w h)
    sim (Loop x body) s m w h =
        iter-sim (λ y t n. eval text tokens bound r (body y) t n) (λ y u. eval_a text tokens end bound q (body y) u) (λ y. mono text tokens bound r calm (body y)) (λ y. grows text tokens end bound q large (body y)) (λ y t n u g. sim (body y) t n u g) bound x s m w h
    sim peek s m w h = over-blanks (λ t n. done (kind_at text tokens t.cursor) t n) (λ u. ok (kind_a u.row) u) (λ t n. Mono.ran (Mono.same t n)) (λ t n u g d. agree (kind-same g.placed.limit d) g) _ s m w h (ap (λ e. e - s.cursor.at) h.placed.limit)
    sim pass s m w h = over-blanks (λ t n. passed text tokens t n) (λ u. pass_a u.row u) (passed_later text tokens) passed-sim _ s m w h (ap (λ e. e - s.cursor.at) h.placed.limit)
    sim position s m w h = agree (sym h.placed.place) h
    sim here s m w h = agree (ap (Source.token_span tokens) (sym h.placed.place)) h
    sim before s m w h = agree (ap (λ i. Source.span (Source.token_start tokens (pred i)) (Source.token_start tokens i)) (sym h.placed.place)) h
    sim spelling s m w h = agree (ap (Source.spelling text tokens) (sym h.placed.place)) h
    sim (intern kind) s m w h = agree (ap (λ i. Source.first_alike text tokens kind (pred i)) (sym h.placed.place)) h
    sim marked s m w h = agree (ne_eqb s.mark (s.cursor.at + 1) (λ e. omega (arith, h.placed.unmarked))) h
    sim (emit kind detail p) s m w h = reported-fails kind detail p s m
    sim (emit_and_mark kind detail p) s m w h = reported-fails kind detail p (marked_here s) m
    sim (alloc start kind payload) s m w h = allocated-sim start kind payload s m w h
    sim (close_at n e) s m w h = stored-sim n end_word e s m w h (omega arith)
    sim (close_at_start n k) s m w h = rw (word_same k first_word s m w h (omega arith)) (stored-sim n end_word _ s m w h (omega arith))
    sim (set_kind n kind payload) s m w h = stored-sim n head_word _ s m w h (omega arith)
    sim (link parent last child) s m w h = linked-sim parent last child s m w h
    sim (kind_of n) s m w h = agree (ap node_kind (word_same n head_word s m w h (omega arith))) h
    sim (value ws) s m w h = valued-sim ws s m w h
    sim (enter_expr mode min) s m w h = like.exprs mode min s m w h
    sim (enter_block start kind) s m w h = like.blocks start kind s m w h

  -- At every depth.
  module _ (bound : ℕ) (expr_program : Mode → ℕ → Prog (Option ℕ)) (block_program : ℕ → ℕ → Prog ℕ) where
    pub like_at : (depth : ℕ) → Like (tower text tokens bound expr_program block_program depth) (tower_a text tokens end bound expr_program block_program depth)
    unfolding tower tower_a
    like_at zero = record { exprs = λ mode min s m w r. sunk (sym r.placed.place); blocks = λ start kind s m w r. sunk (sym r.placed.place) }
    like_at (suc depth) =
        let calm = steady text tokens bound expr_program block_program depth in
        let large = growing text tokens end bound expr_program block_program depth in
        record {
          exprs = λ mode min. sim bound _ _ calm large (like_at depth) (expr_program mode min);
          blocks = λ start kind. sim bound _ _ calm large (like_at depth) (block_program start kind);
        }

-- ---- the file

module _ (text tokens : List ℕ) (n v r : ℕ) where
  start-rel : Rel text tokens (token_limit tokens) n v (start tokens) (zeros n v r) (start_a tokens)
  start-rel =
      let z : token_limit tokens - 0 ≡ token_limit tokens = omega arith in
      record {
        placed = record { place = refl; limit = refl; inside = omega arith; ahead = rw z; unmarked = refl };
        nodes = record {
          counted = refl;
          length-is = length-replicate n 0;
          plain = record { room = omega arith; words = λ i j l. absurd (omega arith) };
          links = λ _. record { firsts = λ i l. absurd (omega arith); chains = λ i l. absurd (omega arith); free = λ i l. absurd (omega arith); owns = λ i l. absurd (omega arith) };
        };
        values = record { counted = refl; length-is = length-replicate v 0; fits = omega arith; words = refl };
      }

  -- What a text is parsed to, beside what the abstract run comes to.
  pub data Outcome : Parsed → Fate ℕ → Type 0 where
    is_read : {file : ℕ} {w : World} {m : Memory} → Nodes n (length w.store) m.nodes w.store w.sane → Values v (length w.values) m.values w.values
        → Outcome (record { answer = Answer.done (length w.store ∷ length w.values ∷ 0 ∷ []); words = m }) (ok file w)
    has-reports : {nodes values reports : ℕ} {m : Memory} → 0 < reports → Outcome (record { answer = Answer.done (nodes ∷ values ∷ reports ∷ []); words = m }) fail
    is-late : {number place : ℕ} {m : Memory} → Outcome (record { answer = Answer.refused number place; words = m }) fail
    is-deep : {w : World} {m : Memory} → Outcome (record { answer = Answer.refused Refusal.TooDeep w.at; words = m }) (deep w)
    is-short : {file number place : ℕ} {w : World} {m : Memory} → Lacks n v w number → Outcome (record { answer = Answer.refused number place; words = m }) (ok file w)
    is-short-deep : {number place : ℕ} {w : World} {m : Memory} → Lacks n v w number → Outcome (record { answer = Answer.refused number place; words = m }) (deep w)

  outcome : {o : Out ℕ} {f : Fate ℕ} (blank : Memory) → Sim text tokens (token_limit tokens) n v 0 o f → Outcome (parsed_to blank o) f
  unfolding parsed_to
  outcome blank (same {t = t} {n = m} {w = w} e r) = rw (e, r.nodes.counted, r.values.counted) (is_read (rw r.nodes.counted at r.nodes) (rw r.values.counted at r.values))
  outcome blank (more h) = has-reports h
  outcome blank late = is-late
  outcome blank (sunk e) = rw e is-deep
  outcome blank (short l) = is-short l
  outcome blank (short-deep l) = is-short-deep l

  pub file-sim : Sim text tokens (token_limit tokens) n v 0 (eval text tokens (token_limit tokens + 1) (readers text tokens (token_limit tokens + 1) max_depth) parse_file (start tokens) (zeros n v r)) (parsed_a text tokens)
  unfolding parsed_a
  file-sim =
      let bound = token_limit tokens + 1 in
      sim text tokens (token_limit tokens) n v bound _ _ (steady text tokens bound try_parse_expr_min_bp parse_block max_depth) (growing text tokens (token_limit tokens) bound try_parse_expr_min_bp parse_block max_depth)
      (like_at text tokens (token_limit tokens) n v bound try_parse_expr_min_bp parse_block max_depth) parse_file (start tokens) (zeros n v r) (start_a tokens) start-rel

  pub simulates : Outcome (parsed text tokens n v r) (parsed_a text tokens)
  unfolding parsed parsed_within
  simulates = outcome (zeros n v r) file-sim

  -- ---- what it says where enough words are lent

  pub record Enough (w : World) : Type 0 where
    pub nodes : node_width * length w.store ≤ n
    pub numbers : length w.store ≤ last_node
    pub values : length w.values ≤ v

  enough : {number : ℕ} {w : World} → Enough w → Lacks n v w number → ⊥
  enough e (nodes h) = omega (arith, e.nodes)
  enough e (numbers h) = omega (arith, e.numbers)
  enough e (values h) = omega (arith, e.values)

  read_answer : {q : Parsed} {f : Fate ℕ} {file : ℕ} {w : World} → Outcome q f → f ≡ ok file w → Enough w → q.answer ≡ Answer.done (length w.store ∷ length w.values ∷ 0 ∷ [])
  read_answer {w = w} (is_read {w = u} x y) e h = let z : u ≡ w = cc in rw z
  read_answer (has-reports x) e h = cc
  read_answer is-late e h = cc
  read_answer is-deep e h = cc
  read_answer {w = w} (is-short {w = u} l) e h = let z : u ≡ w = cc in absurd (enough h (rw z at l))
  read_answer (is-short-deep l) e h = cc

  deep-answer : {q : Parsed} {f : Fate ℕ} {w : World} → Outcome q f → f ≡ deep w → Enough w → q.answer ≡ Answer.refused Refusal.TooDeep w.at
  deep-answer (is_read x y) e h = cc
  deep-answer (has-reports x) e h = cc
  deep-answer is-late e h = cc
  deep-answer {w = w} (is-deep {w = u}) e h = let z : u ≡ w = cc in rw z
  deep-answer (is-short l) e h = cc
  deep-answer {w = w} (is-short-deep {w = u} l) e h = let z : u ≡ w = cc in absurd (enough h (rw z at l))

  -- An abstract answer is an answer free of reports, and too deep is refused where it became so.
  pub answered : {file : ℕ} {w : World} → parsed_a text tokens ≡ ok file w → Enough w → (parsed text tokens n v r).answer ≡ Answer.done (length w.store ∷ length w.values ∷ 0 ∷ [])
  answered = read_answer simulates

  pub too-deep : {w : World} → parsed_a text tokens ≡ deep w → Enough w → (parsed text tokens n v r).answer ≡ Answer.refused Refusal.TooDeep w.at
  too-deep = deep-answer simulates
