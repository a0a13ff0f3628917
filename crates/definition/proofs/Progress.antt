-- Programs that pass a token: what they have to answer, or to find at the cursor, for the cursor to have moved.
use Rattle.std.proofs.Math.Path.{◌≡◌, refl, sym, ap}
use Rattle.std.proofs.Common.{◌∙◌}
use Rattle.std.specs.Prelude.{Bool, not, ◌&&◌, ◌||◌, length, drop}
use Rattle.std.proofs.Math.Bool.{true, false}
use Rattle.std.proofs.Math.Option.{Option, none, some}
use mathlib.Core.List.{List, [], ◌∷◌}
use Prim.Native.Nat.{ℕ, zero, suc, ◌+◌, ◌-◌, ◌*◌, ◌≤◌, ◌<◌}
use native.Mathlib.Omega.{arith}
use borrow.Author.Tests.{ltb-true, ltb-false, lt-ltb, le-ltb, eqb-true, eq-eqb}
use Rattle.std.proofs.Math.Dec.{T, eqb, ltb, leb}
use Rattle.words.specs.Token
use Rattle.words.specs.ErrorToken.{error_number}
use Rattle.words.specs.Token.{is_trivia, lex_error, LexError}
use Rattle.std.specs.Prelude.{Some, None}
use Rattle.words.specs.Report
use Rattle.words.specs.Words.{node_width, report_width}
use Rattle.literals.specs.declared.Span.{Span}
use Rattle.literals.specs.Spelling as Source
use Rattle.definition.specs.declared.Cursor.{Cursor}
use Rattle.definition.specs.declared.State.{State}
use Rattle.definition.specs.declared.Mode.{Mode}
use Rattle.definition.specs.Prog.{Turn, again, stop, Prog, Give, Then, Branch, Loop, peek, pass, position, here, spelling, marked, emit, emit_and_mark, alloc, link, value, enter_expr, Memory, Out, done, refused, bind, with_cursor, advanced, reported, is_marked, marked_here, last_node, allocated, iter, Readers, kind_at, passed, skipped, skip_trivia, eval, tower}
use Rattle.words.specs.Node
use Rattle.literals.specs.Numbers.{digits, number_value}
use Rattle.literals.specs.Strings.{Event, byte, report, string_value}
use Rattle.definition.specs.declared.Mode.TheVariants.{AllowAll}
use Rattle.definition.specs.declared.Unfinished.{Unfinished}
use Rattle.definition.specs.Tokens.{contains, check, eat, eof, emit_unexpected, skip_turn, skip_until_decl_start, expect, Delimited, delimited_turn, parse_delimited}
use Rattle.definition.specs.Nodes.{alloc_node_from, alloc_node, push_child, close_node_at, radix_of, Radix, try_parse_num_literal, try_parse_ident, try_parse_builtin_name}
use Rattle.definition.specs.Strings.{StringBuf, emit_events, decode_token, string_turn, try_parse_string_literal}
use Rattle.definition.specs.Expressions.{Binary, binaries, binary_of, check_binary_op, unary_of, eat_unary, try_parse_expr, block_here, ElseIfs, else_turn, eats, checks, try_parse_conditional, arm_turn, try_parse_match, parse_method_def, parse_struct_field, Members, field_turn, method_turn, no_member_turn, member_turn, tuple_turn, ◌or_else◌, num_literal, try_parse_standalone_expr, call_expr, struct_lit, binary_expr, binary_step, only_if, expr_turn, try_parse_expr_min_bp}
use Rattle.definition.specs.Statements.{StmtResult, statement, end_expr_or_stmt, end_expr, nothing, try_parse_while, expr_stmt, try_parse_stmt, Body, stmt_turn, parse_block}
use Rattle.definition.specs.Declarations.{path_turn, ImportSoFar, import_turn, no_decl, parse_decl, decl_turn}
use Rattle.definition.proofs.Mono.{After, ran, halted, Steady, mono, steady}

-- What holds of an answer and the state after it; a refusal has neither.
pub data Holds {A : Type 0} (Q : A → State → Type 0) : Out A → Type 0 where
  yields : {a : A} {t : State} {n : Memory} → Q a t → Holds Q (done a t n)
  halts : {number place : ℕ} → Holds Q (refused number place)

pub onward : {A B : Type 0} {Q : A → State → Type 0} {R : B → State → Type 0} {o : Out A} (f : A → State → Memory → Out B) → Holds Q o → ((a : A) (t : State) (n : Memory) → Q a t → Holds R (f a t n)) → Holds R (bind o f)
onward f (yields {a} {t} {n} q) h = h a t n q
onward f halts h = halts

pub weaken : {A : Type 0} {Q R : A → State → Type 0} {o : Out A} → ((a : A) (t : State) → Q a t → R a t) → Holds Q o → Holds R o
weaken h (yields {a} {t} q) = yields (h a t q)
weaken h halts = halts

pub both : {A : Type 0} {Q R : A → State → Type 0} {o : Out A} → Holds Q o → Holds R o → Holds (λ a t. Q a t × R a t) o
both (yields q) (yields r) = yields (q, r)
both halts halts = halts

pub one : {A : Type 0} {Q : A → State → Type 0} {x y : Out A} (b : Bool) → (b ≡ true → Holds Q x) → (b ≡ false → Holds Q y) → Holds {A = A} Q (elim b [ true ↦ x | false ↦ y ])
one true p q = p refl
one false p q = q refl

pub after_on : {A : Type 0} {s : State} {m : Memory} {o : Out A} → After s m o → Holds (λ _ t. s.cursor.at ≤ t.cursor.at) o
after_on (ran p) = yields p.cursor
after_on (halted p) = halts

-- Answers that say that something was read.
abbrev pub is_again : {S : Type 0} → Turn S → Bool
is_again (again x) = true
is_again (stop x) = false

abbrev pub is_some : {A : Type 0} → Option A → Bool
is_some (some x) = true
is_some none = false

abbrev pub is : Bool → Bool
is b = b

abbrev pub always : {A : Type 0} → A → Bool
always a = true

module _ (text tokens : List ℕ) where
  -- No trivia at the cursor, and the kind that is there.
  pub record Ready (s : State) : Type 0 where
    pub plain : is_trivia (kind_at text tokens s.cursor) ≡ false

  abbrev pub kind : State → ℕ
  kind s = kind_at text tokens s.cursor

  -- ---- skipping and passing

  reported-cursor : (k d : ℕ) (p : Span) (s : State) (m : Memory) → Holds (λ _ t. t.cursor ≡ s.cursor) (reported k d p s m)
  unfolding reported
  reported-cursor k d p s m = one (leb (report_width * s.reports + report_width) (length m.reports)) (λ _. yields refl) (λ _. halts)

  pub allocated-cursor : (start k payload : ℕ) (s : State) (m : Memory) → Holds (λ _ t. t.cursor ≡ s.cursor) (allocated start k payload s m)
  unfolding allocated
  allocated-cursor start k payload s m = one (ltb s.nodes last_node && leb (node_width * s.nodes + node_width) (length m.nodes)) (λ _. yields refl) (λ _. halts)

  pub passed_cursor : (s : State) (m : Memory) → Holds (λ _ t. t.cursor ≡ advanced s.cursor) (passed text tokens s m)
  unfolding passed
  passed_cursor s m = go (lex_error (kind s))
    where
      t : State
      t = with_cursor (advanced s.cursor) s

      go : (e : LexError) → Holds {A = Unit {0}} (λ _ u. u.cursor ≡ advanced s.cursor)
          (elim e [
            | None ↦ done tt t m
            | Some error ↦ elim (is_marked s) [ true ↦ done tt t m | false ↦ reported Report.LexerError (error_number error) (Source.token_span tokens s.cursor.at) t m ]
          ])
      go None = yields refl
      go (Some error) = one (is_marked s) (λ _. yields refl) (λ _. reported-cursor _ _ _ t m)

  pub advanced-at : (c : Cursor) → c.at < c.end → advanced c ≡ record { at = c.at + 1; end = c.end }
  unfolding advanced
  advanced-at c h = rw (lt-ltb c.at c.end h)

  pub eof-at : (c : Cursor) → c.end ≤ c.at → kind_at text tokens c ≡ Token.Eof
  unfolding kind_at
  eof-at c h = rw (le-ltb c.at c.end h)

  -- Something other than Eof stands before the limit.
  pub not-eof : (c : Cursor) → T (not (eqb (kind_at text tokens c) Token.Eof)) → c.at < c.end
  not-eof c h = go (ltb c.at c.end) refl
    where
      go : (b : Bool) → ltb c.at c.end ≡ b → c.at < c.end
      go true e = ltb-true c.at c.end e
      go false e = absurd (rw (eof-at c (ltb-false c.at c.end e)) at h)

  pub passed-moves : (s : State) (m : Memory) → T (not (eqb (kind s) Token.Eof)) → Holds (λ _ t. s.cursor.at < t.cursor.at) (passed text tokens s m)
  passed-moves s m h =
      weaken
      (λ _ t e. let q : t.cursor.at ≡ s.cursor.at + 1 = ap (λ (c : Cursor). c.at) (e ∙ advanced-at s.cursor (not-eof s.cursor h)) in omega arith)
      (passed_cursor s m)

  pub skipped-ready : (left : ℕ) (s : State) (m : Memory) → s.cursor.end - s.cursor.at ≤ left → Holds (λ _ t. Ready t) (skipped text tokens left s m)
  unfolding skipped is_trivia
  skipped-ready zero s m h = yields {t = s} (record { plain = rw (eof-at s.cursor (omega arith)) })
  skipped-ready (suc left) s m h =
      one (is_trivia (kind s))
      (λ e. onward (λ _ t n. skipped text tokens left t n) (passed_cursor s m) (λ _ t n q. skipped-ready left t n (room e t q)))
      (λ e. yields {t = s} (record { plain = e }))
    where
      room : is_trivia (kind s) ≡ true → (t : State) → t.cursor ≡ advanced s.cursor → t.cursor.end - t.cursor.at ≤ left
      room e t q = go (ltb s.cursor.at s.cursor.end) refl
        where
          go : (b : Bool) → ltb s.cursor.at s.cursor.end ≡ b → t.cursor.end - t.cursor.at ≤ left
          go true f =
              let g = q ∙ advanced-at s.cursor (ltb-true s.cursor.at s.cursor.end f) in
              let a : t.cursor.at ≡ s.cursor.at + 1 = ap (λ (c : Cursor). c.at) g in
              let z : t.cursor.end ≡ s.cursor.end = ap (λ (c : Cursor). c.end) g in
              omega arith
          go false f = absurd (let z : true ≡ false = sym e ∙ ap is_trivia (eof-at s.cursor (ltb-false s.cursor.at s.cursor.end f)) in let y : ◌≡◌ {A = ℕ} 0 1 = cc in omega arith)

  pub skip-still : (s : State) (m : Memory) → Ready s → skip_trivia text tokens s m ≡ done tt s m
  unfolding skipped
  skip-still s m h = go (s.cursor.end - s.cursor.at)
    where
      go : (k : ℕ) → skipped text tokens k s m ≡ done tt s m
      go zero = refl
      go (suc k) = rw (h.plain, skipped) refl

  -- ---- what readers promise

  -- An expression that is found has passed a token, and so has a block where a brace stands.
  pub record Forward (r : Readers) : Type 0 where
    pub exprs : (mode : Mode) (min : ℕ) (s : State) (m : Memory) → Holds (λ a t. T (is_some a) → s.cursor.at < t.cursor.at) (r.expr mode min s m)
    pub blocks : (start k : ℕ) (s : State) (m : Memory) → Ready s → kind s ≡ Token.LeftCurly → Holds (λ _ t. s.cursor.at < t.cursor.at) (r.block start k s m)

  choose : {X : Type 0} (b : Bool) → (T b → X) → (T (not b) → X) → X
  choose true f g = f tt
  choose false f g = g tt

  module _ (bound : ℕ) (r : Readers) (calm : Steady r) (ahead : Forward r) where
    abbrev on : {A : Type 0} (p : Prog A) (s : State) (m : Memory) → Holds (λ _ t. s.cursor.at ≤ t.cursor.at) (eval text tokens bound r p s m)
    on p s m = after_on (mono text tokens bound r calm p s m)

    -- The cursor moves where the answer is one of `G`; from a state whose kind is one of `K`; or it stays.
    pub record Moves {A : Type 0} (G : A → Bool) (p : Prog A) : Type 0 where
      pub goes : (s : State) (m : Memory) → Holds (λ a t. T (G a) → s.cursor.at < t.cursor.at) (eval text tokens bound r p s m)

    pub record MovesAt {A : Type 0} (K : ℕ → Type 0) (G : A → Bool) (p : Prog A) : Type 0 where
      pub goes : (s : State) (m : Memory) → Ready s → K (kind s) → Holds (λ a t. T (G a) → s.cursor.at < t.cursor.at) (eval text tokens bound r p s m)

    pub record Keeps {A : Type 0} (p : Prog A) : Type 0 where
      pub stays : (s : State) (m : Memory) → Ready s → Holds (λ _ t. t.cursor ≡ s.cursor) (eval text tokens bound r p s m)

    -- ---- the rules

    pub never : {A : Type 0} (p : Prog A) → Moves (λ _. false) p
    never p = record { goes = λ s m. weaken (λ a t _ x. absurd x) (on p s m) }

    pub moves-then : {A B : Type 0} {G : B → Bool} {p : Prog A} {f : A → Prog B} (H : A → Bool) → Moves H p → ((a : A) → T (not (H a)) → Moves G (f a)) → Moves G (Then p f)
    unfolding eval
    moves-then {p = p} {f = f} H x h =
        record {
          goes = λ s m. onward (λ a t n. eval text tokens bound r (f a) t n) (both (x.goes s m) (on p s m)) (λ a t n q.
              choose (H a)
              (λ y. let z = q.0 y in weaken (λ b u l _. omega arith) (on (f a) t n))
              (λ y. let z = q.1 in weaken (λ b u g w. let v = g w in omega arith) ((h a y).goes t n)));
        }

    pub moves-last : {A B : Type 0} {G : B → Bool} {p : Prog A} {f : A → Prog B} → ((a : A) → Moves G (f a)) → Moves G (Then p f)
    moves-last {p = p} h = moves-then (λ _. false) (never p) (λ a _. h a)

    pub moves-branch : {A : Type 0} {G : A → Bool} {p q : Prog A} (b : Bool) → (T b → Moves G p) → (T (not b) → Moves G q) → Moves G (Branch b p q)
    unfolding eval
    moves-branch true x y = record { goes = (x tt).goes }
    moves-branch false x y = record { goes = (y tt).goes }

    pub moves-give : {A : Type 0} {G : A → Bool} {a : A} → T (not (G a)) → Moves G (Give a)
    unfolding eval
    moves-give {G = G} {a = a} h = record { goes = λ s m. yields (λ x. choose (G a) (λ y. absurd (no (G a) y h)) (λ _. absurd (no (G a) x h))) }
      where
        no : (b : Bool) → T b → T (not b) → ⊥
        no true x y = y
        no false x y = x

    pub moves-at : {A : Type 0} {K : ℕ → Type 0} {G : A → Bool} {p : Prog A} → Moves G p → MovesAt K G p
    moves-at x = record { goes = λ s m h k. x.goes s m }

    pub at-still : {A B : Type 0} {K : ℕ → Type 0} {G : B → Bool} {p : Prog A} {f : A → Prog B} → Keeps p → ((a : A) → MovesAt K G (f a)) → MovesAt K G (Then p f)
    unfolding eval
    at-still {K = K} {f = f} x h =
        record {
          goes = λ s m y k. onward (λ a t n. eval text tokens bound r (f a) t n) (x.stays s m y) (λ a t n e.
              let z : t.cursor.at ≡ s.cursor.at = ap (λ (c : Cursor). c.at) e in
              weaken (λ b u g w. let v = g w in omega arith) ((h a).goes t n (record { plain = rw e y.plain }) (rw e k)));
        }

    pub at_first : {A B : Type 0} {K : ℕ → Type 0} {G : B → Bool} {p : Prog A} {f : A → Prog B} → MovesAt K always p → MovesAt K G (Then p f)
    unfolding eval
    at_first {f = f} x =
        record {
          goes = λ s m y k. onward (λ a t n. eval text tokens bound r (f a) t n) (x.goes s m y k) (λ a t n q.
              let z = q tt in weaken (λ b u l _. omega arith) (on (f a) t n));
        }

    pub at-branch : {A : Type 0} {K : ℕ → Type 0} {G : A → Bool} {p q : Prog A} (b : Bool) → (T b → MovesAt K G p) → (T (not b) → MovesAt K G q) → MovesAt K G (Branch b p q)
    unfolding eval
    at-branch true x y = record { goes = (x tt).goes }
    at-branch false x y = record { goes = (y tt).goes }

    peeks : (s : State) (m : Memory) → Holds (λ k t. Ready t × (k ≡ kind t)) (eval text tokens bound r peek s m)
    unfolding eval
    peeks s m = onward (λ _ t n. done (kind_at text tokens t.cursor) t n) (skipped-ready _ s m (omega arith)) (λ _ t n h. yields (h, refl))

    peeks-at : (s : State) (m : Memory) → Ready s → eval text tokens bound r peek s m ≡ done (kind s) s m
    unfolding eval
    peeks-at s m h = rw (skip-still s m h)

    pub keeps-peek : Keeps peek
    keeps-peek = record { stays = λ s m h. rw (peeks-at s m h) (yields refl) }

    pub moves-peek : {B : Type 0} {G : B → Bool} {f : ℕ → Prog B} → ((k : ℕ) → MovesAt (λ j. j ≡ k) G (f k)) → Moves G (Then peek f)
    unfolding eval
    moves-peek {f = f} h =
        record {
          goes = λ s m. onward (λ a t n. eval text tokens bound r (f a) t n) (both (peeks s m) (on peek s m)) (λ k t n q.
              let z = q.1 in
              weaken (λ b u g w. let v = g w in omega arith) ((h k).goes t n q.0.0 (sym q.0.1)));
        }

    pub at-pass : {K : ℕ → Type 0} → ((k : ℕ) → K k → T (not (eqb k Token.Eof))) → MovesAt K always pass
    unfolding eval
    at-pass h = record { goes = λ s m y k. rw (skip-still s m y) (weaken (λ _ t l _. l) (passed-moves s m (h (kind s) k))) }

    -- ---- programs that leave the cursor where it is, once no trivia is there

    pub keeps_then : {A B : Type 0} {p : Prog A} {f : A → Prog B} → Keeps p → ((a : A) → Keeps (f a)) → Keeps (Then p f)
    unfolding eval
    keeps_then {f = f} x h =
        record {
          stays = λ s m y. onward (λ a t n. eval text tokens bound r (f a) t n) (x.stays s m y) (λ a t n e.
              weaken (λ b u g. g ∙ e) ((h a).stays t n (record { plain = rw e y.plain })));
        }

    pub keeps-branch : {A : Type 0} {p q : Prog A} {b : Bool} → Keeps p → Keeps q → Keeps (Branch b p q)
    unfolding eval
    keeps-branch {b = b} x y = record { stays = λ s m h. one b (λ _. x.stays s m h) (λ _. y.stays s m h) }

    pub keeps-give : {A : Type 0} {a : A} → Keeps (Give a)
    unfolding eval
    keeps-give = record { stays = λ s m h. yields refl }

    pub keeps-position : Keeps position
    unfolding eval
    keeps-position = record { stays = λ s m h. yields refl }

    pub keeps_here : Keeps here
    unfolding eval
    keeps_here = record { stays = λ s m h. yields refl }

    pub keeps-spelling : Keeps spelling
    unfolding eval
    keeps-spelling = record { stays = λ s m h. yields refl }

    pub keeps-marked : Keeps marked
    unfolding eval
    keeps-marked = record { stays = λ s m h. yields refl }

    pub keeps-emit : {k d : ℕ} {p : Span} → Keeps (emit k d p)
    unfolding eval
    keeps-emit = record { stays = λ s m h. reported-cursor _ _ _ s m }

    pub keeps-emit_and_mark : {k d : ℕ} {p : Span} → Keeps (emit_and_mark k d p)
    unfolding eval
    keeps-emit_and_mark = record { stays = λ s m h. reported-cursor _ _ _ (marked_here s) m }

    pub keeps-alloc : {start k payload : ℕ} → Keeps (alloc start k payload)
    unfolding eval
    keeps-alloc = record { stays = λ s m h. allocated-cursor _ _ _ s m }

    pub keeps-link : {parent last child : ℕ} → Keeps (link parent last child)
    unfolding eval
    keeps-link = record { stays = λ s m h. yields refl }

    pub ruleset keeps = (keeps_then, keeps-branch, keeps-give, keeps-peek, keeps-position, keeps_here, keeps-spelling, keeps-marked, keeps-emit, keeps-emit_and_mark, keeps-alloc, keeps-link)

    pub keeps-check : (j : ℕ) → Keeps (check j)
    unfolding check
    keeps-check j = search keeps

    pub keeps-unexpected : Keeps emit_unexpected
    unfolding emit_unexpected
    keeps-unexpected = search keeps depth 10

    -- ---- tokens

    pub checked : (j : ℕ) (s : State) (m : Memory) → Holds (λ b t. Ready t × (eqb (kind t) j ≡ b)) (eval text tokens bound r (check j) s m)
    unfolding eval check
    checked j s m = onward (λ k t n. done (eqb k j) t n) (peeks s m) (λ k t n q. yields (q.0, ap (λ (i : ℕ). eqb i j) (sym q.1)))

    checks-at : (j : ℕ) (s : State) (m : Memory) → Ready s → eval text tokens bound r (check j) s m ≡ done (eqb (kind s) j) s m
    unfolding eval check
    checks-at j s m h = rw (skip-still s m h)

    pub moves-check : {B : Type 0} {G : B → Bool} {f : Bool → Prog B} (j : ℕ) → MovesAt (λ k. k ≡ j) G (f true) → MovesAt (λ k. T (not (eqb k j))) G (f false) → Moves G (Then (check j) f)
    unfolding eval
    moves-check {G = G} {f = f} j x y =
        record {
          goes = λ s m. onward (λ a t n. eval text tokens bound r (f a) t n) (both (checked j s m) (on (check j) s m)) (λ b t n q.
              let z = q.1 in
              weaken (λ c u g w. let v = g w in omega arith) (go b t n q.0.0 q.0.1));
        }
      where
        go : (b : Bool) (t : State) (n : Memory) → Ready t → eqb (kind t) j ≡ b → Holds (λ a u. T (G a) → t.cursor.at < u.cursor.at) (eval text tokens bound r (f b) t n)
        go true t n h e = x.goes t n h (eqb-true (kind t) j e)
        go false t n h e = y.goes t n h (rw e tt)

    pub at-check : {B : Type 0} {K : ℕ → Type 0} {G : B → Bool} {f : Bool → Prog B} (j : ℕ) → MovesAt (λ k. K k × (k ≡ j)) G (f true) → MovesAt (λ k. K k × T (not (eqb k j))) G (f false) → MovesAt K G (Then (check j) f)
    unfolding eval
    at-check {K = K} {G = G} {f = f} j x y = record { goes = λ s m h k. rw (checks-at j s m h) (go s m h k (eqb (kind s) j) refl) }
      where
        go : (s : State) (m : Memory) → Ready s → K (kind s) → (b : Bool) → eqb (kind s) j ≡ b → Holds (λ a u. T (G a) → s.cursor.at < u.cursor.at) (eval text tokens bound r (f b) s m)
        go s m h k true e = x.goes s m h (k, eqb-true (kind s) j e)
        go s m h k false e = y.goes s m h (k, rw e tt)

    pub at-eat : {K : ℕ → Type 0} (j : ℕ) → T (not (eqb j Token.Eof)) → ((k : ℕ) → K k → k ≡ j) → MovesAt K always (eat j)
    unfolding eat
    at-eat {K = K} j e h =
        at-check j
        (at-branch true (λ _. at_first (at-pass (λ k c. rw c.1 e))) (λ x. absurd x))
        (record { goes = λ s m y c. absurd (no (kind s) c.0 c.1) })
      where
        no : (k : ℕ) → K k → T (not (eqb k j)) → ⊥
        no k c x = rw (eq-eqb k j (h k c)) at x

    -- A token that is eaten is passed.
    pub eat-moves : (j : ℕ) → T (not (eqb j Token.Eof)) → Moves is (eat j)
    unfolding eat
    eat-moves j e =
        moves-check j
        (at-branch true (λ _. at_first (at-pass (λ k c. rw c e))) (λ x. absurd x))
        (moves-at (moves-branch false (λ x. absurd x) (λ _. moves-give tt)))

    pub moves-eat : {B : Type 0} {G : B → Bool} {f : Bool → Prog B} (j : ℕ) → T (not (eqb j Token.Eof)) → Moves G (f false) → Moves G (Then (eat j) f)
    moves-eat {G = G} {f = f} j e x = moves-then is (eat-moves j e) go
      where
        go : (b : Bool) → T (not b) → Moves G (f b)
        go true h = absurd h
        go false h = x

    pub at-expect : {K : ℕ → Type 0} (j : ℕ) → T (not (eqb j Token.Eof)) → ((k : ℕ) → K k → k ≡ j) → MovesAt K always (expect j)
    unfolding expect
    at-expect j e h = at_first (at-eat j e h)

    -- Where the token is another one, nothing is eaten.
    pub at-eat-else : {B : Type 0} {K : ℕ → Type 0} {G : B → Bool} {f : Bool → Prog B} (j : ℕ) → T (not (eqb j Token.Eof)) → MovesAt K G (f false) → MovesAt K G (Then (eat j) f)
    unfolding eval eat
    at-eat-else {K = K} {G = G} {f = f} j e x = record { goes = λ s m h k. go s m h k (eqb (kind s) j) refl }
      where
        go : (s : State) (m : Memory) → Ready s → K (kind s) → (b : Bool) → eqb (kind s) j ≡ b → Holds (λ a u. T (G a) → s.cursor.at < u.cursor.at) (eval text tokens bound r (Then (eat j) f) s m)
        go s m h k true q = (at_first {K = λ i. i ≡ j} {G = G} {f = f} (at-eat j e (λ i c. c))).goes s m h (eqb-true (kind s) j q)
        go s m h k false q = rw (checks-at j s m h, q) (x.goes s m h k)

    -- What is told from the kind of the next token.
    pub moves-look : {B C : Type 0} {G : B → Bool} {f : C → Prog B} (g : ℕ → C) → ((c : C) → MovesAt (λ k. g k ≡ c) G (f c)) → Moves G (Then (Then peek (λ k. Give (g k))) f)
    unfolding eval
    moves-look {f = f} g h =
        record {
          goes = λ s m. onward (λ a t n. eval text tokens bound r (f a) t n)
              (both (onward {Q = λ k t. Ready t × (k ≡ kind t)} {R = λ c t. Ready t × (g (kind t) ≡ c)} (λ k t n. done (g k) t n) (peeks s m) (λ k t n q. yields (q.0, ap g (sym q.1))))
              (on (Then peek (λ k. Give (g k))) s m))
              (λ c t n q.
              let z = q.1 in
              weaken (λ b u l w. let v = l w in omega arith) ((h c).goes t n q.0.0 q.0.1));
        }

    -- A branch that was not taken.
    pub else-moves : {A : Type 0} {G : A → Bool} {p q : Prog A} → Moves G q → Moves G (Branch false p q)
    else-moves x = moves-branch false (λ y. absurd y) (λ _. x)

    pub then_at : {A : Type 0} {K : ℕ → Type 0} {G : A → Bool} {p q : Prog A} → MovesAt K G p → MovesAt K G (Branch true p q)
    then_at x = at-branch true (λ _. x) (λ y. absurd y)

    pub else-at : {A : Type 0} {K : ℕ → Type 0} {G : A → Bool} {p q : Prog A} → MovesAt K G q → MovesAt K G (Branch false p q)
    else-at x = at-branch false (λ y. absurd y) (λ _. x)

    not-both : (k j : ℕ) → T (eqb k j) → T (not (eqb j Token.Eof)) → T (not (eqb k Token.Eof))
    not-both k j x e = go (eqb k j) refl x
      where
        go : (b : Bool) → eqb k j ≡ b → T b → T (not (eqb k Token.Eof))
        go true q y = rw (eqb-true k j q) e
        go false q y = absurd y

    -- ---- nodes

    pub keeps-alloc_node_from : (start k payload : ℕ) → Keeps (alloc_node_from start k payload)
    unfolding alloc_node_from
    keeps-alloc_node_from start k payload = search keeps

    pub keeps-alloc_node : (k payload : ℕ) → Keeps (alloc_node k payload)
    unfolding alloc_node
    keeps-alloc_node k payload = search (keeps, keeps-alloc_node_from)

    pub keeps-push_child : (u : Unfinished) (child : ℕ) → Keeps (push_child u child)
    unfolding push_child
    keeps-push_child u child = search keeps

    pub keeps-events : (es : List Event) → Keeps (emit_events es)
    unfolding emit_events
    keeps-events [] = keeps-give
    keeps-events (byte b ∷ es) = keeps-events es
    keeps-events (report k d p ∷ es) = keeps_then keeps-emit (λ _. keeps-events es)

    -- ---- the loops: a turn that goes on has moved the cursor

    pub skip-turn : (recovery : List ℕ) (x : Unit {0}) → Moves is_again (skip_turn recovery x)
    unfolding skip_turn eof
    skip-turn recovery x =
        moves-check Token.Eof
        (moves-at (moves-last (λ token. moves-branch true (λ _. moves-give tt) (λ y. absurd y))))
        (at-still keeps-peek (λ token. at-branch (contains recovery token) (λ _. moves-at (moves-give tt)) (λ _. at_first (at-pass (λ k c. c)))))

    ends : (b : Bool) → T (not (b || true)) → ⊥
    ends true x = x
    ends false x = x

    pub delimited-turn : {S : Type 0} (terminator delimiter : ℕ) → T (not (eqb delimiter Token.Eof)) → (element : S → Prog (Option S)) (d : Delimited S) → Moves is_again (delimited_turn terminator delimiter element d)
    unfolding delimited_turn eof
    delimited-turn terminator delimiter e element d = moves-last (elim [
      | some list ↦ moves-eat delimiter e (else-moves (moves-give tt))
      | none ↦
          moves-last (λ closed.
          moves-check Token.Eof
          (at-branch (closed || true) (λ _. moves-at (moves-give tt)) (λ x. absurd (ends closed x)))
          (at-branch (closed || false) (λ _. moves-at (moves-give tt))
          (λ _. at-still (keeps-branch keeps-unexpected keeps-give) (λ _. at_first (at-pass (λ k c. c))))))
    ])

    cut-string : (k : ℕ) → T (eqb k Token.MultilineStringError || eqb k Token.UnclosedStringError) → T (not (eqb k Token.Eof))
    cut-string k h = go (eqb k Token.MultilineStringError) refl
      where
        go : (b : Bool) → eqb k Token.MultilineStringError ≡ b → T (not (eqb k Token.Eof))
        go true e = rw (eqb-true k _ e) tt
        go false e = not-both k Token.UnclosedStringError (rw e at h) tt

    -- The buffer holds a token's end only where a token was passed.
    abbrev ended : StringBuf → Bool
    ended b = is_some b.end

    -- What a turn must have moved for: it goes on, or it ends with what it did not begin with.
    abbrev pub gains : {S : Type 0} → (S → Bool) → S → Turn S → Bool
    gains G x (again y) = true
    gains G x (stop y) = G y && not (G x)

    no-gain : (b : Bool) → T (not (b && not b))
    no-gain true = tt
    no-gain false = tt

    string-gains : (b : StringBuf) → Moves (gains ended b) (string_turn b)
    unfolding string_turn decode_token
    string-gains b =
        moves-peek (λ k. at-still keeps_here (λ place. at-still keeps-spelling (λ source.
        at-branch (eqb k Token.LooseStringLiteral) (λ h. decode _ k (not-both k Token.LooseStringLiteral h tt))
        (λ _. at-branch (eqb k Token.LooseHexStringLiteral) (λ h. decode _ k (not-both k Token.LooseHexStringLiteral h tt))
        (λ _. at-branch (eqb k Token.MultilineStringError || eqb k Token.UnclosedStringError) (λ h. decode _ k (cut-string k h))
        (λ _. moves-at (moves-give (no-gain (ended b)))))))))
      where
        decode : (es : List Event) (k : ℕ) → T (not (eqb k Token.Eof)) → MovesAt (λ j. j ≡ k) (gains ended b) (decode_token b es)
        decode es k h = at-still (keeps-events es) (λ _. at_first (at-pass (λ j c. rw c h)))

    pub moves-fewer : {A : Type 0} {G H : A → Bool} {p : Prog A} → ((a : A) → T (H a) → T (G a)) → Moves G p → Moves H p
    moves-fewer h x = record { goes = λ s m. weaken (λ a t g y. g (h a y)) (x.goes s m) }

    pub string-turn : (b : StringBuf) → Moves is_again (string_turn b)
    string-turn b = moves-fewer (elim [ again y ↦ λ h. h | stop y ↦ λ h. absurd h ]) (string-gains b)

    -- A loop whose turns gain.
    module _ {S : Type 0} (G : S → Bool) (body : S → Prog (Turn S)) (h : (x : S) → Moves (gains G x) (body x)) where
      turns-gain : (i k : ℕ) (x : S) (s : State) (m : Memory) → i ≤ s.cursor.at → (T (G x) → i < s.cursor.at) → Holds (λ y t. T (G y) → i < t.cursor.at) (iter (λ y t n. eval text tokens bound r (body y) t n) k x s m)
      unfolding iter
      turns-gain i zero x s m l g = yields g
      turns-gain i (suc k) x s m l g =
          onward (λ t u n. elim t [ again y ↦ iter (λ y t n. eval text tokens bound r (body y) t n) k y u n | stop y ↦ done y u n ])
          (both ((h x).goes s m) (on (body x) s m))
          (elim [
            | again y ↦ λ u n q. let z = q.0 tt in turns-gain i k y u n (omega arith) (λ _. omega arith)
            | stop y ↦ λ u n q. yields (λ v. let w = q.1 in choose (G x) (λ a. let b = g a in omega arith) (λ a. let b = q.0 (pair (G y) (not (G x)) v a) in omega arith))
          ])
        where
          pair : (a b : Bool) → T a → T b → T (a && b)
          pair true b x y = y
          pair false b x y = x

      pub moves-loop : (x : S) → T (not (G x)) → Moves G (Loop x body)
      unfolding eval
      moves-loop x e = record { goes = λ s m. turns-gain s.cursor.at bound x s m (omega arith) (λ g. absurd (no (G x) g e)) }
        where
          no : (b : Bool) → T b → T (not b) → ⊥
          no true x y = y
          no false x y = x

    pub else-turn : (e : ElseIfs) → Moves is_again (else_turn e)
    unfolding else_turn
    else-turn e =
        moves-check Token.Else
        (then_at (at-still keeps-position (λ start. at_first (at-expect Token.Else tt (λ k c. c)))))
        (moves-at (else-moves (moves-give tt)))

    pub arm-turn : (arms : Unfinished) → Moves is_again (arm_turn arms)
    unfolding arm_turn
    arm-turn arms =
        moves-last (λ closed. moves-last (λ ended. moves-branch _ (λ _. moves-give tt) (λ _.
        moves-last (λ start. moves-last (λ arm. moves-last (λ arrow. moves-last (λ body. moves-last (λ arm. moves-last (λ node. moves-last (λ arms.
        moves-eat Token.Comma tt (else-moves (moves-give tt))))))))))))

    pub tuple-turn : (tuple : Unfinished) → Moves is_again (tuple_turn tuple)
    unfolding tuple_turn
    tuple-turn tuple =
        moves-last (λ closed. moves-branch closed (λ _. moves-give tt) (λ _.
        moves-last (λ element. moves-last (λ tuple. moves-eat Token.Comma tt (else-moves (moves-give tt))))))

    pub path-turn : (x : Unit {0}) → Moves is_again (path_turn x)
    unfolding path_turn
    path-turn x = moves-eat Token.DoubleColon tt (else-moves (moves-give tt))

    pub import-turn : (public : Bool) (p : ImportSoFar) → Moves is_again (import_turn public p)
    unfolding import_turn
    import-turn public p = moves-eat Token.DoubleColon tt (else-moves (moves-give tt))

    -- ---- members of a struct

    ident-at : MovesAt (λ k. k ≡ Token.Identifier) always try_parse_ident
    unfolding try_parse_ident
    ident-at = at_first (at-eat Token.Identifier tt (λ k c. c))

    field_at : (x : Members) → MovesAt (λ k. k ≡ Token.Identifier) is_again (field_turn x)
    unfolding field_turn parse_struct_field
    field_at x =
        at-still (keeps-branch (keeps_then keeps_here (λ _. keeps-emit)) keeps-give) (λ _.
        at_first (at-still (keeps-alloc_node _ _) (λ _. at_first ident-at)))

    method-at : {K : ℕ → Type 0} (x : Members) → MovesAt K always parse_method_def → MovesAt K is_again (method_turn x)
    unfolding method_turn
    method-at x h = at_first h

    eager-at : MovesAt (λ k. k ≡ Token.Eager) always parse_method_def
    unfolding parse_method_def
    eager-at = at-still keeps-position (λ _. at_first (at-eat Token.Eager tt (λ k c. c)))

    fn-at : MovesAt (λ k. k ≡ Token.Fn) always parse_method_def
    unfolding parse_method_def
    fn-at = at-still keeps-position (λ _. at-eat-else Token.Eager tt (at_first (at-expect Token.Fn tt (λ k c. c))))

    no-member-at : (x : Members) → MovesAt (λ k. T (not (eqb k Token.Eof))) is_again (no_member_turn x)
    unfolding no_member_turn
    no-member-at x = at-still keeps-unexpected (λ _. at-still (keeps-alloc_node _ _) (λ _. at_first (at-pass (λ k c. c))))

    -- From more kinds to fewer.
    pub at-fewer : {A : Type 0} {K L : ℕ → Type 0} {G : A → Bool} {p : Prog A} → ((k : ℕ) → L k → K k) → MovesAt K G p → MovesAt L G p
    at-fewer h x = record { goes = λ s m y k. x.goes s m y (h (kind s) k) }

    pub member-turn : (x : Members) → Moves is_again (member_turn x)
    unfolding member_turn eof
    member-turn x =
        moves-check Token.Eof
        (moves-at (moves-last (λ closed. moves-branch true (λ _. moves-give tt) (λ y. absurd y))))
        (at-check Token.RightCurly
        (then_at (moves-at (moves-give tt)))
        (else-at (at-check Token.Eager
        (at-still (keeps-check _) (λ fn. then_at (method-at x (at-fewer (λ k c. c.1) eager-at))))
        (at-check Token.Fn
        (then_at (method-at x (at-fewer (λ k c. c.1) fn-at)))
        (else-at (at-check Token.Identifier
        (then_at (at-fewer (λ k c. c.1) (field_at x)))
        (else-at (at-fewer (λ k c. c.0.0.0.0) (no-member-at x)))))))))

    -- ---- expressions

    pub eats-moves : (j : ℕ) (p : Prog ℕ) → T (not (eqb j Token.Eof)) → Moves is_some (eats j p)
    unfolding eats
    eats-moves j p e = moves-eat j e (else-moves (moves-give tt))

    pub checks-moves : (j : ℕ) (p : Prog ℕ) → MovesAt (λ k. k ≡ j) always p → Moves is_some (checks j p)
    unfolding checks
    checks-moves j p h = moves-check j (then_at (at_first h)) (moves-at (else-moves (moves-give tt)))

    pub or-else : {p q : Prog (Option ℕ)} → Moves is_some p → Moves is_some q → Moves is_some (p or_else q)
    or-else x y = moves-then is_some x (elim [ some node ↦ λ h. absurd h | none ↦ λ _. y ])

    only-if : {p : Prog (Option ℕ)} (b : Bool) → Moves is_some p → Moves is_some (only_if b p)
    only-if b x = moves-branch b (λ _. x) (λ _. moves-give tt)

    delimited-at : {S : Type 0} (opener terminator delimiter : ℕ) (element : S → Prog (Option S)) (list : S) → T (not (eqb opener Token.Eof)) → MovesAt (λ k. k ≡ opener) always (parse_delimited opener terminator delimiter element list)
    unfolding parse_delimited
    delimited-at opener terminator delimiter element list e = at_first (at-expect opener e (λ k c. c))

    call_at : (start expr : ℕ) → MovesAt (λ k. k ≡ Token.LeftRound) always (call_expr start expr)
    unfolding call_expr
    call_at start expr = at-still (keeps-alloc_node_from _ _ _) (λ _. at-still (keeps-push_child _ _) (λ _. at_first (delimited-at _ _ _ _ _ tt)))

    literal-at : (start expr : ℕ) → MovesAt (λ k. k ≡ Token.LeftCurly) always (struct_lit start expr)
    unfolding struct_lit
    literal-at start expr = at-still (keeps-alloc_node_from _ _ _) (λ _. at-still (keeps-push_child _ _) (λ _. at_first (delimited-at _ _ _ _ _ tt)))

    -- Where Eof gives none, what gives some is no Eof.
    not_none : {A : Type 0} (g : ℕ → Option A) → g Token.Eof ≡ none → (k : ℕ) (a : A) → g k ≡ some a → T (not (eqb k Token.Eof))
    not_none g e k a q = go (eqb k Token.Eof) refl
      where
        go : (b : Bool) → eqb k Token.Eof ≡ b → T (not b)
        go true f =
            let z : none ≡ some a = sym e ∙ ap g (sym (eqb-true k Token.Eof f)) ∙ q in
            let y : ◌≡◌ {A = ℕ} 0 1 = cc in
            absurd (omega arith)
        go false f = tt

    binary-at : (mode : Mode) (start expr : ℕ) (b : Binary) → MovesAt (λ k. binary_of binaries k ≡ some b) always (binary_expr mode start expr b)
    unfolding binary_expr binary_of binaries
    binary-at mode start expr b = at-still (keeps-alloc_node _ _) (λ _. at_first (at-pass (λ k c. not_none (binary_of binaries) refl k b c)))

    binary-moves : (mode : Mode) (min start expr : ℕ) → Moves is_some (binary_step mode min start expr)
    unfolding binary_step check_binary_op
    binary-moves mode min start expr = moves-look (binary_of binaries) (elim [
      | none ↦ moves-at (moves-give tt)
      | some b ↦ at-branch (ltb b.left min) (λ _. moves-at (moves-give tt)) (λ _. at_first (binary-at mode start expr b))
    ])

    pub expr-turn : (mode : Mode) (min start expr : ℕ) → Moves is_again (expr_turn mode min start expr)
    unfolding expr_turn
    expr-turn mode min start expr =
        moves-then is_some
        (or-else (only-if _ (eats-moves Token.Dot _ tt))
        (or-else (only-if _ (checks-moves Token.LeftRound _ (call_at start expr)))
        (or-else (only-if _ (checks-moves Token.LeftCurly _ (literal-at start expr)))
        (binary-moves mode min start expr))))
        (elim [ some node ↦ λ h. absurd h | none ↦ λ _. moves-give tt ])

    -- ---- statements

    enter-expr : (mode : Mode) (min : ℕ) → Moves is_some (enter_expr mode min)
    unfolding eval
    enter-expr mode min = record { goes = λ s m. ahead.exprs mode min s m }

    try-expr : (mode : Mode) → Moves is_some (try_parse_expr mode)
    unfolding try_parse_expr
    try-expr mode = enter-expr mode 0

    abbrev is_stmt : StmtResult → Bool
    is_stmt (statement n) = true
    is_stmt (end_expr_or_stmt n) = true
    is_stmt (end_expr n) = true
    is_stmt nothing = false

    expr-stmt : (start : ℕ) → Moves is_stmt (expr_stmt start)
    unfolding expr_stmt
    expr-stmt start = moves-then is_some (try-expr AllowAll) (elim [ some e ↦ λ h. absurd h | none ↦ λ _. moves-give tt ])

    while-moves : (start : ℕ) → Moves is_some (try_parse_while start)
    unfolding try_parse_while
    while-moves start = moves-eat Token.Inline tt (else-moves (eats-moves Token.While _ tt))

    stmt-moves : Moves is_stmt try_parse_stmt
    unfolding try_parse_stmt
    stmt-moves =
        moves-last (λ start. moves-then is_some (while-moves start) (elim [
          | some node ↦ λ h. absurd h
          | none ↦ λ _.
              moves-eat Token.Return tt (else-moves
              (moves-eat Token.Comptime tt (else-moves
              (moves-eat Token.Let tt (else-moves (expr-stmt start))))))
        ]))

    pub stmt-turn : (b : Body) → Moves is_again (stmt_turn b)
    unfolding stmt_turn
    stmt-turn b =
        moves-last (λ closed. moves-branch closed (λ _. moves-give tt) (λ _.
        moves-then is_stmt stmt-moves (elim [
          | statement n ↦ λ h. absurd h
          | end_expr_or_stmt n ↦ λ h. absurd h
          | end_expr n ↦ λ h. absurd h
          | nothing ↦ λ _. moves-last (λ _. moves-give tt)
        ])))

    -- ---- declarations

    no-decl-at : (start : ℕ) → MovesAt (λ k. T (not (eqb k Token.Eof))) always (no_decl start skip_until_decl_start)
    unfolding no_decl skip_until_decl_start
    no-decl-at start = at-still keeps-unexpected (λ _. at_first (at_first (at-pass (λ k c. c))))

    decl-at : MovesAt (λ k. T (not (eqb k Token.Eof))) always parse_decl
    unfolding parse_decl
    decl-at =
        at-still keeps-position (λ start.
        at-eat-else Token.Init tt (else-at
        (at-eat-else Token.Run tt (else-at
        (at-eat-else Token.Const tt (else-at
        (at-eat-else Token.Pub tt (else-at
        (at-eat-else Token.Use tt (else-at (no-decl-at start)))))))))))

    pub decl-turn : (file : Unfinished) → Moves is_again (decl_turn file)
    unfolding decl_turn eof
    decl-turn file = moves-check Token.Eof (then_at (moves-at (moves-give tt))) (else-at (at_first decl-at))

    -- ---- operands

    unary-moves : Moves is_some eat_unary
    unfolding eat_unary unary_of
    unary-moves = moves-peek (λ k. go k (unary_of k) refl)
      where
        go : (k : ℕ) (o : Option ℕ) → unary_of k ≡ o → MovesAt {A = Option ℕ} (λ j. j ≡ k) (is_some {A = ℕ}) (elim o [ some op ↦ Then pass (λ _. Give (some op)) | none ↦ Give none ])
        go k (some op) e = at_first (at-pass (λ j c. rw c (not_none unary_of refl k op e)))
        go k none e = moves-at (moves-give tt)

    number-moves : Moves is_some try_parse_num_literal
    unfolding try_parse_num_literal radix_of
    number-moves = moves-peek (λ k. go k (radix_of k) refl)
      where
        go : (k : ℕ) (o : Option Radix) → radix_of k ≡ o → MovesAt {A = Option ℕ} (λ j. j ≡ k) (is_some {A = ℕ})
            (elim o [
              | none ↦ Give none
              | some x ↦ Then spelling (λ source. Then pass (λ _. Then (value (number_value (digits x.radix 0 (drop x.prefix source)))) (λ offset. Give (some offset))))
            ])
        go k (some x) e = at-still keeps-spelling (λ _. at_first (at-pass (λ j c. rw c (not_none radix_of refl k x e))))
        go k none e = moves-at (moves-give tt)

    number-node : Moves is_some num_literal
    unfolding num_literal
    number-node = moves-then is_some number-moves (elim [ some offset ↦ λ h. absurd h | none ↦ λ _. moves-give tt ])

    string-moves : Moves is_some try_parse_string_literal
    unfolding try_parse_string_literal
    string-moves =
        moves-last (λ start. moves-then ended (moves-loop ended string_turn string-gains _ tt) (λ b. go start b b.end))
      where
        go : (start : ℕ) (b : StringBuf) (o : Option ℕ) → T (not (is_some o)) → Moves {A = Option ℕ} (is_some {A = ℕ})
            (elim o [
              | none ↦ Give none
              | some end ↦ Then (value (string_value b.bytes)) (λ offset. Then (alloc_node_from start Node.StringLiteral offset) (λ u. Then (close_node_at u end) (λ node. Give (some node))))
            ])
        go start b none h = moves-give tt
        go start b (some end) h = absurd h

    ident-moves : Moves is_some try_parse_ident
    unfolding try_parse_ident
    ident-moves = moves-eat Token.Identifier tt (else-moves (moves-give tt))

    builtin-moves : Moves is_some try_parse_builtin_name
    unfolding try_parse_builtin_name
    builtin-moves = moves-eat Token.BuiltinName tt (else-moves (moves-give tt))

    if-moves : Moves is_some try_parse_conditional
    unfolding try_parse_conditional
    if-moves = moves-last (λ start. eats-moves Token.If _ tt)

    match-moves : Moves is_some try_parse_match
    unfolding try_parse_match
    match-moves = moves-last (λ start. eats-moves Token.Match _ tt)

    block_at : MovesAt (λ k. k ≡ Token.LeftCurly) always block_here
    unfolding block_here eval
    block_at = at-still keeps-position (λ start. record { goes = λ s m h k. weaken (λ a t l _. l) (ahead.blocks start _ s m h k) })

    operand-moves : Moves is_some try_parse_standalone_expr
    unfolding try_parse_standalone_expr
    operand-moves =
        moves-last (λ start.
        or-else (eats-moves Token.True _ tt)
        (or-else (eats-moves Token.False _ tt)
        (or-else number-node
        (or-else string-moves
        (or-else (eats-moves Token.SelfType _ tt)
        (or-else ident-moves
        (or-else builtin-moves
        (or-else (eats-moves Token.LeftRound _ tt)
        (or-else (eats-moves Token.Comptime _ tt)
        (or-else (eats-moves Token.Eager _ tt)
        (or-else (eats-moves Token.Fn _ tt)
        (or-else (eats-moves Token.Struct _ tt)
        (or-else (eats-moves Token.Tuple _ tt)
        (or-else (checks-moves Token.LeftCurly _ block_at)
        (or-else if-moves match-moves)))))))))))))))

    -- ---- the readers keep what they promise

    pub expr-found : (mode : Mode) (min : ℕ) → Moves is_some (try_parse_expr_min_bp mode min)
    unfolding try_parse_expr_min_bp
    expr-found mode min =
        moves-last (λ start. moves-then is_some unary-moves (elim [
          | some op ↦ λ h. absurd h
          | none ↦ λ _. moves-then is_some operand-moves (elim [ some e ↦ λ h. absurd h | none ↦ λ _. moves-give tt ])
        ]))

    pub block-braced : (start k : ℕ) → MovesAt (λ j. j ≡ Token.LeftCurly) always (parse_block start k)
    unfolding parse_block
    block-braced start k = at-still (keeps-alloc_node_from _ _ _) (λ _. at_first (at-expect Token.LeftCurly tt (λ j c. c)))

  -- At every depth.
  pub forward : (bound depth : ℕ) → Forward (tower text tokens bound try_parse_expr_min_bp parse_block depth)
  unfolding tower
  forward bound zero = record { exprs = λ mode min s m. halts; blocks = λ start k s m h e. halts }
  forward bound (suc depth) =
      record {
        exprs = λ mode min. (expr-found bound _ (steady text tokens bound try_parse_expr_min_bp parse_block depth) (forward bound depth) mode min).goes;
        blocks = λ start k s m h e. weaken (λ a t l. l tt) ((block-braced bound _ (steady text tokens bound try_parse_expr_min_bp parse_block depth) (forward bound depth) start k).goes s m h e);
      }
