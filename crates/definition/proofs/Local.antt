-- A run depends only on what lies below the tokens that its cursor reaches: two lists of tokens, and their texts, that agree below token `p`
-- give the same while the cursor stays below `p`. Only a name's look-up could see further, to the first token of a kind that is spelled as the
-- one before the cursor: where that one is of the kind itself, as in a proper program, the look-up ends there at the latest.
use Rattle.std.proofs.Math.Path.{◌≡◌, refl, sym, ap}
use Rattle.std.proofs.Common.{◌∙◌, arith, add-one, length-take, get_or-take}
use Rattle.std.specs.Prelude.{Bool, cond, not, ◌&&◌, List, [], ◌∷◌, T, eqb, get_or, drop}
use Rattle.std.proofs.Math.Bool.{true, false}
use Prim.Native.Nat.{ℕ, zero, suc, ◌+◌, ◌-◌, ◌*◌, ◌≤◌, ◌<◌, pred, min}
use borrow.Author.Tests.{ltb-true, ltb-false, lt-ltb, le-ltb, leb-true, le-leb, eq-eqb}
use Rattle.std.proofs.Math.Dec.{ltb, leb}
use Rattle.std.proofs.Math.ListN.{length, take, get_or-eq_default}
use Rattle.std.proofs.Math.Seq.{drop-cons, take-take}
use Rattle.words.specs.Token
use Rattle.words.specs.ErrorToken.{error_number}
use Rattle.words.specs.Token.{is_trivia, lex_error, LexError}
use Rattle.std.specs.Prelude.{Some, None}
use Rattle.words.specs.Report
use Rattle.words.specs.Answer as Answer
use Rattle.words.specs.Words.{token_kind, token_end, token_word, node_width, report_width, pack, high}
use Rattle.literals.specs.declared.Span.{Span}
use Rattle.literals.specs.Spelling as Source
use Rattle.literals.specs.Spelling.{word_at, token_start, alike, first_from, first_alike}
use Rattle.definition.specs.declared.Cursor.{Cursor}
use Rattle.definition.specs.declared.State.{State}
use Rattle.definition.specs.declared.Mode.{Mode}
use Rattle.definition.specs.Prog.{Turn, again, stop, Prog, Then, Branch, intern, Memory, Out, done, refused, bind, with_cursor, advanced, reported, is_marked, marked_here, last_node, allocated, word_of, stored, linked, valued, iter, Readers, kind_at, passed, skipped, eval, tower}
use Rattle.definition.specs.Expressions.{try_parse_expr_min_bp}
use Rattle.definition.specs.Statements.{parse_block}
use Rattle.definition.specs.Parse.{max_depth, readers, last_token, token_limit, start, zeros, parsed_to, parsed_within, parsed}
use Rattle.definition.proofs.Mono.{After, ran, halted, Mono, Steady, mono, steady, same, advanced-later, passed_later, skipped-later, iter-later, turn}
use Rattle.definition.proofs.Progress as Progress
use Rattle.definition.proofs.Progress.{Holds, yields, halts, both, Forward, forward}
use Rattle.definition.proofs.Bound.{bound-enough}
use Rattle.definition.proofs.Proper.{Proper, proper-give, thens, branches, loops, names, names-later, proper-peek, proper-pass, proper-position, proper-here, proper-before, proper-spelling, proper-marked, emits, emits-marked, proper-alloc, proper-close_at, proper-close_at_start, proper-set_kind, proper-link, proper-kind_of, proper-value, proper-enter_expr, proper-enter_block, Just, passes, stays, try_parse_expr_min_bp-proper, parse_block-proper, parse_file-proper}

-- How far an outcome has looked: its cursor, or a refusal's place.
abbrev pub reach : {A : Type 0} → Out A → ℕ
reach (done a t n) = t.cursor.at
reach (refused number place) = place

-- The same with a cursor that stops elsewhere.
abbrev pub stopping : ℕ → State → State
stopping end s = with_cursor (record { at = s.cursor.at; end = end }) s

abbrev pub stopping_out : {A : Type 0} → ℕ → Out A → Out A
stopping_out end (done a t n) = done a (stopping end t) n
stopping_out end (refused number place) = refused number place

-- The second outcome is the first where that stays below `p`; but its cursor stops elsewhere.
pub record Twin {A : Type 0} (p end : ℕ) (o o' : Out A) : Type 0 where
  pub is : reach o < p → o' ≡ stopping_out end o

reach-after : {A : Type 0} {s : State} {m : Memory} {o : Out A} → After s m o → s.cursor.at ≤ reach o
reach-after (ran l) = l.cursor
reach-after (halted h) = h

-- Which word is at each place, how each token is spelled, and whether the cursor stops there.
pub record Agree (p : ℕ) (text tokens : List ℕ) (end : ℕ) (text' tokens' : List ℕ) (end' : ℕ) : Type 0 where
  pub words : (i : ℕ) → i < p → word_at tokens i ≡ word_at tokens' i
  pub spellings : (i : ℕ) → i < p → Source.spelling text tokens i ≡ Source.spelling text' tokens' i
  pub limits : (i : ℕ) → i < p → ltb i end ≡ ltb i end'

start-same : {p : ℕ} (tokens tokens' : List ℕ) → ((i : ℕ) → i < p → word_at tokens i ≡ word_at tokens' i) → (i : ℕ) → i ≤ p → token_start tokens i ≡ token_start tokens' i
unfolding token_start
start-same tokens tokens' h zero l = refl
start-same tokens tokens' h (suc i) l = ap token_end (h i l)

alike_same : (name : List ℕ) → alike name name ≡ true
unfolding alike
alike_same [] = refl
alike_same (b ∷ name) = rw (eq-eqb b b refl, alike_same name)

module _ (p : ℕ) (text tokens : List ℕ) (end : ℕ) (text' tokens' : List ℕ) (end' : ℕ) (agree : Agree p text tokens end text' tokens' end') where
  -- ---- what a command reads

  span_same : (i : ℕ) → i < p → Source.token_span tokens i ≡ Source.token_span tokens' i
  span_same i h = cc (start-same tokens tokens' agree.words i (omega arith), agree.words i h)

  kind-same : (c : Cursor) → c.end ≡ end → c.at < p → kind_at text tokens c ≡ kind_at text' tokens' (record { at = c.at; end = end' })
  unfolding kind_at
  kind-same c e h = rw (e, agree.limits c.at h, agree.words c.at h)

  -- The first token of a kind that is spelled as token `j`, which is of that kind itself: the search doesn't pass it.
  module _ (k j : ℕ) (h : j < p) (k-no-eof : T (not (eqb k Token.Eof))) (k-is : token_kind (word_at tokens j) ≡ k) where
    inside : (ws : List ℕ) → token_kind (word_at ws j) ≡ k → j < length ws
    unfolding pack high
    inside ws e = go (ltb j (length ws)) refl
      where
        go : (b : Bool) → ltb j (length ws) ≡ b → j < length ws
        go true f = ltb-true _ _ f
        go false f = absurd (rw (← e, get_or-eq_default ws (token_word Token.Eof 0) {n = j} (ltb-false _ _ f)) at k-no-eof)

    abbrev name : List ℕ
    name = Source.spelling text tokens j

    -- Whether the search stops at token `i`.
    abbrev found : List ℕ → List ℕ → ℕ → Bool
    found source ws i = eqb (token_kind (word_at ws i)) k && alike (Source.spelling source ws i) name

    found-same : (i : ℕ) → i < p → found text tokens i ≡ found text' tokens' i
    found-same i l = cc (agree.words i l, agree.spellings i l)

    found-last : found text tokens j ≡ true
    found-last = rw (eq-eqb _ _ k-is, alike_same name)

    stop-same : {b b' : Bool} {y y' : ℕ} (x : ℕ) → b ≡ b' → (b ≡ false → y ≡ y') → ◌≡◌ {A = ℕ} (elim b [ true ↦ x | false ↦ y ]) (elim b' [ true ↦ x | false ↦ y' ])
    stop-same {b = b} x e f = rw (← e) (go b f)
      where
        go : {y y' : ℕ} (b : Bool) → (b ≡ false → y ≡ y') → ◌≡◌ {A = ℕ} (elim b [ true ↦ x | false ↦ y ]) (elim b [ true ↦ x | false ↦ y' ])
        go true f = refl
        go false f = f refl

    -- One step of it.
    step_same : (i : ℕ) → i ≤ j
        → (found text tokens i ≡ false → first_from text k name (suc i) (token_start tokens (suc i)) (drop (suc i) tokens) ≡ first_from text' k name (suc i) (token_start tokens' (suc i)) (drop (suc i) tokens'))
        → first_from text k name i (token_start tokens i) (drop i tokens) ≡ first_from text' k name i (token_start tokens' i) (drop i tokens')
    unfolding first_from token_start
    step_same i l f =
        rw (drop-cons tokens i (token_word Token.Eof 0) (omega (arith, inside tokens k-is)), drop-cons tokens' i (token_word Token.Eof 0) (omega (arith, inside tokens' (ap token_kind (sym (agree.words j h)) ∙ k-is))))
        (stop-same i (found-same i (omega arith)) (λ g. rw (add-one i) (f g)))

    search-same : (d i : ℕ) → i + d ≡ j → first_from text k name i (token_start tokens i) (drop i tokens) ≡ first_from text' k name i (token_start tokens' i) (drop i tokens')
    search-same zero i e = step_same i (omega arith) (λ f. let z : i ≡ j = omega arith in let t : found text tokens i ≡ true = rw z found-last in cc)
    search-same (suc d) i e = step_same i (omega arith) (λ _. search-same d (suc i) (omega arith))

    first-same : first_alike text tokens k j ≡ first_alike text' tokens' k j
    unfolding token_start
    first-same = search-same j 0 (omega arith) ∙ ap (λ n. first_from text' k n 0 0 tokens') (agree.spellings j h)

  -- ---- the second run, from the first

  abbrev pub Twins : {A : Type 0} → (State → Memory → Out A) → (State → Memory → Out A) → Type 0
  Twins f f' = (s : State) (m : Memory) → s.cursor.end ≡ end → Twin p end' (f s m) (f' (stopping end' s) m)

  -- What is known of a state between two programs.
  abbrev Kept : State → Type 0
  Kept t = t.cursor.end ≡ end

  kept : {A : Type 0} {s : State} {m : Memory} {o : Out A} → After s m o → Kept s → Holds (λ _ t. Kept t) o
  kept (ran l) e = yields (l.limit ∙ e)
  kept (halted h) e = halts

  then : {A B : Type 0} {Q : A → State → Type 0} {o o' : Out A} (f f' : A → State → Memory → Out B) → Twin p end' o o' → Holds Q o → ((a : A) → Mono (f a))
      → ((a : A) (t : State) (n : Memory) → Q a t → Twin p end' (f a t n) (f' a (stopping end' t) n)) → Twin p end' (bind o f) (bind o' f')
  then f f' x (yields {a} {t} {n} q) c h = record { is = λ l. ap (λ o. bind o f') (x.is (omega (arith, reach-after (c a t n)))) ∙ (h a t n q).is l }
  then f f' x halts c h = record { is = λ l. ap (λ o. bind o f') (x.is l) }

  one-of : {A : Type 0} {x y x' y' : Out A} (b : Bool) → Twin p end' x x' → Twin p end' y y' → Twin {A = A} p end' (elim b [ true ↦ x | false ↦ y ]) (elim b [ true ↦ x' | false ↦ y' ])
  one-of true x y = x
  one-of false x y = y

  one-both : {A : Type 0} {x y x' y' : Out A} {b b' : Bool} → b ≡ b' → Twin p end' x x' → Twin p end' y y' → Twin {A = A} p end' (elim b [ true ↦ x | false ↦ y ]) (elim b' [ true ↦ x' | false ↦ y' ])
  one-both {b = b} e x y = rw (← e) (one-of b x y)

  -- An answer that is the same in both.
  gives : {A : Type 0} {a a' : A} {s : State} {m : Memory} → (s.cursor.at < p → a ≡ a') → Twin p end' (done a s m) (done a' (stopping end' s) m)
  gives {s = s} {m} e = record { is = λ l. ap (λ x. done x (stopping end' s) m) (sym (e l)) }

  -- ---- the commands

  reported-twin : (kind detail : ℕ) (q : Span) → Twins (reported kind detail q) (reported kind detail q)
  unfolding reported
  reported-twin kind detail q s m e = one-of (leb (report_width * s.reports + report_width) (length m.reports)) (record { is = λ _. refl }) (record { is = λ _. refl })

  allocated-twin : (start kind payload : ℕ) → Twins (allocated start kind payload) (allocated start kind payload)
  unfolding allocated
  allocated-twin start kind payload s m e = one-of (ltb s.nodes last_node && leb (node_width * s.nodes + node_width) (length m.nodes)) (record { is = λ _. refl }) (record { is = λ _. refl })

  valued-twin : (ws : List ℕ) → Twins (valued ws) (valued ws)
  unfolding valued
  valued-twin ws s m e = one-of (leb (s.values + length ws) (length m.values)) (record { is = λ _. refl }) (record { is = λ _. refl })

  advanced-same : (c : Cursor) → c.end ≡ end → c.at < p → advanced (record { at = c.at; end = end' }) ≡ record { at = (advanced c).at; end = end' }
  unfolding advanced
  advanced-same c e h = rw (e, agree.limits c.at h) (go (ltb c.at end'))
    where
      go : (b : Bool) → ◌≡◌ {A = Cursor} (cond b (record { at = c.at + 1; end = end' }) (record { at = c.at; end = end' })) (record { at = (cond {A = Cursor} b (record { at = c.at + 1; end = end }) (record { at = c.at; end = end })).at; end = end' })
      go true = refl
      go false = refl

  passed-twin : Twins (passed text tokens) (passed text' tokens')
  unfolding passed
  passed-twin s m e =
      record {
        is = λ l.
            let h : s.cursor.at < p = omega (arith, reach-after (passed_later text tokens s m)) in
            sym (ap (λ k. one (lex_error k) (Source.token_span tokens' s.cursor.at) t') (kind-same s.cursor e h))
            ∙ (sym (ap (λ q. one (lex_error (kind_at text tokens s.cursor)) q t') (span_same s.cursor.at h))
            ∙ (ap (λ c. one (lex_error (kind_at text tokens s.cursor)) (Source.token_span tokens s.cursor.at) (with_cursor c s)) (advanced-same s.cursor e h)
            ∙ (go (lex_error (kind_at text tokens s.cursor))).is l));
      }
    where
      t : State
      t = with_cursor (advanced s.cursor) s

      t' : State
      t' = with_cursor (advanced (record { at = s.cursor.at; end = end' })) s

      one : LexError → Span → State → Out (Unit {0})
      one k q u = elim k [ None ↦ done tt u m | Some error ↦ elim (is_marked s) [ true ↦ done tt u m | false ↦ reported Report.LexerError (error_number error) q u m ] ]

      go : (k : LexError) → Twin p end' (one k (Source.token_span tokens s.cursor.at) t) (one k (Source.token_span tokens s.cursor.at) (stopping end' t))
      go None = gives (λ _. refl)
      go (Some error) = one-of (is_marked s) (gives (λ _. refl)) (reported-twin _ _ _ t m ((advanced-later s m).limit ∙ e))

  -- Trivia ends where a token below `p` is none, or where both stop.
  skipped-twin : (left left' : ℕ) (s : State) (m : Memory) → Kept s → left ≡ end - s.cursor.at → left' ≡ end' - s.cursor.at → Twin p end' (skipped text tokens left s m) (skipped text' tokens' left' (stopping end' s) m)
  unfolding skipped
  skipped-twin zero left' s m e f f' =
      record {
        is = λ l.
            let b : ltb s.cursor.at end' ≡ false = sym (agree.limits s.cursor.at l) ∙ le-ltb s.cursor.at end (omega arith) in
            let z : left' ≡ 0 = omega (arith, ltb-false s.cursor.at end' b) in
            rw z;
      }
  skipped-twin (suc left) left' s m e f f' =
      record {
        is = λ l.
            let h : s.cursor.at < p = omega (arith, reach-after (skipped-later text tokens (suc left) s m)) in
            let b : ltb s.cursor.at end' ≡ true = sym (agree.limits s.cursor.at h) ∙ lt-ltb s.cursor.at end (omega arith) in
            let z : left' ≡ suc (end' - (s.cursor.at + 1)) = omega (arith, ltb-true s.cursor.at end' b) in
            rw z
            ((one-both (ap is_trivia (kind-same s.cursor e h))
            (then (λ _ t n. skipped text tokens left t n) _ (passed-twin s m e) (both (kept (passed_later text tokens s m) e) (Progress.passed_cursor text tokens s m)) (λ _. skipped-later text tokens left) (λ _ t n q.
            let a : t.cursor.at ≡ s.cursor.at + 1 = ap (λ (c : Cursor). c.at) (q.1 ∙ Progress.advanced-at text tokens s.cursor (omega arith)) in
            skipped-twin left (end' - (s.cursor.at + 1)) t n q.0 (omega arith) (omega arith)))
            (gives (λ _. refl))).is l);
      }

  turn-twin : {S : Type 0} (f f' : S → State → Memory → Out S) (t : Turn S) → ((x : S) → Twins (f x) (f' x))
      → Twins {A = S} (λ u n. elim t [ again y ↦ f y u n | stop y ↦ done y u n ]) (λ u n. elim t [ again y ↦ f' y u n | stop y ↦ done y u n ])
  turn-twin f f' (again y) h u n e = h y u n e
  turn-twin f f' (stop y) h u n e = gives (λ _. refl)

  iter-twin : {S : Type 0} (f f' : S → State → Memory → Out (Turn S)) (k : ℕ) → ((x : S) → Mono (f x)) → ((x : S) → Twins (f x) (f' x)) → (x : S) → Twins (iter f k x) (iter f' k x)
  unfolding iter
  iter-twin f f' zero c h x s m e = gives (λ _. refl)
  iter-twin f f' (suc k) c h x s m e = then _ _ (h x s m e) (kept (c x s m) e) (λ t. turn (iter f k) t (iter-later f k c)) (λ t u n g. turn-twin (iter f k) (iter f' k) t (iter-twin f f' k c h) u n g)

  pub record Alike (r r' : Readers) : Type 0 where
    pub exprs : (mode : Mode) (min : ℕ) → Twins (r.expr mode min) (r'.expr mode min)
    pub blocks : (start kind : ℕ) → Twins (r.block start kind) (r'.block start kind)

  module _ (bound : ℕ) (r r' : Readers) (calm : Steady r) (ahead : Forward text tokens r) (both-alike : Alike r r') where
    -- A name whose token was just passed.
    named : {B : Type 0} (k : ℕ) (f : ℕ → Prog B) (t : State) (n : Memory) → Kept t → Just text tokens bound r calm ahead k t → T (not (eqb k Token.Eof))
        → ((i : ℕ) → Twins (eval text tokens bound r (f i)) (eval text' tokens' bound r' (f i)))
        → Twin p end' (eval text tokens bound r (Then (intern k) f) t n) (eval text' tokens' bound r' (Then (intern k) f) (stopping end' t) n)
    unfolding eval
    named k f t n g j z h =
        record {
          is = λ l.
              let b : t.cursor.at < p = omega (arith, reach-after (mono text tokens bound r calm (f (first_alike text tokens k (pred t.cursor.at))) t n)) in
              rw (← first-same k (pred t.cursor.at) (omega arith) z j) ((h _ t n g).is l);
        }

    pub local : {A : Type 0} {q : Prog A} → Proper q → Twins (eval text tokens bound r q) (eval text' tokens' bound r' q)
    unfolding eval stored linked word_of
    local proper-give s m e = gives (λ _. refl)
    local (thens {p = q} {f = f} x h) s m e =
        then (λ a t n. eval text tokens bound r (f a) t n) (λ a t n. eval text' tokens' bound r' (f a) t n) (local x s m e) (kept (mono text tokens bound r calm q s m) e) (λ a. mono text tokens bound r calm (f a)) (λ a t n g. local (h a) t n g)
    local (branches {b = b} x y) s m e = one-of b (local x s m e) (local y s m e)
    local (loops {body = body} {x = x} h g) s m e =
        iter-twin (λ y t n. eval text tokens bound r (body y) t n) (λ y t n. eval text' tokens' bound r' (body y) t n) bound (λ y. mono text tokens bound r calm (body y)) (λ y t n g. local (h y) t n g) x s m e
    local (names {k = k} {g = a} {f = f} {q = q} v z x h y) s m e =
        then (λ b t n. eval text tokens bound r (Branch b (Then (intern k) f) q) t n) (λ b t n. eval text' tokens' bound r' (Branch b (Then (intern k) f) q) t n) (local x s m e)
        (both (kept (mono text tokens bound r calm a s m) e) (passes text tokens bound r calm ahead v z s m)) (λ b. mono text tokens bound r calm (Branch b (Then (intern k) f) q)) (elim [
          | true ↦ λ t n w. named k f t n w.0 (w.1 refl) z (λ i t n g. local (h i) t n g)
          | false ↦ λ t n w. local y t n w.0
        ])
    local (names-later {k = k} {g = a} {h = b} {f = f} {q = q} v z c x x₁ h y) s m e =
        then (λ b' t n. eval text tokens bound r (Branch b' (Then b (λ u. Then (intern k) (f u))) q) t n) (λ b' t n. eval text' tokens' bound r' (Branch b' (Then b (λ u. Then (intern k) (f u))) q) t n) (local x s m e)
        (both (kept (mono text tokens bound r calm a s m) e) (passes text tokens bound r calm ahead v z s m)) (λ b'. mono text tokens bound r calm (Branch b' (Then b (λ u. Then (intern k) (f u))) q)) (elim [
          | true ↦ λ t n w.
              then (λ u t n. eval text tokens bound r (Then (intern k) (f u)) t n) (λ u t n. eval text' tokens' bound r' (Then (intern k) (f u)) t n) (local x₁ t n w.0)
              (both (kept (mono text tokens bound r calm b t n) w.0) (stays text tokens bound r calm ahead c t n)) (λ u. mono text tokens bound r calm (Then (intern k) (f u)))
              (λ u t n q. named k (f u) t n q.0 (rw q.1 (w.1 refl)) z (λ i t n g. local (h u i) t n g))
          | false ↦ λ t n w. local y t n w.0
        ])
    local proper-peek s m e = then _ _ (skipped-twin _ _ s m e (ap (λ k. k - s.cursor.at) e) refl) (kept (skipped-later text tokens _ s m) e) (λ _ t n. ran (same t n)) (λ _ t n g. gives (λ l. kind-same t.cursor g l))
    local proper-pass s m e = then _ _ (skipped-twin _ _ s m e (ap (λ k. k - s.cursor.at) e) refl) (kept (skipped-later text tokens _ s m) e) (λ _. passed_later text tokens) (λ _ t n g. passed-twin t n g)
    local proper-position s m e = gives (λ _. refl)
    local proper-here s m e = gives (λ l. span_same s.cursor.at l)
    local proper-before s m e = gives (λ l. cc (start-same tokens tokens' agree.words (pred s.cursor.at) (omega arith), start-same tokens tokens' agree.words s.cursor.at (omega arith)))
    local proper-spelling s m e = gives (λ l. agree.spellings s.cursor.at l)
    local proper-marked s m e = gives (λ _. refl)
    local (emits h) s m e = reported-twin _ _ _ s m e
    local (emits-marked h) s m e = reported-twin _ _ _ (marked_here s) m e
    local proper-alloc s m e = allocated-twin _ _ _ s m e
    local proper-close_at s m e = gives (λ _. refl)
    local proper-close_at_start s m e = gives (λ _. refl)
    local proper-set_kind s m e = gives (λ _. refl)
    local proper-link s m e = gives (λ _. refl)
    local proper-kind_of s m e = gives (λ _. refl)
    local proper-value s m e = valued-twin _ s m e
    local proper-enter_expr s m e = both-alike.exprs _ _ s m e
    local proper-enter_block s m e = both-alike.blocks _ _ s m e

  -- At every depth.
  pub alike_at : (bound depth : ℕ) → Alike (readers text tokens bound depth) (readers text' tokens' bound depth)
  unfolding tower
  alike_at bound zero = record { exprs = λ mode min s m e. record { is = λ _. refl }; blocks = λ start kind s m e. record { is = λ _. refl } }
  alike_at bound (suc depth) =
      let calm = steady text tokens bound try_parse_expr_min_bp parse_block depth in
      record {
        exprs = λ mode min. local bound _ _ calm (forward text tokens bound depth) (alike_at bound depth) (try_parse_expr_min_bp-proper mode min);
        blocks = λ start kind. local bound _ _ calm (forward text tokens bound depth) (alike_at bound depth) (parse_block-proper start kind);
      }

  -- Every program that is proper, at every depth.
  pub reads-alike : {A : Type 0} {q : Prog A} → Proper q → (bound depth : ℕ) → Twins (eval text tokens bound (readers text tokens bound depth) q) (eval text' tokens' bound (readers text' tokens' bound depth) q)
  reads-alike x bound depth = local bound _ _ (steady text tokens bound try_parse_expr_min_bp parse_block depth) (forward text tokens bound depth) (alike_at bound depth) x

-- ---- lists that begin alike

same_test : (b b' : Bool) → (b ≡ true → b' ≡ true) → (b' ≡ true → b ≡ true) → b ≡ b'
same_test true b' f g = sym (f refl)
same_test false true f g = g refl
same_test false false f g = refl

leb-same : (a b b' : ℕ) → (a ≤ b → a ≤ b') → (a ≤ b' → a ≤ b) → leb a b ≡ leb a b'
leb-same a b b' f g = same_test _ _ (λ e. le-leb a b' (f (leb-true a b e))) (λ e. le-leb a b (g (leb-true a b' e)))

lengths-same : (n : ℕ) (l l' : List ℕ) → take n l ≡ take n l' → min n (length l) ≡ min n (length l')
lengths-same n l l' e = simp length-take at (ap length e)

-- They agree where the tokens below `p` are the same, and the text up to where those end.
module _ (p o : ℕ) (text tokens text' tokens' : List ℕ) (tokens-same : take p tokens ≡ take p tokens') (text_same : take o text ≡ take o text')
    (ends : (i : ℕ) → i < p → token_end (word_at tokens i) ≤ o) where
  begin-words : (i : ℕ) → i < p → word_at tokens i ≡ word_at tokens' i
  begin-words i h = sym (get_or-take p tokens i (token_word Token.Eof 0) h) ∙ (ap (λ l. get_or l i (token_word Token.Eof 0)) tokens-same ∙ get_or-take p tokens' i (token_word Token.Eof 0) h)

  begin-covered : (start end : ℕ) → end ≤ o → Source.covered text (Source.span start end) ≡ Source.covered text' (Source.span start end)
  unfolding Source.covered
  begin-covered start end h =
      let k = lengths-same o text text' text_same in
      let t : take end text ≡ take end text' = sym (take-take end o text h) ∙ (ap (take end) text_same ∙ take-take end o text' h) in
      rw (leb-same end (length text) (length text') (λ g. omega arith) (λ g. omega arith), t)

  begin-limits : (i : ℕ) → i < p → ltb i (token_limit tokens) ≡ ltb i (token_limit tokens')
  unfolding token_limit
  begin-limits i h =
      let k = lengths-same p tokens tokens' tokens-same in
      leb-same (suc i) (min (length tokens) last_token) (min (length tokens') last_token) (λ g. omega arith) (λ g. omega arith)

  pub begin-agree : Agree p text tokens (token_limit tokens) text' tokens' (token_limit tokens')
  begin-agree =
      record {
        words = begin-words;
        spellings = λ i h. begin-covered (token_start tokens i) (token_end (word_at tokens i)) (ends i h) ∙ ap (Source.covered text') (cc (begin-words i h, start-same tokens tokens' begin-words i (omega arith)));
        limits = begin-limits;
      }

-- A refusal below token `p` doesn't depend on what comes from there on.
module _ (p : ℕ) (text tokens text' tokens' : List ℕ) (agree : Agree p text tokens (token_limit tokens) text' tokens' (token_limit tokens')) {number place : ℕ} (below : place < p) where
  refused-same : (blank : Memory) (o o' : Out ℕ) → Twin p (token_limit tokens') o o' → (parsed_to blank o).answer ≡ Answer.refused number place
      → parsed_to blank o' ≡ parsed_to blank o
  unfolding parsed_to
  refused-same blank (done a t n) o' x e = absurd (let z : ◌≡◌ {A = ℕ} 0 1 = cc in omega arith)
  refused-same blank (refused number' place') o' x e = let z : place' ≡ place = cc in ap (parsed_to blank) (x.is (omega arith))

  pub refusal-local : (nodes values reports : ℕ) → (parsed text tokens nodes values reports).answer ≡ Answer.refused number place
      → parsed text' tokens' nodes values reports ≡ parsed text tokens nodes values reports
  unfolding parsed_within
  refusal-local nodes values reports e =
      let bound = token_limit tokens + token_limit tokens' + 1 in
      let b = bound-enough text tokens bound nodes values reports (omega arith) in
      let b' = bound-enough text' tokens' bound nodes values reports (omega arith) in
      let x = reads-alike p text tokens (token_limit tokens) text' tokens' (token_limit tokens') agree parse_file-proper bound max_depth (start tokens) (zeros nodes values reports) refl in
      b' ∙ (refused-same (zeros nodes values reports) _ _ x (sym (ap (λ q. q.answer) b) ∙ e) ∙ sym b)
