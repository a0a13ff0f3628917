-- The bound of loops does not matter: any two above the number of tokens that are left give the same.
use Rattle.std.specs.Prelude.{◌≡◌, Bool, true, false, List}
use Rattle.std.proofs.Math.Path.{refl}
use Rattle.std.proofs.Common.{sym, ◌∙◌, ap, arith}
use Rattle.std.proofs.Math.Option.{Option}
use Prim.Native.Nat.{ℕ, zero, suc, ◌-◌, ◌≤◌, ◌<◌}
use Rattle.definition.specs.declared.State.{State}
use Rattle.definition.specs.declared.Mode.{Mode}
use Rattle.definition.specs.Prog.{Turn, again, stop, Prog, Give, Then, Branch, Loop, peek, pass, position, here, before, spelling, intern, marked, emit, emit_and_mark, alloc, close_at, close_at_start, set_kind, link, kind_of, value, enter_expr, enter_block, Memory, Out, done, bind, iter, Readers, eval, tower}
use Rattle.definition.specs.Expressions.{try_parse_expr_min_bp}
use Rattle.definition.specs.Statements.{parse_block}
use Rattle.definition.specs.Declarations.{parse_file}
use Rattle.definition.specs.Parse.{max_depth, readers, token_limit, start, zeros, parsed_to, parsed_within, parsed}
use Rattle.definition.proofs.Mono.{After, ran, halted, Steady, mono, steady}
use Rattle.definition.proofs.Proper.{Proper, proper-give, thens, branches, loops, names, names-later, proper-peek, proper-pass, proper-position, proper-here, proper-before, proper-spelling, proper-marked, emits, emits-marked, proper-alloc, proper-close_at, proper-close_at_start, proper-set_kind, proper-link, proper-kind_of, proper-value, proper-enter_expr, proper-enter_block, try_parse_expr_min_bp-proper, parse_block-proper, parse_file-proper}
use Rattle.definition.proofs.Progress.{Holds, yields, halts, both, is_again, Forward, Moves, forward}

-- Where the cursor stands after a program, seen from before it.
abbrev Onward : State → State → Type 0
Onward s t = (s.cursor.at ≤ t.cursor.at) × (t.cursor.end ≡ s.cursor.end) × (s.cursor.at ≤ s.cursor.end → t.cursor.at ≤ t.cursor.end)

onward : {A : Type 0} {s : State} {m : Memory} {o : Out A} → After s m o → Holds (λ _ t. Onward s t) o
onward (ran l) = yields (l.cursor, l.limit, l.inside)
onward (halted p) = halts

-- Two outcomes that are the same go on to the same.
join : {A B : Type 0} {Q : A → State → Type 0} {o o' : Out A} (f f' : A → State → Memory → Out B) → o ≡ o' → Holds Q o → ((a : A) (t : State) (n : Memory) → Q a t → f a t n ≡ f' a t n) → bind o f ≡ bind o' f'
join f f' e (yields {a} {t} {n} q) h = h a t n q ∙ ap (λ o. bind o f') e
join f f' e halts h = ap (λ o. bind o f') e

-- `eval` once more, but a loop that has no turn left does what `spent` says.
unfoldable pub iter_or : {S : Type 0} → (S → State → Memory → Out S) → (S → State → Memory → Out (Turn S)) → ℕ → S → State → Memory → Out S
iter_or spent body zero x s m = spent x s m
iter_or spent body (suc k) x s m = bind (body x s m) (λ t u n. elim t [ again y ↦ iter_or spent body k y u n | stop y ↦ done y u n ])

module _ (text tokens : List ℕ) (spent : (S : Type 0) → S → State → Memory → Out S) where
  module _ (bound : ℕ) (r : Readers) where
    unfoldable pub eval_or : {A : Type 0} → Prog A → State → Memory → Out A
    eval_or (Then p f) s m = bind (eval_or p s m) (λ a t n. eval_or (f a) t n)
    eval_or (Branch b p q) s m = elim b [ true ↦ eval_or p s m | false ↦ eval_or q s m ]
    eval_or (Loop {S} x body) s m = iter_or (spent S) (λ y t n. eval_or (body y) t n) bound x s m
    eval_or (Give a) s m = eval text tokens bound r (Give a) s m
    eval_or peek s m = eval text tokens bound r peek s m
    eval_or pass s m = eval text tokens bound r pass s m
    eval_or position s m = eval text tokens bound r position s m
    eval_or here s m = eval text tokens bound r here s m
    eval_or before s m = eval text tokens bound r before s m
    eval_or spelling s m = eval text tokens bound r spelling s m
    eval_or (intern k) s m = eval text tokens bound r (intern k) s m
    eval_or marked s m = eval text tokens bound r marked s m
    eval_or (emit k d p) s m = eval text tokens bound r (emit k d p) s m
    eval_or (emit_and_mark k d p) s m = eval text tokens bound r (emit_and_mark k d p) s m
    eval_or (alloc start k payload) s m = eval text tokens bound r (alloc start k payload) s m
    eval_or (close_at i end) s m = eval text tokens bound r (close_at i end) s m
    eval_or (close_at_start i j) s m = eval text tokens bound r (close_at_start i j) s m
    eval_or (set_kind i k payload) s m = eval text tokens bound r (set_kind i k payload) s m
    eval_or (link parent last child) s m = eval text tokens bound r (link parent last child) s m
    eval_or (kind_of i) s m = eval text tokens bound r (kind_of i) s m
    eval_or (value ws) s m = eval text tokens bound r (value ws) s m
    eval_or (enter_expr mode min) s m = eval text tokens bound r (enter_expr mode min) s m
    eval_or (enter_block start k) s m = eval text tokens bound r (enter_block start k) s m

  module _ (bound : ℕ) (expr_program : Mode → ℕ → Prog (Option ℕ)) (block_program : ℕ → ℕ → Prog ℕ) where
    unfoldable pub tower_or : ℕ → Readers
    tower_or zero = tower text tokens bound expr_program block_program zero
    tower_or (suc depth) =
        record {
          expr = λ mode min s m. eval_or bound (tower_or depth) (expr_program mode min) s m;
          block = λ start kind s m. eval_or bound (tower_or depth) (block_program start kind) s m;
        }

module _ (text tokens : List ℕ) (spent : (S : Type 0) → S → State → Memory → Out S) (bound bound' : ℕ) where
  -- Both bounds are above the number of tokens that are left.
  pub record Room (s : State) : Type 0 where
    pub inside : s.cursor.at ≤ s.cursor.end
    pub enough : s.cursor.end - s.cursor.at < bound
    pub enough' : s.cursor.end - s.cursor.at < bound'

  room : {s t : State} → Room s → Onward s t → Room t
  room h q = let i = q.2 h.inside in record { inside = i; enough = omega arith; enough' = omega arith }

  -- Readers that agree where there is room.
  pub record Alike (r r' : Readers) : Type 0 where
    pub exprs : (mode : Mode) (min : ℕ) (s : State) (m : Memory) → Room s → r.expr mode min s m ≡ r'.expr mode min s m
    pub blocks : (start kind : ℕ) (s : State) (m : Memory) → Room s → r.block start kind s m ≡ r'.block start kind s m

  module _ (r r' : Readers) (calm : Steady r) (ahead : Forward text tokens r) (alike : Alike r r') where
    pub record Agree {A : Type 0} (p : Prog A) : Type 0 where
      pub is : (s : State) (m : Memory) → Room s → eval text tokens bound r p s m ≡ eval_or text tokens spent bound' r' p s m

    after : {A : Type 0} (p : Prog A) (s : State) (m : Memory) → Holds (λ _ t. Onward s t) (eval text tokens bound r p s m)
    after p s m = onward (mono text tokens bound r calm p s m)

    pub agree_then : {A B : Type 0} {p : Prog A} {f : A → Prog B} → Agree p → ((a : A) → Agree (f a)) → Agree (Then p f)
    unfolding eval eval_or
    agree_then {p = p} {f = f} x h =
        record {
          is = λ s m w. join (λ a t n. eval text tokens bound r (f a) t n) (λ a t n. eval_or text tokens spent bound' r' (f a) t n) (x.is s m w) (after p s m) (λ a t n q. (h a).is t n (room w q));
        }

    pub agree-branch : {A : Type 0} {p q : Prog A} {b : Bool} → Agree p → Agree q → Agree (Branch b p q)
    unfolding eval eval_or
    agree-branch {b = true} x y = record { is = x.is }
    agree-branch {b = false} x y = record { is = y.is }

    pub agree-give : {A : Type 0} {a : A} → Agree (Give a)
    unfolding eval eval_or
    agree-give = record { is = λ s m w. refl }

    agree-intern : {k : ℕ} → Agree (intern k)
    unfolding eval eval_or
    agree-intern = record { is = λ s m w. refl }

    -- A loop each of whose turns agrees, and moves the cursor where it goes on: no bound is used up.
    module _ {S : Type 0} (body : S → Prog (Turn S)) (h : (x : S) → Agree (body x)) (g : (x : S) → Moves text tokens bound r calm ahead is_again (body x)) where
      turns-agree : (k k' : ℕ) (x : S) (s : State) (m : Memory) → Room s → s.cursor.end - s.cursor.at < k → s.cursor.end - s.cursor.at < k'
          → iter (λ y t n. eval text tokens bound r (body y) t n) k x s m ≡ iter_or (spent S) (λ y t n. eval_or text tokens spent bound' r' (body y) t n) k' x s m
      unfolding iter iter_or
      turns-agree zero k' x s m w l l' = absurd (omega arith)
      turns-agree (suc k) zero x s m w l l' = absurd (omega arith)
      turns-agree (suc k) (suc k') x s m w l l' =
          join
          (λ t u n. elim t [ again y ↦ iter (λ y t n. eval text tokens bound r (body y) t n) k y u n | stop y ↦ done y u n ])
          (λ t u n. elim t [ again y ↦ iter_or (spent S) (λ y t n. eval_or text tokens spent bound' r' (body y) t n) k' y u n | stop y ↦ done y u n ])
          ((h x).is s m w)
          (both (after (body x) s m) ((g x).goes s m))
          (elim [
            | again y ↦ λ u n q.
                let a = q.1 tt in
                let b = room w q.0 in
                let c = q.0.1 in
                turns-agree k k' y u n b (omega arith) (omega arith)
            | stop y ↦ λ u n q. refl
          ])

      pub agree-loop : {x : S} → Agree (Loop x body)
      unfolding eval eval_or
      agree-loop {x = x} = record { is = λ s m w. turns-agree bound bound' x s m w w.enough w.enough' }

    -- Every proper program agrees: its loops use no bound up.
    pub agree : {A : Type 0} {p : Prog A} → Proper p → Agree p
    unfolding eval eval_or
    agree proper-give = agree-give
    agree (thens x h) = agree_then (agree x) (λ a. agree (h a))
    agree (branches x y) = agree-branch (agree x) (agree y)
    agree (loops {body = body} h g) = agree-loop body (λ y. agree (h y)) (g text tokens bound r calm ahead)
    agree (names v z x h y) = agree_then (agree x) (λ found. agree-branch (agree_then agree-intern (λ i. agree (h i))) (agree y))
    agree (names-later v z c x x₁ h y) = agree_then (agree x) (λ found. agree-branch (agree_then (agree x₁) (λ u. agree_then agree-intern (λ i. agree (h u i)))) (agree y))
    agree proper-peek = record { is = λ s m w. refl }
    agree proper-pass = record { is = λ s m w. refl }
    agree proper-position = record { is = λ s m w. refl }
    agree proper-here = record { is = λ s m w. refl }
    agree proper-before = record { is = λ s m w. refl }
    agree proper-spelling = record { is = λ s m w. refl }
    agree proper-marked = record { is = λ s m w. refl }
    agree (emits h) = record { is = λ s m w. refl }
    agree (emits-marked h) = record { is = λ s m w. refl }
    agree proper-alloc = record { is = λ s m w. refl }
    agree proper-close_at = record { is = λ s m w. refl }
    agree proper-close_at_start = record { is = λ s m w. refl }
    agree proper-set_kind = record { is = λ s m w. refl }
    agree proper-link = record { is = λ s m w. refl }
    agree proper-kind_of = record { is = λ s m w. refl }
    agree proper-value = record { is = λ s m w. refl }
    agree proper-enter_expr = record { is = λ s m w. alike.exprs _ _ s m w }
    agree proper-enter_block = record { is = λ s m w. alike.blocks _ _ s m w }

-- At every depth.
module _ (text tokens : List ℕ) (spent : (S : Type 0) → S → State → Memory → Out S) (bound bound' : ℕ) where
  pub alike : (depth : ℕ) → Alike text tokens spent bound bound' (tower text tokens bound try_parse_expr_min_bp parse_block depth) (tower_or text tokens spent bound' try_parse_expr_min_bp parse_block depth)
  unfolding tower tower_or
  alike zero = record { exprs = λ mode min s m w. refl; blocks = λ start kind s m w. refl }
  alike (suc depth) =
      let calm = steady text tokens bound try_parse_expr_min_bp parse_block depth in
      let ahead = forward text tokens bound depth in
      record {
        exprs = λ mode min. (agree text tokens spent bound bound' _ _ calm ahead (alike depth) (try_parse_expr_min_bp-proper mode min)).is;
        blocks = λ start kind. (agree text tokens spent bound bound' _ _ calm ahead (alike depth) (parse_block-proper start kind)).is;
      }

  -- The file is read alike under any two bounds above the number of tokens, whatever a loop would do with no turn left.
  pub file-alike : (nodes values reports : ℕ) → token_limit tokens < bound → token_limit tokens < bound'
      → eval text tokens bound (readers text tokens bound max_depth) parse_file (start tokens) (zeros nodes values reports)
      ≡ eval_or text tokens spent bound' (tower_or text tokens spent bound' try_parse_expr_min_bp parse_block max_depth) parse_file (start tokens) (zeros nodes values reports)
  file-alike nodes values reports h h' =
      (agree text tokens spent bound bound' _ _ (steady text tokens bound try_parse_expr_min_bp parse_block max_depth) (forward text tokens bound max_depth) (alike max_depth) parse_file-proper).is
      (start tokens) (zeros nodes values reports) (record { inside = omega arith; enough = omega arith; enough' = omega arith })

-- Any two bounds above the number of tokens give the same answer.
pub any-bound : (text tokens : List ℕ) (bound bound' nodes values reports : ℕ) → token_limit tokens < bound → token_limit tokens < bound'
    → parsed_within bound text tokens nodes values reports ≡ parsed_within bound' text tokens nodes values reports
unfolding parsed_within
any-bound text tokens bound bound' nodes values reports h h' =
    ap (parsed_to (zeros nodes values reports)) (file-alike text tokens (λ S. done) bound bound nodes values reports h h ∙ sym (file-alike text tokens (λ S. done) bound' bound nodes values reports h' h))

-- The bound that is taken is one of them.
pub bound-enough : (text tokens : List ℕ) (bound nodes values reports : ℕ) → token_limit tokens < bound → parsed text tokens nodes values reports ≡ parsed_within bound text tokens nodes values reports
unfolding parsed
bound-enough text tokens bound nodes values reports h = any-bound text tokens _ bound nodes values reports (omega arith) h
