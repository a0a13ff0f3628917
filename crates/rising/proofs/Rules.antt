-- What a program does with nodes. Where the words are sound and the nodes without a parent are those that are held, so they are after it; what it
-- answers is told by the count of nodes and by what is then held.
use Rattle.std.specs.Prelude.{◌≢◌, ◌⊎◌, ◌≡◌, Bool, true, false, cond, ◌&&◌, List, [], ◌∷◌, eqb, ltb, leb, length, set}
use Rattle.std.proofs.Common.{inl, inr, ◌∙◌, ap, ltb-true, leb-true, eqb-true, lt-ltb}
use Rattle.std.proofs.Math.Path.{refl}
use Rattle.std.proofs.Math.Option.{Option, none, some}
use Prim.Native.Nat.{ℕ, zero, suc, ◌+◌, ◌*◌, ◌≤◌, ◌<◌}
use native.Mathlib.Omega.{arith}
use Rattle.std.proofs.lemmas.Bool.{eqb-false}
use Rattle.std.proofs.lemmas.List.Edits.{sets}
use Rattle.words.specs.Node
use Rattle.words.specs.Report
use Rattle.words.specs.ErrorToken.{error_number}
use Rattle.words.specs.Token.{is_trivia, lex_error, LexError}
use Rattle.std.specs.Prelude.{Some, None}
use Rattle.words.specs.Words.{node_width, node_kind, node_words, report_width}
use Rattle.literals.specs.declared.Span.{Span}
use Rattle.literals.specs.Spelling as Source
use Rattle.definition.specs.declared.State.{State}
use Rattle.definition.specs.declared.Unfinished.{Unfinished}
use Rattle.definition.specs.declared.Mode.{Mode}
use Rattle.definition.specs.Prog.{Turn, again, stop, Prog, Give, Then, Branch, Loop, peek, pass, position, here, before, spelling, intern, marked, emit, emit_and_mark, alloc, close_at, close_at_start, set_kind, link, kind_of, value, Memory, memory, Out, done, refused, bind, with_cursor, advanced, reported, is_marked, marked_here, last_node, allocated, stored, linked, head_word, end_word, next_word, child_word, parent_word, valued, iter, Readers, kind_at, passed, skipped, eval}
use Rattle.rising.specs.Sound.{rises, Sound, Fits, head-kind, set-sound, alloc-sound}
use Rattle.rising.specs.Forest.{Slot, opens, ended, opened, filed, single, node_in, Above, Forest, swapped, swapped-below, closed, forest-word, forest-new, Linking, forest-link}

-- Words that are sound and stand for a forest whose roots are held.
pub record Inv (w : List ℕ) (c : ℕ) (H : List Slot) : Type 0 where
  pub sound : Sound w c
  pub forest : Forest w c H

-- An outcome: refused, or with such words of so many nodes, no fewer than before, K of what is answered held, and Q of it and of their number.
pub data Lands {A : Type 0} (c : ℕ) (K : A → List Slot) (Q : A → ℕ → Type 0) : Out A → Type 0 where
  lands : {a : A} {t : State} {n : Memory} (d : ℕ) → t.nodes ≡ d → c ≤ d → Inv n.nodes d (K a) → Q a d → Lands c K Q (done a t n)
  halts : {number place : ℕ} → Lands c K Q (refused number place)

pub bind-lands : {A B : Type 0} {c : ℕ} {L : A → List Slot} {R : A → ℕ → Type 0} {K : B → List Slot} {Q : B → ℕ → Type 0} {o : Out A} (k : A → State → Memory → Out B) → Lands c L R o
    → ((a : A) (t : State) (n : Memory) (d : ℕ) → t.nodes ≡ d → c ≤ d → Inv n.nodes d (L a) → R a d → Lands d K Q (k a t n)) → Lands c K Q (bind o k)
bind-lands {c = c} {K = K} {Q = Q} k (lands {a} {t} {n} d e l s q) h = go (h a t n d e l s q)
  where
    go : {o : Out _} → Lands d K Q o → Lands c K Q o
    go (lands d₁ e₁ l₁ s₁ q₁) = lands d₁ e₁ (omega arith) s₁ q₁
    go halts = halts
bind-lands k halts h = halts

-- A node that was made since there were c of them; the same of an answer that may be none.
pub record New (c a d : ℕ) : Type 0 where
  pub low : c ≤ a
  pub high : a < d

pub data Newer (c : ℕ) : Option ℕ → ℕ → Type 0 where
  nothing : {d : ℕ} → Newer c none d
  newer : {a d : ℕ} → c ≤ a → a < d → Newer c (some a) d

-- What is held of an answer that may be none.
abbrev pub either : List Slot → List Slot → Option ℕ → List Slot
either H J none = H
either H J (some a) = single a ∷ J

-- The readers of what is deeper. After them one node more is held, which they answer; or they answer none.
pub record Good (r : Readers) : Type 0 where
  pub exprs : (mode : Mode) (min : ℕ) (s : State) (m : Memory) (c : ℕ) (H : List Slot) → 0 < c → s.nodes ≡ c → Inv m.nodes c H → Lands c (either H H) (Newer c) (r.expr mode min s m)
  pub blocks : (start kind : ℕ) → kind ≤ Node.Error → (s : State) (m : Memory) (c : ℕ) (H : List Slot) → 0 < c → s.nodes ≡ c → Inv m.nodes c H → Lands c (λ a. single a ∷ H) (New c) (r.block start kind s m)

-- A program, run where there are c nodes (File at least) and H is held.
pub record Ok {A : Type 0} (c : ℕ) (H : List Slot) (K : A → List Slot) (Q : A → ℕ → Type 0) (p : Prog A) : Type 0 where
  pub run : (text tokens : List ℕ) (bound : ℕ) (r : Readers) → Good r → (s : State) (m : Memory) → 0 < c → s.nodes ≡ c → Inv m.nodes c H → Lands c K Q (eval text tokens bound r p s m)

-- One that makes and links no node.
pub record Calm {A : Type 0} (p : Prog A) : Type 0 where
  pub calm : (c : ℕ) (H : List Slot) → Ok c H (λ _. H) (λ _ d. d ≡ c) p

-- One that answers a node that it made, or perhaps one.
pub record Fresh (p : Prog ℕ) : Type 0 where
  pub fresh : (c : ℕ) (H : List Slot) → Ok c H (λ a. single a ∷ H) (New c) p

pub record Maybe (p : Prog (Option ℕ)) : Type 0 where
  pub maybe : (c : ℕ) (H : List Slot) → Ok c H (either H H) (Newer c) p

-- A turn goes on with what holds before each, or ends with what holds after the last.
pub data Turns {S : Type 0} (I J : S → ℕ → Type 0) : Turn S → ℕ → Type 0 where
  goes : {y : S} {d : ℕ} → I y d → Turns I J (again y) d
  ends : {y : S} {d : ℕ} → J y d → Turns I J (stop y) d

abbrev pub Goes : {S : Type 0} → (S → ℕ → Type 0) → Turn S → ℕ → Type 0
Goes I = Turns I I

abbrev pub turned : {S : Type 0} → (S → List Slot) → Turn S → List Slot
turned L (again y) = L y
turned L (stop y) = L y

-- ---- programs of programs

module _ {A B : Type 0} {c : ℕ} {H : List Slot} {K : B → List Slot} {Q : B → ℕ → Type 0} where
  pub ok-then : {L : A → List Slot} {R : A → ℕ → Type 0} {p : Prog A} {f : A → Prog B} → Ok c H L R p → ((a : A) (d : ℕ) → c ≤ d → R a d → Ok d (L a) K Q (f a)) → Ok c H K Q (Then p f)
  unfolding eval
  ok-then {f = f} x k = record { run = λ text tokens bound r g s m z e w. bind-lands (λ a t n. eval text tokens bound r (f a) t n) (x.run text tokens bound r g s m z e w) (λ a t n d i l v q. let y : 0 < d = omega arith in (k a d l q).run text tokens bound r g t n y i v) }

  pub then-give : {a : A} {f : A → Prog B} → Ok c H K Q (f a) → Ok c H K Q (Then (Give a) f)
  unfolding eval
  then-give x = record { run = λ text tokens bound r g s m z e w. x.run text tokens bound r g s m z e w }

  pub then-branch : {b : Bool} {p q : Prog A} {f : A → Prog B} → Ok c H K Q (Then p f) → Ok c H K Q (Then q f) → Ok c H K Q (Then (Branch b p q) f)
  unfolding eval
  then-branch {b = true} x y = record { run = x.run }
  then-branch {b = false} x y = record { run = y.run }

  pub then-calm : {p : Prog A} {f : A → Prog B} → Calm p → ((a : A) → Ok c H K Q (f a)) → Ok c H K Q (Then p f)
  then-calm x k = ok-then (x.calm c H) (λ a d l q. rw q (k a))

module _ {A : Type 0} {c : ℕ} {K : A → List Slot} {Q : A → ℕ → Type 0} where
  pub ok-give : {a : A} → Q a c → Ok c (K a) K Q (Give a)
  unfolding eval
  ok-give q = record { run = λ text tokens bound r g s m z e w. lands c e (omega arith) w q }

  pub ok-branch : {H : List Slot} {b : Bool} {p q : Prog A} → Ok c H K Q p → Ok c H K Q q → Ok c H K Q (Branch b p q)
  unfolding eval
  ok-branch {b = true} x y = record { run = x.run }
  ok-branch {b = false} x y = record { run = y.run }

  pub ok-weaken : {H : List Slot} {R : A → ℕ → Type 0} {p : Prog A} → Ok c H K R p → ((a : A) (d : ℕ) → c ≤ d → R a d → Q a d) → Ok c H K Q p
  ok-weaken {H} {R} {p} x k = record { run = λ text tokens bound r g s m z e w. go (x.run text tokens bound r g s m z e w) }
    where
      go : {o : Out A} → Lands c K R o → Lands c K Q o
      go (lands {a} d e l s q) = lands d e l s (k a d l q)
      go halts = halts

  -- What is held after, otherwise.
  pub ok-held : {H : List Slot} {L : A → List Slot} {p : Prog A} → ((w : List ℕ) (a : A) (d : ℕ) → Inv w d (L a) → Inv w d (K a)) → Ok c H L Q p → Ok c H K Q p
  ok-held {H} {L} {p} k x = record { run = λ text tokens bound r g s m z e w. go (x.run text tokens bound r g s m z e w) }
    where
      go : {o : Out A} → Lands c L Q o → Lands c K Q o
      go (lands {a} {t} {n} d e l s q) = lands d e l (k n.nodes a d s) q
      go halts = halts

  -- What is held before, otherwise.
  ok-before : {H J : List Slot} {p : Prog A} → ((w : List ℕ) → Forest w c H → Forest w c J) → Ok c J K Q p → Ok c H K Q p
  ok-before k x = record { run = λ text tokens bound r g s m z e w. x.run text tokens bound r g s m z e (record { sound = w.sound; forest = k _ w.forest }) }

  pub ok-swap : {x y : Slot} {H : List Slot} {p : Prog A} → Ok c (y ∷ (x ∷ H)) K Q p → Ok c (x ∷ (y ∷ H)) K Q p
  ok-swap x = ok-before (λ w f. swapped f) x

  pub ok-under : {x y z : Slot} {H : List Slot} {p : Prog A} → Ok c (x ∷ (z ∷ (y ∷ H))) K Q p → Ok c (x ∷ (y ∷ (z ∷ H))) K Q p
  ok-under x = ok-before (λ w f. swapped-below f) x

  pub ok-closed : {file : Bool} {u : Unfinished} {H : List Slot} {p : Prog A} → Ok c (ended file u.node ∷ H) K Q p → Ok c (opens file u ∷ H) K Q p
  ok-closed x = ok-before (λ w f. closed f) x

pub then-then : {A B C : Type 0} {c : ℕ} {H : List Slot} {K : C → List Slot} {Q : C → ℕ → Type 0} {p : Prog A} {f : A → Prog B} {g : B → Prog C} → Ok c H K Q (Then p (λ a. Then (f a) g)) → Ok c H K Q (Then (Then p f) g)
unfolding eval
then-then {c = c} {K = K} {Q = Q} {p = p} {f = f} {g = h} x = record { run = λ text tokens bound r g s m z e w. go text tokens bound r (eval text tokens bound r p s m) (x.run text tokens bound r g s m z e w) }
  where
    go : (text tokens : List ℕ) (bound : ℕ) (r : Readers) (o : Out _) → Lands c K Q (bind o (λ a t n. bind (eval text tokens bound r (f a) t n) (λ b u k. eval text tokens bound r (h b) u k)))
        → Lands c K Q (bind (bind o (λ a t n. eval text tokens bound r (f a) t n)) (λ b u k. eval text tokens bound r (h b) u k))
    go text tokens bound r (done a t n) y = y
    go text tokens bound r (refused number place) y = y

turn-lands : {S : Type 0} {L : S → List Slot} {I J : S → ℕ → Type 0} (next : S → State → Memory → Out S) (t : Turn S) (s : State) (m : Memory) (d : ℕ) → s.nodes ≡ d → Inv m.nodes d (turned L t) → Turns I J t d
    → ((y : S) → I y d → Inv m.nodes d (L y) → Lands d L J (next y s m)) → Lands d L J (elim t [ again y ↦ next y s m | stop y ↦ done y s m ])
turn-lands next (again y) s m d e w (goes i) h = h y i w
turn-lands next (stop y) s m d e w (ends i) h = lands d e (omega arith) w i

iter-lands : {S : Type 0} {L : S → List Slot} {I J : S → ℕ → Type 0} {c : ℕ} (body : S → State → Memory → Out (Turn S)) → ((y : S) (d : ℕ) → I y d → J y d) → ((y : S) (s : State) (m : Memory) (d : ℕ) → c ≤ d → s.nodes ≡ d → Inv m.nodes d (L y) → I y d → Lands d (turned L) (Turns I J) (body y s m))
    → (k : ℕ) (y : S) (s : State) (m : Memory) (d : ℕ) → c ≤ d → s.nodes ≡ d → Inv m.nodes d (L y) → I y d → Lands d L J (iter body k y s m)
unfolding iter
iter-lands body u h zero y s m d l e w i = lands d e (omega arith) w (u y d i)
iter-lands body u h (suc k) y s m d l e w i =
    bind-lands _ (h y s m d l e w i) (λ t v n f j a x q. turn-lands (iter body k) t v n f j x q (λ z g b. iter-lands body u h k z v n f (omega arith) j b g))

pub ok-turns : {S : Type 0} {c : ℕ} {L : S → List Slot} (I J : S → ℕ → Type 0) {x : S} {body : S → Prog (Turn S)} → ((y : S) (d : ℕ) → I y d → J y d) → I x c → ((y : S) (d : ℕ) → c ≤ d → I y d → Ok d (L y) (turned L) (Turns I J) (body y)) → Ok c (L x) L J (Loop x body)
unfolding eval
ok-turns {c = c} {L = L} I J {x} {body} u i k =
    record { run = λ text tokens bound r g s m z e w. iter-lands {L = L} (λ y t n. eval text tokens bound r (body y) t n) u (λ y t n d l f v j. let a : 0 < d = omega arith in (k y d l j).run text tokens bound r g t n a f v) bound x s m c (omega arith) e w i }

pub ok-loop : {S : Type 0} {c : ℕ} {L : S → List Slot} (I : S → ℕ → Type 0) {x : S} {body : S → Prog (Turn S)} → I x c → ((y : S) (d : ℕ) → c ≤ d → I y d → Ok d (L y) (turned L) (Goes I) (body y)) → Ok c (L x) L I (Loop x body)
ok-loop {L = L} I i k = ok-turns {L = L} I I (λ y d j. j) i k

-- ---- commands

-- An outcome that leaves the nodes as they were.
data Kept {A : Type 0} (s : State) (m : Memory) : Out A → Type 0 where
  kept : {a : A} {t : State} {n : Memory} → t.nodes ≡ s.nodes → n.nodes ≡ m.nodes → Kept s m (done a t n)
  stopped : {number place : ℕ} → Kept s m (refused number place)

kept_lands : {A : Type 0} {s : State} {m : Memory} {o : Out A} {c : ℕ} {H : List Slot} → Kept s m o → s.nodes ≡ c → Inv m.nodes c H → Lands c (λ _. H) (λ _ d. d ≡ c) o
kept_lands {c = c} (kept {n = n} e f) i w = lands {n = n} c (e ∙ i) (omega arith) (rw f w) refl
kept_lands stopped i w = halts

kept-bind : {A B : Type 0} {s : State} {m : Memory} {o : Out A} (k : A → State → Memory → Out B) → Kept s m o → ((a : A) (t : State) (n : Memory) → Kept t n (k a t n)) → Kept s m (bind o k)
kept-bind {B = B} {s = s} {m = m} k (kept {a} {t} {n} e f) h = go (h a t n)
  where
    go : {o : Out B} → Kept t n o → Kept s m o
    go (kept i j) = kept (i ∙ e) (j ∙ f)
    go stopped = stopped
kept-bind k stopped h = stopped

one_kept : {A : Type 0} {s : State} {m : Memory} {x y : Out A} (t : Bool) → Kept s m x → Kept s m y → Kept {A = A} s m (elim t [ true ↦ x | false ↦ y ])
one_kept true a b = a
one_kept false a b = b

reported-kept : (kind detail : ℕ) (p : Span) (s : State) (m : Memory) → Kept s m (reported kind detail p s m)
unfolding reported
reported-kept kind detail p s m = one_kept (leb (report_width * s.reports + report_width) (length m.reports)) (kept refl refl) stopped

marked-kept : (kind detail : ℕ) (p : Span) (s : State) (m : Memory) → Kept s m (reported kind detail p (marked_here s) m)
unfolding reported
marked-kept kind detail p s m = one_kept (leb (report_width * s.reports + report_width) (length m.reports)) (kept refl refl) stopped

module _ (text tokens : List ℕ) where
  passed-kept : (s : State) (m : Memory) → Kept s m (passed text tokens s m)
  unfolding passed reported
  passed-kept s m = go (lex_error (kind_at text tokens s.cursor))
    where
      t : State
      t = with_cursor (advanced s.cursor) s

      go : (e : LexError) → Kept {A = Unit {0}} s m (elim e [ None ↦ done tt t m | Some error ↦ elim (is_marked s) [ true ↦ done tt t m | false ↦ reported Report.LexerError (error_number error) (Source.token_span tokens s.cursor.at) t m ] ])
      go None = kept refl refl
      go (Some error) = one_kept (is_marked s) (kept refl refl) (one_kept (leb (report_width * s.reports + report_width) (length m.reports)) (kept refl refl) stopped)

  skipped-kept : (left : ℕ) (s : State) (m : Memory) → Kept s m (skipped text tokens left s m)
  unfolding skipped
  skipped-kept zero s m = kept refl refl
  skipped-kept (suc left) s m = one_kept (is_trivia (kind_at text tokens s.cursor)) (kept-bind (λ _ t n. skipped text tokens left t n) (passed-kept s m) (λ _ t n. skipped-kept left t n)) (kept refl refl)

quiet : {A : Type 0} {p : Prog A} → ((text tokens : List ℕ) (bound : ℕ) (r : Readers) (s : State) (m : Memory) → Kept s m (eval text tokens bound r p s m)) → Calm p
quiet h = record { calm = λ c H. record { run = λ text tokens bound r g s m z e w. kept_lands (h text tokens bound r s m) e w } }

pub calm-peek : Calm peek
unfolding eval
calm-peek = quiet (λ text tokens bound r s m. kept-bind _ (skipped-kept text tokens _ s m) (λ _ t n. kept refl refl))

pub calm_pass : Calm pass
unfolding eval
calm_pass = quiet (λ text tokens bound r s m. kept-bind _ (skipped-kept text tokens _ s m) (λ _ t n. passed-kept text tokens t n))

pub calm-position : Calm position
unfolding eval
calm-position = quiet (λ text tokens bound r s m. kept refl refl)

pub calm-here : Calm here
unfolding eval
calm-here = quiet (λ text tokens bound r s m. kept refl refl)

pub calm-before : Calm before
unfolding eval
calm-before = quiet (λ text tokens bound r s m. kept refl refl)

pub calm-spelling : Calm spelling
unfolding eval
calm-spelling = quiet (λ text tokens bound r s m. kept refl refl)

pub calm-intern : {k : ℕ} → Calm (intern k)
unfolding eval
calm-intern = quiet (λ text tokens bound r s m. kept refl refl)

pub calm_marked : Calm marked
unfolding eval
calm_marked = quiet (λ text tokens bound r s m. kept refl refl)

pub calm-emit : {k d : ℕ} {p : Span} → Calm (emit k d p)
unfolding eval
calm-emit {k} {d} {p} = quiet (λ text tokens bound r s m. reported-kept k d p s m)

pub calm-emit_and_mark : {k d : ℕ} {p : Span} → Calm (emit_and_mark k d p)
unfolding eval
calm-emit_and_mark {k} {d} {p} = quiet (λ text tokens bound r s m. marked-kept k d p s m)

pub calm-kind_of : {n : ℕ} → Calm (kind_of n)
unfolding eval
calm-kind_of = quiet (λ text tokens bound r s m. kept refl refl)

pub calm-value : {ws : List ℕ} → Calm (value ws)
unfolding eval valued
calm-value {ws} = quiet (λ text tokens bound r s m. one_kept (leb (s.values + length ws) (length m.values)) (kept refl refl) stopped)

-- A word of a node is written, where it may be.
stored-lands : {c : ℕ} (n j v : ℕ) (s : State) (m : Memory) → j < node_width → (n < c → Fits n j v c) → s.nodes ≡ c → Sound m.nodes c → Sound (stored n j v s m).nodes c
unfolding stored
stored-lands {c} n j v s m l f e w = go (ltb n s.nodes) refl
  where
    go : (t : Bool) → ltb n s.nodes ≡ t → Sound (cond t (memory (set m.nodes (node_width * n + j) v) m.values m.reports) m).nodes c
    go true q = let h : n < c = omega (arith, ltb-true n s.nodes q) in set-sound n j v h l (f h) w
    go false q = w

stored-forest : {c : ℕ} {H : List Slot} (n j v : ℕ) (s : State) (m : Memory) → j < 3 → Forest m.nodes c H → Forest (stored n j v s m).nodes c H
unfolding stored
stored-forest {c} {H} n j v s m l f = go (ltb n s.nodes)
  where
    go : (t : Bool) → Forest (cond t (memory (set m.nodes (node_width * n + j) v) m.values m.reports) m).nodes c H
    go true = forest-word n j v l f
    go false = f

-- One of the first three.
stored-inv : {c : ℕ} {H : List Slot} (n j v : ℕ) (s : State) (m : Memory) → j < 3 → (j ≡ head_word → node_kind v ≤ Node.Error) → s.nodes ≡ c → Inv m.nodes c H → Inv (stored n j v s m).nodes c H
stored-inv n j v s m l k e w =
    record {
      sound = stored-lands n j v s m (omega arith) (λ h. record { kind = k; next = λ q. absurd (omega arith); child = λ q. absurd (omega arith) }) e w.sound;
      forest = stored-forest n j v s m l w.forest;
    }

pub calm-close_at : {n end : ℕ} → Calm (close_at n end)
unfolding eval
calm-close_at {n} {end} = record { calm = λ c H. record { run = λ text tokens bound r g s m z e w. lands c e (omega arith) (stored-inv n end_word end s m (omega arith) (λ q. absurd (omega arith)) e w) refl } }

pub calm-close_at_start : {n k : ℕ} → Calm (close_at_start n k)
unfolding eval
calm-close_at_start {n} {k} = record { calm = λ c H. record { run = λ text tokens bound r g s m z e w. lands c e (omega arith) (stored-inv n end_word _ s m (omega arith) (λ q. absurd (omega arith)) e w) refl } }

pub calm-set_kind : {n kind payload : ℕ} → kind ≤ Node.Error → Calm (set_kind n kind payload)
unfolding eval
calm-set_kind {n} {kind} {payload} k = record { calm = λ c H. record { run = λ text tokens bound r g s m z e w. lands c e (omega arith) (stored-inv n head_word _ s m (omega arith) (λ q. head-kind kind payload k) e w) refl } }

-- A child after the last one, or the first.
pub data Order (last child : ℕ) : Type 0 where
  one : last ≡ 0 → Order last child
  later : last < child → Order last child

in_order : {last child : ℕ} → Order last child → (last ≡ 0) ⊎ (last < child)
in_order (one e) = inl e
in_order (later h) = inr h

-- A link keeps the words sound.
linked-sound : {c last child : ℕ} (parent : ℕ) → Order last child → child < c → (s : State) (m : Memory) → s.nodes ≡ c → Sound m.nodes c → Sound (linked parent last child s m).nodes c
unfolding linked
linked-sound {c} {last} {child} parent o l s m e w =
    stored-lands child parent_word parent s _ (omega arith) (λ h. record { kind = λ q. absurd (omega arith); next = λ q. absurd (omega arith); child = λ q. absurd (omega arith) }) e (go (eqb last 0) refl)
  where
    above : last ≢ 0 → Order last child → last < child
    above q (one z) = absurd (q z)
    above q (later h) = h

    go : (t : Bool) → eqb last 0 ≡ t → Sound (cond t (stored parent child_word child s m) (stored last next_word child s m)).nodes c
    go true q = stored-lands parent child_word child s m (omega arith) (λ h. record { kind = λ q. absurd (omega arith); next = λ q. absurd (omega arith); child = λ q. l }) e w
    go false q = stored-lands last next_word child s m (omega arith) (λ h. record { kind = λ q. absurd (omega arith); next = λ _. rises (above (eqb-false last 0 q) o) l; child = λ q. absurd (omega arith) }) e w

-- And the forest one: the child is a root no more.
linked-forest : {c : ℕ} {H : List Slot} {x y : Slot} (parent last child : ℕ) (s : State) (m : Memory) (f : Forest m.nodes c (single child ∷ (x ∷ H))) → s.nodes ≡ c → node_in x ≡ parent
    → Linking last child f (set (set m.nodes (node_width * parent + child_word) child) (node_width * child + parent_word) parent) (set (set m.nodes (node_width * last + next_word) child) (node_width * child + parent_word) parent) y
    → Forest (linked parent last child s m).nodes c (y ∷ H)
unfolding linked stored
linked-forest {c} {H} {x} {y} parent last child s m f e n k = go (eqb last 0) refl
  where
    lc : ltb child s.nodes ≡ true
    lc = lt-ltb child s.nodes (omega (arith, k.child))

    lp : ltb parent s.nodes ≡ true
    lp = lt-ltb parent s.nodes (omega (arith, k.parent))

    go : (t : Bool) → eqb last 0 ≡ t → Forest (stored child parent_word parent s (cond t (stored parent child_word child s m) (stored last next_word child s m))).nodes c (y ∷ H)
    go true q = rw (lc, lp) (k.as_first (eqb-true last 0 q))
    go false q =
        let z = k.as-next (eqb-false last 0 q) in
        let ll : ltb last s.nodes ≡ true = lt-ltb last s.nodes (omega (arith, z.0)) in
        rw (lc, ll) z.1

pub ok-link : {c child : ℕ} {H : List Slot} {file : Bool} (u v : Unfinished) → v.node ≡ u.node → v.last ≡ child → Order u.last child → child < c → Ok c (single child ∷ (opens file u ∷ H)) (λ _. opens file v ∷ H) (λ _ d. d ≡ c) (link u.node u.last child)
unfolding eval
ok-link u v i j o l =
    record { run = λ text tokens bound r g s m z e w. lands _ e (omega arith) (record { sound = linked-sound u.node o l s m e w.sound; forest = linked-forest u.node u.last _ s m w.forest e refl (forest-link u v _ i j w.forest (in_order o)) }) refl }

one-lands : {A : Type 0} {c : ℕ} {K : A → List Slot} {Q : A → ℕ → Type 0} {x y : Out A} (t : Bool) → (t ≡ true → Lands c K Q x) → Lands c K Q y → Lands {A = A} c K Q (elim t [ true ↦ x | false ↦ y ])
one-lands true a b = a refl
one-lands false a b = b

and_right : (t u : Bool) → (t && u) ≡ true → u ≡ true
and_right true u e = e
and_right false u e = absurd (let z : ◌≡◌ {A = ℕ} 0 1 = cc in omega arith)

made-sound : {c : ℕ} (start kind payload : ℕ) → kind ≤ Node.Error → (s : State) (m : Memory) → s.nodes ≡ c → Sound m.nodes c → node_width * s.nodes + node_width ≤ length m.nodes
    → Sound (sets m.nodes (node_width * s.nodes) (node_words (record { kind = kind; payload = payload; first = start; end = start; next = 0; child = 0; parent = 0 }))) (c + 1)
made-sound start kind payload k s m e w l = rw e (alloc-sound start kind payload k (rw e at l) w)

-- A node is made: File where there was none, else another.
made-lands : {c : ℕ} {H : List Slot} (file : Bool) (start kind payload : ℕ) → kind ≤ Node.Error → Above file c → (text tokens : List ℕ) (bound : ℕ) (r : Readers) (s : State) (m : Memory) → s.nodes ≡ c → Inv m.nodes c H
    → Lands c (λ a. opens file (record { node = a; last = 0 }) ∷ H) (λ a d. (a ≡ c) × (d ≡ c + 1)) (eval text tokens bound r (alloc start kind payload) s m)
unfolding eval allocated
made-lands {c} {H} file start kind payload k z text tokens bound r s m e w =
    one-lands (ltb s.nodes last_node && leb (node_width * s.nodes + node_width) (length m.nodes))
    (λ q. let l = leb-true _ _ (and_right (ltb s.nodes last_node) _ q) in lands (c + 1) (ap (λ (x : ℕ). x + 1) e) (omega arith) (record { sound = made-sound start kind payload k s m e w.sound l; forest = made l }) (e, refl)) halts
  where
    made : node_width * s.nodes + node_width ≤ length m.nodes
        → Forest (sets m.nodes (node_width * s.nodes) (node_words (record { kind = kind; payload = payload; first = start; end = start; next = 0; child = 0; parent = 0 }))) (c + 1) (opens file (record { node = s.nodes; last = 0 }) ∷ H)
    made l = rw e (forest-new start kind payload (rw e at l) w.forest file (record { node = c; last = 0 }) refl refl z)

pub ok-alloc : {c start kind payload : ℕ} {H : List Slot} → kind ≤ Node.Error → Ok c H (λ a. opened (record { node = a; last = 0 }) ∷ H) (λ a d. (a ≡ c) × (d ≡ c + 1)) (alloc start kind payload)
ok-alloc {c} {start} {kind} {payload} {H} k = record { run = λ text tokens bound r g s m z e w. made-lands false start kind payload k z text tokens bound r s m e w }

pub file-lands : (start kind payload : ℕ) → kind ≤ Node.Error → (text tokens : List ℕ) (bound : ℕ) (r : Readers) (s : State) (m : Memory) → s.nodes ≡ 0 → Inv m.nodes 0 [] → Lands 0 (λ a. filed (record { node = a; last = 0 }) ∷ []) (λ a d. (a ≡ 0) × (d ≡ 1)) (eval text tokens bound r (alloc start kind payload) s m)
file-lands start kind payload k = made-lands true start kind payload k tt
