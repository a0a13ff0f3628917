-- The rules by which a reader's program is gone through, command by command.
use Rattle.std.specs.Prelude.{◌≡◌, Bool, List, ◌∷◌, ℕ, ◌+◌, ◌≤◌, ◌<◌}
use Rattle.std.proofs.Math.Path.{refl}
use Rattle.std.proofs.Common.{◌∙◌, arith}
use Rattle.std.proofs.Math.Option.{Option, none, some}
use Rattle.words.specs.Node
use Rattle.definition.specs.declared.Mode.{Mode}
use Rattle.definition.specs.declared.Unfinished.{Unfinished}
use Rattle.definition.specs.Prog.{Turn, again, stop, Prog, Give, Then, Branch, Loop, enter_expr, enter_block, eval}
use Rattle.definition.specs.Nodes.{alloc_node_from, alloc_node, close_node_at, close_node, update_kind, push_child}
use Rattle.definition.specs.Expressions.{push_option, push_closing}
use Rattle.rising.specs.Forest.{Slot, opens, opened, single}
use Rattle.rising.proofs.Rules.{calm-close_at_start, later, New, Newer, nothing, newer, either, Inv, Ok, Calm, Fresh, Maybe, Turns, Goes, goes, ends, turned, ok-turns, ok-then, then-give, then-calm, ok-give, ok-branch, ok-weaken, ok-held, ok-swap, ok-under, ok-closed, then-then, ok-loop, calm-position, calm-close_at, calm-set_kind, Order, ok-link, ok-alloc}

pub new : {c a d : ℕ} → c ≤ a → a < d → New c a d
new l h = record { low = l; high = h }

-- An open node, whose last child is no newer than the newest.
pub record Open (n : ℕ) (u : Unfinished) (d : ℕ) : Type 0 where
  pub same : u.node ≡ n
  pub made : n < d
  pub last : u.last < d

pub open' : {n d : ℕ} {u : Unfinished} → u.node ≡ n → n < d → u.last < d → Open n u d
open' e l h = record { same = e; made = l; last = h }

module _ {A : Type 0} {c : ℕ} {K : A → List Slot} {Q : A → ℕ → Type 0} where
  pub then-alloc : {H : List Slot} (start kind payload : ℕ) {f : Unfinished → Prog A} → kind ≤ Node.Error → ((u : Unfinished) → u.node ≡ c → u.last ≡ 0 → Ok (c + 1) (opened u ∷ H) K Q (f u)) → Ok c H K Q (Then (alloc_node_from start kind payload) f)
  unfolding alloc_node_from
  then-alloc start kind payload k h = then-then (ok-then (ok-alloc k) (λ a d l q. rw q.1 (then-give (h _ q.0 refl))))

  pub then-alloc-here : {H : List Slot} (kind payload : ℕ) {f : Unfinished → Prog A} → kind ≤ Node.Error → ((u : Unfinished) → u.node ≡ c → u.last ≡ 0 → Ok (c + 1) (opened u ∷ H) K Q (f u)) → Ok c H K Q (Then (alloc_node kind payload) f)
  unfolding alloc_node
  then-alloc-here kind payload k h = then-then (then-calm calm-position (λ start. then-alloc start kind payload k h))

  pub then-push : {H : List Slot} {file : Bool} (u : Unfinished) (a : ℕ) {f : Unfinished → Prog A} → Order u.last a → a < c → ((v : Unfinished) → v.node ≡ u.node → v.last ≡ a → Ok c (opens file v ∷ H) K Q (f v)) → Ok c (single a ∷ (opens file u ∷ H)) K Q (Then (push_child u a) f)
  unfolding push_child
  then-push u a o l h = then-then (ok-then (ok-link u (record { node = u.node; last = a }) refl refl o l) (λ x d g q. rw q (then-give (h _ refl refl))))

  pub then-close : {H : List Slot} (u : Unfinished) {f : ℕ → Prog A} → Ok c (single u.node ∷ H) K Q (f u.node) → Ok c (opened u ∷ H) K Q (Then (close_node u) f)
  unfolding close_node close_node_at
  then-close u h = then-then (then-calm calm-position (λ end. then-then (then-calm calm-close_at (λ x. then-give (ok-closed h)))))

  pub then-close-at : {H : List Slot} (u : Unfinished) (end : ℕ) {f : ℕ → Prog A} → Ok c (single u.node ∷ H) K Q (f u.node) → Ok c (opened u ∷ H) K Q (Then (close_node_at u end) f)
  unfolding close_node_at
  then-close-at u end h = then-then (then-calm calm-close_at (λ x. then-give (ok-closed h)))

  pub then-fresh : {H : List Slot} {p : Prog ℕ} {f : ℕ → Prog A} → Fresh p → ((a d : ℕ) → c ≤ a → a < d → Ok d (single a ∷ H) K Q (f a)) → Ok c H K Q (Then p f)
  then-fresh {H} x h = ok-then (x.fresh c H) (λ a d l q. h a d q.low q.high)

  pub then-maybe : {H : List Slot} {p : Prog (Option ℕ)} {f : Option ℕ → Prog A} → Maybe p → ((a d : ℕ) → c ≤ a → a < d → Ok d (single a ∷ H) K Q (f (some a))) → ((d : ℕ) → c ≤ d → Ok d H K Q (f none)) → Ok c H K Q (Then p f)
  then-maybe {H} {f = f} x h i = ok-then (x.maybe c H) go
    where
      go : (o : Option ℕ) (d : ℕ) → c ≤ d → Newer c o d → Ok d (either H H o) K Q (f o)
      go none d l nothing = i d l
      go (some a) d l (newer k j) = h a d k j

  -- L is what is held at each turn, besides H.
  pub then-loop : {S : Type 0} {H : List Slot} (I : S → ℕ → Type 0) (L : S → List Slot → List Slot) {x : S} {body : S → Prog (Turn S)} {f : S → Prog A} → ((y : S) (d : ℕ) → c ≤ d → I y d → Ok d (L y H) (turned (λ y. L y H)) (Goes I) (body y)) → I x c → ((y : S) (d : ℕ) → c ≤ d → I y d → Ok d (L y H) K Q (f y)) → Ok c (L x H) K Q (Then (Loop x body) f)
  then-loop {H = H} I L k i h = ok-then (ok-loop {L = λ y. L y H} I i k) h

  pub then_turns : {S : Type 0} {H : List Slot} (I J : S → ℕ → Type 0) (L : S → List Slot → List Slot) {x : S} {body : S → Prog (Turn S)} {f : S → Prog A} → ((y : S) (d : ℕ) → I y d → J y d) → ((y : S) (d : ℕ) → c ≤ d → I y d → Ok d (L y H) (turned (λ y. L y H)) (Turns I J) (body y)) → I x c → ((y : S) (d : ℕ) → c ≤ d → J y d → Ok d (L y H) K Q (f y)) → Ok c (L x H) K Q (Then (Loop x body) f)
  then_turns {H = H} I J L u k i h = ok-then (ok-turns {L = λ y. L y H} I J u i k) h

module _ {c : ℕ} {H : List Slot} {Q : ℕ → ℕ → Type 0} where
  pub ok-close : (u : Unfinished) → Q u.node c → Ok c (opened u ∷ H) (λ a. single a ∷ H) Q (close_node u)
  unfolding close_node close_node_at
  ok-close u q = then-calm calm-position (λ end. then-calm calm-close_at (λ x. ok-closed (ok-give q)))

module _ {c : ℕ} {H : List Slot} {Q : Unfinished → ℕ → Type 0} where
  pub ok-push : (u : Unfinished) (a : ℕ) → Order u.last a → a < c → ((v : Unfinished) → v.node ≡ u.node → v.last ≡ a → Q v c) → Ok c (single a ∷ (opened u ∷ H)) (λ v. opened v ∷ H) Q (push_child u a)
  unfolding push_child
  ok-push u a o l h = ok-then (ok-link u (record { node = u.node; last = a }) refl refl o l) (λ x d g q. rw q (ok-give (h _ refl refl)))

pub ok-fresh : {b c : ℕ} {H : List Slot} {p : Prog ℕ} → Fresh p → b ≤ c → Ok c H (λ a. single a ∷ H) (New b) p
ok-fresh {c = c} {H = H} x l = ok-weaken (x.fresh c H) (λ a d g q. record { low = omega (arith, q.low); high = q.high })

pub ok-maybe : {b c : ℕ} {H : List Slot} {p : Prog (Option ℕ)} → Maybe p → b ≤ c → Ok c H (either H H) (Newer b) p
ok-maybe {b} {c} {H} x l = ok-weaken (x.maybe c H) go
  where
    go : (o : Option ℕ) (d : ℕ) → c ≤ d → Newer c o d → Newer b o d
    go none d g nothing = nothing
    go (some a) d g (newer k j) = newer {a = a} {d = d} (omega arith) j

pub fresh : {p : Prog ℕ} → ((c : ℕ) (H : List Slot) → Ok c H (λ a. single a ∷ H) (New c) p) → Fresh p
fresh h = record { fresh = h }

pub maybe : {p : Prog (Option ℕ)} → ((c : ℕ) (H : List Slot) → Ok c H (either H H) (Newer c) p) → Maybe p
maybe h = record { maybe = h }

-- ---- programs that make no node

pub calm-give : {A : Type 0} {a : A} → Calm (Give a)
calm-give = record { calm = λ c H. ok-give refl }

pub calm-then : {A B : Type 0} {p : Prog A} {f : A → Prog B} → Calm p → ((a : A) → Calm (f a)) → Calm (Then p f)
calm-then x h = record { calm = λ c H. then-calm x (λ a. (h a).calm c H) }

pub calm_branch : {A : Type 0} {b : Bool} {p q : Prog A} → Calm p → Calm q → Calm (Branch b p q)
calm_branch x y = record { calm = λ c H. ok-branch (x.calm c H) (y.calm c H) }

pub calm-loop : {S : Type 0} {x : S} {body : S → Prog (Turn S)} → ((y : S) → Calm (body y)) → Calm (Loop x body)
calm-loop {S} {x} {body} h = record { calm = λ c H. ok-loop {L = λ _. H} (λ y d. d ≡ c) refl (λ y d l e. ok-held (λ w t g v. turned_same t v) (ok-weaken ((h y).calm d H) (λ t g k q. go t (q ∙ e)))) }
  where
    go : {c g : ℕ} (t : Turn S) → g ≡ c → Goes (λ y d. d ≡ c) t g
    go (again y) e = goes e
    go (stop y) e = ends e

    turned_same : {w : List ℕ} {d : ℕ} {H : List Slot} (t : Turn S) → Inv w d H → Inv w d (turned {S = S} (λ _. H) t)
    turned_same (again y) v = v
    turned_same (stop y) v = v

pub calm-update_kind : (u : Unfinished) (kind payload : ℕ) → kind ≤ Node.Error → Calm (update_kind u kind payload)
unfolding update_kind
calm-update_kind u kind payload k = calm-set_kind k

-- ---- deeper readers

pub maybe-expr : {mode : Mode} {min : ℕ} → Maybe (enter_expr mode min)
unfolding eval
maybe-expr {mode} {min} = maybe (λ c H. record { run = λ text tokens bound r g s m z e w. g.exprs mode min s m c H z e w })

pub fresh-block : {start kind : ℕ} → kind ≤ Node.Error → Fresh (enter_block start kind)
unfolding eval
fresh-block {start} {kind} k = fresh (λ c H. record { run = λ text tokens bound r g s m z e w. g.blocks start kind k s m c H z e w })

-- ---- what a program ends with

pub close-new : {b c : ℕ} {H : List Slot} (u : Unfinished) → b ≤ u.node → u.node < c → Ok c (opened u ∷ H) (λ a. single a ∷ H) (New b) (close_node u)
close-new u l h = ok-close u (new l h)

pub give-new : {b c a : ℕ} {H : List Slot} → b ≤ a → a < c → Ok c (single a ∷ H) (λ a. single a ∷ H) (New b) (Give a)
give-new l h = ok-give (new l h)

pub give-newer : {b c a : ℕ} {H J : List Slot} → b ≤ a → a < c → Ok c (single a ∷ J) (either H J) (Newer b) (Give (some a))
give-newer l h = ok-give (newer l h)

pub give-nothing : {b c : ℕ} {H J : List Slot} → Ok c H (either H J) (Newer b) (Give none)
give-nothing = ok-give nothing

pub push-open : {n c : ℕ} {H : List Slot} (u : Unfinished) (a : ℕ) → Order u.last a → a < c → u.node ≡ n → n < c → Ok c (single a ∷ (opened u ∷ H)) (λ v. opened v ∷ H) (Open n) (push_child u a)
push-open u a o l e h = ok-push u a o l (λ v p q. record { same = p ∙ e; made = h; last = omega arith })

-- A node that was opened since.
pub record Begun (b : ℕ) (u : Unfinished) (d : ℕ) : Type 0 where
  pub low : b ≤ u.node
  pub made : u.node < d
  pub last : u.last < d

pub push_begun : {b c : ℕ} {H : List Slot} (u : Unfinished) (a : ℕ) → Order u.last a → a < c → b ≤ u.node → u.node < c → Ok c (single a ∷ (opened u ∷ H)) (λ v. opened v ∷ H) (Begun b) (push_child u a)
push_begun u a o l g h = ok-push u a o l (λ v p q. record { low = omega arith; made = omega arith; last = omega arith })

pub give-begun : {b c : ℕ} {H : List Slot} (u : Unfinished) → b ≤ u.node → u.node < c → u.last < c → Ok c (opened u ∷ H) (λ v. opened v ∷ H) (Begun b) (Give u)
give-begun u l g h = ok-give (record { low = l; made = g; last = h })

pub give-open : {n c : ℕ} {H : List Slot} (u : Unfinished) → u.node ≡ n → n < c → u.last < c → Ok c (opened u ∷ H) (λ v. opened v ∷ H) (Open n) (Give u)
give-open u e h l = ok-give (open' e h l)

pub again-open : {n c : ℕ} {H : List Slot} (u : Unfinished) → u.node ≡ n → n < c → u.last < c → Ok c (opened u ∷ H) (turned (λ v. opened v ∷ H)) (Goes (Open n)) (Give (again u))
again-open u e h l = ok-give (goes (open' e h l))

pub stop-open : {n c : ℕ} {H : List Slot} (u : Unfinished) → u.node ≡ n → n < c → u.last < c → Ok c (opened u ∷ H) (turned (λ v. opened v ∷ H)) (Goes (Open n)) (Give (stop u))
stop-open u e h l = ok-give (ends (open' e h l))

-- An element of a list: one more, or the list as it is.
pub data Elem {S : Type 0} (I : S → ℕ → Type 0) (y : S) : Option S → ℕ → Type 0 where
  got : {z : S} {d : ℕ} → I z d → Elem I y (some z) d
  left : {d : ℕ} → I y d → Elem I y none d

abbrev pub chosen : {S : Type 0} → (S → List Slot) → S → Option S → List Slot
chosen L y none = L y
chosen L y (some z) = L z

pub then-elem : {S B : Type 0} {c : ℕ} {K : B → List Slot} {Q : B → ℕ → Type 0} {I : S → ℕ → Type 0} {L : S → List Slot} {y : S} {p : Prog (Option S)} {f : Option S → Prog B} → Ok c (L y) (chosen L y) (Elem I y) p
    → ((z : S) (d : ℕ) → c ≤ d → I z d → Ok d (L z) K Q (f (some z))) → ((d : ℕ) → c ≤ d → I y d → Ok d (L y) K Q (f none)) → Ok c (L y) K Q (Then p f)
then-elem {S} {B} {c} {K} {Q} {I} {L} {y} {p} {f} x h i = ok-then x go
  where
    go : (o : Option S) (d : ℕ) → c ≤ d → Elem I y o d → Ok d (chosen L y o) K Q (f o)
    go (some z) d l (got j) = h z d l j
    go none d l (left j) = i d l j

pub got-open : {n c : ℕ} {H : List Slot} (y u : Unfinished) → u.node ≡ n → n < c → u.last < c → Ok c (opened u ∷ H) (chosen (λ v. opened v ∷ H) y) (Elem (Open n) y) (Give (some u))
got-open y u e h l = ok-give (got (open' e h l))

pub left_open : {n c : ℕ} {H : List Slot} (u : Unfinished) → u.node ≡ n → n < c → u.last < c → Ok c (opened u ∷ H) (chosen (λ v. opened v ∷ H) u) (Elem (Open n) u) (Give none)
left_open u e h l = ok-give (left (open' e h l))

-- ---- answers that may be none

pub calm-option : {A B : Type 0} {p : A → Prog B} {q : Prog B} (o : Option A) → ((a : A) → Calm (p a)) → Calm q → Calm {A = B} (elim o [ some a ↦ p a | none ↦ q ])
calm-option (some a) x y = x a
calm-option none x y = y

pub ok-option : {A B : Type 0} {c : ℕ} {H : List Slot} {K : B → List Slot} {Q : B → ℕ → Type 0} {p : A → Prog B} {q : Prog B} (o : Option A) → ((a : A) → Ok c H K Q (p a)) → Ok c H K Q q → Ok {A = B} c H K Q (elim o [ some a ↦ p a | none ↦ q ])
ok-option (some a) x y = x a
ok-option none x y = y

pub maybe-option : {A : Type 0} {p : A → Prog (Option ℕ)} {q : Prog (Option ℕ)} (o : Option A) → ((a : A) → Maybe (p a)) → Maybe q → Maybe (elim o [ some a ↦ p a | none ↦ q ])
maybe-option (some a) x y = x a
maybe-option none x y = y

pub ok-newer : {B : Type 0} {b c : ℕ} {H J : List Slot} {K : B → List Slot} {Q : B → ℕ → Type 0} {p : ℕ → Prog B} {q : Prog B} (o : Option ℕ) → Newer b o c → ((a : ℕ) → b ≤ a → a < c → Ok c (single a ∷ J) K Q (p a)) → Ok c H K Q q → Ok {A = B} c (either H J o) K Q (elim o [ some a ↦ p a | none ↦ q ])
ok-newer (some a) (newer l h) x y = x a l h
ok-newer none nothing x y = y

pub then-newer : {A : Type 0} {b c : ℕ} {G H J : List Slot} {K : A → List Slot} {Q : A → ℕ → Type 0} {p : Prog (Option ℕ)} {f : Option ℕ → Prog A} → Ok c G (either H J) (Newer b) p → ((a d : ℕ) → c ≤ d → b ≤ a → a < d → Ok d (single a ∷ J) K Q (f (some a))) → ((d : ℕ) → c ≤ d → Ok d H K Q (f none)) → Ok c G K Q (Then p f)
then-newer {A} {b} {c} {G} {H} {J} {K} {Q} {p} {f} x h i = ok-then x go
  where
    go : (o : Option ℕ) (d : ℕ) → c ≤ d → Newer b o d → Ok d (either H J o) K Q (f o)
    go none d l nothing = i d l
    go (some a) d l (newer k j) = h a d l k j

-- ---- a child that waits for its place: none, or one that is newer than the list and than the list's last child

pub data Waits (n : ℕ) (u : Unfinished) : Option ℕ → ℕ → Type 0 where
  idle : {d : ℕ} → Waits n u none d
  waits : {a d : ℕ} → n < a → u.last < a → a < d → Waits n u (some a) d

pub record Both (n : ℕ) (u : Unfinished) (o : Option ℕ) (d : ℕ) : Type 0 where
  pub list : Open n u d
  pub rest : Waits n u o d

pub both-idle : {n d : ℕ} {u : Unfinished} → Open n u d → Both n u none d
both-idle o = record { list = o; rest = idle }

pub both-waits : {n a d : ℕ} {u : Unfinished} → Open n u d → n < a → u.last < a → a < d → Both n u (some a) d
both-waits o l h g = record { list = o; rest = waits l h g }

-- The list is held, and below it what waits.
abbrev pub pair : Unfinished → Option ℕ → List Slot → List Slot
pair u o H = opened u ∷ either H H o

pub waits-on : {n c d : ℕ} {u : Unfinished} {o : Option ℕ} → Waits n u o c → c ≤ d → Waits n u o d
waits-on idle l = idle
waits-on {d = d} (waits {a = a} x y z) l = waits {a = a} {d = d} x y (omega arith)

-- What was just read may wait.
pub waiting : {n b d : ℕ} {u : Unfinished} {o : Option ℕ} → Newer b o d → n < b → u.last < b → Waits n u o d
waiting nothing l h = idle
waiting {d = d} (newer {a = a} x y) l h = waits {a = a} {d = d} (omega arith) (omega arith) y

-- It is linked, if there is one: the last child is older than what was read since. It was read last.
pub then-option-read : {A : Type 0} {n c d : ℕ} {H : List Slot} {K : A → List Slot} {Q : A → ℕ → Type 0} (u : Unfinished) (o : Option ℕ) {f : Unfinished → Prog A} → Waits n u o c → u.last < c → c ≤ d → ((v : Unfinished) → v.node ≡ u.node → v.last < c → Ok d (opened v ∷ H) K Q (f v)) → Ok d (either (opened u ∷ H) (opened u ∷ H) o) K Q (Then (push_option u o) f)
unfolding push_option
then-option-read u none idle l g h = then-give (h u refl l)
then-option-read u (some a) (waits x y z) l g h = then-push u a (later y) (omega arith) (λ v e i. h v e (omega arith))

-- The same below a node that was read since and is linked later.
pub then-option-below : {A : Type 0} {n c d b : ℕ} {H : List Slot} {K : A → List Slot} {Q : A → ℕ → Type 0} (u : Unfinished) (o : Option ℕ) {f : Unfinished → Prog A} → Waits n u o c → u.last < c → c ≤ d → ((v : Unfinished) → v.node ≡ u.node → v.last < c → Ok d (single b ∷ (opened v ∷ H)) K Q (f v)) → Ok d (single b ∷ pair u o H) K Q (Then (push_option u o) f)
unfolding push_option
then-option-below u none idle l g h = then-give (h u refl l)
then-option-below u (some a) (waits x y z) l g h = ok-under (ok-swap (ok-under (then-push u a (later y) (omega arith) (λ v e i. ok-swap (h v e (omega arith))))))

-- A list that is done is linked past what waits.
pub then-push-list : {A : Type 0} {c : ℕ} {K : A → List Slot} {Q : A → ℕ → Type 0} (H : List Slot) (u : Unfinished) (a : ℕ) (o : Option ℕ) {f : Unfinished → Prog A} → Order u.last a → a < c → ((v : Unfinished) → v.node ≡ u.node → v.last ≡ a → Ok c (pair v o H) K Q (f v)) → Ok c (single a ∷ either (opened u ∷ H) (opened u ∷ H) o) K Q (Then (push_child u a) f)
then-push-list H u a none o l h = then-push u a o l h
then-push-list H u a (some b) o l h = ok-under (then-push u a o l h)

pub then-closing : {A : Type 0} {n c : ℕ} {H : List Slot} {K : A → List Slot} {Q : A → ℕ → Type 0} {w : Unfinished} (u : Unfinished) (list : ℕ) (o : Option ℕ) {f : Unfinished → Prog A} → Waits n w o c → u.last ≡ n → ((v : Unfinished) → v.node ≡ u.node → Ok c (opened v ∷ H) K Q (f v)) → Ok c (pair u o H) K Q (Then (push_closing u list o) f)
unfolding push_closing
then-closing u list none idle e h = then-give (h u refl)
then-closing u list (some a) (waits x y z) e h = then-then (then-calm calm-close_at_start (λ _. ok-swap (then-push u a (later (omega arith)) z (λ v p q. h v p))))
