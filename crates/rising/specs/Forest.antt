-- A store of nodes that the words stand for, in which the nodes without a parent are just those that a program still holds.
use Rattle.std.specs.Prelude.{◌≡◌, ◌≢◌, ◌⊎◌, Bool, true, false, List, [], ◌∷◌, ◌++◌, ℕ, suc, ◌+◌, ◌*◌, ◌≤◌, ◌<◌, length, set}
use Rattle.std.proofs.Math.Path.{refl}
use Rattle.std.proofs.Common.{sym, ◌∙◌, ap, subst, inl, inr, arith, length-set, length-append, get_or-set_other}
use Rattle.std.proofs.Math.Decide.{ℕ_discrete}
use borrow.Author.Tests.{lt-ltb, eq-eqb}
use Rattle.std.proofs.Math.ListN.{get_or-append}
use Rattle.std.proofs.lemmas.List.Edits.{sets}
use Rattle.std.proofs.Math.Seq.{length-sets, get_or-append_seam}
use Rattle.words.specs.Words.{node_width, node_words}
use Rattle.definition.specs.declared.Unfinished.{Unfinished}
use Rattle.definition.specs.Prog.{next_word, child_word, parent_word}
use Rattle.definition.specs.Abstract.{Node, no_node, node_at, new_node, adopted, last_kid, may_adopt}
use Rattle.definition.specs.Encodes.{place, Encodes, frame, links-new, links-adopted, kids-same, kids-other, own_same, own-other, adopted-length}
use Rattle.rising.specs.Linked.{In, first, later}
use Rattle.rising.specs.Weights.{Weighed, weighed-none, weighed-new, weighed-link}

-- What a program holds: a node that is open, or one that is done and to be linked; with it whether it is File, which nobody links.
pub data Slot : Type 0 where
  opens : Bool → Unfinished → Slot
  ended : Bool → ℕ → Slot

abbrev pub opened : Unfinished → Slot
opened u = opens false u

abbrev pub filed : Unfinished → Slot
filed u = opens true u

abbrev pub single : ℕ → Slot
single a = ended false a

abbrev pub base : ℕ → Slot
base a = ended true a

abbrev pub node_in : Slot → ℕ
node_in (opens file u) = u.node
node_in (ended file a) = a

-- File is node 0, so any other has a number above it.
abbrev pub Above : Bool → ℕ → Type 0
Above true n = Unit {0}
Above false n = 0 < n

-- A root of the store.
pub record Root (st : List Node) (n : ℕ) : Type 0 where
  pub made : n < length st
  pub alone : (node_at st n).own ≡ 0

pub data Holds (st : List Node) : Slot → Type 0 where
  is_open : {file : Bool} {u : Unfinished} → Above file u.node → Root st u.node → u.last ≡ last_kid (node_at st u.node).kids → Holds st (opens file u)
  is-ended : {file : Bool} {a : ℕ} → Above file a → Root st a → Holds st (ended file a)

pub root-of : {st : List Node} {x : Slot} → Holds st x → Root st (node_in x)
root-of (is_open z r q) = r
root-of (is-ended z r) = r

-- A node that is held stays so where its parent and its children stay.
holds_kept : {st su : List Node} {x : Slot} → length st ≤ length su → (node_at su (node_in x)).own ≡ (node_at st (node_in x)).own → (node_at su (node_in x)).kids ≡ (node_at st (node_in x)).kids → Holds st x → Holds su x
holds_kept l o k (is_open {u = u} z r q) = is_open {u = u} z (record { made = omega (arith, r.made); alone = o ∙ r.alone }) (q ∙ ap last_kid (sym k))
holds_kept l o k (is-ended {a = a} z r) = is-ended {a = a} z (record { made = omega (arith, r.made); alone = o ∙ r.alone })

-- A node in none of some slots, and in one of them.
pub data Apart (n : ℕ) : List Slot → Type 0 where
  none-there : Apart n []
  apart : {x : Slot} {xs : List Slot} → n ≢ node_in x → Apart n xs → Apart n (x ∷ xs)

pub data Among (n : ℕ) : List Slot → Type 0 where
  at_head : {x : Slot} {xs : List Slot} → n ≡ node_in x → Among n (x ∷ xs)
  further : {x : Slot} {xs : List Slot} → Among n xs → Among n (x ∷ xs)

-- All are held, each node once.
pub data Held (st : List Node) : List Slot → Type 0 where
  empty : Held st []
  more : {x : Slot} {xs : List Slot} → Holds st x → Apart (node_in x) xs → Held st xs → Held st (x ∷ xs)

pub record Forest (w : List ℕ) (count : ℕ) (H : List Slot) : Type 0 where
  pub store : List Node
  pub counted : length store ≡ count
  pub room : node_width * length store ≤ length w
  pub links : Encodes w store
  pub back : (i p : ℕ) → i < length store → (node_at store i).own ≡ suc p → (p < length store) × In i (node_at store p).kids
  pub weights : Weighed store
  pub held : Held store H
  pub roots : (i : ℕ) → Root store i → Among i H

pub forest-none : (w : List ℕ) → Forest w 0 []
forest-none w =
    record {
      store = [];
      counted = refl;
      room = omega arith;
      links = record { firsts = λ i l. absurd (omega arith); chains = λ i l. absurd (omega arith); free = λ i l. absurd (omega arith); owns = λ i l. absurd (omega arith) };
      back = λ i p l. absurd (omega arith);
      weights = weighed-none;
      held = empty;
      roots = λ i r. absurd (omega (arith, r.made));
    }

-- ---- slots in another order, and an open node that is done

swap-held : {st : List Node} {x y : Slot} {H : List Slot} → Held st (x ∷ (y ∷ H)) → Held st (y ∷ (x ∷ H))
swap-held (more a (apart q p) (more b r h)) = more b (apart (λ e. q (sym e)) r) (more a p h)

swap-among : {n : ℕ} {x y : Slot} {H : List Slot} → Among n (x ∷ (y ∷ H)) → Among n (y ∷ (x ∷ H))
swap-among (at_head e) = further (at_head e)
swap-among (further (at_head e)) = at_head e
swap-among (further (further r)) = further (further r)

module _ {w : List ℕ} {count : ℕ} where
  -- The same store, held otherwise.
  again-held : {H J : List Slot} (f : Forest w count H) → Held f.store J → ((i : ℕ) → Among i H → Among i J) → Forest w count J
  again-held f h k = record { store = f.store; counted = f.counted; room = f.room; links = f.links; back = f.back; weights = f.weights; held = h; roots = λ i r. k i (f.roots i r) }

  pub swapped : {x y : Slot} {H : List Slot} → Forest w count (x ∷ (y ∷ H)) → Forest w count (y ∷ (x ∷ H))
  swapped f = again-held f (swap-held f.held) (λ i a. swap-among a)

  -- The second and the third.
  pub swapped-below : {x y z : Slot} {H : List Slot} → Forest w count (x ∷ (y ∷ (z ∷ H))) → Forest w count (x ∷ (z ∷ (y ∷ H)))
  swapped-below {x} {y} {z} {H} f = again-held f (go f.held) (λ i a. to a)
    where
      go : Held f.store (x ∷ (y ∷ (z ∷ H))) → Held f.store (x ∷ (z ∷ (y ∷ H)))
      go (more a (apart p (apart q r)) h) = more a (apart q (apart p r)) (swap-held h)

      to : {i : ℕ} → Among i (x ∷ (y ∷ (z ∷ H))) → Among i (x ∷ (z ∷ (y ∷ H)))
      to (at_head e) = at_head e
      to (further a) = further (swap-among a)

  pub closed : {file : Bool} {u : Unfinished} {H : List Slot} → Forest w count (opens file u ∷ H) → Forest w count (ended file u.node ∷ H)
  closed {file} {u} {H} f = again-held f (go f.held) (λ i a. to a)
    where
      go : Held f.store (opens file u ∷ H) → Held f.store (ended file u.node ∷ H)
      go (more (is_open z r l) a h) = more (is-ended z r) a h

      to : {i : ℕ} → Among i (opens file u ∷ H) → Among i (ended file u.node ∷ H)
      to (at_head e) = at_head e
      to (further a) = further a

-- ---- words that are no links

-- One of the first three words of a node is written.
pub forest-word : {w : List ℕ} {count : ℕ} {H : List Slot} (n j v : ℕ) → j < 3 → Forest w count H → Forest (set w (place n j) v) count H
forest-word {w} n j v l f =
    record {
      store = f.store;
      counted = f.counted;
      room = simp length-set f.room;
      links = record {
        firsts = λ i h. get_or-set_other w (place n j) (place i child_word) v 0 (omega arith) ∙ f.links.firsts i h;
        chains = λ i h. frame (f.links.chains i h) (omega arith) (λ k b q. (q, get_or-set_other w (place n j) (place k next_word) v 0 (omega arith)));
        free = λ i h q. get_or-set_other w (place n j) (place i next_word) v 0 (omega arith) ∙ f.links.free i h q;
        owns = λ i h. get_or-set_other w (place n j) (place i parent_word) v 0 (omega arith) ∙ f.links.owns i h;
      };
      back = f.back;
      weights = f.weights;
      held = f.held;
      roots = f.roots;
    }

-- ---- one more node

held-old : {st su : List Node} {H : List Slot} → length st ≤ length su → ((i : ℕ) → i < length st → node_at su i ≡ node_at st i) → Held st H → Held su H
held-old l e empty = empty
held-old l e (more {x = y} x a h) =
    let q = e (node_in y) (root-of x).made in
    more (holds_kept l (ap (λ n. n.own) q) (ap (λ n. n.kids) q) x) a (held-old l e h)

apart-new : {st : List Node} {H : List Slot} → Held st H → Apart (length st) H
apart-new empty = none-there
apart-new {st} (more {x = y} x a h) = let g : node_in y < length st = (root-of x).made in apart {x = y} (λ e. omega (arith, e, g)) (apart-new h)

module _ {w : List ℕ} {count : ℕ} {H : List Slot} (start kind payload : ℕ) (fits : node_width * count + node_width ≤ length w) (f : Forest w count H) where
  abbrev st : List Node
  st = f.store

  abbrev su : List Node
  su = st ++ (new_node start kind payload ∷ [])

  abbrev words : List ℕ
  words = sets w (node_width * count) (node_words (record { kind = kind; payload = payload; first = start; end = start; next = 0; child = 0; parent = 0 }))

  long : length su ≡ suc (length st)
  long = length-append st (new_node start kind payload ∷ []) ∙ omega arith

  old : (i : ℕ) → i < length st → node_at su i ≡ node_at st i
  old i l = get_or-append st (new_node start kind payload ∷ []) no_node i l

  fresh : node_at su (length st) ≡ new_node start kind payload
  fresh = get_or-append_seam st (new_node start kind payload) [] no_node

  links-words : Encodes words su
  links-words =
      let g : node_width * length st + node_width ≤ length w = omega (arith, f.counted, fits) in
      subst (λ (k : ℕ). Encodes (sets w (node_width * k) (node_words (record { kind = kind; payload = payload; first = start; end = start; next = 0; child = 0; parent = 0 }))) su) f.counted (links-new w st start kind payload g f.links)

  back-new : (i p : ℕ) → i < suc (length st) → (node_at su i).own ≡ suc p → Dec (i ≡ length st) → (p < suc (length st)) × In i (node_at su p).kids
  back-new i p l e (yes q) = absurd (let h : (node_at su (length st)).own ≡ suc p = rw q at e in omega (arith, ap (λ n. n.own) fresh))
  back-new i p l e (no q) =
      let g : i < length st = omega arith in
      let b = f.back i p g (ap (λ n. n.own) (sym (old i g)) ∙ e) in
      (omega (arith, b.0), rw (old p b.0) b.1)

  roots-new : {x : Slot} (i : ℕ) → node_in x ≡ length st → Root su i → Dec (i ≡ length st) → Among i (x ∷ H)
  roots-new i e r (yes q) = at_head (q ∙ sym e)
  roots-new i e r (no q) =
      let g : i < length st = omega (arith, r.made, long) in
      further (f.roots i (record { made = g; alone = ap (λ n. n.own) (sym (old i g)) ∙ r.alone }))

  new-root : Root su (length st)
  new-root = record { made = omega (arith, long); alone = ap (λ n. n.own) fresh }

  roomy : node_width * length su ≤ length words
  roomy = rw (length-sets w (node_width * count) (node_words (record { kind = kind; payload = payload; first = start; end = start; next = 0; child = 0; parent = 0 }))) (omega (arith, long, f.counted, fits))

  grown : {x : Slot} → node_in x ≡ length st → Holds su x → Forest words (count + 1) (x ∷ H)
  grown {x} e h =
      record {
        store = su;
        counted = omega (arith, long, f.counted);
        room = roomy;
        links = links-words;
        back = λ i p l q. let b = back-new i p (rw long at l) q (ℕ_discrete i (length st)) in (omega (arith, b.0, long), b.1);
        weights = weighed-new st su long (λ i l. ap (λ n. n.own) (old i l)) (ap (λ n. n.own) fresh) (λ i p l q. (f.back i p l q).0) f.weights;
        held = more {xs = H} h (rw e (apart-new f.held)) (held-old (omega (arith, long)) old f.held);
        roots = λ i r. roots-new i e r (ℕ_discrete i (length st));
      }

  pub forest-new : (file : Bool) (u : Unfinished) → u.node ≡ count → u.last ≡ 0 → Above file count → Forest words (count + 1) (opens file u ∷ H)
  forest-new file u e z l =
      let k : u.node ≡ length st = e ∙ sym f.counted in
      grown k (is_open (rw e l) (rw k new-root) (rw (k, fresh) z))

-- ---- a child linked

held_on : {st su : List Node} {n a : ℕ} {H : List Slot} → length su ≡ length st → ((i : ℕ) → i ≢ n → (node_at su i).kids ≡ (node_at st i).kids) → ((i : ℕ) → i ≢ a → (node_at su i).own ≡ (node_at st i).own) → Apart n H → Apart a H → Held st H → Held su H
held_on e k o none-there none-there empty = empty
held_on e k o (apart p p₁) (apart q q₁) (more {x = y} x r h) =
    more (holds_kept (omega (arith, e)) (o (node_in y) (λ i. q (sym i))) (k (node_in y) (λ i. p (sym i))) x) r (held_on e k o p₁ q₁ h)

module _ {w : List ℕ} {count : ℕ} {H : List Slot} {x : Slot} (l a : ℕ) (f : Forest w count (single a ∷ (x ∷ H))) where
  abbrev n : ℕ
  n = node_in x

  abbrev sa : List Node
  sa = adopted n a f.store

  record Parts : Type 0 where
    apart-na : a ≢ n
    pos : 0 < a
    child : Root f.store a
    far : Apart a H
    near : Apart n H
    parent : Holds f.store x
    rest : Held f.store H

  parts : Parts
  parts = go f.held
    where
      go : Held f.store (single a ∷ (x ∷ H)) → Parts
      go (more (is-ended z r) (apart p q) (more y s h)) = record { apart-na = p; pos = z; child = r; far = q; near = s; parent = y; rest = h }

  root-n : Root f.store n
  root-n = root-of parts.parent

  same_length : length sa ≡ length f.store
  same_length = adopted-length n a f.store

  kids-n : (node_at sa n).kids ≡ a ∷ (node_at f.store n).kids
  kids-n = kids-same f.room f.links n a root-n.made parts.child.made parts.child.alone

  kids-else : (i : ℕ) → i ≢ n → (node_at sa i).kids ≡ (node_at f.store i).kids
  kids-else = kids-other f.room f.links n a root-n.made parts.child.made parts.child.alone

  own-a : (node_at sa a).own ≡ suc n
  own-a = own_same f.room f.links n a root-n.made parts.child.made parts.child.alone

  own-else : (i : ℕ) → i ≢ a → (node_at sa i).own ≡ (node_at f.store i).own
  own-else = own-other f.room f.links n a root-n.made parts.child.made parts.child.alone

  back-link : (i p : ℕ) → i < length f.store → (node_at sa i).own ≡ suc p → Dec (i ≡ a) → (p < length f.store) × In i (node_at sa p).kids
  back-link i p h e (yes q) =
      let g : (node_at sa a).own ≡ suc p = rw q at e in
      let k : p ≡ n = omega (arith, own-a) in
      rw (k, q) (root-n.made, rw kids-n (first refl))
  back-link i p h e (no q) = go (ℕ_discrete p n)
    where
      b : (p < length f.store) × In i (node_at f.store p).kids
      b = f.back i p h (sym (own-else i q) ∙ e)

      go : Dec (p ≡ n) → (p < length f.store) × In i (node_at sa p).kids
      go (yes z) = (b.0, rw (z, kids-n) (later (rw z at b.1)))
      go (no z) = (b.0, rw (kids-else p z) b.1)

  roots-link : {y : Slot} (i : ℕ) → node_in y ≡ n → Root sa i → Dec (i ≡ a) → Among i (y ∷ H)
  roots-link i e r (yes q) = absurd (let g : (node_at sa a).own ≡ 0 = rw q at r.alone in omega (arith, own-a))
  roots-link {y} i e r (no q) = go (f.roots i (record { made = rw same_length at r.made; alone = sym (own-else i q) ∙ r.alone }))
    where
      go : Among i (single a ∷ (x ∷ H)) → Among i (y ∷ H)
      go (at_head z) = absurd (q z)
      go (further (at_head z)) = at_head (z ∙ sym e)
      go (further (further z)) = further z

  root-sa : Root sa n
  root-sa = record { made = rw same_length root-n.made; alone = own-else n (λ z. parts.apart-na (sym z)) ∙ root-n.alone }

  -- In other words, where they stand for the store with the child linked.
  linked-by : {y : Slot} (v : List ℕ) → length v ≡ length w → Encodes v sa → node_in y ≡ n → Holds sa y → Forest v count (y ∷ H)
  linked-by {y} v e enc k h =
      record {
        store = sa;
        counted = same_length ∙ f.counted;
        room = rw (same_length, e) f.room;
        links = enc;
        back = λ i p g q. let b = back-link i p (rw same_length at g) q (ℕ_discrete i a) in (rw same_length b.0, b.1);
        weights = weighed-link f.store sa n a same_length root-n.made parts.child.made root-n.alone parts.child.alone parts.apart-na own-a own-else f.weights;
        held = more {xs = H} h (rw k parts.near) (held_on same_length kids-else own-else parts.near parts.far parts.rest);
        roots = λ i r. roots-link i k r (ℕ_discrete i a);
      }

  -- It may be linked after the last child.
  may : l ≡ last_kid (node_at f.store n).kids → l < a → may_adopt n l a f.store ≡ true
  unfolding may_adopt
  may e h = rw (lt-ltb n (length f.store) root-n.made, lt-ltb a (length f.store) parts.child.made, eq-eqb (node_at f.store a).own 0 parts.child.alone, eq-eqb l (last_kid (node_at f.store n).kids) e, lt-ltb l a h) refl

  pub record Linking (v u : List ℕ) (y : Slot) : Type 0 where
    pub parent : n < count
    pub child : a < count
    pub as_first : l ≡ 0 → Forest v count (y ∷ H)
    pub as-next : l ≢ 0 → (l < count) × Forest u count (y ∷ H)

  link-with : {y : Slot} → node_in y ≡ n → Holds sa y → l ≡ last_kid (node_at f.store n).kids → l < a → Linking (set (set w (place n child_word) a) (place a parent_word) n) (set (set w (place l next_word) a) (place a parent_word) n) y
  link-with k h e g =
      let z = links-adopted n l a f.room f.links (may e g) in
      record {
        parent = rw (← f.counted) root-n.made;
        child = rw (← f.counted) parts.child.made;
        as_first = λ q. linked-by _ (simp length-set refl) (z.2 q) k h;
        as-next = λ q. (rw (← f.counted) (z.3 q).0, linked-by _ (simp length-set refl) (z.3 q).1 k h);
      }

-- An open node gets its next child.
module _ {w : List ℕ} {count : ℕ} {H : List Slot} {file : Bool} (u v : Unfinished) (a : ℕ) (e : v.node ≡ u.node) (k : v.last ≡ a) where
  pub forest-link : (f : Forest w count (single a ∷ (opens file u ∷ H))) → (u.last ≡ 0) ⊎ (u.last < a)
      → Linking u.last a f (set (set w (place u.node child_word) a) (place a parent_word) u.node) (set (set w (place u.last next_word) a) (place a parent_word) u.node) (opens file v)
  forest-link f o = go (parts u.last a f).parent
    where
      below : (u.last ≡ 0) ⊎ (u.last < a) → u.last < a
      below (inl z) = omega (arith, (parts u.last a f).pos)
      below (inr h) = h

      go : Holds f.store (opens file u)
          → Linking u.last a f (set (set w (place u.node child_word) a) (place a parent_word) u.node) (set (set w (place u.last next_word) a) (place a parent_word) u.node) (opens file v)
      go (is_open z r h) = link-with u.last a f e (is_open (rw e z) (rw e (root-sa u.last a f)) (rw (e, kids-n u.last a f) k)) h (below o)
