-- The words that stand for a store of nodes.
use Rattle.std.specs.Prelude.{◌≡◌, ◌≢◌, Bool, true, false, ◌&&◌, List, [], ◌∷◌, ◌++◌, set}
use Rattle.std.proofs.Math.Path.{refl, sym, ap}
use Rattle.std.proofs.Common.{◌∙◌, arith, le_refl, le_of_eq, ltb-true, eqb-true, length-append}
use Prim.Native.Nat.{ℕ, zero, suc, ◌+◌, ◌*◌, ◌≤◌, ◌<◌, pred}
use Rattle.std.proofs.Math.Decide.{ℕ_discrete}
use Rattle.std.proofs.Math.ListN.{length, get_or, length-set, get_or-append}
use Rattle.std.proofs.lemmas.List.Edits.{sets}
use Rattle.std.proofs.Math.Seq.{length-sets, get_or-set_same, get_or-set_other, get_or-append_seam, set_out}
use Rattle.words.specs.Words.{node_width, node_words}
use Rattle.definition.specs.Prog.{next_word, child_word, parent_word}
use Rattle.definition.specs.Abstract.{Node, no_node, node_at, word, with_word, with_kid, with_own, new_node, written, adopted, last_kid, may_adopt}

-- ---- lists

-- What a change of one element doesn't change.
pub keep {ℓ κ} : {A : Type ℓ} {B : Type κ} (f : A → B) (l : List A) (i : ℕ) (y d : A) → f y ≡ f (get_or l i d) → (j : ℕ) → f (get_or (set l i y) j d) ≡ f (get_or l j d)
keep f [] i y d e j = refl
keep f (x ∷ l) zero y d e zero = e
keep f (x ∷ l) zero y d e (suc j) = refl
keep f (x ∷ l) (suc i) y d e zero = refl
keep f (x ∷ l) (suc i) y d e (suc j) = keep f l i y d e j

pub sets-before : (vs l : List ℕ) (a i : ℕ) → i < a → get_or (sets l a vs) i 0 ≡ get_or l i 0
sets-before [] l a i h = refl
sets-before (v ∷ vs) l a i h = sets-before vs (set l a v) (suc a) i (omega arith) ∙ get_or-set_other l a i v 0 (omega arith)

pub sets-in : (vs l : List ℕ) (a j : ℕ) → j < length vs → a + length vs ≤ length l → get_or (sets l a vs) (a + j) 0 ≡ get_or vs j 0
sets-in [] l a j h g = absurd (omega arith)
sets-in (v ∷ vs) l a zero h g =
    let e : a + 0 ≡ a = omega arith in
    rw e (sets-before vs (set l a v) (suc a) a (omega arith) ∙ get_or-set_same l a v 0 (omega arith))
sets-in (v ∷ vs) l a (suc j) h g =
    let e : a + suc j ≡ suc a + j = omega arith in
    rw e (sets-in vs (set l a v) (suc a) j (omega arith) (simp length-set (omega arith)))

-- ---- a node's words

word_same : (j v : ℕ) (n : Node) → word j (with_word j v n) ≡ v
word_same zero v n = refl
word_same (suc zero) v n = refl
word_same (suc (suc j)) v n = refl

word-other : (j k v : ℕ) (n : Node) → j < 3 → k < 3 → k ≢ j → word k (with_word j v n) ≡ word k n
word-other zero zero v n a b h = absurd (h refl)
word-other zero (suc zero) v n a b h = refl
word-other zero (suc (suc k)) v n a b h = refl
word-other (suc zero) zero v n a b h = refl
word-other (suc zero) (suc zero) v n a b h = absurd (h refl)
word-other (suc zero) (suc (suc k)) v n a b h = refl
word-other (suc (suc j)) zero v n a b h = refl
word-other (suc (suc j)) (suc zero) v n a b h = refl
word-other (suc (suc j)) (suc (suc k)) v n a b h = absurd (h (omega arith))

with_kids : (j v : ℕ) (n : Node) → (with_word j v n).kids ≡ n.kids
with_kids zero v n = refl
with_kids (suc zero) v n = refl
with_kids (suc (suc j)) v n = refl

with-own : (j v : ℕ) (n : Node) → (with_word j v n).own ≡ n.own
with-own zero v n = refl
with-own (suc zero) v n = refl
with-own (suc (suc j)) v n = refl

-- ---- the words of a store

abbrev pub place : ℕ → ℕ → ℕ
place i j = node_width * i + j

abbrev pub next : List ℕ → ℕ → ℕ
next w i = get_or w (place i next_word) 0

-- The parent that the words of a node tell.
abbrev pub parent_of : List ℕ → ℕ → ℕ
parent_of w i = get_or w (place i parent_word) 0

abbrev pub first_kid : List ℕ → ℕ
first_kid [] = 0
first_kid (x ∷ []) = x
first_kid (x ∷ (y ∷ ys)) = first_kid (y ∷ ys)

-- Children, the last one first, below `b`: each has the parent `o`, and its next sibling is the one before it in the list.
pub data Kids (w : List ℕ) (st : List Node) (o : ℕ) : ℕ → ℕ → List ℕ → Type 0 where
  nobody : {b n : ℕ} → Kids w st o b n []
  kid : {b n x : ℕ} {xs : List ℕ} → 0 < x → x < b → (node_at st x).own ≡ o → next w x ≡ n → Kids w st o x x xs → Kids w st o b n (x ∷ xs)

-- Room for the nodes, and their first three words.
pub record Plain (w : List ℕ) (st : List Node) : Type 0 where
  pub room : node_width * length st ≤ length w
  pub words : (i j : ℕ) → i < length st → j < 3 → get_or w (place i j) 0 ≡ word j (node_at st i)

-- And the links, with the parent of each node.
pub record Encodes (w : List ℕ) (st : List Node) : Type 0 where
  pub firsts : (i : ℕ) → i < length st → get_or w (place i child_word) 0 ≡ first_kid (node_at st i).kids
  pub chains : (i : ℕ) → i < length st → Kids w st (suc i) (length st) 0 (node_at st i).kids
  pub free : (i : ℕ) → i < length st → (node_at st i).own ≡ 0 → next w i ≡ 0
  pub owns : (i : ℕ) → i < length st → parent_of w i ≡ pred (node_at st i).own

-- Children stay children in other words and another store, where their parent and their next siblings stay.
pub frame : {w v : List ℕ} {st su : List Node} {o b c n : ℕ} {xs : List ℕ} → Kids w st o b n xs → b ≤ c
    → ((x : ℕ) → x < b → (node_at st x).own ≡ o → ((node_at su x).own ≡ o) × (next v x ≡ next w x)) → Kids v su o c n xs
frame nobody h f = nobody
frame {c = c} (kid {b = b} {x = x} z p q r k) h f =
    let l : x < c = omega arith in
    let m : x ≤ x = omega arith in
    kid z l (f x p q).0 ((f x p q).1 ∙ r) (frame k m (λ y a e. let g : y < b = omega arith in f y g e))

-- ---- a word of a node written

pub written-length : (n j v : ℕ) (st : List Node) → length (written n j v st) ≡ length st
unfolding written
written-length n j v st = simp length-set

pub written_none : (n j v : ℕ) (st : List Node) → length st ≤ n → written n j v st ≡ st
unfolding written
written_none n j v st h = set_out st n (with_word j v (node_at st n)) h

module _ {w : List ℕ} {st : List Node} (n j v : ℕ) (hn : n < length st) (hj : j < 3) where
  pub plain-written : Plain w st → Plain (set w (place n j) v) (written n j v st)
  unfolding written
  plain-written e =
      record {
        room = simp length-set e.room;
        words = λ i k l g. go i k (rw (length-set st n (with_word j v (node_at st n))) at l) g (ℕ_discrete i n) (ℕ_discrete k j);
      }
    where
      go : (i k : ℕ) → i < length st → k < 3 → Dec (i ≡ n) → Dec (k ≡ j) → get_or (set w (place n j) v) (place i k) 0 ≡ word k (node_at (set st n (with_word j v (node_at st n))) i)
      go i k l g (yes p) (yes q) = rw (p, q, get_or-set_same st n (with_word j v (node_at st n)) no_node hn) (get_or-set_same w (place n j) v 0 (omega (arith, e.room)) ∙ sym (word_same j v (node_at st n)))
      go i k l g (yes p) (no q) =
          rw (p, get_or-set_same st n (with_word j v (node_at st n)) no_node hn)
          (get_or-set_other w (place n j) (place n k) v 0 (λ x. q (omega arith)) ∙ (e.words n k hn g ∙ sym (word-other j k v (node_at st n) hj g q)))
      go i k l g (no p) d = rw (get_or-set_other st n i (with_word j v (node_at st n)) no_node p) (get_or-set_other w (place n j) (place i k) v 0 (λ x. p (omega arith)) ∙ e.words i k l g)

  pub links-written : Encodes w st → Encodes (set w (place n j) v) (written n j v st)
  unfolding written
  links-written e =
      let z : Node = with_word j v (node_at st n) in
      let len : length (set st n z) ≡ length st = length-set st n z in
      record {
        firsts = λ i l. rw (keep (λ x. x.kids) st n z no_node (with_kids j v (node_at st n)) i) (get_or-set_other w (place n j) (place i child_word) v 0 (omega arith) ∙ e.firsts i (rw len at l));
        chains = λ i l.
            rw (keep (λ x. x.kids) st n z no_node (with_kids j v (node_at st n)) i)
            (frame (e.chains i (rw len at l)) (le_of_eq (sym len)) (λ x b q.
            (keep (λ y. y.own) st n z no_node (with-own j v (node_at st n)) x ∙ q, get_or-set_other w (place n j) (place x next_word) v 0 (omega arith))));
        free = λ i l q. get_or-set_other w (place n j) (place i next_word) v 0 (omega arith) ∙ e.free i (rw len at l) (sym (keep (λ y. y.own) st n z no_node (with-own j v (node_at st n)) i) ∙ q);
        owns = λ i l. get_or-set_other w (place n j) (place i parent_word) v 0 (omega arith) ∙ (e.owns i (rw len at l) ∙ ap pred (sym (keep (λ y. y.own) st n z no_node (with-own j v (node_at st n)) i)));
      }

-- ---- one more node

module _ (w : List ℕ) (st : List Node) (start kind payload : ℕ) (h : node_width * length st + node_width ≤ length w) where
  abbrev new : Node
  new = new_node start kind payload

  abbrev new_words : List ℕ
  new_words = node_words (record { kind = kind; payload = payload; first = start; end = start; next = 0; child = 0; parent = 0 })

  abbrev with-new : List ℕ
  with-new = sets w (node_width * length st) new_words

  upto : (i : ℕ) → i < length (st ++ (new ∷ [])) → i ≤ length st
  upto i l = omega (arith, l, length-append st (new ∷ []))

  old : (i : ℕ) → i < length st → node_at (st ++ (new ∷ [])) i ≡ node_at st i
  old i l = get_or-append st (new ∷ []) no_node i l

  fresh : node_at (st ++ (new ∷ [])) (length st) ≡ new
  fresh = get_or-append_seam st new [] no_node

  old-word : (i j : ℕ) → i < length st → j < node_width → get_or with-new (place i j) 0 ≡ get_or w (place i j) 0
  old-word i j l g = sets-before new_words w (node_width * length st) (place i j) (omega arith)

  new_word : (j : ℕ) → j < node_width → get_or with-new (place (length st) j) 0 ≡ get_or new_words j 0
  new_word j g = sets-in new_words w (node_width * length st) j g h

  three : (j : ℕ) → j < 3 → get_or new_words j 0 ≡ word j new
  three zero l = refl
  three (suc zero) l = refl
  three (suc (suc zero)) l = refl
  three (suc (suc (suc j))) l = absurd (omega arith)

  pub plain-new : Plain w st → Plain with-new (st ++ (new ∷ []))
  plain-new e = record { room = simp (length-sets, length-append) (omega arith); words = λ i j l g. go i j (upto i l) g (ℕ_discrete i (length st)) }
    where
      go : (i j : ℕ) → i ≤ length st → j < 3 → Dec (i ≡ length st) → get_or with-new (place i j) 0 ≡ word j (node_at (st ++ (new ∷ [])) i)
      go i j l g (yes q) = rw (q, fresh) (new_word j (omega arith) ∙ three j g)
      go i j l g (no q) = let k : i < length st = omega arith in rw (old i k) (old-word i j k (omega arith) ∙ e.words i j k g)

  pub links-new : Encodes w st → Encodes with-new (st ++ (new ∷ []))
  links-new e =
      record {
        firsts = λ i l. first_at i (upto i l) (ℕ_discrete i (length st));
        chains = λ i l. chain_at i (upto i l) (ℕ_discrete i (length st));
        free = λ i l q. free_at i (upto i l) q (ℕ_discrete i (length st));
        owns = λ i l. own_at i (upto i l) (ℕ_discrete i (length st));
      }
    where
      first_at : (i : ℕ) → i ≤ length st → Dec (i ≡ length st) → get_or with-new (place i child_word) 0 ≡ first_kid (node_at (st ++ (new ∷ [])) i).kids
      first_at i l (yes q) = rw (q, fresh) (new_word child_word (omega arith))
      first_at i l (no q) = let g : i < length st = omega arith in rw (old i g) (old-word i child_word g (omega arith) ∙ e.firsts i g)

      chain_at : (i : ℕ) → i ≤ length st → Dec (i ≡ length st) → Kids with-new (st ++ (new ∷ [])) (suc i) (length (st ++ (new ∷ []))) 0 (node_at (st ++ (new ∷ [])) i).kids
      chain_at i l (yes q) = rw (q, fresh) nobody
      chain_at i l (no q) =
          let g : i < length st = omega arith in
          rw (old i g) (frame (e.chains i g) (simp length-append (omega arith)) (λ x a r. (ap (λ y. y.own) (old x a) ∙ r, old-word x next_word a (omega arith))))

      free_at : (i : ℕ) → i ≤ length st → (node_at (st ++ (new ∷ [])) i).own ≡ 0 → Dec (i ≡ length st) → next with-new i ≡ 0
      free_at i l r (yes q) = rw q (new_word next_word (omega arith))
      free_at i l r (no q) = let g : i < length st = omega arith in old-word i next_word g (omega arith) ∙ e.free i g (rw (old i g) at r)

      own_at : (i : ℕ) → i ≤ length st → Dec (i ≡ length st) → get_or with-new (place i parent_word) 0 ≡ pred (node_at (st ++ (new ∷ [])) i).own
      own_at i l (yes q) = rw (q, fresh) (new_word parent_word (omega arith))
      own_at i l (no q) = let g : i < length st = omega arith in rw (old i g) (old-word i parent_word g (omega arith) ∙ e.owns i g)

-- ---- a child linked

pub adopted-length : (p c : ℕ) (st : List Node) → length (adopted p c st) ≡ length st
unfolding adopted
adopted-length p c st = simp length-set

adopted-word : (p c : ℕ) (st : List Node) (j i : ℕ) → word j (node_at (adopted p c st) i) ≡ word j (node_at st i)
unfolding adopted
adopted-word p c st j i =
    let mid = set st p (with_kid c (node_at st p)) in
    keep (word j) mid c (with_own (suc p) (node_at mid c)) no_node (own-word j (node_at mid c)) i ∙ keep (word j) st p (with_kid c (node_at st p)) no_node (kid-word j (node_at st p)) i
  where
    own-word : (j : ℕ) (n : Node) → word j (with_own (suc p) n) ≡ word j n
    own-word zero n = refl
    own-word (suc zero) n = refl
    own-word (suc (suc j)) n = refl

    kid-word : (j : ℕ) (n : Node) → word j (with_kid c n) ≡ word j n
    kid-word zero n = refl
    kid-word (suc zero) n = refl
    kid-word (suc (suc j)) n = refl

pub plain-adopted : {w : List ℕ} {st : List Node} (p c : ℕ) → Plain w st → Plain w (adopted p c st)
plain-adopted {w} {st} p c e = record { room = rw (adopted-length p c st) e.room; words = λ i j l g. e.words i j (rw (adopted-length p c st) at l) g ∙ sym (adopted-word p c st j i) }

pub plain-set : {w : List ℕ} {st : List Node} (i j v : ℕ) → 3 ≤ j → j < node_width → Plain w st → Plain (set w (place i j) v) st
plain-set {w} i j v a b e = record { room = simp length-set e.room; words = λ k l g h. get_or-set_other w (place i j) (place k l) v 0 (omega arith) ∙ e.words k l g h }

module _ {w : List ℕ} {st : List Node} (room : node_width * length st ≤ length w) (e : Encodes w st) (p c : ℕ) (hp : p < length st) (hc : c < length st) (hf : (node_at st c).own ≡ 0) where
  abbrev mid : List Node
  mid = set st p (with_kid c (node_at st p))

  len : length (adopted p c st) ≡ length st
  len = adopted-length p c st

  kids-mid : (j : ℕ) → (node_at (adopted p c st) j).kids ≡ (node_at mid j).kids
  unfolding adopted
  kids-mid j = keep (λ x. x.kids) mid c (with_own (suc p) (node_at mid c)) no_node refl j

  pub kids-same : (node_at (adopted p c st) p).kids ≡ c ∷ (node_at st p).kids
  kids-same = kids-mid p ∙ ap (λ x. x.kids) (get_or-set_same st p (with_kid c (node_at st p)) no_node hp)

  pub kids-other : (j : ℕ) → j ≢ p → (node_at (adopted p c st) j).kids ≡ (node_at st j).kids
  kids-other j q = kids-mid j ∙ ap (λ x. x.kids) (get_or-set_other st p j (with_kid c (node_at st p)) no_node q)

  pub own_same : (node_at (adopted p c st) c).own ≡ suc p
  unfolding adopted
  own_same = ap (λ x. x.own) (get_or-set_same mid c (with_own (suc p) (node_at mid c)) no_node (simp length-set hc))

  pub own-other : (j : ℕ) → j ≢ c → (node_at (adopted p c st) j).own ≡ (node_at st j).own
  unfolding adopted
  own-other j q = ap (λ x. x.own) (get_or-set_other mid c j (with_own (suc p) (node_at mid c)) no_node q) ∙ keep (λ x. x.own) st p (with_kid c (node_at st p)) no_node refl j

  still : (j o : ℕ) → (node_at st j).own ≡ suc o → (node_at (adopted p c st) j).own ≡ suc o
  still j o h = own-other j (λ q. let g : (node_at st c).own ≡ suc o = rw q at h in omega arith) ∙ h

  -- The child's parent is written last.
  abbrev told : List ℕ → List ℕ
  told u = set u (place c parent_word) p

  told-other : (u : List ℕ) (i j : ℕ) → j < parent_word → get_or (told u) (place i j) 0 ≡ get_or u (place i j) 0
  told-other u i j l = get_or-set_other u (place c parent_word) (place i j) p 0 (omega arith)

  told-owns : (u : List ℕ) → length u ≡ length w → ((i : ℕ) → get_or u (place i parent_word) 0 ≡ get_or w (place i parent_word) 0) → (i : ℕ) → i < length st → get_or (told u) (place i parent_word) 0 ≡ pred (node_at (adopted p c st) i).own
  told-owns u n k i l = go (ℕ_discrete i c)
    where
      go : Dec (i ≡ c) → get_or (told u) (place i parent_word) 0 ≡ pred (node_at (adopted p c st) i).own
      go (yes q) = rw (q, own_same) (get_or-set_same u (place c parent_word) p 0 (omega (arith, room, n)))
      go (no q) = rw (own-other i q) (get_or-set_other u (place c parent_word) (place i parent_word) p 0 (λ x. q (omega arith)) ∙ (k i ∙ e.owns i l))

  -- It is the first one.
  link-first : (node_at st p).kids ≡ [] → 0 < c → Encodes (told (set w (place p child_word) c)) (adopted p c st)
  link-first hk pos =
      record {
        firsts = λ j l. first_at j (rw len at l) (ℕ_discrete j p);
        chains = λ j l. chain_at j (rw len at l) (ℕ_discrete j p);
        free = λ j l q. free_at j (rw len at l) q (ℕ_discrete j c);
        owns = λ j l. told-owns u (length-set w _ c) (λ i. get_or-set_other w (place p child_word) (place i parent_word) c 0 (omega arith)) j (rw len at l);
      }
    where
      u : List ℕ
      u = set w (place p child_word) c

      v : List ℕ
      v = told u

      sib : (j : ℕ) → next v j ≡ next w j
      sib j = told-other u j next_word (omega arith) ∙ get_or-set_other w (place p child_word) (place j next_word) c 0 (omega arith)

      first_at : (j : ℕ) → j < length st → Dec (j ≡ p) → get_or v (place j child_word) 0 ≡ first_kid (node_at (adopted p c st) j).kids
      first_at j l (yes q) = rw (q, kids-same, hk) (told-other u p child_word (omega arith) ∙ get_or-set_same w (place p child_word) c 0 (omega arith))
      first_at j l (no q) = rw (kids-other j q) (told-other u j child_word (omega arith) ∙ (get_or-set_other w (place p child_word) (place j child_word) c 0 (λ x. q (omega arith)) ∙ e.firsts j l))

      chain_at : (j : ℕ) → j < length st → Dec (j ≡ p) → Kids v (adopted p c st) (suc j) (length (adopted p c st)) 0 (node_at (adopted p c st) j).kids
      chain_at j l (yes q) = rw (q, kids-same, hk, len) (kid pos hc own_same (sib c ∙ e.free c hc hf) nobody)
      chain_at j l (no q) = rw (kids-other j q, len) (frame (e.chains j l) (le_refl _) (λ x a r. (still x j r, sib x)))

      free_at : (j : ℕ) → j < length st → (node_at (adopted p c st) j).own ≡ 0 → Dec (j ≡ c) → next v j ≡ 0
      free_at j l r (yes q) = absurd (let g : (node_at (adopted p c st) c).own ≡ 0 = rw q at r in omega (arith, own_same))
      free_at j l r (no q) = sib j ∙ e.free j l (sym (own-other j q) ∙ r)

  -- It comes after another.
  link-after : (y : ℕ) (ys : List ℕ) → (node_at st p).kids ≡ y ∷ ys → Kids w st (suc p) (length st) 0 (y ∷ ys) → y < c → Encodes (told (set w (place y next_word) c)) (adopted p c st)
  link-after y ys hk (kid hz hy ho hn rest) pos =
      record {
        firsts = λ j l. told-other u j child_word (omega arith) ∙ (get_or-set_other w (place y next_word) (place j child_word) c 0 (omega arith) ∙ (e.firsts j (rw len at l) ∙ first_at j (ℕ_discrete j p)));
        chains = λ j l. chain_at j (rw len at l) (ℕ_discrete j p);
        free = λ j l q. free_at j (rw len at l) q (ℕ_discrete j c);
        owns = λ j l. told-owns u (length-set w _ c) (λ i. get_or-set_other w (place y next_word) (place i parent_word) c 0 (omega arith)) j (rw len at l);
      }
    where
      u : List ℕ
      u = set w (place y next_word) c

      v : List ℕ
      v = told u

      sib : (j : ℕ) → j ≢ y → next v j ≡ next w j
      sib j q = told-other u j next_word (omega arith) ∙ get_or-set_other w (place y next_word) (place j next_word) c 0 (λ z. q (omega arith))

      first_at : (j : ℕ) → Dec (j ≡ p) → first_kid (node_at st j).kids ≡ first_kid (node_at (adopted p c st) j).kids
      first_at j (yes q) = rw (q, kids-same, hk)
      first_at j (no q) = rw (kids-other j q)

      chain_at : (j : ℕ) → j < length st → Dec (j ≡ p) → Kids v (adopted p c st) (suc j) (length (adopted p c st)) 0 (node_at (adopted p c st) j).kids
      chain_at j l (yes q) =
          let z₀ : 0 < c = omega arith in
          rw (q, kids-same, hk, len)
          (kid z₀ hc own_same (sib c (omega arith) ∙ e.free c hc hf)
          (kid hz pos (still y p ho) (told-other u y next_word (omega arith) ∙ get_or-set_same w (place y next_word) c 0 (omega arith)) (frame rest (le_refl _) (λ x a r. (still x p r, sib x (omega arith))))))
      chain_at j l (no q) = rw (kids-other j q, len) (frame (e.chains j l) (le_refl _) (λ x a r. (still x j r, sib x (λ z. q (let g : (node_at st y).own ≡ suc j = rw z at r in omega arith)))))

      free_at : (j : ℕ) → j < length st → (node_at (adopted p c st) j).own ≡ 0 → Dec (j ≡ c) → next v j ≡ 0
      free_at j l r (yes q) = absurd (let g : (node_at (adopted p c st) c).own ≡ 0 = rw q at r in omega (arith, own_same))
      free_at j l r (no q) =
          let z : (node_at st j).own ≡ 0 = sym (own-other j q) ∙ r in
          sib j (λ x. let g : (node_at st y).own ≡ 0 = rw x at z in omega arith) ∙ e.free j l z

  -- Which of the two, by the last child that is given.
  link-list : (l : ℕ) (ks : List ℕ) → (node_at st p).kids ≡ ks → Kids w st (suc p) (length st) 0 ks → l ≡ last_kid ks → l < c
      → (l ≡ 0 → Encodes (told (set w (place p child_word) c)) (adopted p c st)) × (l ≢ 0 → (l < length st) × Encodes (told (set w (place l next_word) c)) (adopted p c st))
  link-list l [] hk k q h = ((λ z. link-first hk (omega arith)), (λ z. absurd (z q)))
  link-list l (y ∷ ys) hk (kid z a o n r) q h = ((λ x. absurd (omega arith)), (λ x. rw q (a, link-after y ys hk (kid z a o n r) (omega arith))))

pub both_true : (b c : Bool) → (b && c) ≡ true → (b ≡ true) × (c ≡ true)
both_true true c h = (refl, h)
both_true false c h = (cc, cc)

-- A child that may be linked is linked by two words: the parent's first child or the last child's next sibling, and the child's parent.
pub links-adopted : {w : List ℕ} {st : List Node} (p l c : ℕ) → node_width * length st ≤ length w → Encodes w st → may_adopt p l c st ≡ true
    → (p < length st) × (c < length st) × (l ≡ 0 → Encodes (set (set w (place p child_word) c) (place c parent_word) p) (adopted p c st)) × (l ≢ 0 → (l < length st) × Encodes (set (set w (place l next_word) c) (place c parent_word) p) (adopted p c st))
unfolding may_adopt
links-adopted {w} {st} p l c room e h =
    let (a, h₁) = both_true _ _ h in
    let (b, h₂) = both_true _ _ h₁ in
    let (o, h₃) = both_true _ _ h₂ in
    let (k, n) = both_true _ _ h₃ in
    let lp : p < length st = ltb-true _ _ a in
    let lc : c < length st = ltb-true _ _ b in
    let x = link-list room e p c lp lc (eqb-true _ _ o) l _ refl (e.chains p lp) (eqb-true _ _ k) (ltb-true _ _ n) in
    (lp, lc, x.0, x.1)
