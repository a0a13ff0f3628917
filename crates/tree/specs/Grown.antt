-- Trees in the store of the abstract run (`Abstract`, crate definition): where one stands, that what is written later leaves it alone, and how a
-- node with its children becomes one.
use Rattle.std.specs.Prelude.{◌≡◌, ◌≢◌, true, ℕ, zero, suc, ◌+◌, ◌≤◌, ◌<◌, set}
use Rattle.std.proofs.Math.Path.{refl, sym, ap}
use Rattle.std.proofs.Common.{◌∙◌, arith, get_or-set_same}
use Rattle.std.proofs.Math.Option.{Option}
use mathlib.Core.List.{List, [], ◌∷◌, ◌++◌}
use borrow.Author.Tests.{lt-ltb, eq-eqb}
use Rattle.std.proofs.Math.ListN.{length, length-append, get_or-append}
use Rattle.std.proofs.Math.Seq.{get_or-set_other, get_or-append_seam}
use Rattle.words.specs.Words.{node_kind, node_payload}
use Rattle.definition.specs.Prog.{head_word, end_word}
use Rattle.definition.specs.Abstract.{Node, no_node, node_at, with_word, with_kid, with_own, written, adopted, last_kid, may_adopt}
use Rattle.definition.specs.Encodes.{keep, written-length, adopted-length}
use Rattle.chart.specs.Tree.{Value, Tree, Trees, node, none, ◌▸◌, ◌⊕◌}
use Rattle.tree.specs.Stored.{said}

-- How many nodes trees have.
unfoldable mutual
  pub size : Tree → ℕ
  size (node k v ts) = suc (sizes ts)

  pub sizes : Trees → ℕ
  sizes none = 0
  sizes (t ▸ ts) = size t + sizes ts

pub sizes-⊕ : (a b : Trees) → sizes (a ⊕ b) ≡ sizes a + sizes b
unfolding ◌⊕◌ sizes
sizes-⊕ none b = omega arith
sizes-⊕ (t ▸ ts) b = let e : sizes (ts ⊕ b) ≡ sizes ts + sizes b = sizes-⊕ ts b in omega arith

pub ⊕-assoc : (a b c : Trees) → (a ⊕ b) ⊕ c ≡ a ⊕ (b ⊕ c)
unfolding ◌⊕◌
⊕-assoc none b c = refl
⊕-assoc (t ▸ ts) b c = ap (λ (r : Trees). t ▸ r) (⊕-assoc ts b c)

pub ⊕-none : (a : Trees) → a ⊕ none ≡ a
unfolding ◌⊕◌
⊕-none none = refl
⊕-none (t ▸ ts) = ap (λ (r : Trees). t ▸ r) (⊕-none ts)

-- What the nodes of the store say, by the text, its tokens and the values so far.
module _ (text tokens : List ℕ) where
  abbrev says_at : List ℕ → Node → Option Value
  says_at values n = said text tokens values (node_kind n.head) (node_payload n.head)

  mutual
    -- A tree stands at a node, all its nodes within P.
    pub data Is (st : List Node) (values : List ℕ) (P : ℕ → Type 0) : ℕ → Tree → Type 0 where
      is : {n k : ℕ} {v : Value} {ts : Trees} → P n → node_kind (node_at st n).head ≡ k → says_at values (node_at st n) ≡ Option.some v → Are st values P (node_at st n).kids ts → Is st values P n (node k v ts)

    -- And trees at a row of children, the last one first.
    pub data Are (st : List Node) (values : List ℕ) (P : ℕ → Type 0) : List ℕ → Trees → Type 0 where
      no_one : Are st values P [] none
      and : {c : ℕ} {cs : List ℕ} {t : Tree} {ts us : Trees} → Are st values P cs ts → Is st values P c t → us ≡ ts ⊕ (t ▸ none) → Are st values P (c ∷ cs) us

  -- What is kept of the nodes within P: what they say, and their children.
  pub record Kept (st su : List Node) (values more : List ℕ) (P Q : ℕ → Type 0) : Type 0 where
    pub within : (i : ℕ) → P i → Q i
    pub head : (i : ℕ) → P i → (node_at su i).head ≡ (node_at st i).head
    pub kids : (i : ℕ) → P i → (node_at su i).kids ≡ (node_at st i).kids
    pub says : (k p : ℕ) (v : Value) → said text tokens values k p ≡ Option.some v → said text tokens more k p ≡ Option.some v

  mutual
    -- Then the tree stands there still.
    pub is-kept : {st su : List Node} {values more : List ℕ} {P Q : ℕ → Type 0} {n : ℕ} {t : Tree} → Is st values P n t → Kept st su values more P Q → Is su more Q n t
    is-kept {more = more} (is {n = n} {v = v} {ts = ts} h k s r) f =
        is {v = v} {ts = ts} (f.within n h) (ap node_kind (f.head n h) ∙ k) (rw (f.head n h) (f.says _ _ v s)) (rw (f.kids n h) (are-kept r f))

    pub are-kept : {st su : List Node} {values more : List ℕ} {P Q : ℕ → Type 0} {cs : List ℕ} {ts : Trees} → Are st values P cs ts → Kept st su values more P Q → Are su more Q cs ts
    are-kept no_one f = no_one
    are-kept (and r t e) f = and (are-kept r f) (is-kept t f) e

  -- What was said of values is said of more of them.
  abbrev pub Says : List ℕ → List ℕ → Type 0
  Says values more = (k p : ℕ) (v : Value) → said text tokens values k p ≡ Option.some v → said text tokens more k p ≡ Option.some v

  -- The nodes of an older store are as they were.
  abbrev pub Old : List Node → List Node → Type 0
  Old st cur = (i : ℕ) → i < length st → node_at cur i ≡ node_at st i

  abbrev Since : List Node → List Node → ℕ → Type 0
  Since st cur i = (length st ≤ i) × (i < length cur)

  abbrev Beside : List Node → List Node → ℕ → ℕ → Type 0
  Beside st cur p i = (length st ≤ i) × (i < length cur) × (i ≢ p)

  -- What a reader of a node leaves: the store longer by a tree, which stands at n and has no parent.
  pub record Built (st : List Node) (values : List ℕ) (cur : List Node) (more : List ℕ) (n : ℕ) (t : Tree) : Type 0 where
    pub old : Old st cur
    pub says : Says values more
    pub low : length st ≤ n
    pub high : n < length cur
    pub root : (node_at cur n).own ≡ 0
    pub tree : Is cur more (Since st cur) n t
    pub size_is : length st + size t ≡ length cur

  -- A node that is still open: its first word, its last child and its children so far. Trees of `u` nodes that were read before wait to be linked.
  pub record Growing (st : List Node) (values : List ℕ) (cur : List Node) (more : List ℕ) (p l h u : ℕ) (ts : Trees) : Type 0 where
    pub old : Old st cur
    pub says : Says values more
    pub low : length st ≤ p
    pub high : p < length cur
    pub root : (node_at cur p).own ≡ 0
    pub head : (node_at cur p).head ≡ h
    pub last : l ≡ last_kid (node_at cur p).kids
    pub below : l < length cur
    pub kids : Are cur more (Beside st cur p) (node_at cur p).kids ts
    pub size_is : length st + suc (sizes ts) + u ≡ length cur

  -- Another reader has run since.
  pub ahead : {st cur now : List Node} {values more most : List ℕ} {p l h u waits : ℕ} {ts : Trees} → length cur ≤ length now → Old cur now → Says more most → length st + suc (sizes ts) + waits ≡ length now
      → Growing st values cur more p l h u ts → Growing st values now most p l h waits ts
  ahead {st} {cur} {now} {p = p} len o says room g =
      let e : node_at now p ≡ node_at cur p = o p g.high in
      let stays : Kept cur now _ _ (Beside st cur p) (Beside st now p) = record {
        within = λ i x. (x.0, omega (arith, x.1), x.2);
        head = λ i x. ap (λ (y : Node). y.head) (o i x.1);
        kids = λ i x. ap (λ (y : Node). y.kids) (o i x.1);
        says = says;
      } in
      record {
        old = λ i x. o i (omega (arith, g.low, g.high)) ∙ g.old i x;
        says = λ k q v x. says k q v (g.says k q v x);
        low = g.low;
        high = omega (arith, g.high);
        root = ap (λ (x : Node). x.own) e ∙ g.root;
        head = ap (λ (x : Node). x.head) e ∙ g.head;
        last = g.last ∙ ap (λ (x : Node). last_kid x.kids) (sym e);
        below = omega (arith, g.below);
        kids = rw e (are-kept g.kids stays);
        size_is = room;
      }

  -- The node is done, where its first word says something.
  pub closed : {st cur : List Node} {values more : List ℕ} {p l h : ℕ} {ts : Trees} {v : Value} → Growing st values cur more p l h 0 ts
      → said text tokens more (node_kind h) (node_payload h) ≡ Option.some v → Built st values cur more p (node (node_kind h) v ts)
  unfolding size
  closed {st} {cur} {p = p} {ts = ts} {v = v} g e =
      record {
        old = g.old;
        says = g.says;
        low = g.low;
        high = g.high;
        root = g.root;
        tree = is {v = v} {ts = ts} (g.low, g.high) (ap node_kind g.head) (rw g.head e)
            (are-kept g.kids (record { within = λ i x. (x.0, x.1); head = λ i x. refl; kids = λ i x. refl; says = λ k q w x. x }));
        size_is = omega (arith, g.size_is);
      }

  -- A node is opened.
  pub opened : {st : List Node} {values : List ℕ} {u : ℕ} (cur : List Node) (more : List ℕ) (x : Node) → length st + u ≡ length cur → Old st cur → Says values more → x.kids ≡ [] → x.own ≡ 0
      → Growing st values (cur ++ (x ∷ [])) more (length cur) 0 x.head u none
  unfolding sizes
  opened {st} cur more x len o says k r =
      let new : node_at (cur ++ (x ∷ [])) (length cur) ≡ x = get_or-append_seam cur x [] no_node in
      let z : length (cur ++ (x ∷ [])) ≡ length cur + 1 = length-append cur (x ∷ []) in
      let empty : (node_at (cur ++ (x ∷ [])) (length cur)).kids ≡ [] = ap (λ (y : Node). y.kids) new ∙ k in
      record {
        old = λ i l. get_or-append cur (x ∷ []) no_node i (omega arith) ∙ o i l;
        says = says;
        low = omega arith;
        high = omega (arith, z);
        root = ap (λ (y : Node). y.own) new ∙ r;
        head = ap (λ (y : Node). y.head) new;
        last = sym (ap last_kid empty);
        below = omega (arith, z);
        kids = rw empty no_one;
        size_is = omega (arith, z);
      }

  module _ (p c : ℕ) (st : List Node) where
    mid : List Node
    mid = set st p (with_kid c (node_at st p))

    head-kept : (i : ℕ) → (node_at (adopted p c st) i).head ≡ (node_at st i).head
    unfolding adopted mid
    head-kept i = keep (λ (x : Node). x.head) mid c (with_own (suc p) (node_at mid c)) no_node refl i ∙ keep (λ (x : Node). x.head) st p (with_kid c (node_at st p)) no_node refl i

    kids-same : p < length st → (node_at (adopted p c st) p).kids ≡ c ∷ (node_at st p).kids
    unfolding adopted mid
    kids-same h = keep (λ (x : Node). x.kids) mid c (with_own (suc p) (node_at mid c)) no_node refl p ∙ ap (λ (x : Node). x.kids) (get_or-set_same st p (with_kid c (node_at st p)) no_node h)

    kids-other : (j : ℕ) → j ≢ p → (node_at (adopted p c st) j).kids ≡ (node_at st j).kids
    unfolding adopted mid
    kids-other j q = keep (λ (x : Node). x.kids) mid c (with_own (suc p) (node_at mid c)) no_node refl j ∙ ap (λ (x : Node). x.kids) (get_or-set_other st p j (with_kid c (node_at st p)) no_node q)

    own-other : (j : ℕ) → j ≢ c → (node_at (adopted p c st) j).own ≡ (node_at st j).own
    unfolding adopted mid
    own-other j q = ap (λ (x : Node). x.own) (get_or-set_other mid c j (with_own (suc p) (node_at mid c)) no_node q) ∙ keep (λ (x : Node). x.own) st p (with_kid c (node_at st p)) no_node refl j

    node-other : (j : ℕ) → j ≢ p → j ≢ c → node_at (adopted p c st) j ≡ node_at st j
    unfolding adopted mid
    node-other j q r = get_or-set_other mid c j (with_own (suc p) (node_at mid c)) no_node r ∙ get_or-set_other st p j (with_kid c (node_at st p)) no_node q

  -- A tree that was read before or after the node p was opened, and waits to be linked to it.
  pub record Waiting (st cur : List Node) (more : List ℕ) (p c : ℕ) (t : Tree) : Type 0 where
    pub low : length st ≤ c
    pub high : c < length cur
    pub root : (node_at cur c).own ≡ 0
    pub apart : c ≢ p
    pub tree : Is cur more (Beside st cur p) c t

  -- What was built waits, for a node that is not among its own.
  pub waits : {base st cur now : List Node} {values more most : List ℕ} {p c : ℕ} {t : Tree} → length base ≤ length st → Built st values cur more c t → length cur ≤ length now → Old cur now → Says more most → ((i : ℕ) → length st ≤ i → i < length cur → i ≢ p)
      → Waiting base now most p c t
  waits {base} {st} {cur} {now} {p = p} {c = c} l b len o says q =
      record {
        low = omega (arith, b.low);
        high = omega (arith, b.high);
        root = ap (λ (x : Node). x.own) (o c b.high) ∙ b.root;
        apart = q c b.low b.high;
        tree = is-kept b.tree (record {
          within = λ i x. (omega (arith, x.0), omega (arith, x.1), q i x.0 x.1);
          head = λ i x. ap (λ (y : Node). y.head) (o i x.1);
          kids = λ i x. ap (λ (y : Node). y.kids) (o i x.1);
          says = says;
        });
      }

  -- Linking leaves alone what is beside the parent.
  beside-kept : (st cur : List Node) (more : List ℕ) (p c : ℕ) → Kept cur (adopted p c cur) more more (Beside st cur p) (Beside st (adopted p c cur) p)
  beside-kept st cur more p c =
      record {
        within = λ i x. (x.0, rw (adopted-length p c cur) x.1, x.2);
        head = λ i x. head-kept p c cur i;
        kids = λ i x. kids-other p c cur i x.2;
        says = λ k q v x. x;
      }

  -- Where one is linked, another waits on.
  pub waits-on : {st cur : List Node} {more : List ℕ} {p d : ℕ} {t : Tree} (c : ℕ) → d ≢ c → Waiting st cur more p d t → Waiting st (adopted p c cur) more p d t
  waits-on {st} {cur} {more} {p} {d} c q w =
      record {
        low = w.low;
        high = rw (adopted-length p c cur) w.high;
        root = own-other p c cur d q ∙ w.root;
        apart = w.apart;
        tree = is-kept w.tree (beside-kept st cur more p c);
      }

  -- A child is linked, be it older or younger than its parent: the link is sound, and the open node has one child more.
  pub adopt : {st cur : List Node} {values more : List ℕ} {p l h c u : ℕ} {t : Tree} {ts : Trees} → Growing st values cur more p l h (size t + u) ts → Waiting st cur more p c t → l < c
      → Growing st values (adopted p c cur) more p c h u (ts ⊕ (t ▸ none)) × (may_adopt p l c cur ≡ true)
  unfolding may_adopt sizes
  adopt {st} {cur} {more = more} {p = p} {l = l} {c = c} {t = tree} {ts = ts} g w lc =
      let pc : p ≢ c = omega (arith, w.apart) in
      let z : length (adopted p c cur) ≡ length cur = adopted-length p c cur in (
        record {
          old = λ i x. node-other p c cur i (omega (arith, g.low)) (omega (arith, w.low)) ∙ g.old i x;
          says = g.says;
          low = g.low;
          high = rw z g.high;
          root = own-other p c cur p pc ∙ g.root;
          head = head-kept p c cur p ∙ g.head;
          last = sym (ap last_kid (kids-same p c cur g.high));
          below = rw z w.high;
          kids = rw (kids-same p c cur g.high) (and (are-kept g.kids (beside-kept st cur more p c)) (is-kept w.tree (beside-kept st cur more p c)) refl);
          size_is = rw z (omega (arith, g.size_is, sizes-⊕ ts (tree ▸ none)));
        },
        rw (lt-ltb p (length cur) g.high, lt-ltb c (length cur) w.high, eq-eqb (node_at cur c).own 0 w.root, eq-eqb l (last_kid (node_at cur p).kids) g.last, lt-ltb l c lc),
      )

  -- A child that was just read is linked.
  pub push : {st cur now : List Node} {values more most : List ℕ} {p l h c : ℕ} {t : Tree} {ts : Trees} → Growing st values cur more p l h 0 ts → Built cur more now most c t
      → Growing st values (adopted p c now) most p c h 0 (ts ⊕ (t ▸ none)) × (may_adopt p l c now ≡ true)
  push {st} {cur} {now} {p = p} {t = t} g b =
      adopt {u = 0} (ahead (omega (arith, b.size_is)) b.old b.says (omega (arith, g.size_is, b.size_is)) g)
      (record {
        low = omega (arith, g.low, g.high, b.low);
        high = b.high;
        root = b.root;
        apart = omega (arith, g.high, b.low);
        tree = is-kept b.tree (record {
          within = λ i x. (omega (arith, g.low, g.high, x.0), x.1, omega (arith, g.high, x.0));
          head = λ i x. refl;
          kids = λ i x. refl;
          says = λ k q v x. x;
        });
      })
      (omega (arith, g.below, b.low))

  word-kids : (j v : ℕ) (n : Node) → (with_word j v n).kids ≡ n.kids
  word-kids zero v n = refl
  word-kids (suc zero) v n = refl
  word-kids (suc (suc j)) v n = refl

  word-own : (j v : ℕ) (n : Node) → (with_word j v n).own ≡ n.own
  word-own zero v n = refl
  word-own (suc zero) v n = refl
  word-own (suc (suc j)) v n = refl

  module _ (n j v : ℕ) (st : List Node) where
    kids-written : (i : ℕ) → (node_at (written n j v st) i).kids ≡ (node_at st i).kids
    unfolding written
    kids-written i = keep (λ (x : Node). x.kids) st n (with_word j v (node_at st n)) no_node (word-kids j v (node_at st n)) i

    own-written : (i : ℕ) → (node_at (written n j v st) i).own ≡ (node_at st i).own
    unfolding written
    own-written i = keep (λ (x : Node). x.own) st n (with_word j v (node_at st n)) no_node (word-own j v (node_at st n)) i

    other-written : (i : ℕ) → i ≢ n → node_at (written n j v st) i ≡ node_at st i
    unfolding written
    other-written i q = get_or-set_other st n i (with_word j v (node_at st n)) no_node q

  head-written : (n v : ℕ) (st : List Node) → n < length st → (node_at (written n head_word v st) n).head ≡ v
  unfolding written
  head-written n v st h = ap (λ (x : Node). x.head) (get_or-set_same st n (with_word head_word v (node_at st n)) no_node h)

  head-ended : (n v : ℕ) (st : List Node) (i : ℕ) → (node_at (written n end_word v st) i).head ≡ (node_at st i).head
  unfolding written
  head-ended n v st i = keep (λ (x : Node). x.head) st n (with_word end_word v (node_at st n)) no_node refl i

  -- The kind of an open node is set anew.
  pub rekinded : {st cur : List Node} {values more : List ℕ} {p l h u : ℕ} {ts : Trees} (new : ℕ) → Growing st values cur more p l h u ts → Growing st values (written p head_word new cur) more p l new u ts
  rekinded {st} {cur} {p = p} new g =
      let z : length (written p head_word new cur) ≡ length cur = written-length p head_word new cur in
      let stays : Kept cur (written p head_word new cur) _ _ (Beside st cur p) (Beside st (written p head_word new cur) p) = record {
        within = λ i x. (x.0, rw z x.1, x.2);
        head = λ i x. ap (λ (y : Node). y.head) (other-written p head_word new cur i x.2);
        kids = λ i x. kids-written p head_word new cur i;
        says = λ k q v x. x;
      } in
      record {
        old = λ i x. other-written p head_word new cur i (omega (arith, g.low)) ∙ g.old i x;
        says = g.says;
        low = g.low;
        high = rw z g.high;
        root = own-written p head_word new cur p ∙ g.root;
        head = head-written p new cur g.high;
        last = g.last ∙ sym (ap last_kid (kids-written p head_word new cur p));
        below = rw z g.below;
        kids = rw (kids-written p head_word new cur p) (are-kept g.kids stays);
        size_is = rw z g.size_is;
      }

  -- Where a node ends is no part of a tree: the end of any node since may be set.
  pub ended : {st cur : List Node} {values more : List ℕ} {p l h u : ℕ} {ts : Trees} (n e : ℕ) → length st ≤ n → Growing st values cur more p l h u ts → Growing st values (written n end_word e cur) more p l h u ts
  ended {st} {cur} {p = p} n e low g =
      let z : length (written n end_word e cur) ≡ length cur = written-length n end_word e cur in
      let stays : Kept cur (written n end_word e cur) _ _ (Beside st cur p) (Beside st (written n end_word e cur) p) = record {
        within = λ i x. (x.0, rw z x.1, x.2);
        head = λ i x. head-ended n e cur i;
        kids = λ i x. kids-written n end_word e cur i;
        says = λ k q v x. x;
      } in
      record {
        old = λ i x. other-written n end_word e cur i (omega arith) ∙ g.old i x;
        says = g.says;
        low = g.low;
        high = rw z g.high;
        root = own-written n end_word e cur p ∙ g.root;
        head = head-ended n e cur p ∙ g.head;
        last = g.last ∙ sym (ap last_kid (kids-written n end_word e cur p));
        below = rw z g.below;
        kids = rw (kids-written n end_word e cur p) (are-kept g.kids stays);
        size_is = rw z g.size_is;
      }

  -- Nor of one that waits.
  pub wait-ended : {st cur : List Node} {more : List ℕ} {p c : ℕ} {t : Tree} (n e : ℕ) → Waiting st cur more p c t → Waiting st (written n end_word e cur) more p c t
  wait-ended {st} {cur} {more} {p} {c} n e w =
      let z : length (written n end_word e cur) ≡ length cur = written-length n end_word e cur in
      let stays : Kept cur (written n end_word e cur) more more (Beside st cur p) (Beside st (written n end_word e cur) p) = record {
        within = λ i x. (x.0, rw z x.1, x.2);
        head = λ i x. head-ended n e cur i;
        kids = λ i x. kids-written n end_word e cur i;
        says = λ k q v x. x;
      } in
      record {
        low = w.low;
        high = rw z w.high;
        root = own-written n end_word e cur c ∙ w.root;
        apart = w.apart;
        tree = is-kept w.tree stays;
      }

  -- The kind of the node that it waits for is set anew.
  pub wait-rekinded : {st cur : List Node} {more : List ℕ} {p c : ℕ} {t : Tree} (new : ℕ) → Waiting st cur more p c t → Waiting st (written p head_word new cur) more p c t
  wait-rekinded {st} {cur} {more} {p} {c} new w =
      let z : length (written p head_word new cur) ≡ length cur = written-length p head_word new cur in
      let stays : Kept cur (written p head_word new cur) more more (Beside st cur p) (Beside st (written p head_word new cur) p) = record {
        within = λ i x. (x.0, rw z x.1, x.2);
        head = λ i x. ap (λ (y : Node). y.head) (other-written p head_word new cur i x.2);
        kids = λ i x. kids-written p head_word new cur i;
        says = λ k q v x. x;
      } in
      record {
        low = w.low;
        high = rw z w.high;
        root = own-written p head_word new cur c ∙ w.root;
        apart = w.apart;
        tree = is-kept w.tree stays;
      }
