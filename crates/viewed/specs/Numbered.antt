-- The chart's trees with the number that each node has in the words. So that a view's answer can be compared: a tree may have two alike
-- parts, and the answer is to be the one, not the other.
use Rattle.std.specs.Prelude.{◌≡◌, cond, List, [], ◌∷◌, ℕ, zero, suc, eqb}
use Rattle.std.proofs.Math.Option.{Option}
use Rattle.words.specs.Node
use Rattle.chart.specs.Tree.{Value, flags, name, number, bytes, Trees, ◌▸◌}
use Rattle.chart.specs.Tree as Tree
use Rattle.looking.specs.View.{among}

-- What the words have of a node and the chart's tree has not: its number, its first token and the one after its last, and where its name,
-- number or bytes are found.
pub record Label : Type 0 where
  pub number : ℕ
  pub first : ℕ
  pub end : ℕ
  pub source : ℕ

mutual
  -- A node: its kind, what it says, its children, and its neighbours after it.
  pub data Place : Type 0 where
    place : Label → ℕ → Value → Row → Row → Place

  -- Neighbours, from left to right: none, or a node with those after it.
  pub data Row : Type 0 where
    empty : Row
    from : Place → Row

-- The chart's trees, without the labels.
unfoldable mutual
  pub bare : Row → Trees
  bare empty = Tree.none
  bare (from p) = bare_from p

  pub bare_from : Place → Trees
  bare_from (place l k v cs us) = Tree.node k v (bare cs) ▸ bare us

-- The nodes of a tree: its root, and their children and neighbours.
pub data Within (root : Place) : Place → Type 0 where
  itself : Within root root
  below : {l : Label} {k : ℕ} {v : Value} {us : Row} {p : Place} → Within root (place l k v (from p) us) → Within root p
  beside : {l : Label} {k : ℕ} {v : Value} {cs : Row} {p : Place} → Within root (place l k v cs (from p)) → Within root p

-- ---- what a tree says of a node

abbrev pub label : Place → Label
label (place l k v cs us) = l

abbrev pub kind : Place → ℕ
kind (place l k v cs us) = k

abbrev pub value : Place → Value
value (place l k v cs us) = v

abbrev pub children : Place → Row
children (place l k v cs us) = cs

abbrev pub after : Place → Row
after (place l k v cs us) = us

-- A child of a node: the first one, and each neighbour after a child.
pub data ChildOf (p : Place) : Place → Type 0 where
  eldest : {q : Place} → children p ≡ from q → ChildOf p q
  younger : {q r : Place} → ChildOf p q → after q ≡ from r → ChildOf p r

-- The flags or the operator, or where name, number or bytes are found.
abbrev pub saying : Value → ℕ → ℕ
saying (flags f) source = f
saying (name s) source = source
saying (number n) source = source
saying (bytes bs) source = source

abbrev pub payload : Place → ℕ
payload p = saying (value p) (label p).source

-- The nodes of a row whose kinds are from `low` to `high`, up to the first whose kind is `stop`.
unfoldable mutual
  pub wanted : ℕ → ℕ → ℕ → Row → List Place
  wanted stop low high empty = []
  wanted stop low high (from p) = wanted_from stop low high p

  pub wanted_from : ℕ → ℕ → ℕ → Place → List Place
  wanted_from stop low high (place l k v cs us) =
      cond (eqb k stop) []
      (cond (among low high k) (place l k v cs us ∷ wanted stop low high us) (wanted stop low high us))

-- The i-th of some nodes, counted from 0.
unfoldable pub ith : List Place → ℕ → Option Place
ith [] i = Option.none
ith (p ∷ ps) zero = Option.some p
ith (p ∷ ps) (suc i) = ith ps i

-- The first node that is no ParenExpr, from one on through first children.
unfoldable mutual
  pub peeled : Place → Option Place
  peeled (place l k v cs us) = cond (eqb k Node.ParenExpr) (peeled_first cs) (Option.some (place l k v cs us))

  pub peeled_first : Row → Option Place
  peeled_first empty = Option.none
  peeled_first (from p) = peeled p
