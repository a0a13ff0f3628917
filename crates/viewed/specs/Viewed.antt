-- What views give of the words that reading makes, of a text free of reports and of any. What that says; `Proved` and `Unrefused` prove it.
use Rattle.std.specs.Prelude.{◌≡◌, List, [], ◌∷◌, ℕ, ◌<◌, take}
use Rattle.std.proofs.Math.Option as Option
use Rattle.words.specs.Answer.{done}
use Rattle.chart.specs.Tree.{Trees}
use Rattle.tree.specs.Stored.{said}
use Rattle.definition.specs.Encodes.{parent_of}
use Rattle.reader.specs.Read.{Read}
use Rattle.reader.specs.Demand.{Derived}
use Rattle.viewed.specs.Numbered.{Place, from, bare, Within, ChildOf, label, kind, value, payload}
use Rattle.looking.specs.View.{Seen, is, none}
use Rattle.viewed.specs.Query.{Sort, node, number, Query, OnWords, on_words, on_tree, answer}
use Rattle.viewed.specs.Query as Query

-- The counted nodes of the words are those of a tree, each a place in it, and no view refuses: every question gives of a node what the tree says
-- of its place.
pub record Viewed (text tokens nodes values : List ℕ) (count : ℕ) (t : Trees) : Type 0 where
  pub root : Place
  -- It is the tree, and its root is File, node 0.
  pub tree : bare (from root) ≡ t
  pub file : (label root).number ≡ 0
  -- Every counted node has its place, and one only.
  pub all : (n : ℕ) → n < count → (p : Place) × Within root p × ((label p).number ≡ n)
  pub one : (p q : Place) → Within root p → Within root q → (label p).number ≡ (label q).number → p ≡ q
  -- The parent that a node tells is its parent in the tree: "A node gets a sixth word, its parent" (01, W3).
  pub parents : (p q : Place) → Within root p → ChildOf p q → parent_of nodes (label q).number ≡ (label p).number
  -- A payload leads to what the tree says there: a name, a number or bytes.
  pub says : (p : Place) → Within root p → said text tokens values (kind p) (payload p) ≡ Option.some (value p)
  pub views : (p : Place) → Within root p → {s : Sort} (q : Query s) → on_words nodes q (label p).number ≡ answer s (on_tree q p)

-- Of a text that is read free of reports, whatever slices are lent: the tree is the chart's.
abbrev pub Views : List ℕ → Read → Type 0
Views text r =
    (tokens nodes values : ℕ) → r.answer ≡ done (tokens ∷ nodes ∷ values ∷ 0 ∷ [])
    → (t : Trees) × Derived text t × Viewed text (take tokens r.tokens) r.nodes (take values r.values) nodes t

-- Of any text, with reports or without: an answer that is no refusal. Where it is a node, it is one of those counted.
abbrev pub Counted : ℕ → (s : Sort) → OnWords s → Type 0
Counted count node n = n < count
Counted count number a = Unit {0}
Counted count Query.tokens a = Unit {0}

pub data Unrefused (count : ℕ) (s : Sort) (x : Seen (OnWords s)) : Type 0 where
  gives : (a : OnWords s) → Counted count s a → x ≡ is a → Unrefused count s x
  finds-none : x ≡ none → Unrefused count s x

abbrev pub NeverRefused : Read → Type 0
NeverRefused r =
    (tokens nodes values reports : ℕ) → r.answer ≡ done (tokens ∷ nodes ∷ values ∷ reports ∷ [])
    → (n : ℕ) → n < nodes → (s : Sort) (q : Query s) → Unrefused nodes s (on_words r.nodes q n)
