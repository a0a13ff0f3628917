-- What can be asked of a node: one language for all views, and what a question gives on node words and on a tree.
use Rattle.std.specs.Prelude.{Bool, cond, List, ℕ, ◌-◌, length}
use Rattle.std.proofs.Math.Option.{Option}
use Rattle.std.proofs.Math.Option as Option
use Rattle.looking.specs.View
use Rattle.looking.specs.View.{Seen, is, none, and_then, or_else, among, no_stop, turns}
use Rattle.looking.specs.declared.TokenSpan.{TokenSpan}
use Rattle.expr.specs.Expr
use Rattle.viewed.specs.Numbered.{Place, label, children, after, wanted, ith, peeled}
use Rattle.viewed.specs.Numbered as Tree

-- An answer is a node, a number or the tokens of a node.
pub data Sort : Type 0 where
  node number tokens : Sort

-- A question to a node. `first`, `last`: the kinds of the view, and the answer is none for a node of another.
pub data Query : Sort → Type 0 where
  -- The node itself; the node that the last `then` went out from.
  it : Query node
  outer : {s : Sort} → Query s → Query s
  nothing : {s : Sort} → Query s
  give : ℕ → Query number
  new : (first last : ℕ) → Query node
  kind : (first last : ℕ) → Query number
  payload : (first last : ℕ) → Query number
  span : (first last : ℕ) → Query tokens
  -- The i-th child of the kinds from `low` to `high` up to one of kind `stop`, and how many there are.
  nth : (first last stop low high i : ℕ) → Query node
  count : (first last stop low high : ℕ) → Query number
  -- The same of the neighbours after the node.
  nth_after : (low high i : ℕ) → Query node
  count_after : (low high : ℕ) → Query number
  -- Brackets are seen through.
  peel : Query node
  -- What is asked depends on the node's kind.
  by_kind : {s : Sort} → (ℕ → Query s) → Query s
  -- Of the node that the first one finds, the second; of the number that it finds; where it finds any, of the same node.
  then : {s : Sort} → Query node → Query s → Query s
  with : {s : Sort} → Query number → (ℕ → Query s) → Query s
  both : {r s : Sort} → Query r → Query s → Query s
  -- The first, and where it finds none the second.
  else : {s : Sort} → Query s → Query s → Query s
  choose : {s : Sort} → Bool → Query s → Query s → Query s
  -- From the start of the first to the end of the second.
  joined : Query tokens → Query tokens → Query tokens

-- ---- on words: the definitions of `View`, `Expr` and the accessors

abbrev pub OnWords : Sort → Type 0
OnWords node = ℕ
OnWords number = ℕ
OnWords tokens = TokenSpan

abbrev pub span-of : TokenSpan → TokenSpan → TokenSpan
span-of a b = record { start = a.start; end = b.end }

module _ (ns : List ℕ) where
  unfoldable pub seen : {s : Sort} → Query s → ℕ → ℕ → Seen (OnWords s)
  seen it o n = is n
  seen (outer q) o n = seen q o o
  seen nothing o n = none
  seen (give a) o n = is a
  seen (new first last) o n = View.new_of first last ns n
  seen (kind first last) o n = View.kind_of first last ns n
  seen (payload first last) o n = View.payload_of first last ns n
  seen (span first last) o n = View.span_of first last ns n
  seen (nth first last stop low high i) o n = and_then (View.of first last ns n) (λ x. View.nth (turns ns) stop low high ns x.child i)
  seen (count first last stop low high) o n = and_then (View.of first last ns n) (λ x. View.counted (turns ns) stop low high ns x.child 0)
  seen (nth_after low high i) o n = and_then (View.look ns n) (λ x. View.nth (turns ns) no_stop low high ns x.next i)
  seen (count_after low high) o n = and_then (View.look ns n) (λ x. View.counted (turns ns) no_stop low high ns x.next 0)
  seen peel o n = Expr.peel (turns ns) ns n
  seen (by_kind f) o n = and_then (View.look ns n) (λ x. seen (f x.kind) o n)
  seen (then q r) o n = and_then (seen q o n) (λ m. seen r n m)
  seen (with q f) o n = and_then (seen q o n) (λ a. seen (f a) o n)
  seen (both q r) o n = and_then (seen q o n) (λ _. seen r o n)
  seen (else q r) o n = or_else (seen q o n) (seen r o n)
  seen (choose t q r) o n = cond t (seen q o n) (seen r o n)
  seen (joined q r) o n = and_then (seen q o n) (λ a. and_then (seen r o n) (λ b. is (span-of a b)))

  -- What a view gives of a node.
  abbrev pub on_words : {s : Sort} → Query s → ℕ → Seen (OnWords s)
  on_words q n = seen q n n

-- ---- on trees: no links, no turns and no refusals

abbrev pub OnTree : Sort → Type 0
OnTree node = Place
OnTree number = ℕ
OnTree tokens = TokenSpan

-- "a node of another kind than the view's .. is answered with none" (01, Refusals)
abbrev pub of_kind : {A : Type 0} → ℕ → ℕ → Place → Option A → Option A
of_kind first last p a = cond (among first last (Tree.kind p)) a Option.none

abbrev pub tokens_of : Place → TokenSpan
tokens_of p = record { start = (label p).first; end = (label p).end }

unfoldable pub told : {s : Sort} → Query s → Place → Place → Option (OnTree s)
told it o p = Option.some p
told (outer q) o p = told q o o
told nothing o p = Option.none
told (give a) o p = Option.some a
told (new first last) o p = of_kind first last p (Option.some p)
told (kind first last) o p = of_kind first last p (Option.some (Tree.kind p - first))
told (payload first last) o p = of_kind first last p (Option.some (Tree.payload p))
told (span first last) o p = of_kind first last p (Option.some (tokens_of p))
told (nth first last stop low high i) o p = of_kind first last p (ith (wanted stop low high (children p)) i)
told (count first last stop low high) o p = of_kind first last p (Option.some (length (wanted stop low high (children p))))
told (nth_after low high i) o p = ith (wanted no_stop low high (after p)) i
told (count_after low high) o p = Option.some (length (wanted no_stop low high (after p)))
told peel o p = peeled p
told (by_kind f) o p = told (f (Tree.kind p)) o p
told (then q r) o p = Option.bind (told q o p) (λ x. told r p x)
told (with q f) o p = Option.bind (told q o p) (λ a. told (f a) o p)
told (both q r) o p = Option.bind (told q o p) (λ _. told r o p)
told (else q r) o p = Option.or_else (told q o p) (told r o p)
told (choose t q r) o p = cond t (told q o p) (told r o p)
told (joined q r) o p = Option.bind (told q o p) (λ a. Option.bind (told r o p) (λ b. Option.some (span-of a b)))

-- What a tree says of a node.
abbrev pub on_tree : {s : Sort} → Query s → Place → Option (OnTree s)
on_tree q p = told q p p

-- ---- the one as the other: a node by its number

abbrev pub as_words : (s : Sort) → OnTree s → OnWords s
as_words node p = (label p).number
as_words number a = a
as_words tokens a = a

unfoldable pub answer : (s : Sort) → Option (OnTree s) → Seen (OnWords s)
answer s (Option.some a) = is (as_words s a)
answer s Option.none = none
