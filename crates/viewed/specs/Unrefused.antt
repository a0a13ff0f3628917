-- No view refuses on words in which every counted node is sound, and so on the words that reading leaves of any text.
use Rattle.std.proofs.Math.Path.{refl}
use Rattle.std.specs.Prelude.{Bool, cond, List, eqb}
use Rattle.std.proofs.Math.Bool.{true, false}
use Prim.Native.Nat.{ℕ, zero, suc, ◌+◌, ◌-◌, ◌<◌}
use Rattle.words.specs.Node
use Rattle.words.specs.declared.node.Node.{Node as Fields}
use Rattle.rising.specs.Sound.{Sound}
use Rattle.reader.specs.Read.{Lent, reads}
use Rattle.looking.specs.View
use Rattle.looking.specs.View.{Seen, is, none, and_then, or_else, look, node_at, among, no_stop, turns}
use Rattle.expr.specs.Expr
use Rattle.viewed.specs.Query.{Sort, node, number, Query, OnWords, seen, span-of}
use Rattle.viewed.specs.Viewed.{Counted, Unrefused, gives, finds-none, NeverRefused}
use Rattle.viewed.specs.Looks.{looked, child-inside, next-inside, reads-sound}

module _ (ns : List ℕ) (count : ℕ) (sound : Sound ns count) where
  abbrev Fine : (s : Sort) → Seen (OnWords s) → Type 0
  Fine s x = Unrefused count s x

  then-fine : {r s : Sort} {x : Seen (OnWords r)} (f : OnWords r → Seen (OnWords s)) → Fine r x → ((a : OnWords r) → Counted count r a → Fine s (f a)) → Fine s (and_then x f)
  unfolding and_then
  then-fine f (gives a c e) k = rw e (k a c)
  then-fine f (finds-none e) k = rw e (finds-none refl)

  else-fine : {s : Sort} {x y : Seen (OnWords s)} → Fine s x → Fine s y → Fine s (or_else x y)
  unfolding or_else
  else-fine (gives a c e) k = rw e (gives a c refl)
  else-fine (finds-none e) k = rw e k

  choose-fine : {s : Sort} {x y : Seen (OnWords s)} (t : Bool) → Fine s x → Fine s y → Fine s (cond t x y)
  choose-fine true a b = a
  choose-fine false a b = b

  look-fine : {s : Sort} (n : ℕ) (f : Fields → Seen (OnWords s)) → n < count → Fine s (f (node_at ns n)) → Fine s (and_then (look ns n) f)
  unfolding and_then
  look-fine n f l k = rw (looked ns count sound n l) k

  of-fine : {s : Sort} (first last n : ℕ) (f : Fields → Seen (OnWords s)) → n < count → Fine s (f (node_at ns n)) → Fine s (and_then (View.of first last ns n) f)
  unfolding and_then View.of
  of-fine {s} first last n f l k = rw (looked ns count sound n l) (go (among first last (node_at ns n).kind))
    where
      go : (t : Bool) → Fine s (and_then (cond t (is (node_at ns n)) none) f)
      go true = k
      go false = finds-none refl

  module _ (stop low high : ℕ) where
    nth-fine : (t n i : ℕ) → n < count → Fine node (View.nth t stop low high ns n i)
    unfolding View.nth
    nth-fine zero n i l = finds-none refl
    nth-fine (suc t) n i l =
        choose-fine (eqb n 0) (finds-none refl)
        (look-fine n _ l (choose-fine (eqb (node_at ns n).kind stop) (finds-none refl)
        (choose-fine (among low high (node_at ns n).kind) (choose-fine (eqb i 0) (gives n l refl) (nth-fine t (node_at ns n).next (i - 1) (next-inside ns count sound n l))) (nth-fine t (node_at ns n).next i (next-inside ns count sound n l)))))

    count-fine : (t n sum : ℕ) → n < count → Fine number (View.counted t stop low high ns n sum)
    unfolding View.counted
    count-fine zero n sum l = gives sum tt refl
    count-fine (suc t) n sum l =
        choose-fine (eqb n 0) (gives sum tt refl)
        (look-fine n _ l (choose-fine (eqb (node_at ns n).kind stop) (gives sum tt refl) (count-fine t (node_at ns n).next (cond (among low high (node_at ns n).kind) (sum + 1) sum) (next-inside ns count sound n l))))

  peel-fine : (t n : ℕ) → n < count → Fine node (Expr.peel t ns n)
  unfolding Expr.peel
  peel-fine zero n l = finds-none refl
  peel-fine (suc t) n l =
      look-fine n _ l (choose-fine (eqb (node_at ns n).kind Node.ParenExpr) (choose-fine (eqb (node_at ns n).child 0) (finds-none refl) (peel-fine t (node_at ns n).child (child-inside ns count sound n l))) (gives n l refl))

  -- All questions, one by one.
  pub unrefused : {s : Sort} (q : Query s) (o n : ℕ) → o < count → n < count → Fine s (seen ns q o n)
  unfolding seen
  unrefused Query.it o n g l = gives n l refl
  unrefused (Query.outer q) o n g l = unrefused q o o g g
  unrefused Query.nothing o n g l = finds-none refl
  unrefused (Query.give a) o n g l = gives a tt refl
  unrefused (Query.new first last) o n g l = of-fine first last n _ l (gives n l refl)
  unrefused (Query.kind first last) o n g l = of-fine first last n _ l (gives _ tt refl)
  unrefused (Query.payload first last) o n g l = of-fine first last n _ l (gives _ tt refl)
  unrefused (Query.span first last) o n g l = of-fine first last n _ l (gives _ tt refl)
  unrefused (Query.nth first last stop low high i) o n g l = of-fine first last n _ l (nth-fine stop low high (turns ns) _ i (child-inside ns count sound n l))
  unrefused (Query.count first last stop low high) o n g l = of-fine first last n _ l (count-fine stop low high (turns ns) _ 0 (child-inside ns count sound n l))
  unrefused (Query.nth_after low high i) o n g l = look-fine n _ l (nth-fine no_stop low high (turns ns) _ i (next-inside ns count sound n l))
  unrefused (Query.count_after low high) o n g l = look-fine n _ l (count-fine no_stop low high (turns ns) _ 0 (next-inside ns count sound n l))
  unrefused Query.peel o n g l = peel-fine (turns ns) n l
  unrefused (Query.by_kind f) o n g l = look-fine n _ l (unrefused (f (node_at ns n).kind) o n g l)
  unrefused (Query.then q r) o n g l = then-fine _ (unrefused q o n g l) (λ m h. unrefused r n m l h)
  unrefused (Query.with q f) o n g l = then-fine _ (unrefused q o n g l) (λ a h. unrefused (f a) o n g l)
  unrefused (Query.both q r) o n g l = then-fine _ (unrefused q o n g l) (λ a h. unrefused r o n g l)
  unrefused (Query.else q r) o n g l = else-fine (unrefused q o n g l) (unrefused r o n g l)
  unrefused (Query.choose t q r) o n g l = choose-fine t (unrefused q o n g l) (unrefused r o n g l)
  unrefused (Query.joined q r) o n g l = then-fine _ (unrefused q o n g l) (λ a h. then-fine _ (unrefused r o n g l) (λ b i. gives (span-of a b) tt refl))

-- On words that reading made of any text no view refuses.
pub never-refused : (text : List ℕ) (lent : Lent) → NeverRefused (reads text lent)
never-refused text lent tokens nodes values reports e n l s q = unrefused (reads text lent).nodes nodes (reads-sound text lent e) q n n l l
