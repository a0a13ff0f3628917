-- `Viewed` holds of what reading leaves of a text free of reports.
use Rattle.std.specs.Prelude.{◌≡◌, refl, List, ℕ, suc, ◌≤◌, ◌<◌, get_or, take}
use Rattle.std.proofs.Common.{sym, ◌∙◌, ap, arith}
use Rattle.std.proofs.Math.Option as Option
use Rattle.definition.specs.Prog.{child_word}
use Rattle.definition.specs.Encodes as Encodes
use Rattle.chart.specs.Tree.{Trees}
use Rattle.tree.specs.Stored.{stored}
use Rattle.definition.specs.Encodes.{parent_of}
use Rattle.rising.specs.Linked.{Reached, Child, eldest, younger}
use Rattle.rising.specs.Linked as Linked
use Rattle.rising.specs.Family.{Family}
use Rattle.reader.specs.Read.{Lent, reads}
use Rattle.reader.proofs.Joined.{agreed}
use Rattle.rising.specs.Sound.{Sound}
use Rattle.looking.specs.View.{turns}
use Rattle.viewed.specs.Numbered.{Place, Row, place, from, Within, itself, below, beside, ChildOf, label, children, after}
use Rattle.viewed.specs.Numbered as Numbered
use Rattle.viewed.specs.Looks.{next-same, child-same, looked, child-inside, next-inside, reads-sound}
use Rattle.viewed.specs.Stands.{Heads, nobody, somebody, one_place, file-held}
use Rattle.viewed.proofs.Answers.{Held, held, is-answer, answers}
use Rattle.viewed.specs.Viewed.{Viewed, Views}

child-above : {w : List ℕ} {p i : ℕ} → Child w p i → 0 < i
child-above (eldest z e) = z
child-above (younger c z e) = z

module _ (text tokens values ns : List ℕ) where
  first-held : {b n : ℕ} {p : Place} → suc b ≤ turns ns → Heads text tokens values ns b n (from p) → Held text tokens values ns p
  first-held few (somebody z e s) = held text tokens values ns (omega arith) s

  within_held : {root p : Place} → Held text tokens values ns root → Within root p → Held text tokens values ns p
  within_held h itself = h
  within_held h (below w) = let g = within_held h w in first-held g.few g.below
  within_held h (beside w) = let g = within_held h w in first-held g.few g.beside

  module _ (root : Place) (file : (label root).number ≡ 0) (whole : Held text tokens values ns root) where
    abbrev Placed : ℕ → Type 0
    Placed i = (p : Place) × Within root p × ((label p).number ≡ i)

    -- Where a link leads.
    linked : {b n i : ℕ} {r : Row} → Heads text tokens values ns b n r → n ≡ i → ((p : Place) → r ≡ from p → Within root p) → Placed i
    linked (nobody z) e k = (root, itself, file ∙ sym z ∙ e)
    linked (somebody {p = p} z f s) e k = (p, k p refl, sym f ∙ e)

    child-of : {i : ℕ} (q : Place) → Within root q → get_or ns (Encodes.place (label q).number child_word) 0 ≡ i → Placed i
    child-of (place l k v cs us) w e =
        linked (within_held whole w).below (child-same ns l.number ∙ e) (λ p q. below (rw q at w))

    next_of : {i : ℕ} (q : Place) → Within root q → Encodes.next ns (label q).number ≡ i → Placed i
    next_of (place l k v cs us) w e =
        linked (within_held whole w).beside (next-same ns l.number ∙ e) (λ p q. beside (rw q at w))

    -- A link to a row leads to its first place.
    leads : {b n : ℕ} {r : Row} {q : Place} → Heads text tokens values ns b n r → r ≡ from q → (0 < n) × (n ≡ (label q).number)
    leads (nobody z) e = absurd (let y : ◌≡◌ {A = ℕ} 0 1 = cc in omega arith)
    leads {q = q} (somebody {p = p} z f s) e = let y : p ≡ q = cc in (omega arith, f ∙ ap (λ (x : Place). (label x).number) y)

    -- The children of a place are those of its node.
    abbrev Below : Place → Place → Type 0
    Below p q = Within root q × Child ns (label p).number (label q).number

    first-child : (p q : Place) → Within root p → children p ≡ from q → Below p q
    first-child (place l k v cs us) q w e =
        let (z, f) = leads (within_held whole w).below e in
        (below (rw e at w), eldest (rw f at z) (sym (child-same ns l.number) ∙ f))

    next-child : (p q r : Place) → Below p q → after q ≡ from r → Below p r
    next-child p (place l k v cs us) r (w, c) e =
        let (z, f) = leads (within_held whole w).beside e in
        (beside (rw e at w), younger c (rw f at z) (sym (next-same ns l.number) ∙ f))

    child-placed : (p q : Place) → Within root p → ChildOf p q → Below p q
    child-placed p q w (Numbered.eldest e) = first-child p q w e
    child-placed p r w (Numbered.younger {q = q} c e) = next-child p q r (child-placed p q w c) e

    -- Places have the numbers of counted nodes.
    counted : (count : ℕ) → Sound ns count → 0 < count → {p : Place} → Within root p → (label p).number < count
    counted count sound some itself = rw file some
    counted count sound some (below {l = l} {k = k} {v = v} {us = us} {p = p} w) = rw (← (leads (within_held whole w).below refl).1) (child-inside ns count sound l.number (counted count sound some w))
    counted count sound some (beside {l = l} {k = k} {v = v} {cs = cs} {p = p} w) = rw (← (leads (within_held whole w).beside refl).1) (next-inside ns count sound l.number (counted count sound some w))

    told : (count : ℕ) → Sound ns count → Family ns count → (p q : Place) → Within root p → ChildOf p q → parent_of ns (label q).number ≡ (label p).number
    told count sound f p q w c =
        let (v, k) = child-placed p q w c in
        sym ((f.parents (label q).number (child-above k) (counted count sound f.some v)).only (label p).number (counted count sound f.some w) k)

    -- So what is reached has a place.
    placed : {i : ℕ} → Reached ns i → Placed i
    placed (Linked.root e) = (root, itself, file ∙ sym e)
    placed (Linked.below r e) = let (q, w, f) = placed r in child-of q w (rw f e)
    placed (Linked.beside r e) = let (q, w, f) = placed r in next_of q w (rw f e)

  viewed : (count : ℕ) (t : Trees) → stored text tokens ns values count ≡ Option.some t → Family ns count → Sound ns count → Viewed text tokens ns values count t
  viewed count t e f sound =
      let (root, tree, file, s) = file-held text tokens values ns count (looked ns count sound) t e in
      let whole : Held text tokens values ns root = held text tokens values ns (omega (arith, sound.room)) s in
      record {
        root = root;
        tree = tree;
        file = file;
        all = λ n l. placed root file whole (f.reached n l);
        one = λ p q w x. one_place text tokens values ns (within_held whole w).stood (within_held whole x).stood;
        parents = told root file whole count sound f;
        says = λ p w. (within_held whole w).says;
        views = λ p w q. is-answer text tokens values ns (answers text tokens values ns q (within_held whole w) (within_held whole w));
      }

-- On words that reading made of a text free of reports, no view refuses, and each gives what the tree says.
pub reads-viewed : (text : List ℕ) (lent : Lent) → Views text (reads text lent)
reads-viewed text lent tokens nodes values e =
    let a = agreed text lent e in
    let (t, d) = a.exactly.0 refl in
    (t, d, viewed text (take tokens (reads text lent).tokens) (take values (reads text lent).values) (reads text lent).nodes nodes t (a.tree t d) a.family (reads-sound text lent e))
