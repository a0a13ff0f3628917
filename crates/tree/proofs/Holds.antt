-- The words that encode a store hold the trees that stand in it.
use Rattle.std.specs.Prelude.{◌≡◌, List, [], ◌∷◌, length, drop}
use Rattle.std.proofs.Math.Path.{refl}
use Rattle.std.proofs.Common.{sym, ◌∙◌, arith, lt-ltb, ne_eqb, get_or-drop}
use Rattle.std.proofs.Math.Option.{Option}
use Prim.Native.Nat.{ℕ, zero, suc, ◌+◌, ◌*◌, ◌≤◌, ◌<◌}
use Rattle.std.proofs.Math.ListN.{get_or}
use Rattle.words.specs.Words.{node_width, node_kind, node_payload}
use Rattle.definition.specs.Prog.{head_word, next_word, child_word}
use Rattle.definition.specs.Abstract.{Node, node_at}
use Rattle.definition.specs.Encodes.{place, next, first_kid, Kids, nobody, kid, Plain, Encodes}
use Rattle.chart.specs.Tree.{Value, Tree, Trees, node, none, ◌▸◌, ◌⊕◌}
use Rattle.tree.specs.Stored.{where-so, said, joined, trees_from, stored}
use Rattle.tree.specs.Grown.{size, sizes, sizes-⊕, Is, Are, is, no_one, and, Built, ⊕-assoc, ⊕-none}

-- Where a row of children, the last one first, begins; n stands behind it.
start : List ℕ → ℕ → ℕ
start [] n = n
start (x ∷ xs) n = start xs x

start_first : (x : ℕ) (xs : List ℕ) → start xs x ≡ first_kid (x ∷ xs)
unfolding start
start_first x [] = refl
start_first x (y ∷ ys) = start_first y ys

start_none : (xs : List ℕ) → start xs 0 ≡ first_kid xs
unfolding start
start_none [] = refl
start_none (x ∷ xs) = start_first x xs

module _ (text tokens values w : List ℕ) (st : List Node) (plain : Plain w st) (enc : Encodes w st) where
  -- From a node's number trees are reached, where so many links or more may follow one another.
  pub record Reaches (n : ℕ) (ts : Trees) (need : ℕ) : Type 0 where
    pub is : (bound : ℕ) → need ≤ bound → trees_from text tokens w values (length st) bound n ≡ Option.some ts

  none-reached : Reaches 0 none 0
  unfolding trees_from where-so
  none-reached = record { is = λ b h. go b }
    where
      go : (b : ℕ) → trees_from text tokens w values (length st) b 0 ≡ Option.some none
      go zero = refl
      go (suc b) = refl

  word_at : (n j : ℕ) → get_or (drop (node_width * n) w) j 0 ≡ get_or w (place n j) 0
  word_at n j = get_or-drop (node_width * n) w j 0

  one-reached : {n k b c : ℕ} {v : Value} {cs us : Trees} → 0 < n → n < length st → node_kind (node_at st n).head ≡ k → said text tokens values (node_kind (node_at st n).head) (node_payload (node_at st n).head) ≡ Option.some v
      → Reaches (get_or w (place n child_word) 0) cs b → Reaches (next w n) us c → Reaches n (node k v cs ▸ us) (suc (b + c))
  unfolding trees_from joined
  one-reached {n} {k} {b} {c} {v} {cs} {us} z l e s down along = record { is = λ bound h. go bound h }
    where
      head : get_or w (place n head_word) 0 ≡ (node_at st n).head
      head = plain.words n 0 l (omega arith)

      go : (bound : ℕ) → suc (b + c) ≤ bound → trees_from text tokens w values (length st) bound n ≡ Option.some (node k v cs ▸ us)
      go zero h = absurd (omega arith)
      go (suc bound) h =
          rw (ne_eqb n 0 (omega arith), lt-ltb n (length st) l, word_at n head_word, word_at n next_word, word_at n child_word, head, s, e, down.is bound (omega arith), along.is bound (omega arith))

  mutual
    unfolding start ◌⊕◌ size sizes

    kids-reached : {P : ℕ → Type 0} {o b n c : ℕ} {xs : List ℕ} {ts us : Trees} → Are text tokens st values P xs ts → Kids w st o b n xs → b ≤ length st → Reaches n us c → Reaches (start xs n) (ts ⊕ us) (sizes ts + c)
    kids-reached {c = c} no_one nobody l rest = record { is = λ bound h. rest.is bound (omega arith) }
    kids-reached {c = c} {us = us} (and {t = t} {ts = ts} {us = all} r one e) (kid {x = x} z p q nx k) l rest =
        let here : Reaches x (t ▸ us) (size t + c) = tree-reached one z (omega arith) nx rest in
        let whole : Reaches _ (ts ⊕ (t ▸ us)) (sizes ts + (size t + c)) = kids-reached r k (omega arith) here in
        let same : all ⊕ us ≡ ts ⊕ (t ▸ us) = rw e (⊕-assoc ts (t ▸ none) us) in
        let many : sizes all ≡ sizes ts + size t = rw e (sizes-⊕ ts (t ▸ none) ∙ omega arith) in
        rw same (record { is = λ bound h. whole.is bound (omega arith) })

    tree-reached : {P : ℕ → Type 0} {x n c : ℕ} {t : Tree} {us : Trees} → Is text tokens st values P x t → 0 < x → x < length st → next w x ≡ n → Reaches n us c → Reaches x (t ▸ us) (size t + c)
    tree-reached {n = n} {c = c} {us = us} (is {n = x} {ts = ts} h k s r) z l e rest =
        let below : Reaches (start (node_at st x).kids 0) (ts ⊕ none) (sizes ts + 0) = kids-reached r (enc.chains x l) (omega arith) none-reached in
        let first : get_or w (place x child_word) 0 ≡ start (node_at st x).kids 0 = enc.firsts x l ∙ sym (start_none (node_at st x).kids) in
        let flat : Reaches (start (node_at st x).kids 0) ts (sizes ts + 0) = rw (⊕-none ts) at below in
        let down : Reaches (get_or w (place x child_word) 0) ts (sizes ts + 0) = rw first flat in
        let along : Reaches (next w x) us c = rw e rest in
        let all : Reaches x _ (suc (sizes ts + 0 + c)) = one-reached z l k s down along in
        record { is = λ bound g. all.is bound (omega arith) }

  -- The tree at node 0, which has no parent, is the one that the words hold, where it has no more nodes than there are.
  pub holds : {P : ℕ → Type 0} {t : Tree} → Is text tokens st values P 0 t → (node_at st 0).own ≡ 0 → 0 < length st → size t ≤ length st → stored text tokens w values (length st) ≡ Option.some (t ▸ none)
  unfolding stored joined size sizes
  holds (is {k = k} {v = v} {ts = ts} h e s r) own z room = go (length st) refl
    where
      below : Reaches (start (node_at st 0).kids 0) (ts ⊕ none) (sizes ts + 0)
      below = kids-reached r (enc.chains 0 z) (omega arith) none-reached

      flat : Reaches (start (node_at st 0).kids 0) ts (sizes ts + 0)
      flat = rw (⊕-none ts) at below

      first : get_or w (place 0 child_word) 0 ≡ start (node_at st 0).kids 0
      first = enc.firsts 0 z ∙ sym (start_none (node_at st 0).kids)

      down : trees_from text tokens w values (length st) (length st) (get_or w (place 0 child_word) 0) ≡ Option.some ts
      down = rw first (flat.is (length st) (omega arith))

      head : get_or w (place 0 head_word) 0 ≡ (node_at st 0).head
      head = plain.words 0 0 z (omega arith)

      go : (c : ℕ) → c ≡ length st → stored text tokens w values c ≡ Option.some (node k v ts ▸ none)
      go zero q = absurd (omega arith)
      go (suc c) q = rw (q, word_at 0 head_word, word_at 0 next_word, word_at 0 child_word, enc.free 0 z own, head, s, e, down)

-- So where a file was built from nothing, its words hold its tree: the bound is never met.
pub file-held : {text tokens w values : List ℕ} {st : List Node} {t : Tree} → Plain w st → Encodes w st → Built text tokens [] [] st values 0 t → stored text tokens w values (length st) ≡ Option.some (t ▸ none)
file-held {text} {tokens} {w} {values} {st} plain enc b = holds text tokens values w st plain enc b.tree b.root b.high (omega (arith, b.size_is))
