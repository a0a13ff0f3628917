-- A list that is closed and what closes the node after it: an else block after the else-if branches, the closing expression after statements.
use Rattle.std.specs.Prelude.{◌≡◌, true, List, [], ◌∷◌, ◌++◌, ℕ, ◌+◌, ◌<◌}
use Rattle.std.proofs.Math.Path.{refl}
use Rattle.std.proofs.Common.{◌∙◌, arith}
use Rattle.std.proofs.Math.Option.{Option}
use Rattle.std.proofs.Math.ListN.{length, length-append, get_or-append}
use Rattle.words.specs.Words.{node_head}
use Rattle.definition.specs.declared.Unfinished.{Unfinished}
use Rattle.definition.specs.Prog.{Then, head_word, end_word, first_word}
use Rattle.definition.specs.Nodes.{alloc_node_from, close_node_at, close_node, update_kind, push_child}
use Rattle.definition.specs.Expressions.{push_closing}
use Rattle.definition.specs.Abstract.{no_node, new_node, written, adopted, word_in, World, Fate, with_store, with_link}
use Rattle.definition.specs.Encodes.{written-length, adopted-length}
use Rattle.chart.specs.Row.{RowToken}
use Rattle.chart.specs.Tree.{flags, Tree, Trees, node, none, ◌▸◌, ◌⊕◌}
use Rattle.chart.specs.Parser.{Outcome}
use Rattle.tree.specs.Grown.{size, ⊕-assoc, Waiting, opened, ahead, closed, waits, waits-on, adopt, rekinded, wait-rekinded, ended, wait-ended}
use Rattle.agreement.specs.Run.{run}
use Rattle.agreement.specs.Sim.{Sim, Setting, runs, Fits}
use Rattle.agreement.specs.Steps.{is_flagged, flagged, Open, Done, both, push-rule, close-branch}

module _ (s : Setting) where
  -- A list that is open and the tree read since, if any.
  pub data Closes (c u : World) (l : Unfinished) (h : ℕ) (us : Trees) : Option ℕ → Trees → Type 0 where
    no-closing : Open s c u l h 0 us → Closes c u l h us Option.none none
    closing : {b : ℕ} {t : Tree} (v : World) → Open s c v l h 0 us → Done s v u b t → Closes c u l h us (Option.some b) (t ▸ none)

  module _ {B : Type 0} {P : B → World → Outcome → Type 0} where
    -- The list is closed and linked, then what closes the node.
    pub closing-rule : (w c u : World) (k : Unfinished → World → Fate B) (x l : Unfinished) (last : Option ℕ) (kind : ℕ) {h : ℕ} {ts us after : Trees} {xs : List RowToken} {o : Outcome} → Open s w c x h 0 ts → is_flagged kind 0 ≡ true
        → Closes c u l (node_head kind 0) us last after → Fits s u xs
        → ((y : Unfinished) (z : World) → Open s w z y h 0 (ts ⊕ (node kind (flags 0) us ▸ after)) → Fits s z xs → Sim P (k y z) o)
        → Sim P (runs s (close_node l) u (λ n v. runs s (push_child x n) v (λ y z. runs s (push_closing y n last) z k))) o
    unfolding run push_closing close_node close_node_at push_child ◌⊕◌
    closing-rule w c u k x l last kind q e (no-closing o) f g =
        close-branch s c u (λ n v. runs s (push_child x n) v k) l o e f (λ n v d f₁. push-rule s w c v k x n q d f₁ g)
    closing-rule w c u k x l last kind {h} {ts} {us} q e (closing {b} {t} v o d) f g =
        let n = l.node in
        let tree = node kind (flags 0) us in
        let a = flagged s.text s.tokens v.values kind 0 e in
        let dl : Done s c v n tree = rw a.kind-is at (closed s.text s.tokens o a.says) in
        let g₁ : Open s w u x h (size tree + (size t + 0)) ts =
        ahead s.text s.tokens (omega (arith, dl.size_is, d.size_is)) (λ i m. d.old i (omega (arith, dl.size_is)) ∙ dl.old i m) (λ i p y z. d.says i p y (dl.says i p y z))
        (omega (arith, q.size_is, dl.size_is, d.size_is)) q in
        let first : Waiting s.text s.tokens w.store u.store u.values x.node n tree =
        waits s.text s.tokens (omega (arith, q.size_is)) dl (omega (arith, d.size_is)) d.old d.says (λ i m p. omega (arith, q.high)) in
        let second : Waiting s.text s.tokens w.store u.store u.values x.node b t =
        waits s.text s.tokens (omega (arith, q.size_is, dl.size_is)) d (omega arith) (λ i m. refl) (λ i p y z. z) (λ i m p. omega (arith, q.high, dl.size_is)) in
        let st₁ = written n end_word u.at u.store in
        let (g₂, may₁) = adopt s.text s.tokens (ended s.text s.tokens n u.at (omega (arith, first.low)) g₁) (wait-ended s.text s.tokens n u.at first) (omega (arith, q.below, dl.low)) in
        let second₁ = waits-on s.text s.tokens n (omega (arith, dl.high, d.low)) (wait-ended s.text s.tokens n u.at second) in
        let st₂ = adopted x.node n st₁ in
        let at = word_in b first_word st₂ in
        let (g₃, may₂) = adopt s.text s.tokens (ended s.text s.tokens n at (omega (arith, first.low)) g₂) (wait-ended s.text s.tokens n at second₁) (omega (arith, dl.high, d.low)) in
        let same : (ts ⊕ (tree ▸ none)) ⊕ (t ▸ none) ≡ ts ⊕ (tree ▸ (t ▸ none)) = ⊕-assoc ts (tree ▸ none) (t ▸ none) in
        let st₃ = written n end_word at st₂ in
        let long : length (adopted x.node b st₃) ≡ length u.store = adopted-length x.node b st₃ ∙ (written-length n end_word at st₂ ∙ (adopted-length x.node n st₁ ∙ written-length n end_word u.at u.store)) in
        g (record { node = x.node; last = b }) _ (rw same at g₃)
        (record { ahead = f.ahead; room = f.room; few = f.few; born = rw long f.born; sound = both _ _ (both _ _ f.sound may₁) may₂ })

    -- A child was read; the kind of its parent is set anew, then the child is linked.
    pub update-push-rule : (w u v : World) (k : Unfinished → World → Fate B) (x : Unfinished) (c kind payload : ℕ) {h : ℕ} {ts : Trees} {t : Tree} {xs : List RowToken} {o : Outcome} → Open s w u x h 0 ts → Done s u v c t → Fits s v xs
        → ((y : Unfinished) (z : World) → Open s w z y (node_head kind payload) 0 (ts ⊕ (t ▸ none)) → Fits s z xs → Sim P (k y z) o)
        → Sim P (runs s (update_kind x kind payload) v (λ _ z. runs s (push_child x c) z k)) o
    unfolding run update_kind push_child
    update-push-rule w u v k x c kind payload {h} {ts} {t} q d f g =
        let new = node_head kind payload in
        let g₁ : Open s w v x h (size t + 0) ts = ahead s.text s.tokens (omega (arith, d.size_is)) d.old d.says (omega (arith, q.size_is, d.size_is)) q in
        let child : Waiting s.text s.tokens w.store v.store v.values x.node c t =
        waits s.text s.tokens (omega (arith, q.size_is)) d (omega arith) (λ i m. refl) (λ i p y z. z) (λ i m p. omega (arith, q.high)) in
        let (g₂, may) = adopt s.text s.tokens (rekinded s.text s.tokens new g₁) (wait-rekinded s.text s.tokens new child) (omega (arith, q.below, d.low)) in
        let st = written x.node head_word new v.store in
        let long : length (adopted x.node c st) ≡ length v.store = adopted-length x.node c st ∙ written-length x.node head_word new v.store in
        g (record { node = x.node; last = c }) _ g₂ (record { ahead = f.ahead; room = f.room; few = f.few; born = rw long f.born; sound = both _ _ f.sound may })

    -- A node is opened around one that was read before.
    pub around-rule : (w u : World) (k : Unfinished → World → Fate B) (start kind payload c : ℕ) {t : Tree} {xs : List RowToken} {o : Outcome} → 0 < length w.store → Done s w u c t → Fits s u xs
        → ((y : Unfinished) (z : World) → Open s w z y (node_head kind payload) 0 (t ▸ none) → Fits s z xs → Sim P (k y z) o)
        → Sim P (runs s (Then (alloc_node_from start kind payload) (λ x. push_child x c)) u k) o
    unfolding run alloc_node_from push_child ◌⊕◌
    around-rule w u k start kind payload c {t} {xs} born b f h =
        let new = new_node start kind payload in
        let now = u.store ++ (new ∷ []) in
        let n = length u.store in
        let l : length now ≡ n + 1 = length-append u.store (new ∷ []) in
        let g = opened s.text s.tokens {st = w.store} {u = size t + 0} u.store u.values new (omega (arith, b.size_is)) b.old b.says refl refl in
        let x = waits s.text s.tokens {base = w.store} {now = now} {most = u.values} {p = n} (omega arith) b (omega (arith, l)) (λ i q. get_or-append u.store (new ∷ []) no_node i q) (λ k p v d. d) (omega arith) in
        let (p, m) = adopt s.text s.tokens {u = 0} g x (omega (arith, born, b.low)) in
        h (record { node = n; last = c }) (with_link n 0 c (with_store now u)) p
        (record { ahead = f.ahead; room = f.room; few = f.few; born = rw (adopted-length n c now) (omega (arith, l)); sound = rw (f.sound, m) })

    -- Around two.
    pub around-two : (w u v : World) (k : Unfinished → World → Fate B) (start kind payload c d : ℕ) {t t₁ : Tree} {xs : List RowToken} {o : Outcome} → 0 < length w.store → Done s w u c t → Done s u v d t₁ → Fits s v xs
        → ((y : Unfinished) (z : World) → Open s w z y (node_head kind payload) 0 (t ▸ (t₁ ▸ none)) → Fits s z xs → Sim P (k y z) o)
        → Sim P (runs s (Then (alloc_node_from start kind payload) (λ x. Then (push_child x c) (λ y. push_child y d))) v k) o
    unfolding run alloc_node_from push_child ◌⊕◌
    around-two w u v k start kind payload c d {t} {t₁} {xs} born b b₁ f h =
        let new = new_node start kind payload in
        let now = v.store ++ (new ∷ []) in
        let n = length v.store in
        let l : length now ≡ n + 1 = length-append v.store (new ∷ []) in
        let g = opened s.text s.tokens {st = w.store} {u = size t + (size t₁ + 0)} v.store v.values new (omega (arith, b.size_is, b₁.size_is)) (λ i m. b₁.old i (omega (arith, b.size_is)) ∙ b.old i m) (λ i p y z. b₁.says i p y (b.says i p y z)) refl refl in
        let x = waits s.text s.tokens {base = w.store} {now = now} {most = v.values} {p = n} (omega arith) b (omega (arith, l, b₁.size_is)) (λ i q. get_or-append v.store (new ∷ []) no_node i (omega (arith, b₁.size_is)) ∙ b₁.old i q) b₁.says (λ i p q. omega (arith, b₁.size_is)) in
        let x₁ = waits s.text s.tokens {base = w.store} {now = now} {most = v.values} {p = n} (omega (arith, b.size_is)) b₁ (omega (arith, l)) (λ i q. get_or-append v.store (new ∷ []) no_node i q) (λ k p v d. d) (λ i p q. omega arith) in
        let (p, m) = adopt s.text s.tokens {u = size t₁ + 0} g x (omega (arith, born, b.low)) in
        let (p₁, m₁) = adopt s.text s.tokens {u = 0} p (waits-on s.text s.tokens c (omega (arith, b.high, b₁.low)) x₁) (omega (arith, b.high, b₁.low)) in
        h (record { node = n; last = d }) (with_link n c d (with_link n 0 c (with_store now v))) p₁
        (record { ahead = f.ahead; room = f.room; few = f.few; born = rw (adopted-length n d (adopted n c now), adopted-length n c now) (omega (arith, l)); sound = rw (f.sound, m, m₁) })
