-- Laws of the commands on nodes: what each does, by case.
use Rattle.std.specs.Prelude.{◌≡◌, List, [], Bool, true, false, cond, ℕ, ◌+◌, ◌*◌, ◌≤◌, ◌<◌, leb, ltb, length, set, get_or, Some, None}
use Rattle.std.proofs.Math.Path.{refl}
use Rattle.std.proofs.Common.{sym, ◌∙◌, ap, arith, ltb-true, leb-true, lt-ltb, le-ltb, eq-eqb, ne_eqb}
use Rattle.std.proofs.Math.Numerals.{towards_suc}
use Rattle.std.proofs.Math.ListN.{get_or-eq_default}
use Rattle.std.proofs.lemmas.List.Edits.{sets}
use Rattle.std.proofs.Math.Seq.{set_out}
use Rattle.words.specs.Refusal.{number}
use Rattle.words.specs.declared.refusal.Refusal.TheVariants.{NodesDontFit}
use Rattle.words.specs.declared.node.Node.{Node}
use Rattle.words.specs.Words.{node_head, node_kind, node_width, node_words}
use Rattle.definition.specs.declared.State.{State}
use Rattle.definition.specs.Prog.{Prog, Act, alloc, close_at, close_at_start, set_kind, link, kind_of, memory, Out, done, refused, eval}
use Rattle.definition.specs.Prog.{allocated, last_node, with_nodes, word_of, stored, linked, head_word, first_word, end_word, next_word, child_word, parent_word}
use Rattle.reading.specs.declared.parser.Parser.{Parser}
use Rattle.reading.specs.Standing.{is_refused, words, refused_at, Kept}
use Rattle.reading.specs.Does.{Does, run, goes, halts, same}
use Rattle.nodes.specs.Words.{has_room, stored_in, word_in}

-- ---- one word of a node

stored-in : (n word w : ℕ) (s : State) (ns vs rs : List ℕ) → stored n word w s (memory ns vs rs) ≡ memory (stored_in n word w s ns) vs rs
unfolding stored
stored-in n word w s ns vs rs = go (ltb n s.nodes)
  where
    go : (b : Bool) → cond b (memory (set ns (node_width * n + word) w) vs rs) (memory ns vs rs)
        ≡ memory (cond b (memory (set ns (node_width * n + word) w) [] []) (memory ns [] [])).nodes vs rs
    go true = refl
    go false = refl

-- One word, and then a child's parent.
stored-two : (n word w child parent : ℕ) (s : State) (ns mid ns' vs rs : List ℕ) → mid ≡ stored_in n word w s ns → ns' ≡ stored_in child parent_word parent s mid
    → stored child parent_word parent s (stored n word w s (memory ns vs rs)) ≡ memory ns' vs rs
stored-two n word w child parent s ns mid ns' vs rs e f =
    ap (stored child parent_word parent s) (stored-in n word w s ns vs rs ∙ ap (λ x. memory x vs rs) (sym e)) ∙ (stored-in child parent_word parent s mid vs rs ∙ ap (λ x. memory x vs rs) (sym f))

module _ (n word : ℕ) (s : State) (ns : List ℕ) where
  pub stored-none : (w : ℕ) → s.nodes ≤ n → ns ≡ stored_in n word w s ns
  unfolding stored
  stored-none w h = rw (le-ltb n s.nodes h, stored_in, stored)

  pub stored-out : (w : ℕ) → n < s.nodes → length ns ≤ node_width * n + word → ns ≡ stored_in n word w s ns
  unfolding stored
  stored-out w h g = rw (lt-ltb n s.nodes h, stored_in, stored) (sym (set_out ns (node_width * n + word) w g))

  pub stored_there : (w : ℕ) → n < s.nodes → set ns (node_width * n + word) w ≡ stored_in n word w s ns
  unfolding stored
  stored_there w h = rw (lt-ltb n s.nodes h, stored_in, stored)

  pub word_none : s.nodes ≤ n → 0 ≡ word_in n word s ns
  unfolding word_of
  word_none h = rw (le-ltb n s.nodes h, word_of)

  pub word_out : n < s.nodes → length ns ≤ node_width * n + word → 0 ≡ word_in n word s ns
  unfolding word_of
  word_out h g = rw (lt-ltb n s.nodes h, word_of, get_or-eq_default)

  pub word-there : n < s.nodes → get_or ns (node_width * n + word) 0 ≡ word_in n word s ns
  unfolding word_of
  word-there h = rw (lt-ltb n s.nodes h, word_of)

-- ---- commands that a refused parser may carry out too: it stays refused, and what is written then doesn't count

pub acts : {A : Type 0} {c : Prog A} {a : A} {p p' : Parser} → p'.refused ≡ p.refused → Kept p p' → run p c p.state (words p) ≡ done a p'.state (words p') → Does c p a p'
acts {A = A} {p = p} g k e =
    record { is = λ w. rw g (ap (λ (o : Out A). elim p.refused [ None ↦ o | Some r ↦ refused (number r.refusal) r.place ]) (sym e)); kept = k }

-- Other words of nodes under the same name.
abbrev pub with_node_words : List ℕ → Parser → Parser
with_node_words ns p = record p { nodes = record p.nodes { now = ns } }

module _ {p : Parser} (ns' : List ℕ) where
  rewritten : {c : Act} → run p c p.state (words p) ≡ done tt p.state (memory ns' p.values.now p.reports.now) → Does c p tt (with_node_words ns' p)
  rewritten e = acts refl (record { text = refl; tokens = refl; nodes = refl; values = refl; reports = refl; levels = refl }) e

  writes : {c : Act} (n word w : ℕ) → run p c p.state (words p) ≡ done tt p.state (stored n word w p.state (words p))
      → ns' ≡ stored_in n word w p.state p.nodes.now → Does c p tt (with_node_words ns' p)
  writes n word w e f = rewritten (e ∙ rw (stored-in, f))

  pub close_at-is : (n end : ℕ) → ns' ≡ stored_in n end_word end p.state p.nodes.now → Does (close_at n end) p tt (with_node_words ns' p)
  unfolding eval
  close_at-is n end f = writes n end_word end refl f

  pub close_at_start-is : (n k start : ℕ) → start ≡ word_in k first_word p.state p.nodes.now → ns' ≡ stored_in n end_word start p.state p.nodes.now
      → Does (close_at_start n k) p tt (with_node_words ns' p)
  unfolding eval word_of
  close_at_start-is n k start e f = writes n end_word start (rw e) f

  pub set_kind-is : (n kind payload head : ℕ) → head ≡ node_head kind payload → ns' ≡ stored_in n head_word head p.state p.nodes.now
      → Does (set_kind n kind payload) p tt (with_node_words ns' p)
  unfolding eval
  set_kind-is n kind payload head e f = writes n head_word head (rw e) f

  -- A link writes two words, one after the other.
  module _ (mid : List ℕ) where
    pub link-first : (parent last child : ℕ) → last ≡ 0 → mid ≡ stored_in parent child_word child p.state p.nodes.now
        → ns' ≡ stored_in child parent_word parent p.state mid → Does (link parent last child) p tt (with_node_words ns' p)
    unfolding eval linked
    link-first parent last child h e f =
        rewritten (ap (done tt p.state) (rw (eq-eqb last 0 h) (stored-two parent child_word child child parent p.state p.nodes.now mid ns' p.values.now p.reports.now e f)))

    pub link-next : (parent last child : ℕ) → (last ≡ 0 → ⊥) → mid ≡ stored_in last next_word child p.state p.nodes.now
        → ns' ≡ stored_in child parent_word parent p.state mid → Does (link parent last child) p tt (with_node_words ns' p)
    unfolding eval linked
    link-next parent last child h e f =
        rewritten (ap (done tt p.state) (rw (ne_eqb last 0 h) (stored-two last next_word child child parent p.state p.nodes.now mid ns' p.values.now p.reports.now e f)))

pub kind_of-is : {p : Parser} (n head kind : ℕ) → head ≡ word_in n head_word p.state p.nodes.now → kind ≡ node_kind head → Does (kind_of n) p kind p
unfolding eval word_of
kind_of-is n head kind e f = acts refl same (rw (f, e))

-- ---- a new node

module _ (s : State) (ns : List ℕ) where
  pub room-last : last_node ≤ s.nodes → false ≡ has_room s ns
  room-last h = rw (le-ltb s.nodes last_node h)

  pub room-else : s.nodes < last_node → leb (node_width * s.nodes + node_width) (length ns) ≡ has_room s ns
  room-else h = rw (lt-ltb s.nodes last_node h)

  -- what room there is, where there is some
  pub room-number : has_room s ns ≡ true → s.nodes < last_node
  room-number h = go (ltb s.nodes last_node) refl
    where
      go : (b : Bool) → ltb s.nodes last_node ≡ b → s.nodes < last_node
      go true e = ltb-true s.nodes last_node e
      go false e = absurd (let z : false ≡ true = rw e at h in let w : ◌≡◌ {A = ℕ} 0 1 = cc in omega arith)

  pub room-words : has_room s ns ≡ true → node_width * s.nodes + node_width ≤ length ns
  room-words h = leb-true (node_width * s.nodes + node_width) (length ns) (rw (lt-ltb s.nodes last_node (room-number h)) at h)

-- stores one after the other
pub six-stores : (ns ws : List ℕ) (at : ℕ) (node : Node) → ws ≡ node_words node
    → set (set (set (set (set (set ns at (get_or ws 0 0)) (at + 1) (get_or ws 1 0)) (at + 2) (get_or ws 2 0)) (at + 3) (get_or ws 3 0)) (at + 4) (get_or ws 4 0)) (at + 5) (get_or ws 5 0)
    ≡ sets ns at (node_words node)
six-stores ns ws at node e = rw e (simp towards_suc)

abbrev pub new_node : ℕ → ℕ → ℕ → Node
new_node start kind payload = record { kind = kind; payload = payload; first = start; end = start; next = 0; child = 0; parent = 0 }

-- What a new node makes of the parser.
abbrev pub with_new_node : List ℕ → Parser → Parser
with_new_node ns p = record (with_node_words ns p) { state = with_nodes (p.state.nodes + 1) p.state }

module _ {p : Parser} (h : is_refused p ≡ false) (start kind payload : ℕ) where
  pub alloc-full : (it : ℕ) → has_room p.state p.nodes.now ≡ false → Does (alloc start kind payload) p it (refused_at p NodesDontFit)
  unfolding eval allocated
  alloc-full it g = halts h (rw (g, allocated))

  pub alloc-fits : (ns' : List ℕ) → has_room p.state p.nodes.now ≡ true
      → ns' ≡ sets p.nodes.now (node_width * p.state.nodes) (node_words (new_node start kind payload))
      → Does (alloc start kind payload) p p.state.nodes (with_new_node ns' p)
  unfolding eval allocated
  alloc-fits ns' g f =
      goes h refl (record { text = refl; tokens = refl; nodes = refl; values = refl; reports = refl; levels = refl }) (rw (g, allocated, f))
