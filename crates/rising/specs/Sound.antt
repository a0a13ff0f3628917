-- Node words in which every counted node is sound: what a look asks of each, and that links stay among the counted.
use Rattle.std.specs.Prelude.{◌≡◌, refl, ◌⊎◌, List, ℕ, ◌+◌, ◌*◌, ◌≤◌, ◌<◌, length, get_or, set}
use Rattle.std.proofs.Common.{sym, inl, inr, arith, length-set, get_or-set_same, get_or-set_other}
use Rattle.std.proofs.Math.Decide.{ℕ_discrete}
use Rattle.std.proofs.lemmas.List.Edits.{sets}
use Rattle.std.proofs.Math.Seq.{length-sets}
use Rattle.words.specs.Node
use Rattle.words.specs.Words.{node_width, node_kind, node_head, node_words}
use Rattle.words.specs.Laws.{high-pack}
use Rattle.definition.specs.Prog.{head_word, next_word, child_word}
use Rattle.definition.specs.Encodes.{place, sets-before, sets-in}

-- The next sibling of a node: none, or one above it.
pub data Next (i count n : ℕ) : Type 0 where
  last : n ≡ 0 → Next i count n
  rises : i < n → n < count → Next i count n

pub record Sound (w : List ℕ) (count : ℕ) : Type 0 where
  pub room : node_width * count ≤ length w
  pub kinds : (i : ℕ) → i < count → node_kind (get_or w (place i head_word) 0) ≤ Node.Error
  pub nexts : (i : ℕ) → i < count → Next i count (get_or w (place i next_word) 0)
  pub firsts : (i : ℕ) → i < count → get_or w (place i child_word) 0 < count

-- No node is sound words.
pub none-sound : (w : List ℕ) → Sound w 0
none-sound w = record { room = omega arith; kinds = λ i l. absurd (omega arith); nexts = λ i l. absurd (omega arith); firsts = λ i l. absurd (omega arith) }

-- The kind of a first word.
pub head-kind : (kind payload : ℕ) → kind ≤ Node.Error → node_kind (node_head kind payload) ≤ Node.Error
head-kind kind payload l =
    let e : node_kind (node_head kind payload) ≡ kind = high-pack 26 kind payload (omega arith) in
    omega arith

-- What a word of a node may be.
pub record Fits (n j v count : ℕ) : Type 0 where
  pub kind : j ≡ head_word → node_kind v ≤ Node.Error
  pub next : j ≡ next_word → Next n count v
  pub child : j ≡ child_word → v < count

module _ {w : List ℕ} {count : ℕ} (n j v : ℕ) (l : n < count) (lj : j < node_width) (f : Fits n j v count) (s : Sound w count) where
  abbrev new : List ℕ
  new = set w (place n j) v

  -- What is read of it then: what was there before, or what was written.
  abbrev Read : ℕ → ℕ → Type 0
  Read i h = (get_or new (place i h) 0 ≡ get_or w (place i h) 0) ⊎ ((i ≡ n) × (h ≡ j) × (get_or new (place i h) 0 ≡ v))

  read : (i h : ℕ) → i < count → h < node_width → Read i h
  read i h li lh = go (ℕ_discrete (place i h) (place n j))
    where
      go : Dec (place i h ≡ place n j) → Read i h
      go (yes q) = inr ((omega arith), (omega arith), rw q (get_or-set_same w (place n j) v 0 (omega (arith, s.room))))
      go (no q) = inl (get_or-set_other w (place n j) (place i h) v 0 q)

  kinds-set : (i : ℕ) → i < count → Read i head_word → node_kind (get_or new (place i head_word) 0) ≤ Node.Error
  kinds-set i h (inl e) = rw e (s.kinds i h)
  kinds-set i h (inr (a, b, e)) = rw e (f.kind (sym b))

  nexts-set : (i : ℕ) → i < count → Read i next_word → Next i count (get_or new (place i next_word) 0)
  nexts-set i h (inl e) = rw e (s.nexts i h)
  nexts-set i h (inr (a, b, e)) = rw (e, a) (f.next (sym b))

  firsts-set : (i : ℕ) → i < count → Read i child_word → get_or new (place i child_word) 0 < count
  firsts-set i h (inl e) = rw e (s.firsts i h)
  firsts-set i h (inr (a, b, e)) = rw e (f.child (sym b))

  -- A word of a node is written.
  pub set-sound : Sound new count
  set-sound =
      record {
        room = simp length-set s.room;
        kinds = λ i h. kinds-set i h (read i head_word h (omega arith));
        nexts = λ i h. nexts-set i h (read i next_word h (omega arith));
        firsts = λ i h. firsts-set i h (read i child_word h (omega arith));
      }

-- A node is made.
module _ {w : List ℕ} {count : ℕ} (start kind payload : ℕ) (k : kind ≤ Node.Error) (fits : node_width * count + node_width ≤ length w) (s : Sound w count) where
  abbrev new_words : List ℕ
  new_words = node_words (record { kind = kind; payload = payload; first = start; end = start; next = 0; child = 0; parent = 0 })

  abbrev longer : List ℕ
  longer = sets w (node_width * count) new_words

  old : (i h : ℕ) → i < count → h < node_width → get_or longer (place i h) 0 ≡ get_or w (place i h) 0
  old i h l g = sets-before new_words w (node_width * count) (place i h) (omega arith)

  made : (h : ℕ) → h < node_width → get_or longer (place count h) 0 ≡ get_or new_words h 0
  made h g = sets-in new_words w (node_width * count) h g fits

  wider : {i n : ℕ} → Next i count n → Next i (count + 1) n
  wider (last e) = last e
  wider (rises l g) = rises l (omega arith)

  pub alloc-sound : Sound longer (count + 1)
  alloc-sound =
      record {
        room = simp length-sets (omega (arith, fits));
        kinds = λ i l. kinds-new i l (ℕ_discrete i count);
        nexts = λ i l. nexts-new i l (ℕ_discrete i count);
        firsts = λ i l. firsts-new i l (ℕ_discrete i count);
      }
    where
      kinds-new : (i : ℕ) → i < count + 1 → Dec (i ≡ count) → node_kind (get_or longer (place i head_word) 0) ≤ Node.Error
      kinds-new i l (yes q) = rw (q, made head_word (omega arith)) (head-kind kind payload k)
      kinds-new i l (no q) = rw (old i head_word (omega arith) (omega arith)) (s.kinds i (omega arith))

      nexts-new : (i : ℕ) → i < count + 1 → Dec (i ≡ count) → Next i (count + 1) (get_or longer (place i next_word) 0)
      nexts-new i l (yes q) = rw (q, made next_word (omega arith)) (last refl)
      nexts-new i l (no q) = rw (old i next_word (omega arith) (omega arith)) (wider (s.nexts i (omega arith)))

      firsts-new : (i : ℕ) → i < count + 1 → Dec (i ≡ count) → get_or longer (place i child_word) 0 < count + 1
      firsts-new i l (yes q) = rw (q, made child_word (omega arith)) (omega arith)
      firsts-new i l (no q) = rw (old i child_word (omega arith) (omega arith)) (omega (arith, s.firsts i (omega arith)))
