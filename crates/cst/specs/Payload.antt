-- A node's head keeps 26 bits of its payload, so a payload that was cut to them before makes the same node.
use Rattle.std.specs.Prelude.{◌≡◌, refl, Bool, true, false, ℕ, pred, ◌%◌, ◌^◌, Some, None}
use Rattle.std.proofs.Common.{◌∙◌, ap}
use Rattle.std.proofs.Math.Nat.{mod-mod}
use Rattle.words.specs.Refusal.{number}
use Rattle.words.specs.Words.{pack, node_head}
use Rattle.definition.specs.declared.State.{State}
use Rattle.definition.specs.declared.Unfinished.{Unfinished}
use Rattle.definition.specs.Prog.{Prog, Memory, Out, refused, eval, allocated}
use Rattle.definition.specs.Nodes.{alloc_node_from, alloc_last_token_as_node}
use Rattle.reading.specs.declared.parser.Parser.{Parser}
use Rattle.reading.specs.Standing.{words}
use Rattle.reading.specs.Does.{Does, run}
use Rattle.nodes.specs.Words.{has_room}

abbrev pub cut : ℕ → ℕ
cut payload = payload % 2 ^ 26

-- How many payloads there are.
abbrev pub payloads : ℕ
payloads = 67108864

head-cut : (kind payload : ℕ) → node_head kind (cut payload) ≡ node_head kind payload
unfolding pack
head-cut kind payload = rw mod-mod

allocated-cut : (start kind payload : ℕ) (s : State) (m : Memory) → allocated start kind (cut payload) s m ≡ allocated start kind payload s m
unfolding allocated
allocated-cut start kind payload s m = go (has_room s m.nodes) refl
  where
    go : (b : Bool) → has_room s m.nodes ≡ b → allocated start kind (cut payload) s m ≡ allocated start kind payload s m
    go true e = rw (e, allocated, head-cut kind payload)
    go false e = rw (e, allocated)

module _ {p p' : Parser} where
  -- Programs that come to the same are done by the same functions.
  alike : {A : Type 0} {c d : Prog A} {a : A} → run p c p.state (words p) ≡ run p d p.state (words p) → Does c p a p' → Does d p a p'
  alike {A = A} e g = record { is = λ w. g.is w ∙ ap (λ (o : Out A). elim p.refused [ None ↦ o | Some r ↦ refused (number r.refusal) r.place ]) e; kept = g.kept }

  pub open-cut : (start kind payload : ℕ) {n : ℕ} {u : Unfinished} → n ≡ cut payload → Does (alloc_node_from start kind n) p u p' → Does (alloc_node_from start kind payload) p u p'
  unfolding alloc_node_from eval
  open-cut start kind payload e g = alike (rw (e, allocated-cut start kind payload)) g

  pub last-cut : (kind payload : ℕ) {n a : ℕ} → n ≡ cut payload → Does (alloc_last_token_as_node kind n) p a p' → Does (alloc_last_token_as_node kind payload) p a p'
  unfolding alloc_last_token_as_node alloc_node_from eval
  last-cut kind payload e g = alike (rw (e, allocated-cut (pred p.state.cursor.at) kind payload)) g

  -- The same, with what is cut written out.
  pub cut-from : {u : Unfinished} (start kind payload : ℕ) → Does (alloc_node_from start kind (payload % payloads)) p u p'
      → Does (alloc_node_from start kind payload) p u p'
  cut-from start kind payload g = open-cut start kind payload refl g

  pub cut-last : {n : ℕ} (kind payload : ℕ) → Does (alloc_last_token_as_node kind (payload % payloads)) p n p'
      → Does (alloc_last_token_as_node kind payload) p n p'
  cut-last kind payload g = last-cut kind payload refl g
