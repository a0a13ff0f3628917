-- What a look at node words tells, whatever the words are (01, Refusals, "Whoever alters node words").
use Rattle.std.specs.Prelude.{Option, Some, None, Result, Ok, Err, Bool, cond, not, ◌&&◌, List, ℕ, zero, suc, ◌+◌, ◌-◌, ◌*◌, ◌/◌, ◌%◌, eqb, leb, ltb, length, drop}
use Rattle.words.specs.Node
use Rattle.words.specs.Refusal
use Rattle.words.specs.Words.{node_width, node_of}
use Rattle.words.specs.declared.node.Node.{Node as Fields}
use Rattle.looking.specs.declared.Altered.{Altered}
use Rattle.looking.specs.declared.TokenSpan.{TokenSpan}

-- What a view answers: the thing, none, or a refusal's number and place.
pub data Seen (A : Type 0) : Type 0 where
  is : A → Seen A
  none : Seen A
  refused : ℕ → ℕ → Seen A

-- 01's number and values for each case of an answer: "8, only from views: .. (the number of the node looked at)".
abbrev pub answer : {A : Type 0} → Result (Option A) Altered → Seen A
answer (Ok (Some a)) = is a
answer (Ok None) = none
answer (Err altered) = refused Refusal.AlteredNodes altered.node

abbrev pub fields : Result Fields Altered → Seen Fields
fields (Ok node) = is node
fields (Err altered) = refused Refusal.AlteredNodes altered.node

-- One view and then another, of what the first one found.
unfoldable pub and_then : {A B : Type 0} → Seen A → (A → Seen B) → Seen B
and_then (is a) f = f a
and_then none f = none
and_then (refused number place) f = refused number place

-- What a view finds, or where it finds none another one.
unfoldable pub or_else : {A : Type 0} → Seen A → Seen A → Seen A
or_else (is a) s = is a
or_else none s = s
or_else (refused number place) s = refused number place

-- The number of nodes; words that are left over are no node.
abbrev pub count : List ℕ → ℕ
count ns = length ns / node_width

abbrev pub node_at : List ℕ → ℕ → Fields
node_at ns n = node_of (drop (node_width * n) ns)

-- "next sibling other than 0 not above its own node"
abbrev pub falls : ℕ → ℕ → Bool
falls n next = not (eqb next 0) && leb next n

-- A node is looked at: "node number past the words, kind above 49, or next sibling other than 0 not above its own node".
unfoldable pub sound : ℕ → Fields → Seen Fields
sound n node =
    cond (ltb Node.Error node.kind)
    (refused Refusal.AlteredNodes n)
    (cond (falls n node.next) (refused Refusal.AlteredNodes n) (is node))

unfoldable pub look : List ℕ → ℕ → Seen Fields
look ns n = cond (leb (count ns) n) (refused Refusal.AlteredNodes n) (sound n (node_at ns n))

-- Whether a kind is one of those from one to another.
abbrev pub among : ℕ → ℕ → ℕ → Bool
among from to kind = leb from kind && leb kind to

-- `children().filter(..).nth(i)` from a sibling on: the i-th of those whose kind is among the wanted, up to the first whose kind is
-- `stop`. Each is looked at, and a next sibling is above its own node, so no row of siblings has more nodes than there are: `turns` of
-- one more than that never run out, and the first line is never asked (`nth-only` of `Laws`).
unfoldable pub nth : ℕ → ℕ → ℕ → ℕ → List ℕ → ℕ → ℕ → Seen ℕ
nth zero stop from to ns at i = none
nth (suc turns) stop from to ns at i =
    cond (eqb at 0) none
    (and_then (look ns at) (λ node.
    cond (eqb node.kind stop) none
    (cond (among from to node.kind)
    (cond (eqb i 0) (is at) (nth turns stop from to ns node.next (i - 1)))
    (nth turns stop from to ns node.next i))))

-- `children().filter(..).count()`, likewise, added to those that were counted before.
unfoldable pub counted : ℕ → ℕ → ℕ → ℕ → List ℕ → ℕ → ℕ → Seen ℕ
counted zero stop from to ns at sum = is sum
counted (suc turns) stop from to ns at sum =
    cond (eqb at 0) (is sum)
    (and_then (look ns at) (λ node.
    cond (eqb node.kind stop) (is sum)
    (counted turns stop from to ns node.next (cond (among from to node.kind) (sum + 1) sum))))

-- No kind stops: one above the last.
abbrev pub no_stop : ℕ
no_stop = 50

abbrev pub turns : List ℕ → ℕ
turns ns = count ns + 1

-- ---- views by kind: a view is of nodes of the kinds from one to another; "a node of another kind than the view's .. is answered with none"

unfoldable pub of : ℕ → ℕ → List ℕ → ℕ → Seen Fields
of from to ns n = and_then (look ns n) (λ node. cond (among from to node.kind) (is node) none)

-- The number itself, of what another view finds: `new` and `try_new`.
abbrev pub kept : {A : Type 0} → ℕ → Seen A → Seen ℕ
kept n s = and_then s (λ _. is n)

abbrev pub new_of : ℕ → ℕ → List ℕ → ℕ → Seen ℕ
new_of from to ns n = kept n (of from to ns n)

abbrev pub payload_of : ℕ → ℕ → List ℕ → ℕ → Seen ℕ
payload_of from to ns n = and_then (of from to ns n) (λ node. is node.payload)

-- `children().filter(..)`: the i-th child of the kinds from `low` to `high`, and how many there are.
abbrev pub nth_of : ℕ → ℕ → ℕ → ℕ → ℕ → List ℕ → ℕ → Seen ℕ
nth_of from to low high i ns n = and_then (of from to ns n) (λ node. nth (turns ns) no_stop low high ns node.child i)

abbrev pub count_of : ℕ → ℕ → ℕ → ℕ → List ℕ → ℕ → Seen ℕ
count_of from to low high ns n = and_then (of from to ns n) (λ node. counted (turns ns) no_stop low high ns node.child 0)

-- `NodeView::child` of a view's node
abbrev pub child_of : ℕ → ℕ → ℕ → List ℕ → ℕ → Seen ℕ
child_of from to i ns n = nth_of from to Node.File Node.Error i ns n

-- `NodeView::ident`
abbrev pub ident : List ℕ → ℕ → Seen ℕ
ident ns n = payload_of Node.Identifier Node.Identifier ns n

-- `child(i).and_then(NodeView::ident)`
abbrev pub name_of : ℕ → ℕ → ℕ → List ℕ → ℕ → Seen ℕ
name_of from to i ns n = and_then (child_of from to i ns n) (ident ns)

-- the children of a child: `child(k)`, then `children().filter(..)` of it
abbrev pub inner_of : ℕ → ℕ → ℕ → ℕ → ℕ → ℕ → List ℕ → ℕ → Seen ℕ
inner_of from to k low high i ns n = and_then (child_of from to k ns n) (nth_of Node.File Node.Error low high i ns)

abbrev pub inner_count : ℕ → ℕ → ℕ → ℕ → ℕ → List ℕ → ℕ → Seen ℕ
inner_count from to k low high ns n = and_then (child_of from to k ns n) (count_of Node.File Node.Error low high ns)

-- `child(i)` that is of a kind itself
abbrev pub new_child : ℕ → ℕ → ℕ → ℕ → ℕ → List ℕ → ℕ → Seen ℕ
new_child from to i low high ns n = and_then (child_of from to i ns n) (new_of low high ns)

-- `NodeView::span`
abbrev pub span_of : ℕ → ℕ → List ℕ → ℕ → Seen TokenSpan
span_of from to ns n = and_then (of from to ns n) (λ node. is (record { start = node.first; end = node.end }))

abbrev pub span_child : ℕ → ℕ → ℕ → ℕ → ℕ → List ℕ → ℕ → Seen TokenSpan
span_child from to i low high ns n = and_then (child_of from to i ns n) (span_of low high ns)

-- `NodeView::kind` among the view's kinds, counted from the first of them
abbrev pub kind_of : ℕ → ℕ → List ℕ → ℕ → Seen ℕ
kind_of from to ns n = and_then (of from to ns n) (λ node. is (node.kind - from))

-- "flags as bits": the flag that adds `flag` to a payload; 0 is no flag
abbrev pub flag_of : ℕ → ℕ → ℕ → List ℕ → ℕ → Seen ℕ
flag_of from to flag ns n = and_then (payload_of from to ns n) (λ payload. cond (eqb flag 0) none (is (payload / flag % 2)))

abbrev pub payload_child : ℕ → ℕ → ℕ → ℕ → ℕ → List ℕ → ℕ → Seen ℕ
payload_child from to i low high ns n = and_then (child_of from to i ns n) (payload_of low high ns)
