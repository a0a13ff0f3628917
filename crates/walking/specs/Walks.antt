-- Walks over node words, whatever the words are: "The editor must climb from a token to its declaration" (01, W3).
use Rattle.std.specs.Prelude.{Bool, cond, ◌&&◌, List, ℕ, zero, suc, eqb, leb, ltb}
use Rattle.words.specs.declared.node.Node.{Node as Fields}
use Rattle.looking.specs.View.{Seen, is, none, and_then, look, turns}
use Rattle.looking.specs.Any.{parent}

-- "From a node its declaration is the child of File that holds it, or that it is" (01, W3): up from parent to parent to the one whose parent is
-- File, which is node 0. File has no parent, so from File there is none. "In a ring of altered links there is none" (01, W3): the walk ends after
-- one turn more than there are nodes. Words that reading makes have no ring (`climbs` of rising's `Family`).
unfoldable pub enclosing : ℕ → List ℕ → ℕ → Seen ℕ
enclosing zero ns n = none
enclosing (suc turns) ns n = and_then (parent ns n) (λ p. cond (eqb p 0) (is n) (enclosing turns ns p))

abbrev pub enclosing_declaration : List ℕ → ℕ → Seen ℕ
enclosing_declaration ns n = enclosing (turns ns) ns n

-- "A node covers the tokens from its first one up to its end: first token ≤ t < end token" (01, W3).
abbrev pub covers : ℕ → Fields → Bool
covers t node = leb node.first t && ltb t node.end

-- The walk goes down where a node covers the token, and on to its next sibling where it doesn't; it ends with the last that covered it,
-- `outer`. A ring gives none, as above.
unfoldable pub innermost : ℕ → ℕ → List ℕ → ℕ → ℕ → Seen ℕ
innermost zero t ns outer at = cond (eqb at 0) (is outer) none
innermost (suc turns) t ns outer at =
    cond (eqb at 0) (is outer)
    (and_then (look ns at) (λ node.
    cond (covers t node) (innermost turns t ns at node.child) (innermost turns t ns outer node.next)))

-- "From a node down, the node at a token is the innermost that covers it; where the node itself doesn't, there is none" (01, W3).
abbrev pub node_at_token : ℕ → List ℕ → ℕ → Seen ℕ
node_at_token t ns n = and_then (look ns n) (λ node. cond (covers t node) (innermost (turns ns) t ns n node.child) none)
