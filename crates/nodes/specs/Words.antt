-- What the contracts say of the words beside the definition's commands.
use Rattle.std.specs.Prelude.{Bool, ◌&&◌, List, [], ℕ, ◌+◌, ◌*◌, leb, ltb, length}
use Rattle.words.specs.Words.{node_width}
use Rattle.definition.specs.declared.State.{State}
use Rattle.definition.specs.Prog.{memory, word_of, stored, last_node}

-- A word of a node, read and written where only the nodes' words are in hand.
abbrev pub word_in : ℕ → ℕ → State → List ℕ → ℕ
word_in n word s ns = word_of n word s (memory ns [] [])

abbrev pub stored_in : ℕ → ℕ → ℕ → State → List ℕ → List ℕ
stored_in n word w s ns = (stored n word w s (memory ns [] [])).nodes

-- Whether there is room for one more node.
abbrev pub has_room : State → List ℕ → Bool
has_room s ns = ltb s.nodes last_node && leb (node_width * s.nodes + node_width) (length ns)
