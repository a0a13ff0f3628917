-- The tree that words hold: "The parser's tree is File and all that first child and next sibling reach from it; names, numbers and bytes are
-- read through its payloads" (01, The wall chart). Where links don't end or lead out, or a payload leads to no value, there is none.
use Rattle.std.specs.Prelude.{Bool, true, false, cond, ◌&&◌, ◌||◌, List, [], ◌∷◌, ℕ, zero, suc, ◌+◌, ◌*◌, ◌/◌, ◌%◌, eqb, ltb, leb, length, get_or, take, drop}
use Rattle.std.proofs.Math.Option.{Option}
use Rattle.words.specs.declared.node.Node.{Node as Words}
use Rattle.words.specs.Node
use Rattle.words.specs.Value as Tag
use Rattle.words.specs.Words.{node_width, node_of, value_tag, value_count}
use Rattle.literals.specs.Spelling.{spelling}
use Rattle.literals.specs.Laws.{made}
use Rattle.chart.specs.Tree.{Value, flags, name, number, bytes, Trees, node, none, ◌▸◌}

-- "bytes four to a word, first lowest" (01, Words that are lent).
unfoldable pub word_bytes : List ℕ → List ℕ
word_bytes [] = []
word_bytes (w ∷ ws) = w % 256 ∷ w / 256 % 256 ∷ w / 65536 % 256 ∷ w / 16777216 % 256 ∷ word_bytes ws

-- How many words so many bytes take.
abbrev pub words_for : ℕ → ℕ
words_for n = (n + 3) / 4

-- An answer where a test holds.
unfoldable pub where-so : {A : Type 0} → Bool → A → Option A
where-so true a = Option.some a
where-so false a = Option.none

-- A kind whose payload is the number of a token that is spelled as the name is.
unfoldable pub is_name : ℕ → Bool
is_name kind = eqb kind Node.Identifier || (eqb kind Node.BuiltinName || eqb kind Node.ParamAnyType)

-- The value from an offset on: its tag and count, and what follows.
unfoldable pub value_at : List ℕ → ℕ → ℕ → Option Value
value_at values tag at =
    let n = value_count (get_or values at 0) in
    let ws = drop (suc at) values in
    cond (eqb tag Tag.Number)
    (where-so (eqb (value_tag (get_or values at 0)) Tag.Number && leb n (length ws)) (number (made (take n ws))))
    (where-so (eqb (value_tag (get_or values at 0)) Tag.String && leb (words_for n) (length ws)) (bytes (take n (word_bytes ws))))

-- What a node says besides its kind.
unfoldable pub said : List ℕ → List ℕ → List ℕ → ℕ → ℕ → Option Value
said text tokens values kind payload =
    cond (is_name kind) (where-so (ltb payload (length tokens)) (name (spelling text tokens payload)))
    (cond (eqb kind Node.NumLiteral) (value_at values Tag.Number payload)
    (cond (eqb kind Node.StringLiteral) (value_at values Tag.String payload) (Option.some (flags payload))))

-- A node of its words, its children and its siblings after it, where there are all three.
unfoldable pub joined : ℕ → Option Value → Option Trees → Option Trees → Option Trees
joined kind (Option.some v) (Option.some children) (Option.some siblings) = Option.some (node kind v children ▸ siblings)
joined kind (Option.some v) (Option.some children) Option.none = Option.none
joined kind (Option.some v) Option.none siblings = Option.none
joined kind Option.none children siblings = Option.none

module _ (text tokens nodes values : List ℕ) where
  abbrev pub words_at : ℕ → Words
  words_at n = node_of (drop (node_width * n) nodes)

  abbrev said_by : Words → Option Value
  said_by w = said text tokens values w.kind w.payload

  -- The node of a number, of `count` nodes, and its siblings after it; 0 is none. As many links may follow one another as `bound` says.
  unfoldable pub trees_from : ℕ → ℕ → ℕ → Option Trees
  trees_from count zero n = where-so (eqb n 0) none
  trees_from count (suc bound) n =
      let w = words_at n in
      cond (eqb n 0) (Option.some none)
      (cond (ltb n count) (joined w.kind (said_by w) (trees_from count bound w.child) (trees_from count bound w.next)) Option.none)

  -- The tree of `count` nodes: node 0 is File, and nothing stands beside it. No more links follow one another than there are nodes, or some node
  -- would be reached twice.
  unfoldable pub stored : ℕ → Option Trees
  stored zero = Option.none
  stored (suc others) =
      let w = words_at 0 in
      cond (eqb w.next 0) (joined w.kind (said_by w) (trees_from (suc others) (suc others) w.child) (Option.some none)) Option.none
