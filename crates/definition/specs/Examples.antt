-- Worked cases of document 01.
use Rattle.std.specs.Prelude.{◌≡◌, refl, true, List, [], ◌∷◌, ◌++◌, ℕ, replicate}
use Prim.Native.Char.{code}
use Prim.Native.String.{String}
use Rattle.words.specs.Token
use Rattle.words.specs.Node
use Rattle.words.specs.Refusal
use Rattle.words.specs.UnaryOp
use Rattle.words.specs.Words.{pack, token_word, node_head, node_words, value_head}
use Rattle.words.specs.Answer as Answer
use Rattle.definition.specs.Prog.{memory}
use Rattle.definition.specs.Parse.{Parsed}
use Rattle.definition.specs.Computed.{computed}
use Rattle.definition.specs.Abstract
use Rattle.definition.specs.Abstract.{good, ok, row_from, written, adopted, may_adopt, kind_a, pass_a, skip_a, iter_a, eval_a, tower_a, parsed_a}

abbrev ascii : String → List ℕ
ascii String.[] = []
ascii (String.◌∷◌ c s) = code c ∷ ascii s

abbrev node : ℕ → ℕ → ℕ → ℕ → ℕ → ℕ → ℕ → List ℕ
node kind payload first end next child parent = node_words (record { kind = kind; payload = payload; first = first; end = end; next = next; child = child; parent = parent })

abbrev stored : ℕ → ℕ → ℕ → ℕ → List ℕ → ℕ → Abstract.Node
stored kind payload first end kids own = record { head = node_head kind payload; first = first; end = end; kids = kids; own = own }

-- P1: "empty text: Eof, File 0 to 0".
p1 : computed [] (token_word Token.Eof 0 ∷ []) 8 0 0 ≡ record { answer = Answer.done (1 ∷ 0 ∷ 0 ∷ []); words = memory (node Node.File 0 0 0 0 0 0 ++ (0 ∷ 0 ∷ [])) [] [] }
unfolding computed pack
p1 = refl

-- `const a = 1;`
const-a : (nodes values : ℕ) → Parsed
const-a nodes values =
    computed (ascii "const a = 1;")
    (token_word Token.Const 5
    ∷ token_word Token.Whitespace 6
    ∷ token_word Token.Identifier 7
    ∷ token_word Token.Whitespace 8
    ∷ token_word Token.Equals 9
    ∷ token_word Token.Whitespace 10
    ∷ token_word Token.DecimalLiteral 11
    ∷ token_word Token.Semicolon 12
    ∷ token_word Token.Eof 12
    ∷ [])
    nodes
    values
    0

-- "0 0 0 0 8 0 1 0", "1 1 0 0 8 0 2 0", "2 36 2 2 3 3 0 1", "3 33 0 6 7 0 0 1"
tree : const-a 24 2
    ≡ record {
      answer = Answer.done (4 ∷ 2 ∷ 0 ∷ []);
      words = memory
          (node Node.File 0 0 8 0 1 0 ++ (node Node.ConstDecl 0 0 8 0 2 0 ++ (node Node.Identifier 2 2 3 3 0 1 ++ node Node.NumLiteral 0 6 7 0 0 1)))
          (value_head 1 1 ∷ 1 ∷ [])
          [];
    }
unfolding const-a computed pack
tree = refl

-- The value comes before the node, and both after the number's token.
no_room : ((const-a 18 1).answer ≡ Answer.refused Refusal.ValuesDontFit 7) × ((const-a 18 2).answer ≡ Answer.refused Refusal.NodesDontFit 7)
unfolding const-a computed pack
no_room = (refl, refl)

-- "Output slices are all 0."
all-zero : (const-a 18 2).words ≡ memory (replicate 18 0) (replicate 2 0) []
unfolding const-a computed pack
all-zero = refl

-- P7: "`-a.b` negates the member", between `const z = ` and `;`. The abstract run answers, with sound links only.
p7 : parsed_a (ascii "const z = -a.b;")
    (token_word Token.Const 5
    ∷ token_word Token.Whitespace 6
    ∷ token_word Token.Identifier 7
    ∷ token_word Token.Whitespace 8
    ∷ token_word Token.Equals 9
    ∷ token_word Token.Whitespace 10
    ∷ token_word Token.Minus 11
    ∷ token_word Token.Identifier 12
    ∷ token_word Token.Dot 13
    ∷ token_word Token.Identifier 14
    ∷ token_word Token.Semicolon 15
    ∷ token_word Token.Eof 15
    ∷ [])
    ≡ ok 0 (record {
      at = 11;
      row = good 11 Token.Eof ∷ [];
      store = stored Node.File 0 0 11 (1 ∷ []) 0
          ∷ stored Node.ConstDecl 0 0 11 (3 ∷ 2 ∷ []) 1
          ∷ stored Node.Identifier 2 2 3 [] 2
          ∷ stored Node.UnaryExpr UnaryOp.Minus 6 10 (5 ∷ []) 2
          ∷ stored Node.Identifier 7 7 8 [] 6
          ∷ stored Node.MemberExpr 0 7 10 (6 ∷ 4 ∷ []) 4
          ∷ stored Node.Identifier 9 9 10 [] 6
          ∷ [];
      values = [];
      sane = true;
    })
unfolding computed parsed_a row_from written adopted may_adopt kind_a pass_a skip_a iter_a eval_a tower_a pack
p7 = refl
