-- Demand 3, reading and the chart never disagree, and W3, every node tells its parent. What that says; `Joined` proves it.
use Rattle.std.specs.Prelude.{◌≡◌, ◌↔◌, List, [], ◌∷◌, map, ℕ, take}
use Rattle.std.proofs.Math.Option as Option
use Rattle.words.specs.Answer.{done}
use Rattle.scan.specs.Lexer.{tokens_of, word}
use Rattle.chart.specs.Row.{RowToken, row}
use Rattle.chart.specs.Tree.{Trees}
use Rattle.chart.specs.Chart.{Derives, file}
use Rattle.tree.specs.Stored.{stored}
use Rattle.tree.specs.Grown.{sizes}
use Rattle.rising.specs.Family.{Family}
use Rattle.reader.specs.Read.{Read}

-- "The row is the text's tokens as the definition of demand 2 gives them" (01, The wall chart).
abbrev pub row_of : List ℕ → List RowToken
row_of text = row text (map word (tokens_of text))

-- The chart derives the row of a text, with this tree.
abbrev pub Derived : List ℕ → Trees → Type 0
Derived text t = Derives file (row_of text) [] t

-- What reading is to leave of a text: the words of tokens, nodes and values, and the counts of tokens, nodes, value words and reports.
-- Demand 3: the report count is 0 exactly when the chart derives the token row; the chart then derives one tree only, and it is the parser's.
pub record Agreed (text tokens nodes values : List ℕ) (token_count node_count value_count report_count : ℕ) : Type 0 where
  pub exactly : (report_count ≡ 0) ↔ ((t : Trees) × Derived text t)
  pub one : (t u : Trees) → Derived text t → Derived text u → t ≡ u
  pub tree : (t : Trees) → Derived text t → stored text (take token_count tokens) nodes (take value_count values) node_count ≡ Option.some t
  -- All counted nodes are in it.
  pub all : (t : Trees) → Derived text t → sizes t ≡ node_count
  -- Of every text, with reports or without: every node but File is linked exactly once, is reached from File and tells its parent (01, W3).
  pub family : Family nodes node_count

-- Demand 3 and W3 of an answer and the words that came with it. Its only hypothesis is that the answer is no refusal: the row comes from the text,
-- the tree from the words, the counts from the answer.
abbrev pub Agrees : List ℕ → Read → Type 0
Agrees text q = (tokens nodes values reports : ℕ) → q.answer ≡ done (tokens ∷ nodes ∷ values ∷ reports ∷ []) → Agreed text q.tokens q.nodes q.values tokens nodes values reports
