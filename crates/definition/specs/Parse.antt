-- The parser as a whole: `parse` of parser/mod.rs on the words of document 01.
use Rattle.std.specs.Prelude.{List, [], ◌∷◌, ℕ, ◌+◌, min, length, replicate}
use Rattle.words.specs.Answer.{Answer}
use Rattle.definition.specs.declared.State.{State}
use Rattle.definition.specs.Prog.{Memory, memory, Out, done, refused, Readers, eval, tower}
use Rattle.definition.specs.Expressions.{try_parse_expr_min_bp}
use Rattle.definition.specs.Statements.{parse_block}
use Rattle.definition.specs.Declarations.{parse_file}

-- "Depth is the number of `try_parse_expr_min_bp` and `parse_block` readings open at one moment ..; entering the 257th is refusal 3" (01, Refusals).
abbrev pub max_depth : ℕ
max_depth = 256

-- The readers with `depth` levels left.
abbrev pub readers : List ℕ → List ℕ → ℕ → ℕ → Readers
readers text tokens bound depth = tower text tokens bound try_parse_expr_min_bp parse_block depth

-- A token's number is a word, so a cursor stops at the last one.
abbrev pub last_token : ℕ
last_token = 4294967295

unfoldable pub token_limit : List ℕ → ℕ
token_limit tokens = min (length tokens) last_token

-- The state at the start.
abbrev pub start : List ℕ → State
start tokens = record { cursor = record { at = 0; end = token_limit tokens }; mark = 0; nodes = 0; values = 0; reports = 0 }

-- The answer, and the words of nodes, values and reports.
pub record Parsed : Type 0 where
  pub answer : Answer
  pub words : Memory

-- Lent words of these lengths, all 0.
abbrev pub zeros : ℕ → ℕ → ℕ → Memory
zeros nodes values reports = memory (replicate nodes 0) (replicate values 0) (replicate reports 0)

-- "Success returns the counts of .. nodes, value words and reports ..; the rest of each slice is 0." "A refusal returns number and place; output
-- slices are all 0" (01).
unfoldable pub parsed_to : Memory → Out ℕ → Parsed
parsed_to blank (done file s m) = record { answer = Answer.done (s.nodes ∷ s.values ∷ s.reports ∷ []); words = m }
parsed_to blank (refused number place) = record { answer = Answer.refused number place; words = blank }

-- What a text and its token words are parsed to, where so many words are lent for nodes, values and reports, and a loop has `bound` turns.
unfoldable pub parsed_within : ℕ → List ℕ → List ℕ → ℕ → ℕ → ℕ → Parsed
parsed_within bound text tokens nodes values reports =
    parsed_to (zeros nodes values reports)
    (eval text tokens bound (readers text tokens bound max_depth) parse_file (start tokens) (zeros nodes values reports))

-- A turn that is not the last passes a token (`Progress`), so this bound is enough (`Bound`).
unfoldable pub parsed : List ℕ → List ℕ → ℕ → ℕ → ℕ → Parsed
parsed text tokens = parsed_within (token_limit tokens + 1) text tokens
