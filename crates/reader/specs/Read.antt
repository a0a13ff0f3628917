-- Reading a text: lexing, then parsing what was lexed.
use Rattle.std.specs.Prelude.{List, ◌∷◌, ℕ, get_or, take, replicate}
use Rattle.words.specs.Answer.{Answer, done, refused}
use Rattle.lexer.specs.Lex.{lexed, lexed_words}
use Rattle.definition.specs.Parse.{Parsed, parsed}

-- The answer, and the words of tokens, nodes, values and reports.
pub record Read : Type 0 where
  pub answer : Answer
  pub tokens : List ℕ
  pub nodes : List ℕ
  pub values : List ℕ
  pub reports : List ℕ

-- So many words are lent for each.
pub record Lent : Type 0 where
  pub tokens : ℕ
  pub nodes : ℕ
  pub values : ℕ
  pub reports : ℕ

-- "A refusal returns number and place; output slices are all 0" (01, Refusals).
abbrev pub nothing : Lent → ℕ → ℕ → Read
nothing lent number place =
    record {
      answer = refused number place;
      tokens = replicate lent.tokens 0;
      nodes = replicate lent.nodes 0;
      values = replicate lent.values 0;
      reports = replicate lent.reports 0;
    }

-- "Success returns the counts": of tokens, nodes, value words and reports.
unfoldable pub after : Lent → List ℕ → ℕ → Parsed → Answer → Read
after lent tokens n p (done counts) =
    record {
      answer = done (n ∷ counts);
      tokens = tokens;
      nodes = p.words.nodes;
      values = p.words.values;
      reports = p.words.reports;
    }
after lent tokens n p (refused number place) = nothing lent number place

-- The tokens that were lexed are parsed.
abbrev pub parsing : List ℕ → Lent → List ℕ → ℕ → Parsed
parsing text lent tokens n = parsed text (take n tokens) lent.nodes lent.values lent.reports

-- "Order: 2, 1, 4", with 9 and 10 where 1 stands (01, W1), then whichever of 3, 5, 6, 7 comes first (01, Refusals).
unfoldable pub after_lexing : List ℕ → Lent → List ℕ → Answer → Read
after_lexing text lent tokens (refused number place) = nothing lent number place
after_lexing text lent tokens (done counts) =
    let n = get_or counts 0 0 in
    let p = parsing text lent tokens n in
    after lent tokens n p p.answer

unfoldable pub reads : List ℕ → Lent → Read
reads text lent = after_lexing text lent (lexed_words text lent.tokens) (lexed text lent.tokens)
