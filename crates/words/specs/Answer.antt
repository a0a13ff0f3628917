-- What a public call answers, in document 01's terms, and what it leaves in an output slice.
use Rattle.std.specs.Prelude.{List, ◌++◌, ℕ, ◌-◌, length, replicate}

-- "Success returns the counts": for reading those of tokens, nodes, value words and reports.
-- "A refusal returns number and place": document 01's word for an answer that is no success (its numbers: `Refusal`).
pub data Answer : Type 0 where
  done : List ℕ → Answer
  refused : ℕ → ℕ → Answer

-- "the rest of each slice is 0"; after a refusal "output slices are all 0". `lent`, 01's word for a slice that the caller
-- hands over to be filled, is here its number of words.
abbrev pub left : Answer → List ℕ → ℕ → List ℕ
left (done counts) words lent = words ++ replicate (lent - length words) 0
left (refused number place) words lent = replicate lent 0
