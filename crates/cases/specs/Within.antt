-- That a record's parts lie within the data.
use Rattle.std.specs.Prelude.{ℕ, ◌≤◌, Option, Some, None}
use Rattle.cases.specs.declared.lexed.Record.{Record}

-- The text from `start` to `end` and the words from `words` to `next`, in data of `size` bytes.
pub record Within (r : Record) (size : ℕ) : Type 0 where
  pub text-order : r.start ≤ r.end
  pub text-end : r.end ≤ size
  pub words-order : r.words ≤ r.next
  pub words-end : r.next ≤ size

abbrev pub FoundWithin : Option Record → ℕ → Type 0
FoundWithin (Some r) size = Within r size
FoundWithin None size = Unit {0}
