-- Laws of what the table tells of.
use Rattle.std.specs.Prelude.{◌≡◌, Bool, true, false, List, ℕ, ◌+◌, ◌/◌, ◌≤◌, ◌<◌, eqb, length, get_or}
use Rattle.std.proofs.Common.{arith, lt-ltb, le-ltb}
use Rattle.std.proofs.Math.ListN.{get_or-eq_default}
use Rattle.words.specs.Token
use Rattle.words.specs.Words.{token_word, token_end, low}
use Rattle.literals.specs.Spelling.{first_alike}
use Rattle.spellings.specs.Spelled.{within, last_end}
use Rattle.spellings.specs.Names.{kind_at}
use Rattle.reading.specs.Source.{table_start, slot_at, entry, is_name, is_told, first_of}

module _ (tokens : List ℕ) (i : ℕ) where
  pub slot-past : length tokens ≤ i → 0 ≡ slot_at tokens i
  slot-past h = rw (get_or-eq_default tokens (token_word Token.Eof 0) {n = i} h, last_end)

  pub slot-within : i < length tokens → (end : ℕ) → end ≡ token_end (get_or tokens i 0) → ((end + 1) / 2 ≡ slot_at tokens i) × ((end + 1) / 2 ≤ 16777216)
  unfolding low
  slot-within h end e = (rw (e, within tokens i 0 (token_word Token.Eof 0) h), omega arith)

module _ (source tokens : List ℕ) (kind i : ℕ) where
  pub told_none : length source ≤ table_start → false ≡ is_told source tokens kind i
  unfolding is_told
  told_none h = rw (le-ltb table_start (length source) h)

  module _ (long : table_start < length source) (t : Bool) (e : t ≡ is_name kind) where
    pub told-kind : t ≡ true → (k : ℕ) → k ≡ kind_at tokens i → eqb k kind ≡ is_told source tokens kind i
    unfolding is_told
    told-kind f k g = rw (lt-ltb table_start (length source) long, ← e, f, g)

    pub told-other : t ≡ false → false ≡ is_told source tokens kind i
    unfolding is_told
    told-other f = rw (lt-ltb table_start (length source) long, ← e, f)

  module _ (t : Bool) (e : t ≡ is_told source tokens kind i) where
    pub first-told : t ≡ true → (slot : ℕ) → slot ≡ slot_at tokens i → entry source slot ≡ first_of source tokens kind i
    unfolding first_of
    first-told h slot g = rw (← e, h, g)

    pub first-untold : t ≡ false → first_alike source tokens kind i ≡ first_of source tokens kind i
    unfolding first_of
    first-untold h = rw (← e, h)
