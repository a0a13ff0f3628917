-- Names whose places in the table rise: each has a place of its own.
use Rattle.std.specs.Prelude.{◌≡◌, refl, Bool, true, false, cond, ◌&&◌, List, [], ◌∷◌, ℕ, zero, suc, ◌+◌, ◌≤◌, ◌<◌, ltb, length, drop}
use Rattle.std.proofs.Common.{sym, ◌∙◌, true≢false, arith, drop_of_length-le, drop-cons}
use Rattle.std.proofs.Math.Numerals.{add-one}
use borrow.Author.Tests.{lt-ltb, le-ltb, ltb-true}
use Rattle.words.specs.Token
use Rattle.words.specs.Words.{token_word, token_kind}
use Rattle.reading.specs.Source.{slot_of, slot_at, is_name}
use Rattle.spellings.specs.Names.{kind_at, kind-past}
use Rattle.interner.specs.Alike.{both}

-- Whether token `j` is a name.
unfoldable pub name_at : List ℕ → ℕ → Bool
name_at tokens j = is_name (kind_at tokens j)

-- What `is_name` answers of the kind of token `j`.
pub name-is : (tokens : List ℕ) (j k : ℕ) (t b : Bool) → k ≡ kind_at tokens j → t ≡ is_name k → t ≡ b → name_at tokens j ≡ b
unfolding name_at
name-is tokens j k t b e f g = rw (← e, ← f) g

-- Past the tokens there is no name.
pub no_name : (tokens : List ℕ) (j : ℕ) → length tokens ≤ j → name_at tokens j ≡ false
unfolding name_at
no_name tokens j h = rw (← kind-past tokens j h)

-- Whether the names among `ws`, the words from token `i` on, have places that rise from above `last`, and numbers that fit two bytes.
unfoldable pub rise_from : ℕ → ℕ → List ℕ → Bool
rise_from i last [] = true
rise_from i last (w ∷ ws) =
    cond (is_name (token_kind w)) (ltb last (slot_of w) && (ltb i 65536 && rise_from (i + 1) (slot_of w) ws)) (rise_from (i + 1) last ws)

abbrev pub names_rise : List ℕ → Bool
names_rise tokens = rise_from 0 0 tokens

pub rise-over : (tokens : List ℕ) (i last : ℕ) → length tokens ≤ i → rise_from i last (drop i tokens) ≡ true
unfolding rise_from
rise-over tokens i last h = rw (drop_of_length-le tokens {i = i} h)

module _ (tokens : List ℕ) (i last : ℕ) (l : i < length tokens) where
  opened : rise_from i last (drop i tokens) ≡ cond (name_at tokens i) (ltb last (slot_at tokens i) && (ltb i 65536 && rise_from (i + 1) (slot_at tokens i) (drop (i + 1) tokens))) (rise_from (i + 1) last (drop (i + 1) tokens))
  unfolding rise_from name_at
  opened = rw (drop-cons tokens i (token_word Token.Eof 0) l, add-one i)

  pub rise-skip : name_at tokens i ≡ false → rise_from i last (drop i tokens) ≡ rise_from (i + 1) last (drop (i + 1) tokens)
  rise-skip f = opened ∙ rw f

  module _ (name : name_at tokens i ≡ true) (slot : ℕ) (e : slot ≡ slot_at tokens i) where
    pub rise-not : slot ≤ last → rise_from i last (drop i tokens) ≡ false
    rise-not h = opened ∙ rw (name, ← e, le-ltb last slot h)

    pub rise-many : last < slot → 65536 ≤ i → rise_from i last (drop i tokens) ≡ false
    rise-many h g = opened ∙ rw (name, ← e, lt-ltb last slot h, le-ltb i 65536 g)

    pub rise-next : last < slot → i < 65536 → rise_from i last (drop i tokens) ≡ rise_from (i + 1) slot (drop (i + 1) tokens)
    rise-next h g = opened ∙ rw (name, ← e, lt-ltb last slot h, lt-ltb i 65536 g)

pub record Ordered (tokens : List ℕ) : Type 0 where
  pub apart : (j k : ℕ) → j < k → name_at tokens j ≡ true → name_at tokens k ≡ true → slot_at tokens j < slot_at tokens k
  pub some : (j : ℕ) → name_at tokens j ≡ true → 0 < slot_at tokens j
  pub few : (j : ℕ) → name_at tokens j ≡ true → j < 65536

none_in : {A : Type 0} (j : ℕ) → name_at [] j ≡ true → A
none_in j e = absurd (true≢false (sym e ∙ no_name [] j (omega arith)))

-- What the test says of the first word, if it is a name, and of the rest.
module _ (w : ℕ) (ws : List ℕ) (i last : ℕ) (e : rise_from i last (w ∷ ws) ≡ true) where
  at_name : is_name (token_kind w) ≡ true → (last < slot_of w) × (i < 65536) × (rise_from (i + 1) (slot_of w) ws ≡ true)
  unfolding rise_from
  at_name f =
      let (a, b) = both (ltb last (slot_of w)) (ltb i 65536 && rise_from (i + 1) (slot_of w) ws) (rw f at e) in
      let (c, d) = both (ltb i 65536) (rise_from (i + 1) (slot_of w) ws) b in
      (ltb-true last (slot_of w) a, ltb-true i 65536 c, d)

  at_other : is_name (token_kind w) ≡ false → rise_from (i + 1) last ws ≡ true
  unfolding rise_from
  at_other f = rw f at e

rise-each : (ws : List ℕ) (i last : ℕ) → rise_from i last ws ≡ true → (j : ℕ) → name_at ws j ≡ true → (last < slot_at ws j) × (i + j < 65536)
unfolding name_at
rise-each [] i last e j f = none_in j f
rise-each (w ∷ ws) i last e zero f = let (a, b, c) = at_name w ws i last e f in (a, omega arith)
rise-each (w ∷ ws) i last e (suc j) f = go (is_name (token_kind w)) refl (λ n r. rise-each ws (i + 1) n r j f)
  where
    go : (b : Bool) → is_name (token_kind w) ≡ b → ((n : ℕ) → rise_from (i + 1) n ws ≡ true → (n < slot_at ws j) × (i + 1 + j < 65536)) → (last < slot_at ws j) × (i + suc j < 65536)
    go true g rest =
        let (a, b, c) = at_name w ws i last e g in
        let (x, y) = rest (slot_of w) c in
        (omega arith, omega arith)
    go false g rest = let (x, y) = rest last (at_other w ws i last e g) in (x, omega arith)

rise-pairs : (ws : List ℕ) (i last : ℕ) → rise_from i last ws ≡ true → (j k : ℕ) → j < k → name_at ws j ≡ true → name_at ws k ≡ true → slot_at ws j < slot_at ws k
unfolding name_at
rise-pairs [] i last e j k l f g = none_in j f
rise-pairs (w ∷ ws) i last e j zero l f g = absurd (omega arith)
rise-pairs (w ∷ ws) i last e zero (suc k) l f g = let (a, b, c) = at_name w ws i last e f in (rise-each ws (i + 1) (slot_of w) c k g).0
rise-pairs (w ∷ ws) i last e (suc j) (suc k) l f g = go (is_name (token_kind w)) refl (λ n r. rise-pairs ws (i + 1) n r j k (omega arith) f g)
  where
    go : (b : Bool) → is_name (token_kind w) ≡ b → ((n : ℕ) → rise_from (i + 1) n ws ≡ true → slot_at ws j < slot_at ws k) → slot_at ws j < slot_at ws k
    go true h rest = rest (slot_of w) (at_name w ws i last e h).2
    go false h rest = rest last (at_other w ws i last e h)

pub ordered_of : (tokens : List ℕ) → names_rise tokens ≡ true → Ordered tokens
ordered_of tokens e =
    record {
      apart = rise-pairs tokens 0 0 e;
      some = λ j f. (rise-each tokens 0 0 e j f).0;
      few = λ j f. let (a, b) = rise-each tokens 0 0 e j f in omega arith;
    }
