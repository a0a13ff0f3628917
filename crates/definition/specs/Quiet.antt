-- Trivia that is no error, which the cursor skips by itself.
use Rattle.std.specs.Prelude.{◌≡◌, refl, Bool, true, false, cond, ◌||◌, List, [], ◌∷◌, ℕ, zero, suc, ◌-◌, ◌+◌, ◌≤◌, ◌<◌, eqb, ltb, length, get_or}
use Rattle.std.proofs.Common.{sym, ◌∙◌, ap, lt-ltb, le-ltb}
use native.Mathlib.Omega.{arith}
use Rattle.std.proofs.Math.ListN.{get_or-eq_default}
use Rattle.words.specs.Words.{token_kind, token_word, pack, high}
use Rattle.literals.specs.Spelling.{word_at}
use Rattle.words.specs.Token
use Rattle.definition.specs.declared.Cursor.{Cursor}
use Rattle.definition.specs.Prog.{kind_at, advanced}

unfoldable pub is_quiet : ℕ → Bool
is_quiet kind = eqb kind Token.Whitespace || (eqb kind Token.LineComment || eqb kind Token.BlockComment)

-- Where a cursor stands after such tokens, at most `left` of them.
unfoldable pub quiet_end : List ℕ → ℕ → Cursor → Cursor
quiet_end tokens zero c = c
quiet_end tokens (suc left) c = elim (is_quiet (kind_at [] tokens c)) [ true ↦ quiet_end tokens left (advanced c) | false ↦ c ]

-- The kind of the cursor's token.
pub kind-inside : (tokens : List ℕ) (c : Cursor) → c.at < c.end → kind_at [] tokens c ≡ token_kind (word_at tokens c.at)
unfolding kind_at
kind-inside tokens c h = rw (lt-ltb c.at c.end h)

pub kind-past : (tokens : List ℕ) (c : Cursor) → length tokens ≤ c.at → Token.Eof ≡ kind_at [] tokens c
unfolding kind_at pack high
kind-past tokens c h = rw (get_or-eq_default tokens (token_word Token.Eof 0) h) (go (ltb c.at c.end))
  where
    go : (t : Bool) → Token.Eof ≡ cond t Token.Eof Token.Eof
    go true = refl
    go false = refl

pub kind-over : (tokens : List ℕ) (c : Cursor) → c.end ≤ c.at → Token.Eof ≡ kind_at [] tokens c
unfolding kind_at
kind-over tokens c h = rw (le-ltb c.at c.end h)

-- One token more, and where there is none.
pub advanced-on : (c : Cursor) → c.at < c.end → record { at = c.at + 1; end = c.end } ≡ advanced c
unfolding advanced
advanced-on c h = rw (lt-ltb c.at c.end h)

pub advanced-over : (c : Cursor) → c.end ≤ c.at → c ≡ advanced c
unfolding advanced
advanced-over c h = rw (le-ltb c.at c.end h)

pub quiet-no : (tokens : List ℕ) (left : ℕ) (c : Cursor) → is_quiet (kind_at [] tokens c) ≡ false → quiet_end tokens (suc left) c ≡ c
unfolding quiet_end
quiet-no tokens left c h = rw (h, quiet_end)

pub quiet-yes : (tokens : List ℕ) (left : ℕ) (c : Cursor) → is_quiet (kind_at [] tokens c) ≡ true → quiet_end tokens (suc left) c ≡ quiet_end tokens left (advanced c)
unfolding quiet_end
quiet-yes tokens left c h = rw (h, quiet_end)

-- What is left to skip from `c` on ends where all of it ends.
module _ (tokens : List ℕ) (c e : Cursor) where
  pub quiet-over : c.end ≤ c.at → quiet_end tokens (c.end - c.at) c ≡ e → c ≡ e
  unfolding quiet_end
  quiet-over h p = let z : c.end - c.at ≡ 0 = omega arith in rw z at p

  pub quiet-stop : (k : ℕ) (t : Bool) → c.at < c.end → k ≡ kind_at [] tokens c → t ≡ is_quiet k → t ≡ false → quiet_end tokens (c.end - c.at) c ≡ e → c ≡ e
  quiet-stop k t h ek et f p =
      let z : c.end - c.at ≡ suc (c.end - (c.at + 1)) = omega arith in
      let q : quiet_end tokens (suc (c.end - (c.at + 1))) c ≡ e = rw z at p in
      sym (quiet-no tokens (c.end - (c.at + 1)) c (ap is_quiet (sym ek) ∙ (sym et ∙ f))) ∙ q

  pub quiet_next : (k : ℕ) (t : Bool) (c' : Cursor) → c.at < c.end → k ≡ kind_at [] tokens c → t ≡ is_quiet k → t ≡ true → c' ≡ advanced c → quiet_end tokens (c.end - c.at) c ≡ e
      → quiet_end tokens (c'.end - c'.at) c' ≡ e
  quiet_next k t c' h ek et f ec p =
      let z : c.end - c.at ≡ suc (c.end - (c.at + 1)) = omega arith in
      let q : quiet_end tokens (suc (c.end - (c.at + 1))) c ≡ e = rw z at p in
      let a : c' ≡ record { at = c.at + 1; end = c.end } = ec ∙ sym (advanced-on c h) in
      rw a (ap (quiet_end tokens (c.end - (c.at + 1))) (advanced-on c h) ∙ (sym (quiet-yes tokens (c.end - (c.at + 1)) c (ap is_quiet (sym ek) ∙ (sym et ∙ f))) ∙ q))

-- A word that is there is what stands there, whatever stands past the words.
get_d_any : (l : List ℕ) (j : ℕ) → j < length l → (d e : ℕ) → get_or l j d ≡ get_or l j e
get_d_any [] j h d e = absurd (omega arith)
get_d_any (a ∷ l) zero h d e = refl
get_d_any (a ∷ l) (suc j) h d e = get_d_any l j (omega arith) d e

pub word-inside : (tokens : List ℕ) (i : ℕ) → i < length tokens → get_or tokens i 0 ≡ word_at tokens i
word-inside tokens i h = get_d_any tokens i h 0 (token_word Token.Eof 0)

pub advanced-falls : (c c' : Cursor) → c.at < c.end → c' ≡ advanced c → c'.end - c'.at < c.end - c.at
advanced-falls c c' h e = rw (e ∙ sym (advanced-on c h)) (omega arith)
