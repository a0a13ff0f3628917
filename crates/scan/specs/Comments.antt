-- The comment reader, step by step, and that the count of open comments fits 16 bits.
use Rattle.std.specs.Prelude.{◌≡◌, List, Bool, cond, ◌&&◌, ℕ, zero, suc, ◌+◌, ◌-◌, ◌*◌, ◌≤◌, ◌<◌, eqb, ltb, length, get_or, take, drop}
use Rattle.std.proofs.Math.Path.{refl, sym}
use Rattle.std.proofs.Common.{◌∙◌, ltb-true, length-take, take_all}
use Rattle.std.proofs.Math.Bool.{true, false}
use native.Mathlib.Omega.{arith}
use Rattle.std.proofs.Math.Seq.{slice}
use Rattle.scan.specs.declared.Token.{Token}
use Rattle.scan.specs.declared.Nest.{Nest}
use Rattle.scan.specs.Lexer.{longest_text, from, block_comment}
use Rattle.scan.specs.Longest.{and_both}
use Rattle.scan.specs.Laws.{pair_inside, block-close, block-open, block-next}

-- "In 65,536 bytes at most 32,768 block comments can be open at a time." (01, W5)
abbrev pub most_open : ℕ
most_open = 32768

-- The bytes that can stand behind a `/*` in the longest text.
abbrev pub most_behind : ℕ
most_behind = longest_text - 2

-- What stands behind a `/*`, as far as it can in the longest text.
abbrev pub behind : ℕ → List ℕ → List ℕ
behind at text = slice at (at + most_behind) text

-- Whether `*/` stands at an offset, and whether `/*` does.
abbrev pub closes : List ℕ → ℕ → Bool
closes text i = eqb (get_or text i 0) 42 && eqb (get_or text (i + 1) 0) 47

abbrev pub opens : List ℕ → ℕ → Bool
opens text i = eqb (get_or text i 0) 47 && eqb (get_or text (i + 1) 0) 42

-- Past `*/` one comment fewer is open, past `/*` one more, past any other byte as many.
abbrev pub closed : Nest → Nest
closed n = record { depth = n.depth - 1; at = n.at + 2 }

abbrev pub opened : Nest → Nest
opened n = record { depth = n.depth + 1; at = n.at + 2 }

abbrev pub passed : Nest → Nest
passed n = record { depth = n.depth; at = n.at + 1 }

-- One step of `block_comment`, where a comment is open and a byte is left.
unfoldable pub stepped : List ℕ → Nest → Nest
stepped text n = cond (closes text n.at) (closed n) (cond (opens text n.at) (opened n) (passed n))

-- What `block_comment` makes of the bytes that are left, with the count for its depth.
abbrev pub left : List ℕ → Nest → Token
left text n = from n.at (block_comment (drop n.at text) n.depth)

-- Each comment that is open took two bytes: these and the bytes that are left are no more than a text has.
abbrev pub Counted : List ℕ → Nest → Type 0
Counted text n = 2 * n.depth + (length text - n.at) ≤ longest_text

-- What a step keeps: the token that `block_comment` comes to where it goes on with the count for its depth; and the bound.
abbrev pub Kept : List ℕ → Nest → Nest → Type 0
Kept text n r = (left text r ≡ left text n) × Counted text r × (n.at < r.at)

module _ (text : List ℕ) (n : Nest) (counted : Counted text n) (some : 0 < n.depth) (here : n.at < length text) where
  kept-opened : closes text n.at ≡ false → opens text n.at ≡ true → Kept text n (opened n)
  kept-opened e e' =
      let two : n.at + 1 < length text = pair_inside text n.at 47 41 e' in
      (block-open text n.at _ n.depth some e e' refl, omega (arith, two), omega arith)

  kept : Kept text n (stepped text n)
  unfolding stepped
  kept = go (closes text n.at) (opens text n.at) refl refl
    where
      go : (c o : Bool) → closes text n.at ≡ c → opens text n.at ≡ o → Kept text n (cond c (closed n) (cond o (opened n) (passed n)))
      go true o e e' = (block-close text n.at _ n.depth some e refl, omega arith, omega arith)
      go false true e e' = kept-opened e e'
      go false false e e' = (block-next text n.at _ n.depth some here e e' refl, omega arith, omega arith)

  pub step_kept : (r : Nest) → r ≡ stepped text n → Kept text n r
  step_kept r e = rw e kept

  pub step-most : (r : Nest) → r ≡ stepped text n → (r ≡ stepped text n) × (r.depth ≤ most_open)
  step-most r e = (e, rw e (omega (arith, kept.1)))

-- The step in code, which holds the second byte in `b` and its two tests in `c` and `o`.
module _ (text : List ℕ) (n : Nest) (b : ℕ) (second : b ≡ get_or text (n.at + 1) 0) (c : Bool) (ec : c ≡ (eqb (get_or text n.at 0) 42 && eqb b 47)) where
  pub step-closed : c ≡ true → closed n ≡ stepped text n
  unfolding stepped
  step-closed e = rw (sym second, sym ec ∙ e)

  module _ (e : c ≡ false) (o : Bool) (eo : o ≡ (eqb (get_or text n.at 0) 47 && eqb b 42)) where
    pub step-opened : o ≡ true → opened n ≡ stepped text n
    unfolding stepped
    step-opened e' = rw (sym second, sym ec ∙ e, sym eo ∙ e')

    pub step-passed : o ≡ false → passed n ≡ stepped text n
    unfolding stepped
    step-passed e' = rw (sym second, sym ec ∙ e, sym eo ∙ e')

-- Where the comment reader stands after so many steps, or where it stops: the comment has ended, or the text.
unfoldable pub after : ℕ → List ℕ → Nest → Nest
after zero text n = n
after (suc k) text n = cond (ltb 0 n.depth && ltb n.at (length text)) (after k text (stepped text n)) n

after-counted : (k : ℕ) (text : List ℕ) (n : Nest) → Counted text n → Counted text (after k text n)
unfolding after
after-counted zero text n h = h
after-counted (suc k) text n h = go (λ i. after-counted k text (stepped text n) i) (ltb 0 n.depth && ltb n.at (length text)) refl
  where
    go : (Counted text (stepped text n) → Counted text (after k text (stepped text n)))
        → (t : Bool) → (ltb 0 n.depth && ltb n.at (length text)) ≡ t → Counted text (cond t (after k text (stepped text n)) n)
    go on true e =
        let both = and_both (ltb 0 n.depth) (ltb n.at (length text)) e in
        on (step_kept text n h (ltb-true 0 n.depth both.0) (ltb-true n.at (length text) both.1) _ refl).1
    go on false e = h

-- "In 65,536 bytes at most 32,768 block comments can be open at a time." (01, W5) After any number of steps from behind any `/*`.
pub never-more : (k at : ℕ) (text : List ℕ) → length text ≤ longest_text → (after k text (record { depth = 1; at = at + 2 })).depth ≤ most_open
never-more k at text h = omega (arith, after-counted k text (record { depth = 1; at = at + 2 }) (omega arith))

-- What is lent of a text that goes on further.
pub behind-short : (at : ℕ) (text : List ℕ) → length (take (at + most_behind) text) - at ≤ most_behind
behind-short at text = omega (arith, length-take (at + most_behind) text)

-- Where no more follows than can in the longest text, nothing is left out.
pub behind-all : (at : ℕ) (text : List ℕ) → length text - at ≤ most_behind → behind at text ≡ drop at text
behind-all at text h = rw (take_all (at + most_behind) text (omega arith))
