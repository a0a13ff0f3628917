-- Laws of the definitions in `Position`.
use Rattle.std.specs.Prelude.{◌≡◌, refl, Bool, true, false, cond, List, [], ◌∷◌, ℕ, suc, ◌+◌, ◌-◌, ◌≤◌, ◌<◌, min, leb, ltb, length, get_or, take, drop, reverse, Option, Some, None}
use Rattle.std.specs.List.{position, position_or_len}
use Rattle.std.proofs.lemmas.List.Recursion.{is_position_or_len}
use Rattle.std.proofs.lemmas.List.{reverse-append, length-reverse}
use Rattle.std.proofs.Common.{sym, ◌∙◌, ltb-false, zero-add, add-one, arith, leb-true, leb-false, ne_eqb, length-drop, drop_of_length-le, take-suc, take_all, drop-cons, length-take-le}
use Rattle.std.proofs.Math.Seq.{take-length, drop-length}
use Rattle.scan.specs.Lexer.{has_mark}
use Rattle.position.specs.Position.{is_newline, is_start, count, until_newline, before, position_after, position_in, position_of, line_start, line_end, line_in, mark_length, source_line, behind}
use Rattle.position.specs.declared.Position.{Position}

-- An offset past the text is that of the text's end.
clip-by : (text : List ℕ) (at : ℕ) (t : Bool) → leb at (length text) ≡ t → (take (min at (length text)) text ≡ take at text) × (drop (min at (length text)) text ≡ drop at text)
clip-by text at true e =
    let m : min at (length text) ≡ at = omega (arith, leb-true at (length text) e) in
    (rw m, rw m)
clip-by text at false e =
    let l = leb-false at (length text) e in
    let m : min at (length text) ≡ length text = omega arith in
    (rw (m, take-length, take_all at text (omega arith)), rw (m, drop-length, drop_of_length-le text {i = at} (omega arith)))

clip : (text : List ℕ) (at : ℕ) → (take (min at (length text)) text ≡ take at text) × (drop (min at (length text)) text ≡ drop at text)
clip text at = clip-by text at (leb at (length text)) refl

module _ (text : List ℕ) (at : ℕ) where
  pub position-clip : position_in text (min at (length text)) ≡ position_in text at
  unfolding position_in before
  position-clip = rw (clip text at).0

  pub line-clip : line_in text (min at (length text)) ≡ line_in text at
  unfolding line_in line_start line_end before
  line-clip = rw ((clip text at).0, (clip text at).1)

module _ (text : List ℕ) (at : ℕ) (h : at ≤ length text) where
  before-length : length (before text at) ≡ at
  unfolding before
  before-length = rw (length-reverse, length-take-le)

-- One byte further on, that byte is the nearest.
before-next : (text : List ℕ) (at : ℕ) → at < length text → before text (at + 1) ≡ get_or text at 0 ∷ before text at
unfolding before
before-next text at h = rw (add-one, take-suc text at 0, reverse-append)

-- The position behind a byte.
unfoldable pub next : Position → ℕ → Position
next p b = cond (is_newline b) (record { line = p.line + 1; column = 1 }) (record { line = p.line; column = p.column + cond (is_start b) 1 0 })

-- The byte is a newline, or not.
next-by : (b : ℕ) (s : List ℕ) (t : Bool) → is_newline b ≡ t → position_after (b ∷ s) ≡ next (position_after s) b
unfolding position_after next count until_newline
next-by b s true e =
    let l : 1 + (1 + count is_newline s) ≡ 1 + count is_newline s + 1 = omega arith in
    simp (e, l)
next-by b s false e =
    let l : 1 + (0 + count is_newline s) ≡ 1 + count is_newline s = omega arith in
    let k : 1 + (cond (is_start b) 1 0 + count is_start (until_newline s)) ≡ 1 + count is_start (until_newline s) + cond (is_start b) 1 0 = omega arith in
    simp (e, l, k)

pub position-next : (text : List ℕ) (at : ℕ) → at < length text → position_in text (at + 1) ≡ next (position_in text at) (get_or text at 0)
unfolding position_in
position-next text at h = rw before-next (next-by (get_or text at 0) (before text at) (is_newline (get_or text at 0)) refl)

pub position_first : (text : List ℕ) → position_in text 0 ≡ record { line = 1; column = 1 }
unfolding position_in before position_after count until_newline
position_first text = refl

-- No more is counted than there are bytes.
count_most : (test : ℕ → Bool) (s : List ℕ) → count test s ≤ length s
unfolding count
count_most test [] = omega arith
count_most test (b ∷ s) = go (test b) (count_most test s)
  where
    go : (t : Bool) → count test s ≤ length s → cond t 1 0 + count test s ≤ suc (length s)
    go true h = omega arith
    go false h = omega arith

until-most : (s : List ℕ) → length (until_newline s) ≤ length s
unfolding until_newline
until-most [] = omega arith
until-most (b ∷ s) = go (is_newline b) (until-most s)
  where
    go : (t : Bool) → length (until_newline s) ≤ length s → length (cond t [] (b ∷ until_newline s)) ≤ suc (length s)
    go true h = omega arith
    go false h = omega arith

pub position-most : (text : List ℕ) (at : ℕ) → at ≤ length text → ((position_in text at).line ≤ at + 1) × ((position_in text at).column ≤ at + 1)
unfolding position_in position_after
position-most text at h =
    omega (arith, before-length text at h, count_most is_newline (before text at), count_most is_start (until_newline (before text at)), until-most (before text at))

-- What is looked for from an offset is the next newline on either side of it.
cut-length : (t : Bool) (b : ℕ) (s : List ℕ) → length (cond t [] (b ∷ s)) ≡ cond t 0 (1 + length s)
cut-length true b s = refl
cut-length false b s = omega arith

until-newline : (s : List ℕ) → length (until_newline s) ≡ position_or_len is_newline s
unfolding until_newline
until-newline s = is_position_or_len (λ x. length (until_newline x)) is_newline refl (λ b x. cut-length (is_newline b) b (until_newline x)) s

found-by : (n k l : ℕ) (t : Bool) → cond t (Some k) None ≡ Some n → k ≡ n
found-by n k l true e = cc
found-by n k l false e = absurd (cc)

none-by : (k l : ℕ) → k ≤ l → (t : Bool) → ltb k l ≡ t → cond t (Some k) None ≡ None → k ≡ l
none-by k l h true e f = absurd (cc)
none-by k l h false e f = omega (arith, ltb-false k l e)

module _ (s : List ℕ) (r : Option ℕ) (e : r ≡ position is_newline s) where
  newline-some : (n : ℕ) → r ≡ Some n → length (until_newline s) ≡ n
  newline-some n f = until-newline s ∙ found-by n _ (length s) (ltb (position_or_len is_newline s) (length s)) (sym e ∙ f)

  newline-none : r ≡ None → length (until_newline s) ≡ length s
  newline-none f = until-newline s ∙ none-by _ (length s) (rw (← until-newline s) (until-most s)) (ltb (position_or_len is_newline s) (length s)) refl (sym e ∙ f)

module _ (text : List ℕ) (at : ℕ) (h : at ≤ length text) (r : Option ℕ) where
  module _ (e : r ≡ position is_newline (reverse (take at text))) where
    pub start-some : (n : ℕ) → r ≡ Some n → at - n ≡ line_start text at
    unfolding line_start before
    start-some n f = omega (arith, before-length text at h, newline-some (before text at) r e n f)

    pub start-none : r ≡ None → 0 ≡ line_start text at
    unfolding line_start before
    start-none f = omega (arith, newline-none (before text at) r e f)

  module _ (e : r ≡ position is_newline (drop at text)) where
    pub end-some : (n : ℕ) → r ≡ Some n → at + n ≡ line_end text at
    unfolding line_end
    end-some n f = omega (arith, before-length text at h, newline-some (drop at text) r e n f)

    pub end-none : r ≡ None → length text ≡ line_end text at
    unfolding line_end
    end-none f = omega (arith, before-length text at h, newline-none (drop at text) r e f, length-drop at text)

-- Where the line starts, seen from behind a byte: there, if that is a newline; else where it starts seen from before it.
module _ (text : List ℕ) (at start : ℕ) (h : at < length text) (e : start ≡ at + 1) where
  pub start-here : is_newline (get_or text at 0) ≡ true → line_start text start ≡ start
  unfolding line_start until_newline
  start-here t = rw (e, before-next text at h, t) (omega (arith, before-length text at (omega arith)))

  pub start-before : is_newline (get_or text at 0) ≡ false → line_start text start ≡ line_start text at
  unfolding line_start until_newline
  start-before t = rw (e, before-next text at h, t) (omega arith)

-- Where the line ends, seen from a byte.
module _ (text : List ℕ) (at : ℕ) (h : at < length text) where
  pub end-here : is_newline (get_or text at 0) ≡ true → line_end text at ≡ at
  unfolding line_end until_newline
  end-here e = rw (drop-cons text at 0 h, e) (omega (arith, before-length text at (omega arith)))

  pub end-behind : is_newline (get_or text at 0) ≡ false → line_end text at ≡ line_end text (at + 1)
  unfolding line_end until_newline
  end-behind e = rw (drop-cons text at 0 h, e, before-next text at h, add-one) (omega arith)

pub start_first : (text : List ℕ) → line_start text 0 ≡ 0
unfolding line_start before until_newline
start_first text = refl

pub end-last : (text : List ℕ) → line_end text (length text) ≡ length text
unfolding line_end until_newline
end-last text = rw drop-length (omega (arith, before-length text (length text) (omega arith)))

-- A line holds its offset and lies within the text, so that it can be lent as a part of it.
pub line-holds : (text : List ℕ) (at : ℕ) → at ≤ length text → (line_start text at ≤ at) × (at ≤ line_end text at) × (line_end text at ≤ length text)
unfolding line_start line_end
line-holds text at h = omega (arith, before-length text at h, until-most (drop at text), length-drop at text)

-- A line that was found from an offset that may be past the text.
pub line-found : (text : List ℕ) (at inside start end : ℕ) → inside ≡ min at (length text) → start ≡ line_start text inside → end ≡ line_end text inside
    → (record { start = start; end = end } ≡ line_in text at) × (start ≤ length text) × (end ≤ length text)
line-found text at inside start end e s t =
    let held = line-holds text inside (omega arith) in
    (rw (s, t, e) (unfold line_in in line-clip text at), omega (arith, held), omega (arith, held))

-- Without a mark, lines and columns are those of the text as it stands.
pub unmarked-place : (text : List ℕ) (offset : ℕ) → has_mark text ≡ false → (position_of text offset ≡ position_in text offset) × (source_line text offset ≡ line_in text offset)
unfolding position_of line_in source_line mark_length
unmarked-place text offset e =
    let z : offset - 0 ≡ offset = omega arith in
    (rw (e, z), rw (e, z, zero-add (line_start text offset), zero-add (line_end text offset)))

-- One byte is passed, and with it a newline, if it is one.
pub behind-next : (text : List ℕ) (at n : ℕ) → at < length text → 0 < n → behind (drop at text) n ≡ 1 + behind (drop (at + 1) text) (n - cond (is_newline (get_or text at 0)) 1 0)
unfolding behind
behind-next text at n h p = rw (drop-cons text at 0 h, add-one, ne_eqb n 0 (λ e. omega arith))

pub behind-none : (s : List ℕ) (n : ℕ) → n ≡ 0 → behind s n ≡ 0
unfolding behind
behind-none [] n e = refl
behind-none (b ∷ s) n e = rw e

pub behind-past : (text : List ℕ) (at n : ℕ) → length text ≤ at → behind (drop at text) n ≡ 0
unfolding behind
behind-past text at n h = rw drop_of_length-le
