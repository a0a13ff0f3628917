-- Laws of the lexer's definition at an offset of the text: how each scan stops, goes on, and ends with the text.
use Rattle.std.specs.Prelude.{◌≡◌, refl, List, [], ◌∷◌, ◌⊎◌, Bool, true, false, cond, not, ◌&&◌, ◌||◌, eqb, leb, ltb, get_or, take, drop}
use Rattle.std.proofs.Math.Path.{sym}
use Rattle.std.specs.Cmp.Lexicographic.{pointwise}
use Rattle.std.proofs.Common.{◌∙◌, ap, inl, inr, ⊎_elim, add-zero, add-one, sub-one, length-drop, drop-cons}
use Rattle.std.proofs.lemmas.Bool.{false≢true}
use Prim.Native.Nat.{ℕ, suc, pred, ◌+◌, ◌-◌, ◌≤◌, ◌<◌}
use Rattle.std.proofs.Math.Nat.{add_assoc}
use native.Mathlib.Omega.{arith}
use borrow.Author.Tests.{eq-eqb, ne_eqb, leb-true, ltb-true, ltb-false}
use Rattle.std.proofs.Math.Dec.{eqb-zero-suc}
use Rattle.std.proofs.Math.ListN.{length, drop_of_length-le, get_or-eq_default}
use Rattle.words.specs.Token as TokenKind
use Rattle.scan.specs.declared.Token.{Token}
use Rattle.scan.specs.Bytes.{Class, within, digit, upper, lower, ident_start, ident_part, is_digit}
use Rattle.scan.specs.Lexer.{Lexeme, lexeme, more, from, run, spelled, line_comment, block_comment, number, string}
use Rattle.scan.specs.Longest.{same, same_length}
use Rattle.scan.specs.Fits.{spelled-within}

abbrev pub ended : ℕ → ℕ → Token
ended kind end = record { kind = kind; end = end }

-- The rest of the text at an offset inside it, and past its end.
pub rest-cons : (text : List ℕ) (i : ℕ) → i < length text → drop i text ≡ get_or text i 0 ∷ drop (i + 1) text
rest-cons text i h = rw (add-one, drop-cons text i 0)

add-two : (i : ℕ) → i + 1 + 1 ≡ i + 2
add-two i = omega arith

pub rest-two : (text : List ℕ) (i : ℕ) → i + 1 < length text → drop i text ≡ get_or text i 0 ∷ get_or text (i + 1) 0 ∷ drop (i + 2) text
rest-two text i h = rw (rest-cons text i (omega arith), rest-cons text (i + 1) h, add-two i)

pub lt-or-le : (a b : ℕ) → (a < b) ⊎ (b ≤ a)
lt-or-le a b = go (ltb a b) refl
  where
    go : (t : Bool) → ltb a b ≡ t → (a < b) ⊎ (b ≤ a)
    go true e = inl (ltb-true a b e)
    go false e = inr (ltb-false a b e)

-- A byte that is not 0 stands inside the text.
pub inside : (text : List ℕ) (j y : ℕ) → eqb (get_or text j 0) (suc y) ≡ true → j < length text
inside text j y e = ⊎_elim (λ h. h) out (lt-or-le j (length text))
  where
    out : length text ≤ j → j < length text
    out h = absurd (false≢true (sym (eqb-zero-suc y) ∙ (rw (get_or-eq_default text 0 h) at e)))

pub inside_at : (text : List ℕ) (j y : ℕ) → get_or text j 0 ≡ suc y → j < length text
inside_at text j y e = inside text j y (rw (eq-eqb (get_or text j 0) (suc y) e))

and_right : (p q : Bool) → (p && q) ≡ true → q ≡ true
and_right true q e = e
and_right false q e = absurd (false≢true e)

pub from_more : (i n : ℕ) (l : Lexeme) → from i (more n l) ≡ from (i + n) l
from_more i n l = ap (λ (e : ℕ). ended l.kind e) (omega arith)

pub from_zero : (kind i : ℕ) → from i (lexeme kind 0) ≡ ended kind i
from_zero kind i = ap (λ (e : ℕ). ended kind e) (omega arith)

block-zero : (s : List ℕ) (depth : ℕ) → depth ≤ 0 → block_comment s depth ≡ lexeme TokenKind.BlockComment 0
unfolding block_comment
block-zero [] depth h = rw (eq-eqb depth 0 (omega arith))
block-zero (a ∷ []) depth h = rw (eq-eqb depth 0 (omega arith))
block-zero (a ∷ b ∷ s) depth h = rw (eq-eqb depth 0 (omega arith))

module _ (a b : ℕ) (s : List ℕ) (depth : ℕ) (d : 0 < depth) where
  block-two : (eqb a 42 && eqb b 47) ≡ true → block_comment (a ∷ b ∷ s) depth ≡ more 2 (block_comment s (pred depth))
  unfolding block_comment
  block-two e = rw (ne_eqb depth 0 (omega arith), e)

  block-nest : (eqb a 42 && eqb b 47) ≡ false → (eqb a 47 && eqb b 42) ≡ true
      → block_comment (a ∷ b ∷ s) depth ≡ more 2 (block_comment s (suc depth))
  unfolding block_comment
  block-nest e e' = rw (ne_eqb depth 0 (omega arith), e, e')

  block_one : (eqb a 42 && eqb b 47) ≡ false → (eqb a 47 && eqb b 42) ≡ false
      → block_comment (a ∷ b ∷ s) depth ≡ more 1 (block_comment (b ∷ s) depth)
  unfolding block_comment
  block_one e e' = rw (ne_eqb depth 0 (omega arith), e, e')

block_last : (a depth : ℕ) → 0 < depth → block_comment (a ∷ []) depth ≡ more 1 (block_comment [] depth)
unfolding block_comment
block_last a depth d = rw (ne_eqb depth 0 (omega arith))

-- A pair of bytes, of which the second is not 0, stands inside the text.
pub pair_inside : (text : List ℕ) (i x y : ℕ) → (eqb (get_or text i 0) x && eqb (get_or text (i + 1) 0) (suc y)) ≡ true → i + 1 < length text
pair_inside text i x y e = inside text (i + 1) y (and_right (eqb (get_or text i 0) x) (eqb (get_or text (i + 1) 0) (suc y)) e)

-- Each law below takes what a scan at `i` gives, `t`, to what it gives one step on: so a loop carries it along.
module _ (text : List ℕ) (i : ℕ) (t : Token) where
  pub line-stop : i < length text → get_or text i 0 ≡ 10 → from i (line_comment (drop i text)) ≡ t → ended TokenKind.LineComment (i + 1) ≡ t
  unfolding line_comment
  line-stop h e p = rw (rest-cons text i h, eq-eqb _ _ e) at p

  pub line-next : i < length text → (get_or text i 0 ≡ 10 → ⊥) → from i (line_comment (drop i text)) ≡ t
      → from (i + 1) (line_comment (drop (i + 1) text)) ≡ t
  unfolding line_comment
  line-next h e p = sym (from_more i 1 _) ∙ (rw (rest-cons text i h, ne_eqb _ _ e) at p)

  pub line-over : length text ≤ i → from i (line_comment (drop i text)) ≡ t → ended TokenKind.LineComment i ≡ t
  unfolding line_comment
  line-over h p = sym (from_zero _ i) ∙ (rw (drop_of_length-le text h) at p)

  abbrev a : ℕ
  a = get_or text i 0

  abbrev b : ℕ
  b = get_or text (i + 1) 0

  module _ (depth : ℕ) where
    pub block-done : depth ≤ 0 → from i (block_comment (drop i text) depth) ≡ t → ended TokenKind.BlockComment i ≡ t
    block-done h p = sym (from_zero _ i) ∙ (rw (block-zero (drop i text) depth h) at p)

    pub block-over : 0 < depth → length text ≤ i → from i (block_comment (drop i text) depth) ≡ t
        → ended TokenKind.UnclosedBlockCommentError i ≡ t
    unfolding block_comment
    block-over d h p = sym (from_zero _ i) ∙ (rw (drop_of_length-le text h, ne_eqb depth 0 (omega arith)) at p)

    pub block-close : 0 < depth → (eqb a 42 && eqb b 47) ≡ true
        → from i (block_comment (drop i text) depth) ≡ t → from (i + 2) (block_comment (drop (i + 2) text) (depth - 1)) ≡ t
    block-close d e p =
        let h : i + 1 < length text = pair_inside text i 42 46 e in
        rw sub-one (sym (from_more i 2 _) ∙ (rw (rest-two text i h, block-two a b (drop (i + 2) text) depth d e) at p))

    pub block-open : 0 < depth → (eqb a 42 && eqb b 47) ≡ false
        → (eqb a 47 && eqb b 42) ≡ true
        → from i (block_comment (drop i text) depth) ≡ t → from (i + 2) (block_comment (drop (i + 2) text) (depth + 1)) ≡ t
    block-open d e e' p =
        let h : i + 1 < length text = pair_inside text i 47 41 e' in
        rw (add-one depth) (sym (from_more i 2 _) ∙ (rw (rest-two text i h, block-nest a b (drop (i + 2) text) depth d e e') at p))

    pub block-next : 0 < depth → i < length text → (eqb a 42 && eqb b 47) ≡ false
        → (eqb a 47 && eqb b 42) ≡ false
        → from i (block_comment (drop i text) depth) ≡ t → from (i + 1) (block_comment (drop (i + 1) text) depth) ≡ t
    block-next d h e e' p = ⊎_elim two one (lt-or-le (i + 1) (length text))
      where
        two : i + 1 < length text → from (i + 1) (block_comment (drop (i + 1) text) depth) ≡ t
        two g =
            rw (rest-cons text (i + 1) g, add-two i)
            (sym (from_more i 1 _) ∙ (rw (rest-two text i g, block_one a b (drop (i + 2) text) depth d e e') at p))

        one : length text ≤ i + 1 → from (i + 1) (block_comment (drop (i + 1) text) depth) ≡ t
        one g =
            rw (drop_of_length-le text g)
            (sym (from_more i 1 _) ∙ (rw (rest-cons text i h, drop_of_length-le text g, block_last a depth d) at p))

-- A run of bytes of a class, from `i` on: the same with its end `n` for `t`. `r` is the test on the byte at `i`.
module _ (text : List ℕ) (i : ℕ) (q : Class) (n : ℕ) where
  pub run-over : length text ≤ i → i + run q (drop i text) ≡ n → i ≡ n
  unfolding run
  run-over h p = sym (add-zero i) ∙ (rw (drop_of_length-le text h) at p)

  module _ (r : Bool) (h : i < length text) (e : r ≡ q (get_or text i 0)) where
    pub run-stop : r ≡ false → i + run q (drop i text) ≡ n → i ≡ n
    unfolding run
    run-stop f p = sym (add-zero i) ∙ (rw (rest-cons text i h, sym e ∙ f) at p)

    pub run-next : r ≡ true → i + run q (drop i text) ≡ n → i + 1 + run q (drop (i + 1) text) ≡ n
    unfolding run
    run-next f p = let g : i + suc (run q (drop (i + 1) text)) ≡ n = rw (rest-cons text i h, sym e ∙ f) at p in omega arith

or-true : (p : Bool) → (p || true) ≡ true
or-true true = refl
or-true false = refl

or-false : (p : Bool) → (p || false) ≡ p
or-false true = refl
or-false false = refl

-- A byte that isn't outside a radix is a letter, a digit or `_`.
inside-part : (radix b : ℕ) → (not (eqb b 95) && not (is_digit radix b)) ≡ false → ident_part b ≡ true
unfolding ident_part ident_start is_digit
inside-part radix b e = go (lower b) (upper b) (eqb b 95) (digit b) _ _ _ e
  where
    go : (l u n d x y z : Bool) → (not n && not (cond d x (cond u y (cond l z false)))) ≡ false → ((l || (u || n)) || d) ≡ true
    go true u n d x y z e = refl
    go false true n d x y z e = refl
    go false false true d x y z e = refl
    go false false false true x y z e = refl
    go false false false false x y z e = absurd (false≢true (sym e))

module _ (text : List ℕ) (i kind radix : ℕ) (m : Bool) (t : Token) where
  pub number-over : length text ≤ i → from i (number kind radix m (drop i text)) ≡ t
      → ended (cond m TokenKind.MalformedIdentError kind) i ≡ t
  unfolding number
  number-over h p = sym (from_zero _ i) ∙ (rw (drop_of_length-le text h) at p)

  module _ (r : Bool) (h : i < length text) (e : r ≡ ident_part (get_or text i 0)) where
    pub number-stop : r ≡ false → from i (number kind radix m (drop i text)) ≡ t
        → ended (cond m TokenKind.MalformedIdentError kind) i ≡ t
    unfolding number
    number-stop f p = sym (from_zero _ i) ∙ (rw (rest-cons text i h, sym e ∙ f) at p)

    pub number-next : (o m' : Bool) → r ≡ true → o ≡ (not (eqb (get_or text i 0) 95) && not (is_digit radix (get_or text i 0))) → m' ≡ (m || o)
        → from i (number kind radix m (drop i text)) ≡ t → from (i + 1) (number kind radix m' (drop (i + 1) text)) ≡ t
    unfolding number
    number-next o m' f eo em p = rw (em, eo) (sym (from_more i 1 _) ∙ (rw (rest-cons text i h, sym e ∙ f) at p))

    pub number-outside : (o m' : Bool) → r ≡ true → o ≡ (not (eqb (get_or text i 0) 95) && not (is_digit radix (get_or text i 0))) → o ≡ true → m' ≡ true
        → from i (number kind radix m (drop i text)) ≡ t → from (i + 1) (number kind radix m' (drop (i + 1) text)) ≡ t
    number-outside o m' f eo g em p = number-next o m' f eo (em ∙ sym (rw g (or-true m))) p

  -- a byte that isn't outside the radix goes on with the number, and leaves it as it is
  pub number-inside : i < length text → (o m' : Bool) → o ≡ (not (eqb (get_or text i 0) 95) && not (is_digit radix (get_or text i 0))) → o ≡ false → m' ≡ m
      → from i (number kind radix m (drop i text)) ≡ t → from (i + 1) (number kind radix m' (drop (i + 1) text)) ≡ t
  number-inside h o m' eo g em p =
      number-next true h (sym (inside-part radix (get_or text i 0) (sym eo ∙ g))) o m' refl eo (em ∙ sym (rw g (or-false m))) p

module _ (text : List ℕ) (i kind : ℕ) (hides hidden m : Bool) (t : Token) where
  pub string-over : length text ≤ i → from i (string kind hides hidden m (drop i text)) ≡ t
      → ended TokenKind.UnclosedStringError i ≡ t
  unfolding string
  string-over h p = sym (from_zero _ i) ∙ (rw (drop_of_length-le text h) at p)

  module _ (r : Bool) (h : i < length text) (e : r ≡ (not hidden && eqb (get_or text i 0) 34)) where
    pub string-stop : r ≡ true → from i (string kind hides hidden m (drop i text)) ≡ t
        → ended (cond m TokenKind.MultilineStringError kind) (i + 1) ≡ t
    unfolding string
    string-stop f p = rw (rest-cons text i h, sym e ∙ f) at p

    pub string-next : (l m' o h' : Bool) → r ≡ false → l ≡ (not hidden && (eqb (get_or text i 0) 10 || eqb (get_or text i 0) 13)) → m' ≡ (m || l)
        → o ≡ (not hidden && eqb (get_or text i 0) 92) → h' ≡ (hides && o)
        → from i (string kind hides hidden m (drop i text)) ≡ t → from (i + 1) (string kind hides h' m' (drop (i + 1) text)) ≡ t
    unfolding string
    string-next l m' o h' f el em eo eh p = rw (em, el, eh, eo) (sym (from_more i 1 _) ∙ (rw (rest-cons text i h, sym e ∙ f) at p))

-- What a test on a class says of the byte.
pub within_low : (lo hi b : ℕ) → within lo hi b ≡ true → lo ≤ b
within_low lo hi b e = go (leb lo b) refl
  where
    go : (t : Bool) → leb lo b ≡ t → lo ≤ b
    go true p = leb-true lo b p
    go false p = let z : false ≡ true = rw p at e in absurd (false≢true z)

-- Two spellings compared from `i` on: `t` is what the whole comparison gives.
module _ (a b : List ℕ) (i : ℕ) (t : Bool) (l : length a ≡ length b) where
  pub same_over : length a ≤ i → same (drop i a) (drop i b) ≡ t → true ≡ t
  unfolding same
  same_over h p = let g : length b ≤ i = omega arith in rw (drop_of_length-le a h, drop_of_length-le b g) at p

  pub same_stop : i < length a → (get_or a i 0 ≡ get_or b i 0 → ⊥) → same (drop i a) (drop i b) ≡ t → false ≡ t
  unfolding same
  same_stop h e p = rw (rest-cons a i h, rest-cons b i (omega arith), ne_eqb (get_or a i 0) (get_or b i 0) e) at p

  pub same_next : i < length a → get_or a i 0 ≡ get_or b i 0 → same (drop i a) (drop i b) ≡ t → same (drop (i + 1) a) (drop (i + 1) b) ≡ t
  unfolding same
  same_next h e p = rw (rest-cons a i h, rest-cons b i (omega arith), eq-eqb (get_or a i 0) (get_or b i 0) e) at p

pub same-unlike : (a b : List ℕ) → (length a ≡ length b → ⊥) → false ≡ same a b
same-unlike a b h = go (same a b) refl
  where
    go : (t : Bool) → same a b ≡ t → false ≡ t
    go true e = absurd (h (same_length a b e))
    go false e = refl

-- A spelling compared with the text from `at` on.
module _ (w text : List ℕ) (at i : ℕ) (t : Bool) (h₀ : at < length text) (l : length w ≤ length text - at) where
  pub spelled-over : length w ≤ i → spelled (drop i w) (drop (at + i) text) ≡ t → true ≡ t
  unfolding spelled
  spelled-over h p = rw (drop_of_length-le w h) at p

  pub spelled-stop : i < length w → (get_or w i 0 ≡ get_or text (at + i) 0 → ⊥) → spelled (drop i w) (drop (at + i) text) ≡ t → false ≡ t
  unfolding spelled
  spelled-stop h e p = rw (rest-cons w i h, rest-cons text (at + i) (omega arith), ne_eqb (get_or w i 0) (get_or text (at + i) 0) e) at p

  pub spelled-next : i < length w → get_or w i 0 ≡ get_or text (at + i) 0 → spelled (drop i w) (drop (at + i) text) ≡ t
      → spelled (drop (i + 1) w) (drop (at + (i + 1)) text) ≡ t
  unfolding spelled
  spelled-next h e p =
      rw (← add_assoc at i 1)
      (rw (rest-cons w i h, rest-cons text (at + i) (omega arith), eq-eqb (get_or w i 0) (get_or text (at + i) 0) e) at p)

pub spelled-long : (w text : List ℕ) (at : ℕ) → length text - at < length w → false ≡ spelled w (drop at text)
spelled-long w text at h = go (spelled w (drop at text)) refl
  where
    go : (t : Bool) → spelled w (drop at text) ≡ t → false ≡ t
    go true e = absurd (let k = spelled-within w (drop at text) e in omega (arith, length-drop at text))
    go false e = refl

-- The library's `starts_with` gives whether the text is spelled so.
pub starts-spelled : (w s : List ℕ) → pointwise eqb w (take (length w) s) ≡ spelled w s
unfolding spelled
starts-spelled [] s = refl
starts-spelled (a ∷ w) [] = refl
starts-spelled (a ∷ w) (b ∷ s) = ap (λ (t : Bool). eqb a b && t) (starts-spelled w s)

pub spelled-starts : (w s : List ℕ) (r : Bool) → r ≡ pointwise eqb w (take (length w) s) → r ≡ spelled w s
spelled-starts w s r e = e ∙ starts-spelled w s
