-- Bytes of one class are alike: a state is followed by the same one at each of them. Shown by one computed test over all bytes.
use Rattle.std.specs.Prelude.{◌≡◌, refl, List, [], ◌∷◌, Bool, true, false, cond, ◌&&◌, not, ℕ, zero, suc, ◌+◌, ◌-◌, ◌≤◌, ◌<◌, eqb, ltb, leb}
use Rattle.std.proofs.Common.{sym, ap, arith, eqb-true, ltb-true, ltb-false, leb-true, le-leb}
use Rattle.std.proofs.lemmas.Bool.{false≢true}
use Rattle.scan.specs.Bytes.{within, digit, upper, lower, ident_start, ident_part, blank, is_digit}
use Rattle.scan.specs.Lexer.{punctuation}
use Rattle.scan.specs.Longest.{same, and_both}
use Rattle.rules.specs.Rule.{columns, members, class_of, member, goes_on, stop, numeric, operator, marks, rows, row_at, after}

-- the test passes at all numbers below n
abbrev pub below : (ℕ → Bool) → ℕ → Bool
below p zero = true
below p (suc n) = p n && below p n

pub below_at : (p : ℕ → Bool) (n b : ℕ) → below p n ≡ true → b < n → p b ≡ true
below_at p zero b t h = absurd (omega arith)
below_at p (suc n) b t h =
    let k = and_both (p n) (below p n) t in
    go (ltb b n) refl k.0 (λ l. below_at p n b k.1 l)
  where
    go : (v : Bool) → ltb b n ≡ v → p n ≡ true → (b < n → p b ≡ true) → p b ≡ true
    go true f e g = g (ltb-true b n f)
    go false f e g =
        let l = ltb-false b n f in
        let z : b ≡ n = omega arith in
        rw z e

abbrev agree : List (ℕ → ℕ) → ℕ → ℕ → Bool
agree [] b c = true
agree (r ∷ rs) b c = eqb (r c) (r b) && agree rs b c

agree_at : (rs : List (ℕ → ℕ)) (n b c : ℕ) → agree rs b c ≡ true → row_at rs n c ≡ row_at rs n b
agree_at [] n b c t = refl
agree_at (r ∷ rs) zero b c t = eqb-true (r c) (r b) (and_both (eqb (r c) (r b)) (agree rs b c) t).0
agree_at (r ∷ rs) (suc n) b c t = agree_at rs n b c (and_both (eqb (r c) (r b)) (agree rs b c) t).1

tested : below (λ b. agree rows b (member (class_of b))) 256 ≡ true
unfolding rows class_of members columns digit upper lower ident_start ident_part blank is_digit marks punctuation same
tested = refl

pub alike : (q b : ℕ) → b < 256 → after q (member (class_of b)) ≡ after q b
unfolding after
alike q b h = agree_at rows (q - 97) b (member (class_of b)) (below_at (λ b. agree rows b (member (class_of b))) 256 b tested h)

-- Codes of classes and states, and the classes of names and blanks: computed tests, too.
abbrev alike_bool : Bool → Bool → Bool
alike_bool true b = b
alike_bool false b = not b

alike-bool : (a b : Bool) → alike_bool a b ≡ true → a ≡ b
alike-bool true true e = refl
alike-bool true false e = sym e
alike-bool false true e = e
alike-bool false false e = refl

abbrev from_to : List (ℕ → ℕ) → ℕ → Bool
from_to [] b = true
from_to (r ∷ rs) b = within 32 127 (r b) && from_to rs b

from-to : (rs : List (ℕ → ℕ)) (n b : ℕ) → from_to rs b ≡ true → within 32 127 (row_at rs n b) ≡ true
from-to [] n b t = refl
from-to (r ∷ rs) zero b t = (and_both (within 32 127 (r b)) (from_to rs b) t).0
from-to (r ∷ rs) (suc n) b t = from-to rs n b (and_both (within 32 127 (r b)) (from_to rs b) t).1

abbrev coded : ℕ → Bool
coded b =
    from_to rows b
    && (within 48 85 (class_of b)
    && (alike_bool (ltb (class_of b) 58) (ident_part b)
    && alike_bool (eqb (class_of b) 58) (blank b)))

codes-tested : below coded 256 ≡ true
unfolding rows class_of members columns digit upper lower ident_start ident_part blank is_digit marks punctuation same
codes-tested = refl

pub between : (lo hi n : ℕ) → within lo hi n ≡ true → (lo ≤ n) × (n ≤ hi)
between lo hi n e = let h = and_both (leb lo n) (leb n hi) e in (leb-true lo n h.0, leb-true n hi h.1)

under : (n : ℕ) → n ≤ 127 → n < 128
under n h = omega arith

module _ (b : ℕ) (h : b < 256) where
  code : (from_to rows b ≡ true) × (within 48 85 (class_of b) ≡ true) × (alike_bool (ltb (class_of b) 58) (ident_part b) ≡ true) × (alike_bool (eqb (class_of b) 58) (blank b) ≡ true)
  code =
      let k = and_both (from_to rows b) _ (below_at coded 256 b codes-tested h) in
      let l = and_both (within 48 85 (class_of b)) _ k.1 in
      let m = and_both (alike_bool (ltb (class_of b) 58) (ident_part b)) _ l.1 in
      (k.0, l.0, m.0, m.1)

  pub class-from : 48 ≤ class_of b
  class-from = (between 48 85 (class_of b) code.1).0

  pub class-to : class_of b ≤ 85
  class-to = (between 48 85 (class_of b) code.1).1

  pub part-class : ltb (class_of b) 58 ≡ ident_part b
  part-class = alike-bool _ _ code.2

  pub blank-class : eqb (class_of b) 58 ≡ blank b
  blank-class = alike-bool _ _ code.3

  pub after-from : (q : ℕ) → 32 ≤ after q b
  unfolding after
  after-from q = (between 32 127 _ (from-to rows (q - 97) b code.0)).0

  pub after-to : (q : ℕ) → after q b < 128
  unfolding after
  after-to q = under _ (between 32 127 _ (from-to rows (q - 97) b code.0)).1

-- ------------------------------------------------------------------ numbers and operators

-- A number goes on at letters, digits and `_`, and ends at all others. An operator ends at these and at blanks; with any other byte it
-- is a whole spelling, or ends.
abbrev numeral_row : ℕ → ℕ → Bool
numeral_row b k = cond (ident_part b) (numeric (after (105 + k) b)) (eqb (after (105 + k) b) stop)

abbrev operator_row : ℕ → ℕ → Bool
operator_row b k = cond (leb (class_of b) 58) (eqb (after (112 + k) b) stop) (not (goes_on (after (112 + k) b)))

rows-tested : below (λ b. below (numeral_row b) 7 && below (operator_row b) 11) 256 ≡ true
unfolding after rows class_of members columns digit upper lower ident_start ident_part blank is_digit marks punctuation same
rows-tested = refl

module _ (q b : ℕ) (h : b < 256) where
  tests : (below (numeral_row b) 7 ≡ true) × (below (operator_row b) 11 ≡ true)
  tests = and_both (below (numeral_row b) 7) (below (operator_row b) 11) (below_at (λ b. below (numeral_row b) 7 && below (operator_row b) 11) 256 b rows-tested h)

  module _ (n : numeric q ≡ true) where
    numeral-row : cond (ident_part b) (numeric (after q b)) (eqb (after q b) stop) ≡ true
    numeral-row =
        let l = between 105 111 q n in
        let z : 105 + (q - 105) ≡ q = omega arith in
        rw z at (below_at (numeral_row b) 7 (q - 105) tests.0 (omega arith))

    pub numeral-on : ident_part b ≡ true → numeric (after q b) ≡ true
    numeral-on p = rw p at numeral-row

    pub numeral-over : ident_part b ≡ false → after q b ≡ stop
    numeral-over p = eqb-true _ _ (rw p at numeral-row)

  module _ (o : operator q ≡ true) where
    operator-row : cond (leb (class_of b) 58) (eqb (after q b) stop) (not (goes_on (after q b))) ≡ true
    operator-row =
        let l = between 112 122 q o in
        let z : 112 + (q - 112) ≡ q = omega arith in
        rw z at (below_at (operator_row b) 11 (q - 112) tests.1 (omega arith))

    pub operator-over : class_of b ≤ 58 → after q b ≡ stop
    operator-over c = eqb-true _ _ (rw (le-leb (class_of b) 58 c) at operator-row)

    pub operator-ends : goes_on (after q b) ≡ false
    operator-ends = go (leb (class_of b) 58) (goes_on (after q b)) refl refl operator-row
      where
        go : (t u : Bool) → leb (class_of b) 58 ≡ t → goes_on (after q b) ≡ u → cond t (eqb (after q b) stop) (not u) ≡ true → goes_on (after q b) ≡ false
        go true u et eu e = ap goes_on (eqb-true (after q b) stop e)
        go false true et eu e = absurd (false≢true e)
        go false false et eu e = eu
