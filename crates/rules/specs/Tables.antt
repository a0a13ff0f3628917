-- The tables as lists, as the code has them (`fill_from` shows that), and their rules at each entry: "One computed test over each table shows at
-- every entry the class, or the next state, that a rule written from lexer.rs gives" (01, W6).
use Rattle.std.specs.Prelude.{◌≡◌, Bool, true, ◌&&◌, List, [], ◌∷◌, ◌++◌, ℕ, zero, suc, ◌+◌, ◌-◌, ◌*◌, ◌/◌, ◌%◌, ◌≤◌, ◌<◌, eqb, length, get_or}
use Rattle.std.proofs.Math.Path.{refl, ap}
use Rattle.std.proofs.Common.{◌∙◌, add-zero, zero-add, add-suc, suc-add, arith, eqb-true}
use Rattle.scan.specs.Bytes.{ascii, digit, upper, lower, ident_start, ident_part, blank, is_digit}
use Rattle.scan.specs.Lexer.{punctuation}
use Rattle.scan.specs.Longest.{same, and_both}
use Rattle.rules.specs.Rule.{columns, members, class_of, member, rows, after, marks, kind_of}

-- each entry is what `f` gives for its place, counted from i
abbrev pub every : (ℕ → ℕ) → ℕ → List ℕ → Bool
every f i [] = true
every f i (x ∷ xs) = eqb x (f i) && every f (suc i) xs

from_place : (f : ℕ → ℕ) (xs : List ℕ) (i : ℕ) → every f i xs ≡ true → (k : ℕ) → k < length xs → get_or xs k 0 ≡ f (i + k)
from_place f [] i t k h = absurd (omega arith)
from_place f (x ∷ xs) i t zero h = rw add-zero (eqb-true x (f i) (and_both (eqb x (f i)) (every f (suc i) xs) t).0)
from_place f (x ∷ xs) i t (suc k) h = rw (add-suc, ← suc-add) (from_place f xs (suc i) (and_both (eqb x (f i)) (every f (suc i) xs) t).1 k (omega arith))

pub at : (f : ℕ → ℕ) (xs : List ℕ) → every f 0 xs ≡ true → (k : ℕ) → k < length xs → get_or xs k 0 ≡ f k
at f xs t k h = from_place f xs 0 t k h ∙ rw zero-add

-- ------------------------------------------------------------------ classes

unfoldable pub class_list : List ℕ
class_list =
    ascii "UUUUUUUUU::UU:UUUUUUUUUUUUUUUUUU" ++
    (ascii ":DHULAEUOP?=J>K@5677777777;IB<CU" ++
    (ascii "G88888899999999999999999999QURS4" ++
    (ascii "U83881890999999999999999299MFNTU" ++
    (ascii "UUUUUUUUUUUUUUUUUUUUUUUUUUUUUUUU" ++
    (ascii "UUUUUUUUUUUUUUUUUUUUUUUUUUUUUUUU" ++
    (ascii "UUUUUUUUUUUUUUUUUUUUUUUUUUUUUUUU" ++
    ascii "UUUUUUUUUUUUUUUUUUUUUUUUUUUUUUUU"))))))

pub class-at : (b : ℕ) → b < 256 → get_or class_list b 0 ≡ class_of b
unfolding class_list class_of columns digit upper lower ident_start ident_part blank is_digit
class-at b h = at class_of class_list refl b h

-- ------------------------------------------------------------------ states

unfoldable pub next_list : List ℕ
next_list =
    --     hexb_019az :=+-*/%<>!&|@";,.${}()[]^~?
    -- a: nothing yet
    ascii "dccccijjccbpqrstu%vwxyzg1;,.${}()[]^~-" ++
    -- b: blanks
    (ascii "----------b---------------------------" ++
    -- c: a name
    (ascii "cccccccccc----------------------------" ++
    -- d: `h`
    (ascii "cecccccccc----------------------------" ++
    -- e: `he`
    (ascii "ccfccccccc----------------------------" ++
    -- f: `hex`
    (ascii "cccccccccc--------------2-------------" ++
    -- g: `@`
    (ascii "hhhhh---hh----------------------------" ++
    -- h: a builtin's name
    (ascii "hhhhhhhhhh----------------------------" ++
    -- i: `0`
    (ascii "ookljjjjoo----------------------------" ++
    -- j: a decimal number
    (ascii "oooojjjjoo----------------------------" ++
    -- k: `0x`
    (ascii "omomommmmo----------------------------" ++
    -- l: `0b`
    (ascii "ooooonnooo----------------------------" ++
    -- m: a hexadecimal number
    (ascii "omommmmmmo----------------------------" ++
    -- n: a binary number
    (ascii "oooonnnooo----------------------------" ++
    -- o: a malformed number
    (ascii "oooooooooo----------------------------" ++
    -- p: `:`
    (ascii "-----------A--------------------------" ++
    -- q: `=`
    (ascii "------------J------B------------------" ++
    -- r: `+`
    (ascii "----------------FC--------------------" ++
    -- s: `-`
    (ascii "----------------GD--------------------" ++
    -- t: `*`
    (ascii "-----------------E--------------------" ++
    -- u: `/`
    (ascii "---------------43---------------------" ++
    -- v: `<`
    (ascii "------------L---H-P-------------------" ++
    -- w: `>`
    (ascii "------------M---I--Q------------------" ++
    -- x: `!`
    (ascii "------------K-------------------------" ++
    -- y: `&`
    (ascii "---------------------N----------------" ++
    -- z: `|`
    ascii "----------------------O---------------"))))))))))))))))))))))))

-- an entry, by its place: a line for each state, a column for each class
next_at : ℕ → ℕ
next_at k = after (k / 38 + 97) (member (k % 38 + 48))

module _ (q c : ℕ) (h : 97 ≤ q) (g : q ≤ 122) (i : 48 ≤ c) (j : c ≤ 85) where
  abbrev place : ℕ
  place = (q - 97) * 38 + (c - 48)

  inside : place < 988
  inside = omega arith

  line : place / 38 + 97 ≡ q
  line = omega arith

  column : place % 38 + 48 ≡ c
  column = omega arith

  pub next-at : get_or next_list place 0 ≡ after q (member c)
  unfolding next_list next_at after rows members digit upper lower ident_start ident_part blank is_digit marks punctuation same
  next-at =
      at next_at next_list refl place inside
      ∙ (ap (λ (x : ℕ). after x (member (place % 38 + 48))) line ∙ ap (λ (x : ℕ). after q (member x)) column)

-- ------------------------------------------------------------------ kinds

unfoldable pub kind_list : List ℕ
kind_list =
    81 ∷ 81 ∷ 81 ∷ 81 ∷ 4 ∷ 25 ∷ 81 ∷ 81 ∷ 7 ∷ 8 ∷ 81 ∷ 81 ∷ 1 ∷ 81 ∷ 3 ∷ 81 ∷
    81 ∷ 81 ∷ 81 ∷ 81 ∷ 81 ∷ 81 ∷ 81 ∷ 81 ∷ 81 ∷ 81 ∷ 81 ∷ 0 ∷ 81 ∷ 81 ∷ 81 ∷ 81 ∷
    81 ∷ 11 ∷ 12 ∷ 15 ∷ 17 ∷ 19 ∷ 21 ∷ 22 ∷ 23 ∷ 24 ∷ 26 ∷ 27 ∷ 30 ∷ 31 ∷ 33 ∷ 34 ∷
    39 ∷ 40 ∷ 81 ∷ 81 ∷ 81 ∷ 81 ∷ 81 ∷ 81 ∷ 81 ∷ 81 ∷ 81 ∷ 9 ∷ 81 ∷ 10 ∷ 37 ∷ 81 ∷
    81 ∷ 81 ∷ 72 ∷ 81 ∷ 81 ∷ 81 ∷ 81 ∷ 75 ∷ 66 ∷ 67 ∷ 67 ∷ 77 ∷ 77 ∷ 68 ∷ 69 ∷ 77 ∷
    2 ∷ 13 ∷ 14 ∷ 16 ∷ 18 ∷ 20 ∷ 28 ∷ 29 ∷ 32 ∷ 35 ∷ 36 ∷ 5 ∷ 81 ∷ 6 ∷ 38 ∷ 81 ∷ []

back : (q : ℕ) → 32 ≤ q → q - 32 + 32 ≡ q
back q h = omega arith

pub kind_at : (q : ℕ) → 32 ≤ q → q < 128 → get_or kind_list (q - 32) 0 ≡ kind_of q
unfolding kind_list kind_of marks punctuation
kind_at q h g = at (λ k. kind_of (k + 32)) kind_list refl (q - 32) (omega arith) ∙ ap kind_of (back q h)
