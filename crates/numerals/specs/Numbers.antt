-- The words of a number's value, as the code makes them.
use Rattle.std.specs.Prelude.{◌≡◌, refl, Option, Some, None, List, [], ◌∷◌, ◌++◌, ℕ, suc, ◌+◌, ◌-◌, ◌≤◌, ◌<◌, length, get_or, take, drop, set}
use Rattle.std.proofs.Common.{sym, ◌∙◌, ap, append-nil, append_assoc, arith, add-one, length-append, length-drop, length-take-le, drop-cons, take_at, drop_at, drop-drop}
use Rattle.std.proofs.lemmas.List.{set_at}
use Rattle.std.proofs.Math.Seq.{append_snoc}
use Rattle.words.specs.Parts.{part-whole, part-rest}
use Rattle.literals.specs.Numbers.{limb_base, limbs}
use Rattle.numerals.specs.declared.Base.{Base}
use Rattle.numerals.specs.declared.Base.TheVariants.{Binary, Decimal, Hexadecimal}
use Rattle.values.specs.Kept.{Put}
use Rattle.numerals.specs.Limbs.{multiplied, carried, multiplied-length, limbs-zero, limbs-one}

-- The radix of a number token (01, lexer.rs).
abbrev pub radix_of : Base → ℕ
radix_of Binary = 2
radix_of Decimal = 10
radix_of Hexadecimal = 16

-- Limbs with one digit more.
abbrev pub grown : ℕ → ℕ → List ℕ → List ℕ
grown radix digit ls = multiplied radix digit ls ++ limbs (carried radix digit ls)

abbrev pub Pushed : ℕ → ℕ → List ℕ → ℕ → Option ℕ → List ℕ → Type 0
Pushed radix digit room n r room' = Put (grown radix digit (take n room)) room r room'

module _ (radix digit : ℕ) (room : List ℕ) (n : ℕ) (h : n ≤ length room) (carry : ℕ) (part : List ℕ)
    (given : (carry ≡ carried radix digit (take n room)) × (part ≡ multiplied radix digit (take n room))) where
  part_length : length part ≡ n
  part_length = rw (given.1, multiplied-length) (length-take-le n room h)

  all : grown radix digit (take n room) ≡ part ++ limbs carry
  all = rw (← given.0, ← given.1)

  pub pushed-same : carry ≡ 0 → Pushed radix digit room n (Some n) (part ++ drop n room)
  pushed-same e =
      let g : grown radix digit (take n room) ≡ part = all ∙ rw (e, limbs-zero, append-nil) in
      rw g (sym part_length, h, refl)

  module _ (ne : carry ≡ 0 → ⊥) (b : carry < limb_base) where
    one_more : grown radix digit (take n room) ≡ part ++ (carry ∷ [])
    one_more = all ∙ rw (limbs-one carry (omega (arith, ne)) b)

    longer : length (grown radix digit (take n room)) ≡ n + 1
    longer = ap length one_more ∙ (length-append part (carry ∷ []) ∙ rw part_length)

    pub pushed-full : length (part ++ drop n room) ≤ n → Pushed radix digit room n None (part ++ drop n room)
    pushed-full f = omega (arith, longer, part_length, length-append part (drop n room), length-drop n room)

    pub pushed_more : n < length (part ++ drop n room) → Pushed radix digit room n (Some (n + 1)) (set (part ++ drop n room) n carry)
    pushed_more f =
        let l : n < length room = omega (arith, part_length, length-append part (drop n room), length-drop n room) in
        (sym longer, omega arith, rw (one_more, drop-cons room n 0 l, add-one, append_snoc) (set_at part (get_or room n 0) (drop (suc n) room) carry n part_length))

  -- What is carried past the last limb is put behind it, as a number of its own.
  abbrev whole : List ℕ
  whole = part ++ drop n room

  module _ (r : Option ℕ) (out : List ℕ) (p : Put (limbs carry) (take (length whole - n) (drop n whole)) r out) where
    behind : Put (limbs carry) (drop n room) r out
    behind = rw (part-whole n whole, drop_at part (drop n room) n part_length) at p

    total : length (grown radix digit (take n room)) ≡ n + length (limbs carry)
    total = ap length all ∙ (length-append part (limbs carry) ∙ rw part_length)

    pub behind-full : r ≡ None → length room < length (grown radix digit (take n room))
    behind-full e =
        let q : length (drop n room) < length (limbs carry) = rw e at behind in
        omega (arith, total, length-drop n room)

    module _ (m : ℕ) (e : r ≡ Some m) where
      fit : Put (limbs carry) (drop n room) (Some m) out
      fit = rw e at behind

      pub behind-end : n + m ≤ length room
      behind-end = omega (arith, fit.1, length-drop n room)

      pub behind-fits : Pushed radix digit room n (Some (n + m)) (take n whole ++ (out ++ drop (length whole - n) (drop n whole)))
      behind-fits =
          let front : take n whole ≡ part = take_at part (drop n room) n part_length in
          let made : part ++ out ≡ grown radix digit (take n room) ++ drop (n + m) room =
          ap (λ (l : List ℕ). part ++ l) fit.2 ∙ (sym (append_assoc part (limbs carry) (drop m (drop n room))) ∙ rw (all, drop-drop m n room)) in
          (sym (total ∙ rw fit.0), behind-end, rw (part-rest n whole, append-nil, front) made)
