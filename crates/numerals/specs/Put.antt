-- The loop that goes over the digits of a number: the limbs of the number so far, and the digits that are left.
use Rattle.std.specs.Prelude.{◌≡◌, Option, Some, None, ℕ, ◌+◌, ◌-◌, ◌*◌, ◌≤◌, ◌<◌, take, drop}
use Rattle.std.proofs.Math.Path.{refl, sym}
use Rattle.std.proofs.Common.{◌∙◌, ap, length-append, length-drop, drop_of_length-le, take_at, drop-drop}
use Rattle.std.proofs.Math.Option as Math
use Rattle.std.proofs.Math.Option.{none, some}
use mathlib.Core.List.{List, [], ◌∷◌, ◌++◌}
use native.Mathlib.Omega.{arith}
use Rattle.std.proofs.Math.ListN.{length}
use Rattle.std.proofs.Math.Seq.{drop-append-add}
use Rattle.literals.specs.Numbers.{limbs, nibble, digits}
use Rattle.numerals.specs.Limbs.{multiplied, carried, multiplied-length, limbs-zero, limbs-times}
use Rattle.numerals.specs.Numbers.{grown, Pushed}
use Rattle.values.specs.Kept.{Put}
use Rattle.numerals.specs.Chunks.{Chunk}

module _ (radix : ℕ) (pos : 0 < radix) where
  -- A number has no fewer limbs with a digit more.
  pub limbs-grow : (n d : ℕ) → length (limbs n) ≤ length (limbs (n * radix + d))
  limbs-grow n d =
      omega (arith, ap length (limbs-times radix pos n d), length-append (multiplied radix d (limbs n)) (limbs (carried radix d (limbs n))), multiplied-length radix d (limbs n))

  digits-grow : (n : ℕ) (s : List ℕ) → length (limbs n) ≤ length (limbs (digits radix n s))
  unfolding digits
  digits-grow n [] = omega arith
  digits-grow n (b ∷ s) = go (nibble b) (λ m. digits-grow m s)
    where
      go : (d : Math.Option ℕ) → ((m : ℕ) → length (limbs m) ≤ length (limbs (digits radix m s)))
          → length (limbs n) ≤ length (limbs (elim d [ some d ↦ digits radix (n * radix + d) s | none ↦ digits radix n s ]))
      go (some d) ih = omega (arith, limbs-grow n d, ih (n * radix + d))
      go none ih = ih n

-- What comes behind words that were put in front.
dropped-more : (ls lent : List ℕ) (n m : ℕ) → length ls ≡ n → n ≤ m → drop m (ls ++ drop n lent) ≡ drop m lent
dropped-more ls lent n m e h =
    let k : m ≡ length ls + (m - n) = omega arith in
    let j : n + (m - n) ≡ m = omega arith in
    ap (λ (l : ℕ). drop l (ls ++ drop n lent)) k ∙ (drop-append-add ls (drop n lent) (m - n) ∙ (drop-drop (m - n) n lent ∙ ap (λ (l : ℕ). drop l lent) j))

pub put-none : (lent : List ℕ) → Put (limbs 0) lent (Some 0) lent
put-none lent = rw limbs-zero (refl, omega arith, refl)

-- A number whose limbs were put in front, and some digits more.
module _ (v : ℕ) (lent : List ℕ) (r : Option ℕ) (room : List ℕ) (t : Put (limbs v) lent r room) where
  module _ (n : ℕ) (e : r ≡ Some n) where
    put : Put (limbs v) lent (Some n) room
    put = rw e at t

    pub put-length : length room ≡ length lent
    put-length = ap length put.2 ∙ (length-append (limbs v) (drop n lent) ∙ rw (← put.0, length-drop) (omega (arith, put.1)))

    pub put-fits : n ≤ length room
    put-fits = omega (arith, put-length, put.1)

    put-behind : (m : ℕ) → n ≤ m → drop m room ≡ drop m lent
    put-behind m g = rw put.2 (dropped-more (limbs v) lent n m (sym put.0) g)

    -- What is put over it is put in front of the same words.
    put-over : (ws : List ℕ) (m : ℕ) (out : List ℕ) → n ≤ m → Put ws room (Some m) out → Put ws lent (Some m) out
    put-over ws m out g q = (q.0, omega (arith, q.1, put-length), q.2 ∙ ap (λ (l : List ℕ). ws ++ l) (put-behind m g))

    module _ (unit value : ℕ) (pos : 0 < unit) where
      next-limbs : grown unit value (take n room) ≡ limbs (v * unit + value)
      next-limbs = rw (put.2, take_at (limbs v) (drop n lent) n (sym put.0)) (sym (limbs-times unit pos v value))

      pub put-more : (s : Option ℕ) (out : List ℕ) → Pushed unit value room n s out → Put (limbs (v * unit + value)) lent s out
      put-more (Some m) out p =
          let q : Put (limbs (v * unit + value)) room (Some m) out = rw next-limbs at p in
          put-over (limbs (v * unit + value)) m out (omega (arith, q.0, put.0, limbs-grow unit pos v value)) q
      put-more None out p = omega (arith, p, ap length next-limbs, put-length)

  pub put_full : r ≡ None → length lent < length (limbs v)
  put_full e = rw e at t

-- Some digits from byte `i` up to byte `j`, pushed.
pub record Takes (radix : ℕ) (source : List ℕ) (i : ℕ) (room : List ℕ) (n : ℕ) (r : Option ℕ) (out : List ℕ) (j : ℕ) : Type 0 where
  pub value : ℕ
  pub unit : ℕ
  pub chunk : Chunk radix source i value unit j
  pub pushed : Pushed unit value room n r out

-- The number so far, whose limbs were put in front, and the digits that are left.
pub record Digits (radix : ℕ) (source : List ℕ) (prefix : ℕ) (lent room : List ℕ) (n i : ℕ) : Type 0 where
  pub value : ℕ
  pub left : digits radix value (drop i source) ≡ digits radix 0 (drop prefix source)
  pub words : Put (limbs value) lent (Some n) room

-- The same, or that there is no room for the number.
abbrev pub Begun : ℕ → List ℕ → ℕ → List ℕ → Option ℕ → List ℕ → ℕ → Type 0
Begun radix source prefix lent (Some n) room i = Digits radix source prefix lent room n i
Begun radix source prefix lent None room i = length lent < length (limbs (digits radix 0 (drop prefix source)))

module _ (radix : ℕ) (source : List ℕ) (prefix : ℕ) (lent : List ℕ) where
  pub digits-first : Digits radix source prefix lent lent 0 prefix
  digits-first = record { value = 0; left = refl; words = put-none lent }

  module _ (room : List ℕ) (n i : ℕ) (t : Digits radix source prefix lent room n i) where
    pub room-length : length room ≡ length lent
    room-length = put-length t.value lent (Some n) room t.words n refl

    pub digits-fit : n ≤ length room
    digits-fit = put-fits t.value lent (Some n) room t.words n refl

    pub digits_last : length source ≤ i → Put (limbs (digits radix 0 (drop prefix source))) lent (Some n) room
    unfolding digits
    digits_last h =
        let e : t.value ≡ digits radix 0 (drop prefix source) = rw (drop_of_length-le source h) at t.left in
        rw (← e) t.words

    -- The room as it is now may be taken for what was lent.
    pub digits-here : Digits radix source prefix room room n i
    digits-here =
        let behind : drop n lent ≡ drop n room = sym (put-behind t.value lent (Some n) room t.words n refl n (omega arith)) in
        record { value = t.value; left = t.left; words = (t.words.0, digits-fit, t.words.2 ∙ rw behind) }

    -- Some digits more.
    module _ (pos : 0 < radix) (r : Option ℕ) (out : List ℕ) (j : ℕ) (k : Takes radix source i room n r out j) where
      next : ℕ
      next = t.value * k.unit + k.value

      next-left : digits radix next (drop j source) ≡ digits radix 0 (drop prefix source)
      unfolding next
      next-left = sym (k.chunk.same t.value) ∙ t.left

      next-words : Put (limbs next) lent r out
      unfolding next
      next-words = put-more t.value lent (Some n) room t.words n refl k.unit k.value k.chunk.some r out k.pushed

      pub digits-full : r ≡ None → Put (limbs (digits radix 0 (drop prefix source))) lent None out
      digits-full f = rw (← next-left) (omega (arith, put_full next lent r out next-words f, digits-grow radix pos next (drop j source)))

      pub digits_more : (m : ℕ) → r ≡ Some m → (n ≤ m) × Digits radix source prefix lent out m j
      digits_more m f =
          let words = put next lent r out next-words m f in
          let longer : length (limbs t.value) ≤ length (limbs next) = unfold next in (limbs-grow k.unit k.chunk.some t.value k.value) in
          (omega (arith, t.words.0, words.0), record { value = next; left = next-left; words = words })

    pub digits-there : (room' : List ℕ) (m j : ℕ) → n ≤ m → Digits radix source prefix room room' m j → Digits radix source prefix lent room' m j
    digits-there room' m j g t' =
        record { value = t'.value; left = t'.left; words = put-over t.value lent (Some n) room t.words n refl (limbs t'.value) m room' g t'.words }
