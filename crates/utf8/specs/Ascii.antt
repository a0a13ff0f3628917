-- Bytes that are ASCII are passed one by one, so as many at once as one likes.
use Rattle.std.specs.Prelude.{◌≡◌, refl, List, ◌∷◌, ℕ, zero, suc, ◌+◌, ◌≤◌, ◌<◌, length, get_or, drop}
use Rattle.std.proofs.Common.{◌∙◌, add-one, arith, le-leb, drop-cons}
use Rattle.std.specs.Int.Bits.{bit_or, or_add_and}
use Rattle.std.proofs.lemmas.Nat.{and_le_l, and_le_r}
use Rattle.utf8.specs.Utf8.{has, follow, table, sequence_by, sequence, checked_from}
use Rattle.utf8.specs.Laws.{checked-right}
use Rattle.std.specs.declared.result.Result.TheVariants.{Ok}

-- The `n` bytes of a text from `at` on are there, and ASCII.
pub record Ascii (text : List ℕ) (at n : ℕ) : Type 0 where
  pub within : at + n ≤ length text
  pub each : (k : ℕ) → k < n → get_or text (at + k) 0 < 128

-- Neither of two bytes is above what `|` makes of them.
module _ (a b : ℕ) where
  pub under-or : (n : ℕ) → bit_or a b < n → (a < n) × (b < n)
  under-or n h =
      let e = or_add_and a b in
      let l = and_le_l a b in
      let r = and_le_r a b in
      (omega arith, omega arith)

-- Eight bytes are ASCII where all of them, joined by `|`, are.
pub eight : (text : List ℕ) (at : ℕ) → at + 8 ≤ length text
    → bit_or
    (bit_or (bit_or (bit_or (get_or text at 0) (get_or text (at + 1) 0)) (get_or text (at + 2) 0)) (get_or text (at + 3) 0))
    (bit_or (bit_or (bit_or (get_or text (at + 4) 0) (get_or text (at + 5) 0)) (get_or text (at + 6) 0)) (get_or text (at + 7) 0))
    < 128
    → Ascii text at 8
eight text at l h = record { within = l; each = each }
  where
    byte : ℕ → ℕ
    byte k = get_or text (at + k) 0

    here : get_or text at 0 ≡ byte 0
    here = let z : at + 0 ≡ at = omega arith in rw z

    four : (a b c d : ℕ) → bit_or (bit_or (bit_or a b) c) d < 128 → (a < 128) × (b < 128) × (c < 128) × (d < 128)
    four a b c d g =
        let (x, d') = under-or (bit_or (bit_or a b) c) d 128 g in
        let (y, c') = under-or (bit_or a b) c 128 x in
        let (a', b') = under-or a b 128 y in
        (a', b', c', d')

    halves : (bit_or (bit_or (bit_or (byte 0) (byte 1)) (byte 2)) (byte 3) < 128) × (bit_or (bit_or (bit_or (byte 4) (byte 5)) (byte 6)) (byte 7) < 128)
    halves = under-or (bit_or (bit_or (bit_or (byte 0) (byte 1)) (byte 2)) (byte 3)) (bit_or (bit_or (bit_or (byte 4) (byte 5)) (byte 6)) (byte 7)) 128 (rw here at h)

    each : (k : ℕ) → k < 8 → byte k < 128
    each zero g = (four (byte 0) (byte 1) (byte 2) (byte 3) halves.0).0
    each (suc zero) g = (four (byte 0) (byte 1) (byte 2) (byte 3) halves.0).1
    each (suc (suc zero)) g = (four (byte 0) (byte 1) (byte 2) (byte 3) halves.0).2
    each (suc (suc (suc zero))) g = (four (byte 0) (byte 1) (byte 2) (byte 3) halves.0).3
    each (suc (suc (suc (suc zero)))) g = (four (byte 4) (byte 5) (byte 6) (byte 7) halves.1).0
    each (suc (suc (suc (suc (suc zero))))) g = (four (byte 4) (byte 5) (byte 6) (byte 7) halves.1).1
    each (suc (suc (suc (suc (suc (suc zero)))))) g = (four (byte 4) (byte 5) (byte 6) (byte 7) halves.1).2
    each (suc (suc (suc (suc (suc (suc (suc zero))))))) g = (four (byte 4) (byte 5) (byte 6) (byte 7) halves.1).3
    each (suc (suc (suc (suc (suc (suc (suc (suc k)))))))) g = absurd (omega arith)

ascii-one : (b : ℕ) (s : List ℕ) → b < 128 → sequence b s ≡ Ok 1
unfolding sequence_by table has follow
ascii-one b s h = rw (le-leb 0x00 b (omega arith), le-leb b 0x7F (omega arith)) refl

-- What the text from `at` on is found to be is what it is found to be behind them.
pub ascii-passed : (text : List ℕ) (at n : ℕ) → Ascii text at n → checked_from at 0 (drop at text) ≡ checked_from (at + n) 0 (drop (at + n) text)
ascii-passed text at zero a = let z : at + 0 ≡ at = omega arith in rw z
ascii-passed text at (suc n) a = let z : at + suc n ≡ at + 1 + n = omega arith in rw z (first ∙ ascii-passed text (at + 1) n rest)
  where
    front : drop at text ≡ get_or text at 0 ∷ drop (at + 1) text
    front = let l = a.within in rw (add-one, drop-cons text at 0 (omega arith))

    first : checked_from at 0 (drop at text) ≡ checked_from (at + 1) 0 (drop (at + 1) text)
    first =
        let z : at + 0 ≡ at = omega arith in
        rw front (checked-right at (get_or text at 0) (drop (at + 1) text) 1 (ascii-one (get_or text at 0) (drop (at + 1) text) (rw z at (a.each 0 (omega arith)))))

    rest : Ascii text (at + 1) n
    rest = record { within = let l = a.within in omega arith; each = λ k l. let z : at + 1 + k ≡ at + suc k = omega arith in rw z (a.each (suc k) (omega arith)) }
