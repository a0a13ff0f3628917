-- Several digits at once: what they make, and what a number before them is multiplied by.
use Rattle.std.specs.Prelude.{◌≡◌, refl, List, ◌∷◌, ℕ, ◌+◌, ◌-◌, ◌*◌, ◌≤◌, ◌<◌, length, get_or, drop}
use Rattle.std.proofs.Common.{sym, ◌∙◌, ap, arith, mul-le-mul_left, mul-le-mul_right, mul-pos, add-one, drop-cons}
use Rattle.std.proofs.Math.Option.{none, some}
use Rattle.literals.specs.Numbers.{nibble, digits}

-- The radixes that there are.
abbrev pub Radix : ℕ → Type 0
Radix radix = (1 < radix) × (radix ≤ 16)

-- The byte at `i`, and those behind it.
pub from_byte : (source : List ℕ) (i c : ℕ) → c ≡ get_or source i 0 → i < length source → drop i source ≡ c ∷ drop (i + 1) source
from_byte source i c e h = rw (e, add-one) (drop-cons source i 0 h)

module _ (radix n b : ℕ) (s : List ℕ) where
  pub digits-some : (d : ℕ) → nibble b ≡ some d → digits radix n (b ∷ s) ≡ digits radix (n * radix + d) s
  unfolding digits
  digits-some d e = rw (e, digits)

  pub digits-pass : nibble b ≡ none → digits radix n (b ∷ s) ≡ digits radix n s
  unfolding digits
  digits-pass e = rw (e, digits)

-- The digits from byte `i` up to byte `j`, and that what they make is small for what they count.
pub record Chunked (radix : ℕ) (source : List ℕ) (i value unit j : ℕ) : Type 0 where
  pub same : (n : ℕ) → digits radix n (drop i source) ≡ digits radix (n * unit + value) (drop j source)
  pub small : value * radix + 15 ≤ 15 * unit + value
  pub on : i ≤ j
  pub first : (j ≡ i → unit ≡ 1)

-- What a chunk is: some bytes are taken, where there are any.
pub record Chunk (radix : ℕ) (source : List ℕ) (i value unit j : ℕ) : Type 0 where
  pub same : (n : ℕ) → digits radix n (drop i source) ≡ digits radix (n * unit + value) (drop j source)
  pub some : 0 < unit
  pub on : i ≤ j
  pub past : i < length source → i < j

module _ (radix : ℕ) (source : List ℕ) (i value unit j : ℕ) (a : Chunk radix source i value unit j) where
  -- A chunk and the next are a larger one.
  pub chunk-then : (value' unit' k : ℕ) → Chunk radix source j value' unit' k → Chunk radix source i (value * unit' + value') (unit * unit') k
  chunk-then value' unit' k b =
      record {
        same = λ n.
            let e : (n * unit + value) * unit' + value' ≡ n * (unit * unit') + (value * unit' + value') = omega arith in
            a.same n ∙ (b.same (n * unit + value) ∙ ap (λ (m : ℕ). digits radix m (drop k source)) e);
        some = mul-pos a.some b.some;
        on = omega (arith, a.on, b.on);
        past = λ h. omega (arith, a.past h, b.on);
      }

module _ (radix : ℕ) (ok : Radix radix) (source : List ℕ) (i : ℕ) where
  pub chunked-first : Chunked radix source i 0 1 i
  chunked-first = record { same = λ n. ap (λ (m : ℕ). digits radix m (drop i source)) (omega arith); small = omega arith; on = omega arith; first = λ e. refl }

  module _ (value unit j : ℕ) (t : Chunked radix source i value unit j) where
    twice : value * 2 ≤ value * radix
    twice = mul-le-mul_left value ok.0

    chunk : (i < length source → i < j) → Chunk radix source i value unit j
    chunk h = record { same = t.same; some = omega (arith, t.small, twice); on = t.on; past = h }

    pub chunked-last : length source ≤ j → Chunk radix source i value unit j
    chunked-last h = chunk (λ g. omega arith)

    pub chunked-full : 1 < unit → Chunk radix source i value unit j
    chunked-full h =
        let ne : (j ≡ i → ⊥) = λ e. omega (arith, t.first e) in
        chunk (λ g. omega (arith, t.on))

    -- A digit more fits a word.
    pub chunk-fits : unit < 143165577 → (d : ℕ) → d < 16 → value * radix + d < 4294967296
    chunk-fits h d hd = omega (arith, t.small, twice)

    pub unit-fits : unit < 143165577 → unit * radix < 4294967296
    unit-fits h = omega (arith, mul-le-mul_left unit ok.1)

    module _ (c : ℕ) (ec : c ≡ get_or source j 0) (h : j < length source) where
      pub chunked-none : none ≡ nibble c → Chunked radix source i value unit (j + 1)
      chunked-none e =
          record {
            same = λ n. t.same n ∙ (rw (from_byte source j c ec h) (digits-pass radix (n * unit + value) c (drop (j + 1) source) (sym e)));
            small = t.small;
            on = omega (arith, t.on);
            first = λ f. absurd (omega (arith, t.on));
          }

      pub chunked-some : (d : ℕ) → some d ≡ nibble c → d < 16 → Chunked radix source i (value * radix + d) (unit * radix) (j + 1)
      chunked-some d e hd =
          record {
            same = λ n.
                let f : (n * unit + value) * radix + d ≡ n * (unit * radix) + (value * radix + d) = omega arith in
                t.same n ∙ (rw (from_byte source j c ec h) (digits-some radix (n * unit + value) c (drop (j + 1) source) d (sym e)) ∙ ap (λ (m : ℕ). digits radix m (drop (j + 1) source)) f);
            small =
                let more : d * (radix - 1) ≤ 15 * (radix - 1) = mul-le-mul_right (radix - 1) (omega arith) in
                let r : radix - 1 + 1 ≡ radix = omega (arith, ok.0) in
                omega (arith, mul-le-mul_right radix t.small, more, ap (λ (m : ℕ). d * m) r);
            on = omega (arith, t.on);
            first = λ f. absurd (omega (arith, t.on));
          }
