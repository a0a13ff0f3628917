-- Where the search for a name begins, and the way it takes.
use Rattle.std.specs.Prelude.{◌≡◌, refl, Bool, List, [], ◌∷◌, ℕ, zero, suc, ◌+◌, ◌-◌, ◌*◌, ◌/◌, ◌%◌, ◌^◌, ◌≤◌, ◌<◌, ltb, length, get_or, drop}
use Rattle.std.proofs.Common.{sym, ◌∙◌, ap, div-one, add-one, lt-ltb, le-ltb, drop_of_length-le, shr-shr, drop-cons, ext_get_or}
use Rattle.std.proofs.Math.Bool.{true, false, cond}
use native.Mathlib.Omega.{arith}

-- How many buckets there are.
abbrev pub buckets : ℕ
buckets = 8192

-- The hash after more bytes.
unfoldable pub hash_from : ℕ → List ℕ → ℕ
hash_from h [] = h
hash_from h (b ∷ s) = hash_from ((h * 16777619 + b) % 4294967296) s

abbrev pub hash : List ℕ → ℕ
hash s = hash_from 0 s

pub hash-next : (s : List ℕ) (h i : ℕ) → i < length s → hash_from h (drop i s) ≡ hash_from ((h * 16777619 + get_or s i 0) % 4294967296) (drop (i + 1) s)
unfolding hash_from
hash-next s h i l = rw (drop-cons s i 0 l, add-one)

pub hash-over : (s : List ℕ) (h i : ℕ) → length s ≤ i → hash_from h (drop i s) ≡ h
unfolding hash_from
hash-over s h i l = rw (drop_of_length-le s {i = i} l)

hash-small : (s : List ℕ) (h : ℕ) → h < 4294967296 → hash_from h s < 4294967296
unfolding hash_from
hash-small [] h l = l
hash-small (b ∷ s) h l = hash-small s ((h * 16777619 + b) % 4294967296) (omega arith)

-- The label of a name: what of its hash doesn't choose the bucket (19 bits), its kind (7), and its length (17).
abbrev pub label : ℕ → List ℕ → ℕ
label kind s = hash s / buckets + 524288 * (kind + 128 * length s)

unfoldable pub bit_of : ℕ → ℕ → ℕ
bit_of n k = n / 2 ^ k % 2

-- The way that the search for a name takes at step `k`: by the bits of its label, and then by those of its bytes, the last byte first: names
-- are compared from the first byte on, so what takes long in one is over soon in the other.
unfoldable pub turn_of : ℕ → List ℕ → ℕ → ℕ
turn_of w s k = cond (ltb k 48) (bit_of w k) (bit_of (get_or s (length s - ((k - 48) / 8 + 1)) 0) (k % 8))

module _ (w : ℕ) (s : List ℕ) (k : ℕ) where
  pub turn-label : k < 48 → turn_of w s k ≡ bit_of w k
  unfolding turn_of
  turn-label h = rw (lt-ltb k 48 h)

  pub turn_byte : 48 ≤ k → turn_of w s k ≡ bit_of (get_or s (length s - ((k - 48) / 8 + 1)) 0) (k % 8)
  unfolding turn_of
  turn_byte h = rw (le-ltb k 48 h)

  pub turn_low : turn_of w s k < 2
  unfolding turn_of bit_of
  turn_low = go (ltb k 48)
    where
      go : (b : Bool) → cond b (bit_of w k) (bit_of (get_or s (length s - ((k - 48) / 8 + 1)) 0) (k % 8)) < 2
      go true = omega arith
      go false = omega arith

bit-half : (n k : ℕ) → bit_of (n / 2) k ≡ bit_of n (suc k)
unfolding bit_of
bit-half n k = let z : 1 + k ≡ suc k = omega arith in ap (λ (x : ℕ). x % 2) (shr-shr n 1 k ∙ ap (λ (j : ℕ). n / 2 ^ j) z)

-- Numbers with the same bits are the same.
bits-same : (m x y : ℕ) → x < 2 ^ m → y < 2 ^ m → ((k : ℕ) → k < m → bit_of x k ≡ bit_of y k) → x ≡ y
unfolding bit_of
bits-same zero x y h g e = omega arith
bits-same (suc m) x y h g e =
    let halves : x / 2 ≡ y / 2 = bits-same m (x / 2) (y / 2) (omega arith) (omega arith) (λ k l. bit-half x k ∙ (e (suc k) (omega arith) ∙ sym (bit-half y k))) in
    let first : x % 2 ≡ y % 2 = sym (ap (λ (n : ℕ). n % 2) (div-one x)) ∙ (e 0 (omega arith) ∙ ap (λ (n : ℕ). n % 2) (div-one y)) in
    omega arith

-- A name as the table may have it: its kind has seven bits, and it lies in a text.
pub record Short (kind : ℕ) (s : List ℕ) : Type 0 where
  pub kinds : kind < 128
  pub long : length s ≤ 65536
  pub bytes : (i : ℕ) → get_or s i 0 < 256

-- Names for which the search takes the same way as long as the first has bits are alike.
module _ (a b : ℕ) (s t : List ℕ) (p : Short a s) (q : Short b t) (same : (k : ℕ) → k < 48 + 8 * length s → turn_of (label a s) s k ≡ turn_of (label b t) t k) where
  label_small : (c : ℕ) (u : List ℕ) → Short c u → label c u < 2 ^ 48
  label_small c u r =
      let h = hash-small u 0 (omega arith) in
      let k = r.kinds in
      let l = r.long in
      omega arith

  labels : label a s ≡ label b t
  labels =
      bits-same 48 (label a s) (label b t) (label_small a s p) (label_small b t q)
      (λ k l. sym (turn-label (label a s) s k l) ∙ (same k (omega arith) ∙ turn-label (label b t) t k l))

  both-parts : (a ≡ b) × (length s ≡ length t)
  both-parts =
      let e = labels in
      let h = hash-small s 0 (omega arith) in
      let g = hash-small t 0 (omega arith) in
      let k = p.kinds in
      let l = q.kinds in
      (omega arith, omega arith)

  byte-same : (i : ℕ) → i < length s → get_or s i 0 ≡ get_or t i 0
  byte-same i l = bits-same 8 (get_or s i 0) (get_or t i 0) (p.bytes i) (q.bytes i) bit
    where
      bit : (k : ℕ) → k < 8 → bit_of (get_or s i 0) k ≡ bit_of (get_or t i 0) k
      bit k m =
          let at = 48 + 8 * (length s - 1 - i) + k in
          let y : at % 8 ≡ k = omega arith in
          let f : (w : ℕ) (u : List ℕ) → length u ≡ length s → turn_of w u at ≡ bit_of (get_or u i 0) k = λ w u e. let x : length u - ((at - 48) / 8 + 1) ≡ i = omega arith in turn_byte w u at (omega arith) ∙ rw (x, y) in
          sym (f (label a s) s refl) ∙ (same at (omega arith) ∙ f (label b t) t (sym both-parts.1))

  pub same-kinds : a ≡ b
  same-kinds = both-parts.0

  pub same_bytes : s ≡ t
  same_bytes = ext_get_or 0 s t both-parts.1 byte-same
