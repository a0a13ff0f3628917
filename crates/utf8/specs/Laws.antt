-- Laws of the definitions in `Utf8`.
use Rattle.std.proofs.Math.Path.{◌≡◌, refl}
use Rattle.std.proofs.Common.{ap, subst, sym, ◌∙◌, add-zero, mod-eq_of_lt, le_trans}
use Rattle.std.specs.Prelude.{Bool, ◌&&◌, eqb, take, drop}
use Rattle.std.proofs.Math.Bool.{true, false, and-false}
use mathlib.Core.List.{List, [], ◌∷◌, map}
use Prim.Native.Nat.{ℕ, zero, suc, ◌+◌, ◌-◌, ◌*◌, ◌/◌, ◌%◌, ◌≤◌, ◌<◌}
use native.Mathlib.Omega.{arith}
use borrow.Author.Tests.{le-leb, lt-leb, leb-true, eqb-true}
use Rattle.std.proofs.Math.Dec.{leb}
use Rattle.std.proofs.Math.ListN.{length}
use Rattle.std.proofs.Math.Seq.{drop-nil, length-take-le}
use Rattle.utf8.specs.Bytes.{AreBytes}
use Rattle.utf8.specs.Utf8.{Sequence, bad, character, Range, ◌‥◌, Row, has, follow, sequence_by, sequence, table, checked_from, checked, lead_bits, joined, code_point, character_at}
use Rattle.std.specs.declared.result.Result.TheVariants.{Ok, Err}
use Rattle.std.specs.Prelude.{Some, None}
use Rattle.utf8.specs.declared.Way.{Way}
use Rattle.utf8.specs.declared.Way.TheVariants.{NotAllowed}
use Rattle.utf8.specs.declared.NotUtf8.{NotUtf8}
use Rattle.utf8.specs.declared.Character.{Character}

-- A byte in a range, below it and above it.
module _ (r : Range) (b : ℕ) where
  pub has_in : r.lo ≤ b → b ≤ r.hi → has r b ≡ true
  unfolding has
  has_in p q = rw (le-leb _ _ p, le-leb _ _ q)

  pub has-below : b < r.lo → has r b ≡ false
  unfolding has
  has-below p = rw (lt-leb _ _ p)

  pub has_above : r.hi < b → has r b ≡ false
  unfolding has
  has_above p = rw (lt-leb _ _ p, and-false)

-- A right sequence is as long as its row, and the text has its bytes.
pub follow-right : (n : ℕ) (rs : List Range) (s : List ℕ) (m : ℕ) → follow n rs s ≡ Ok m → (m ≡ n + length rs) × (length rs ≤ length s)
unfolding follow
follow-right n [] s m e =
    let h : n ≡ m = cc in
    omega arith
follow-right n (r ∷ rs) [] m e =
    let z : ◌≡◌ {A = ℕ} 0 1 = cc in
    omega arith
follow-right n (r ∷ rs) (b ∷ s) m e = go (has r b) refl (follow-right (suc n) rs s m)
  where
    go : (t : Bool) → has r b ≡ t → (follow (suc n) rs s ≡ Ok m → (m ≡ suc n + length rs) × (length rs ≤ length s)) → (m ≡ n + suc (length rs)) × (suc (length rs) ≤ suc (length s))
    go true h ih =
        let i = ih (rw h at e) in
        omega arith
    go false h ih =
        let f : Err NotAllowed ≡ Ok m = rw h at e in
        let z : ◌≡◌ {A = ℕ} 0 1 = cc in
        omega arith

-- What each row that passes a test gives, a right sequence by rows that all pass it has.
abbrev every : {A : Type 0} → (A → Bool) → List A → Bool
every ok [] = true
every ok (x ∷ xs) = ok x && every ok xs

pub both : (u v : Bool) → (u && v) ≡ true → (u ≡ true) × (v ≡ true)
both true v h = (refl, h)
both false v h =
    let z : ◌≡◌ {A = ℕ} 0 1 = cc in
    absurd (omega arith)

module _ (b : ℕ) (s : List ℕ) (n : ℕ) (ok : Row → Bool) (P : Type 0) (gives : (row : Row) → ok row ≡ true → has row.lead b ≡ true → follow 1 row.more s ≡ Ok n → P) where
  by_rows : (rows : List Row) → every ok rows ≡ true → sequence_by rows b s ≡ Ok n → P
  unfolding sequence_by
  by_rows [] h e =
      let z : ◌≡◌ {A = ℕ} 0 1 = cc in
      absurd (omega arith)
  by_rows (row ∷ rows) h e = go (has row.lead b) refl (by_rows rows)
    where
      go : (t : Bool) → has row.lead b ≡ t → (every ok rows ≡ true → sequence_by rows b s ≡ Ok n → P) → P
      go true q ih = gives row (both (ok row) (every ok rows) h).0 q (rw q at e)
      go false q ih = ih (both (ok row) (every ok rows) h).1 (rw q at e)

pub record RightFits (s : List ℕ) (n : ℕ) : Type 0 where
  pub some : 1 ≤ n
  pub within : n ≤ suc (length s)
  pub four : n ≤ 4

module _ (b : ℕ) (s : List ℕ) (n : ℕ) where
  pub right-fits : sequence b s ≡ Ok n → RightFits s n
  unfolding table
  right-fits e = by_rows b s n (λ row. leb (length row.more) 3) (RightFits s n) gives table refl e
    where
      gives : (row : Row) → leb (length row.more) 3 ≡ true → has row.lead b ≡ true → follow 1 row.more s ≡ Ok n → RightFits s n
      gives row p q f =
          let g = follow-right 1 row.more s n f in
          omega (arith, leb-true (length row.more) 3 p)

-- What a text is found to be, from a sequence that is right or wrong on.
pub skip : (at k : ℕ) (s : List ℕ) → checked_from at k s ≡ checked_from (at + k) 0 (drop k s)
unfolding checked_from
skip at k [] = rw drop-nil
skip at zero (b ∷ s) = rw add-zero
skip at (suc k) (b ∷ s) =
    let e : suc at + k ≡ at + suc k = omega arith in
    rw (← e) (skip (suc at) k s)

module _ (at b : ℕ) (s : List ℕ) where
  pub checked-wrong : (w : Way) → sequence b s ≡ Err w → checked_from at 0 (b ∷ s) ≡ bad w at
  unfolding checked_from
  checked-wrong w e = rw (e, checked_from)

  pub checked-right : (n : ℕ) → sequence b s ≡ Ok n → checked_from at 0 (b ∷ s) ≡ checked_from (at + n) 0 (drop n (b ∷ s))
  unfolding checked_from
  checked-right n e = go n (right-fits b s n e).some e
    where
      go : (n : ℕ) → 1 ≤ n → sequence b s ≡ Ok n → checked_from at 0 (b ∷ s) ≡ checked_from (at + n) 0 (drop n (b ∷ s))
      go zero h f = absurd (omega arith)
      go (suc n) h f =
          let k : suc n - 1 ≡ n = omega arith in
          let j : suc at + n ≡ at + suc n = omega arith in
          rw (f, checked_from, k, ← j) (skip (suc at) n s)

-- The offset of a wrong sequence is within the text.
pub bad-within : (at k : ℕ) (s : List ℕ) (r : NotUtf8) → checked_from at k s ≡ Err r → r.at < at + length s
unfolding checked_from
bad-within at k [] r e =
    let z : ◌≡◌ {A = ℕ} 0 1 = cc in
    omega arith
bad-within at (suc k) (b ∷ s) r e = omega (arith, bad-within (suc at) k s r e)
bad-within at zero (b ∷ s) r e = go (sequence b s) refl (λ n. bad-within (suc at) (n - 1) s r)
  where
    go : (q : Sequence) → sequence b s ≡ q → ((n : ℕ) → checked_from (suc at) (n - 1) s ≡ Err r → r.at < suc at + length s) → r.at < at + suc (length s)
    go (Ok n) f ih = omega (arith, ih n (rw (f, checked_from) at e))
    go (Err v) f ih =
        let g : bad v at ≡ Err r = rw (f, checked_from) at e in
        let i : ◌≡◌ {A = NotUtf8} (record { way = v; at = at }) r = cc in
        let h : at ≡ r.at = ap (λ (x : NotUtf8). x.at) i in
        omega arith

pub bad-offset : (s : List ℕ) (r : NotUtf8) → checked s ≡ Err r → r.at < length s
bad-offset s r e = omega (arith, bad-within 0 0 s r e)

-- The character of a sequence that is right or wrong.
module _ (b : ℕ) (s : List ℕ) where
  pub character-right : (n : ℕ) → sequence b s ≡ Ok n → character_at (b ∷ s) ≡ Some (character (code_point (take n (b ∷ s))) n)
  unfolding character_at
  character-right n e = rw (e, character_at)

  pub character-wrong : (w : Way) → sequence b s ≡ Err w → character_at (b ∷ s) ≡ None
  unfolding character_at
  character-wrong w e = rw (e, character_at)

-- An ASCII byte is its own character.
pub ascii : (b : ℕ) (s : List ℕ) → b < 128 → character_at (b ∷ s) ≡ Some (character b 1)
unfolding sequence_by table follow lead_bits joined code_point
ascii b s h =
    let e : sequence b s ≡ Ok 1 = rw (has_in (0x00 ‥ 0x7F) b (omega arith) (omega arith)) in
    let m : b % 128 ≡ b = mod-eq_of_lt h in
    character-right b s 1 e ∙ ap (λ (c : ℕ). Some (character c 1)) m

-- Whether a text is good does not hang on the offset at which it starts.
good-anywhere : (at p k : ℕ) (s : List ℕ) → checked_from at k s ≡ Ok tt → checked_from p k s ≡ Ok tt
unfolding checked_from
good-anywhere at p k [] e = refl
good-anywhere at p (suc k) (b ∷ s) e = good-anywhere (suc at) (suc p) k s e
good-anywhere at p zero (b ∷ s) e = go (sequence b s) refl (λ n. good-anywhere (suc at) (suc p) (n - 1) s)
  where
    go : (q : Sequence) → sequence b s ≡ q → ((n : ℕ) → checked_from (suc at) (n - 1) s ≡ Ok tt → checked_from (suc p) (n - 1) s ≡ Ok tt) → checked_from p 0 (b ∷ s) ≡ Ok tt
    go (Ok n) f ih = rw (f, checked_from) (ih n (rw (f, checked_from) at e))
    go (Err v) f ih =
        let g : bad v at ≡ Ok tt = rw (f, checked_from) at e in
        let z : ◌≡◌ {A = ℕ} 0 1 = cc in
        absurd (omega arith)

-- A good text that is not empty begins with a character, and what follows that is good.
pub record Begins (s : List ℕ) : Type 0 where
  pub found : Character
  pub is : character_at s ≡ Some found
  pub rest : checked (drop found.length s) ≡ Ok tt

pub good-begins : (s : List ℕ) → 0 < length s → checked s ≡ Ok tt → Begins s
good-begins [] h e = absurd (omega arith)
good-begins (b ∷ s) h e = go (sequence b s) refl
  where
    go : (q : Sequence) → sequence b s ≡ q → Begins (b ∷ s)
    go (Ok n) f =
        record {
          found = character (code_point (take n (b ∷ s))) n;
          is = character-right b s n f;
          rest = good-anywhere (0 + n) 0 0 (drop n (b ∷ s)) (sym (checked-right 0 b s n f) ∙ e);
        }
    go (Err v) f =
        let g : bad v 0 ≡ Ok tt = sym (checked-wrong 0 b s v f) ∙ e in
        let z : ◌≡◌ {A = ℕ} 0 1 = cc in
        absurd (omega arith)

-- The low bits of a byte grow with it in a range that lies in one block of them, so that a row's last bytes have its last code point.
module _ (r : Range) (b : ℕ) where
  has-bounds : has r b ≡ true → (r.lo ≤ b) × (b ≤ r.hi)
  unfolding has
  has-bounds h =
      let p = both (leb r.lo b) (leb b r.hi) h in
      (leb-true r.lo b p.0, leb-true b r.hi p.1)

abbrev tails : Range → Bool
tails r = eqb (r.lo / 64) (r.hi / 64)

abbrev leads : ℕ → Range → Bool
leads zero r = eqb (r.lo / 128) (r.hi / 128)
leads (suc zero) r = eqb (r.lo / 32) (r.hi / 32)
leads (suc (suc zero)) r = eqb (r.lo / 16) (r.hi / 16)
leads (suc (suc (suc k))) r = eqb (r.lo / 8) (r.hi / 8)

lead-le : (k : ℕ) (r : Range) (b : ℕ) → leads k r ≡ true → has r b ≡ true → lead_bits k b ≤ lead_bits k r.hi
unfolding lead_bits
lead-le zero r b e h =
    let p = has-bounds r b h in
    omega (arith, eqb-true (r.lo / 128) (r.hi / 128) e)
lead-le (suc zero) r b e h =
    let p = has-bounds r b h in
    omega (arith, eqb-true (r.lo / 32) (r.hi / 32) e)
lead-le (suc (suc zero)) r b e h =
    let p = has-bounds r b h in
    omega (arith, eqb-true (r.lo / 16) (r.hi / 16) e)
lead-le (suc (suc (suc k))) r b e h =
    let p = has-bounds r b h in
    omega (arith, eqb-true (r.lo / 8) (r.hi / 8) e)

joined-le : (n m c d : ℕ) (rs : List Range) (s : List ℕ) → every tails rs ≡ true → follow n rs s ≡ Ok m → c ≤ d → joined c (take (length rs) s) ≤ joined d (map (λ (r : Range). r.hi) rs)
unfolding follow joined
joined-le n m c d [] s t e h = h
joined-le n m c d (r ∷ rs) [] t e h =
    let z : ◌≡◌ {A = ℕ} 0 1 = cc in
    absurd (omega arith)
joined-le n m c d (r ∷ rs) (b ∷ s) t e h = go (has r b) refl (joined-le (suc n) m (c * 64 + b % 64) (d * 64 + r.hi % 64) rs s)
  where
    p : (eqb (r.lo / 64) (r.hi / 64) ≡ true) × (every tails rs ≡ true)
    p = both (eqb (r.lo / 64) (r.hi / 64)) (every tails rs) t

    go : (q : Bool) → has r b ≡ q → (every tails rs ≡ true → follow (suc n) rs s ≡ Ok m → c * 64 + b % 64 ≤ d * 64 + r.hi % 64 → joined (c * 64 + b % 64) (take (length rs) s) ≤ joined (d * 64 + r.hi % 64) (map (λ (r : Range). r.hi) rs)) → joined (c * 64 + b % 64) (take (length rs) s) ≤ joined (d * 64 + r.hi % 64) (map (λ (r : Range). r.hi) rs)
    go true q ih =
        let k = has-bounds r b q in
        ih p.1 (rw q at e) (omega (arith, eqb-true (r.lo / 64) (r.hi / 64) p.0))
    go false q ih =
        let f : Err NotAllowed ≡ Ok m = rw q at e in
        let z : ◌≡◌ {A = ℕ} 0 1 = cc in
        absurd (omega arith)

-- The last code point of a row.
abbrev top : Row → ℕ
top row = joined (lead_bits (length row.more) row.lead.hi) (map (λ (r : Range). r.hi) row.more)

abbrev capped : Row → Bool
capped row = every tails row.more && (leads (length row.more) row.lead && leb (top row) 0x10FFFF)

module _ (b : ℕ) (s : List ℕ) (n : ℕ) where
  pub code-within : sequence b s ≡ Ok n → code_point (take n (b ∷ s)) ≤ 0x10FFFF
  unfolding table lead_bits joined code_point
  code-within e = by_rows b s n capped (code_point (take n (b ∷ s)) ≤ 0x10FFFF) gives table refl e
    where
      gives : (row : Row) → capped row ≡ true → has row.lead b ≡ true → follow 1 row.more s ≡ Ok n → code_point (take n (b ∷ s)) ≤ 0x10FFFF
      gives row p q f =
          let k = length row.more in
          let g = follow-right 1 row.more s n f in
          let i : n ≡ suc k = omega arith in
          let u = both (every tails row.more) (leads k row.lead && leb (top row) 0x10FFFF) p in
          let v = both (leads k row.lead) (leb (top row) 0x10FFFF) u.1 in
          rw (i, length-take-le k s g.1)
          (le_trans (joined-le 1 n _ _ row.more s u.0 f (lead-le k row.lead b v.0 q)) (leb-true (top row) 0x10FFFF v.1))

-- A character is one to four bytes of the text, and its code point is at most U+10FFFF.
pub record CharacterFits (s : List ℕ) (c : Character) : Type 0 where
  pub some : 1 ≤ c.length
  pub within : c.length ≤ length s
  pub four : c.length ≤ 4
  pub last : c.code_point ≤ 0x10FFFF

pub character-fits : (s : List ℕ) (c : Character) → character_at s ≡ Some c → CharacterFits s c
unfolding character_at
character-fits [] c e =
    let z : ◌≡◌ {A = ℕ} 0 1 = cc in
    omega arith
character-fits (b ∷ s) c e = go (sequence b s) refl
  where
    go : (q : Sequence) → sequence b s ≡ q → CharacterFits (b ∷ s) c
    go (Ok n) f =
        let i : Some (character (code_point (take n (b ∷ s))) n) ≡ Some c = sym (character-right b s n f) ∙ e in
        let g : character (code_point (take n (b ∷ s))) n ≡ c = cc in
        let r = right-fits b s n f in
        subst (CharacterFits (b ∷ s)) g (record { some = r.some; within = r.within; four = r.four; last = code-within b s n f })
    go (Err v) f =
        let i : None ≡ Some c = sym (character-wrong b s v f) ∙ e in
        let z : ◌≡◌ {A = ℕ} 0 1 = cc in
        absurd (omega arith)

-- All bytes of a good text are below 256, in fact at most F4: those of each range are.
abbrev is_small : Range → Bool
is_small r = leb r.hi 0xFF

-- The first so many are bytes.
abbrev FirstBytes : ℕ → List ℕ → Type 0
FirstBytes zero s = Unit {0}
FirstBytes (suc n) [] = Unit {0}
FirstBytes (suc n) (b ∷ s) = (b < 256) × FirstBytes n s

has-small : (r : Range) (b : ℕ) → is_small r ≡ true → has r b ≡ true → b < 256
has-small r b t h = omega (arith, has-bounds r b h, leb-true r.hi 0xFF t)

follow-small : (n : ℕ) (rs : List Range) (s : List ℕ) (m : ℕ) → every is_small rs ≡ true → follow n rs s ≡ Ok m → FirstBytes (length rs) s
unfolding follow
follow-small n [] s m t e = tt
follow-small n (r ∷ rs) [] m t e = tt
follow-small n (r ∷ rs) (b ∷ s) m t e = go (has r b) refl (follow-small (suc n) rs s m)
  where
    p : (is_small r ≡ true) × (every is_small rs ≡ true)
    p = both (is_small r) (every is_small rs) t

    go : (u : Bool) → has r b ≡ u → (every is_small rs ≡ true → follow (suc n) rs s ≡ Ok m → FirstBytes (length rs) s) → (b < 256) × FirstBytes (length rs) s
    go true u ih = (has-small r b p.0 u, ih p.1 (rw u at e))
    go false u ih =
        let f : Err NotAllowed ≡ Ok m = rw u at e in
        let z : ◌≡◌ {A = ℕ} 0 1 = cc in
        absurd (omega arith)

right-small : (b : ℕ) (s : List ℕ) (n : ℕ) → sequence b s ≡ Ok n → (b < 256) × FirstBytes (n - 1) s
unfolding table
right-small b s n e = by_rows b s n (λ row. is_small row.lead && every is_small row.more) ((b < 256) × FirstBytes (n - 1) s) gives table refl e
  where
    gives : (row : Row) → (is_small row.lead && every is_small row.more) ≡ true → has row.lead b ≡ true → follow 1 row.more s ≡ Ok n → (b < 256) × FirstBytes (n - 1) s
    gives row p q f =
        let u = both (is_small row.lead) (every is_small row.more) p in
        let k : n - 1 ≡ length row.more = omega (arith, follow-right 1 row.more s n f) in
        (has-small row.lead b u.0 q, rw k (follow-small 1 row.more s n u.1 f))

good-small : (at k : ℕ) (s : List ℕ) → checked_from at k s ≡ Ok tt → FirstBytes k s → AreBytes s
unfolding checked_from
good-small at k [] e h = tt
good-small at (suc k) (b ∷ s) e h = (h.0, good-small (suc at) k s e h.1)
good-small at zero (b ∷ s) e h = go (sequence b s) refl (λ n. good-small (suc at) (n - 1) s)
  where
    go : (q : Sequence) → sequence b s ≡ q → ((n : ℕ) → checked_from (suc at) (n - 1) s ≡ Ok tt → FirstBytes (n - 1) s → AreBytes s) → (b < 256) × AreBytes s
    go (Ok n) f ih =
        let r = right-small b s n f in
        (r.0, ih n (rw (f, checked_from) at e) r.1)
    go (Err v) f ih =
        let g : bad v at ≡ Ok tt = rw (f, checked_from) at e in
        let z : ◌≡◌ {A = ℕ} 0 1 = cc in
        absurd (omega arith)

pub good-bytes : (s : List ℕ) → checked s ≡ Ok tt → AreBytes s
good-bytes s e = good-small 0 0 s e tt
