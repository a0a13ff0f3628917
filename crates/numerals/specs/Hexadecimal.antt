-- Hexadecimal numbers: where their digits begin to count, and the limbs from the last digits to the first.
use Rattle.std.specs.Prelude.{◌≡◌, Some, length, get_or, take, drop, set}
use Rattle.std.proofs.Math.Path.{refl}
use Rattle.std.proofs.Common.{sym, ◌∙◌, ap, arith, mul-le-mul_right, add-one, length-append, length-set, drop_of_length-le, take-append-drop, get_or-take, take_all, take-suc, take-suc-set, drop-set-lt, drop-drop}
use Rattle.std.proofs.Math.Option.{Option, none, some}
use mathlib.Core.List.{List, [], ◌∷◌, ◌++◌, append-nil}
use Prim.Native.Nat.{ℕ, zero, suc, ◌+◌, ◌-◌, ◌*◌, ◌/◌, ◌%◌, ◌≤◌, ◌<◌}
use Rattle.std.proofs.Math.Seq.{length-take-le, append_snoc}
use Rattle.std.proofs.lemmas.List.{drop-append-le}
use Rattle.literals.specs.Numbers.{limb_base, limbs, nibble, digits}
use Rattle.numerals.specs.Limbs.{limbs-zero, limbs-more}
use Rattle.values.specs.Kept.{Put}
use Rattle.numerals.specs.Chunks.{from_byte, digits-some, digits-pass}

-- ---- the number before a byte

digits_append : (radix n : ℕ) (s t : List ℕ) → digits radix n (s ++ t) ≡ digits radix (digits radix n s) t
unfolding digits
digits_append radix n [] t = refl
digits_append radix n (b ∷ s) t = go (nibble b) (λ m. digits_append radix m s t)
  where
    go : (d : Option ℕ) → ((m : ℕ) → digits radix m (s ++ t) ≡ digits radix (digits radix m s) t)
        → elim d [ some d ↦ digits radix (n * radix + d) (s ++ t) | none ↦ digits radix n (s ++ t) ] ≡ digits radix (elim d [ some d ↦ digits radix (n * radix + d) s | none ↦ digits radix n s ]) t
    go (some d) ih = ih (n * radix + d)
    go none ih = ih n

-- What the digits from `prefix` up to byte `i` make.
abbrev pub before : List ℕ → ℕ → ℕ → ℕ
before source prefix i = digits 16 0 (drop prefix (take i source))

module _ (source : List ℕ) (prefix : ℕ) where
  before-all : before source prefix (length source) ≡ digits 16 0 (drop prefix source)
  before-all = rw (take_all (length source) source (omega arith))

  before-over : (i : ℕ) → i ≤ prefix → i ≤ length source → before source prefix i ≡ 0
  unfolding digits
  before-over i h g = rw (drop_of_length-le (take i source) {i = prefix} (omega (arith, length-take-le i source g)))

  module _ (i : ℕ) (g : prefix ≤ i) (h : i < length source) where
    split : drop prefix (take (i + 1) source) ≡ drop prefix (take i source) ++ (get_or source i 0 ∷ [])
    split = rw (add-one, take-suc source i 0 h) (drop-append-le prefix (take i source) (get_or source i 0 ∷ []) (omega (arith, length-take-le i source (omega arith))))

    before-some : (d : ℕ) → some d ≡ nibble (get_or source i 0) → before source prefix (i + 1) ≡ before source prefix i * 16 + d
    unfolding digits
    before-some d e = rw (split, digits_append 16 0 (drop prefix (take i source)) (get_or source i 0 ∷ []), digits-some 16 (before source prefix i) (get_or source i 0) [] d (sym e))

    before-none : none ≡ nibble (get_or source i 0) → before source prefix (i + 1) ≡ before source prefix i
    unfolding digits
    before-none e = rw (split, digits_append 16 0 (drop prefix (take i source)) (get_or source i 0 ∷ []), digits-pass 16 (before source prefix i) (get_or source i 0) [] (sym e))

-- ---- where the digits that count begin

-- A number is not less with more digits.
digits-over : (n : ℕ) (s : List ℕ) → n ≤ digits 16 n s
unfolding digits
digits-over n [] = omega arith
digits-over n (b ∷ s) = go (nibble b) (λ m. digits-over m s)
  where
    go : (d : Option ℕ) → ((m : ℕ) → m ≤ digits 16 m s) → n ≤ elim d [ some d ↦ digits 16 (n * 16 + d) s | none ↦ digits 16 n s ]
    go (some d) ih = omega (arith, ih (n * 16 + d))
    go none ih = ih n

-- The digits from byte `i` on make the whole number, and those up to any byte behind it make one that isn't 0.
pub record Leading (source : List ℕ) (prefix i : ℕ) : Type 0 where
  pub same : digits 16 0 (drop i source) ≡ digits 16 0 (drop prefix source)
  pub some : (end : ℕ) → i < end → end ≤ length source → 0 < before source i end

module _ (source : List ℕ) (prefix i : ℕ) (e : digits 16 0 (drop i source) ≡ digits 16 0 (drop prefix source)) where
  pub leading-none : length source ≤ i → Leading source prefix i
  leading-none h = record { same = e; some = λ end g k. absurd (omega arith) }

  pub leading-end : length source ≤ i → Leading source prefix (length source)
  leading-end h =
      let over : drop i source ≡ [] = drop_of_length-le source h in
      let all : drop (length source) source ≡ [] = drop_of_length-le source (omega arith) in
      record { same = rw (all, ← over) e; some = λ end g k. absurd (omega arith) }

  module _ (c : ℕ) (ec : c ≡ get_or source i 0) (h : i < length source) where
    pub leading-pass : none ≡ nibble c → digits 16 0 (drop (i + 1) source) ≡ digits 16 0 (drop prefix source)
    leading-pass f = sym (digits-pass 16 0 c (drop (i + 1) source) (sym f)) ∙ (rw (from_byte source i c ec h) at e)

    module _ (d : ℕ) (f : some d ≡ nibble c) where
      pub leading-zero : d ≡ 0 → digits 16 0 (drop (i + 1) source) ≡ digits 16 0 (drop prefix source)
      leading-zero z =
          let q : 0 * 16 + d ≡ 0 = omega arith in
          sym (digits-some 16 0 c (drop (i + 1) source) d (sym f) ∙ rw q) ∙ (rw (from_byte source i c ec h) at e)

      pub leading-found : (d ≡ 0 → ⊥) → Leading source prefix i
      leading-found z =
          record {
            same = e;
            some = λ end g k.
                let l : i < length (take end source) = omega (arith, length-take-le end source k) in
                let q : drop i (take end source) ≡ c ∷ drop (i + 1) (take end source) = from_byte (take end source) i c (ec ∙ sym (get_or-take end source i 0 g)) l in
                rw (q, digits-some 16 0 c (drop (i + 1) (take end source)) d (sym f)) (omega (arith, z, digits-over (0 * 16 + d) (drop (i + 1) (take end source))));
          }

-- ---- a limb, from the digits before a byte

-- What the digit counts behind which `k` digits stand.
unfoldable pub top : ℕ → ℕ
top zero = 1
top (suc k) = 16 * top k

pub record LimbBefore (source : List ℕ) (prefix end value start : ℕ) : Type 0 where
  pub is : before source prefix end ≡ before source prefix start * limb_base + value
  pub fits : value < limb_base
  pub within : start ≤ end
  pub past : prefix < end → start < end

-- The loop that makes it: `unit` is what the next digit counts.
pub record Digits (source : List ℕ) (prefix end value unit i : ℕ) : Type 0 where
  pub is : before source prefix end ≡ before source prefix i * unit + value
  pub fits : value < unit
  pub within : i ≤ end
  pub many : ℕ
  pub few : many ≤ 8
  pub counts : unit ≡ top many
  pub first : (i ≡ end → unit ≡ 1)

top_below : (j : ℕ) → j ≤ 8 → top j ≤ limb_base
unfolding top
top_below zero h = omega arith
top_below (suc zero) h = omega arith
top_below (suc (suc zero)) h = omega arith
top_below (suc (suc (suc zero))) h = omega arith
top_below (suc (suc (suc (suc zero)))) h = omega arith
top_below (suc (suc (suc (suc (suc zero))))) h = omega arith
top_below (suc (suc (suc (suc (suc (suc zero)))))) h = omega arith
top_below (suc (suc (suc (suc (suc (suc (suc zero))))))) h = omega arith
top_below (suc (suc (suc (suc (suc (suc (suc (suc zero)))))))) h = omega arith
top_below (suc (suc (suc (suc (suc (suc (suc (suc (suc j))))))))) h = absurd (omega arith)

module _ (source : List ℕ) (prefix end : ℕ) (g : end ≤ length source) where
  pub digits-first : Digits source prefix end 0 1 end
  unfolding top
  digits-first = record { is = omega arith; fits = omega arith; within = omega arith; many = 0; few = omega arith; counts = refl; first = λ e. refl }

  module _ (value unit i : ℕ) (t : Digits source prefix end value unit i) where
    pub unit-fits : unit ≤ limb_base
    unit-fits = omega (arith, t.counts, top_below t.many t.few)

    pub limb-full : unit ≡ limb_base → LimbBefore source prefix end value i
    limb-full e =
        let ne : (i ≡ end → ⊥) = λ f. omega (arith, t.first f) in
        record { is = t.is ∙ rw e; fits = omega (arith, t.fits); within = t.within; past = λ h. omega (arith, t.within) }

    pub limb-last : i ≤ prefix → LimbBefore source prefix end value i
    limb-last h =
        let z : before source prefix i ≡ 0 = before-over source prefix i h (omega (arith, t.within)) in
        record { is = t.is ∙ rw z (omega arith); fits = omega (arith, t.fits, unit-fits); within = t.within; past = λ g. omega arith }

    module _ (more : unit ≡ limb_base → ⊥) (h : prefix < i) (c : ℕ) (ec : c ≡ get_or source (i - 1) 0) where
      fewer : t.many < 8
      unfolding top
      fewer =
          let ne : (t.many ≡ 8 → ⊥) = λ e. more (t.counts ∙ rw e) in
          omega (arith, t.few)

      back : i - 1 + 1 ≡ i
      back = omega arith

      inside : i - 1 < length source
      inside = omega (arith, t.within)

      pub digits-none : none ≡ nibble c → Digits source prefix end value unit (i - 1)
      digits-none e =
          let b : before source prefix (i - 1 + 1) ≡ before source prefix (i - 1) = before-none source prefix (i - 1) (omega arith) inside (rw ec at e) in
          record { is = t.is ∙ rw (← b, back); fits = t.fits; within = omega (arith, t.within); many = t.many; few = t.few; counts = t.counts; first = λ f. absurd (omega (arith, t.within)) }

      module _ (d : ℕ) (e : some d ≡ nibble c) (hd : d < 16) where
        pub digit-fits : d * unit ≤ 15 * unit
        digit-fits = mul-le-mul_right unit (omega arith)

        pub digits-next : Digits source prefix end (value + d * unit) (unit * 16) (i - 1)
        unfolding top
        digits-next =
            let b : before source prefix (i - 1 + 1) ≡ before source prefix (i - 1) * 16 + d = before-some source prefix (i - 1) (omega arith) inside d (rw ec at e) in
            let k : before source prefix i ≡ before source prefix (i - 1) * 16 + d = rw back at b in
            record {
              is = t.is ∙ rw k (omega arith);
              fits = omega (arith, t.fits, digit-fits);
              within = omega (arith, t.within);
              many = suc t.many;
              few = fewer;
              counts = omega (arith, t.counts);
              first = λ f. absurd (omega (arith, t.within));
            }

-- ---- the limbs, one after the other

-- The limbs in front of the room, and the number that is left.
pub record Limbed (source : List ℕ) (prefix first : ℕ) (lent room : List ℕ) (n end : ℕ) : Type 0 where
  pub is : limbs (digits 16 0 (drop prefix source)) ≡ take n room ++ limbs (before source first end)
  pub behind : drop n room ≡ drop n lent
  pub long : length room ≡ length lent
  pub fits : n ≤ length lent
  pub within : end ≤ length source

module _ (source : List ℕ) (prefix first : ℕ) (lead : Leading source prefix first) (lent : List ℕ) where
  abbrev whole : List ℕ
  whole = limbs (digits 16 0 (drop prefix source))

  pub limbed-first : Limbed source prefix first lent lent 0 (length source)
  limbed-first = record { is = ap limbs (sym (before-all source first ∙ lead.same)); behind = refl; long = refl; fits = omega arith; within = omega arith }

  module _ (room : List ℕ) (n end : ℕ) (t : Limbed source prefix first lent room n end) where
    front : length (take n room) ≡ n
    front = length-take-le n room (omega (arith, t.fits, t.long))

    pub limbed-last : end ≤ first → Put whole lent (Some n) room
    limbed-last h =
        let e : whole ≡ take n room = t.is ∙ rw (before-over source first end h t.within, limbs-zero, append-nil) in
        rw e (sym front, t.fits, rw (← t.behind) (sym (take-append-drop n room)))

    module _ (h : first < end) where
      more : limbs (before source first end) ≡ before source first end % limb_base ∷ limbs (before source first end / limb_base)
      more = limbs-more (before source first end) (lead.some end h t.within)

      pub limbed-full : length room ≤ n → length lent < length whole
      limbed-full f = omega (arith, ap length t.is, length-append (take n room) (limbs (before source first end)), ap length more, front, t.long)

      module _ (f : n < length room) (value start : ℕ) (l : LimbBefore source first end value start) where
        next : limbs (before source first end) ≡ value ∷ limbs (before source first start)
        next =
            let q : before source first end / limb_base ≡ before source first start = omega (arith, l.is, l.fits) in
            let r : before source first end % limb_base ≡ value = omega (arith, l.is, l.fits) in
            more ∙ rw (q, r)

        pub limbed-next : Limbed source prefix first lent (set room n value) (n + 1) start
        limbed-next =
            record {
              is = t.is ∙ rw (next, add-one, take-suc-set room n value f, append_snoc);
              behind = drop-set-lt (n + 1) room n value (omega arith) ∙ (sym (drop-drop 1 n room) ∙ (ap (drop 1) t.behind ∙ drop-drop 1 n lent));
              long = length-set room n value ∙ t.long;
              fits = omega (arith, t.long);
              within = omega (arith, l.within, t.within);
            }
