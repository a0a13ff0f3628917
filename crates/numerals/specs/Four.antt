-- Four chunks at once: they make one digit of a large radix.
use Rattle.std.specs.Prelude.{◌≡◌, refl, Option, Some, None, List, ℕ, ◌+◌, ◌*◌, ◌≤◌, ◌<◌, length}
use Rattle.std.proofs.Common.{◌∙◌, ap, arith}
use Rattle.literals.specs.Numbers.{limbs}
use Rattle.values.specs.Kept.{Put}
use Rattle.numerals.specs.declared.Four.{Four}
use Rattle.numerals.specs.Numbers.{Pushed}
use Rattle.numerals.specs.Times.{Parted}
use Rattle.numerals.specs.Put.{limbs-grow, put-none, put-fits, put-more, put_full}

-- What a number before four chunks is multiplied by.
abbrev pub unit : Four → ℕ
unit u = u.a * u.b * u.c * u.d

-- What four values make, or four carries.
abbrev two : Four → Four → ℕ
two u v = v.a * u.b + v.b

abbrev three : Four → Four → ℕ
three u v = two u v * u.c + v.c

abbrev pub number : Four → Four → ℕ
number u v = three u v * u.d + v.d

abbrev pub Positive : Four → Type 0
Positive u = (0 < u.a) × (0 < u.b) × (0 < u.c) × (0 < u.d)

-- The limb that one multiplication leaves is what the next one takes.
module _ (sum next limb radix carry next' limb' : ℕ) where
  parted-then : Parted sum next limb → Parted (limb * radix + carry) next' limb' → Parted (sum * radix + carry) (next * radix + next') limb'
  parted-then p q = (ap (λ (s : ℕ). s * radix + carry) p.0 ∙ omega (arith, q.0), q.1)

module _ (u v next : Four) (l la lb lc ld : ℕ) where
  pub parted-four : Parted (l * u.a + v.a) next.a la → Parted (la * u.b + v.b) next.b lb
      → Parted (lb * u.c + v.c) next.c lc → Parted (lc * u.d + v.d) next.d ld
      → Parted (l * unit u + number u v) (number u next) ld
  parted-four p q r s =
      let two = parted-then _ _ _ _ _ _ _ p q in
      let three = parted-then _ _ _ _ _ _ _ two r in
      let four = parted-then _ _ _ _ _ _ _ three s in
      let e : l * unit u + number u v ≡ (((l * u.a + v.a) * u.b + v.b) * u.c + v.c) * u.d + v.d = omega arith in
      (e ∙ four.0, four.1)

-- The four pushed one after the other, from no limb on.
module _ (u v : Four) (ok : Positive u) (lent : List ℕ) where
  past_three : length lent < length (limbs (three u v)) → length lent < length (limbs (number u v))
  past_three h = omega (arith, limbs-grow u.d ok.3 (three u v) v.d)

  past_two : length lent < length (limbs (two u v)) → length lent < length (limbs (number u v))
  past_two h = past_three (omega (arith, limbs-grow u.c ok.2 (two u v) v.c))

  past_one : length lent < length (limbs v.a) → length lent < length (limbs (number u v))
  past_one h = past_two (omega (arith, limbs-grow u.b ok.1 v.a v.b))

  module _ (r₁ : Option ℕ) (out₁ : List ℕ) (p₁ : Pushed u.a v.a lent 0 r₁ out₁) where
    put_one : Put (limbs v.a) lent r₁ out₁
    put_one =
        let e : 0 * u.a + v.a ≡ v.a = omega arith in
        rw e at (put-more 0 lent (Some 0) lent (put-none lent) 0 refl u.a v.a ok.0 r₁ out₁ p₁)

    pub full-one : r₁ ≡ None → length lent < length (limbs (number u v))
    full-one e = past_one (put_full v.a lent r₁ out₁ put_one e)

    module _ (n₁ : ℕ) (e₁ : r₁ ≡ Some n₁) where
      pub fits_one : n₁ ≤ length out₁
      fits_one = put-fits v.a lent r₁ out₁ put_one n₁ e₁

      module _ (r₂ : Option ℕ) (out₂ : List ℕ) (p₂ : Pushed u.b v.b out₁ n₁ r₂ out₂) where
        put_two : Put (limbs (two u v)) lent r₂ out₂
        put_two = put-more v.a lent r₁ out₁ put_one n₁ e₁ u.b v.b ok.1 r₂ out₂ p₂

        pub full-two : r₂ ≡ None → length lent < length (limbs (number u v))
        full-two e = past_two (put_full (two u v) lent r₂ out₂ put_two e)

        module _ (n₂ : ℕ) (e₂ : r₂ ≡ Some n₂) where
          pub fits-two : n₂ ≤ length out₂
          fits-two = put-fits (two u v) lent r₂ out₂ put_two n₂ e₂

          module _ (r₃ : Option ℕ) (out₃ : List ℕ) (p₃ : Pushed u.c v.c out₂ n₂ r₃ out₃) where
            put_three : Put (limbs (three u v)) lent r₃ out₃
            put_three = put-more (two u v) lent r₂ out₂ put_two n₂ e₂ u.c v.c ok.2 r₃ out₃ p₃

            pub full-three : r₃ ≡ None → length lent < length (limbs (number u v))
            full-three e = past_three (put_full (three u v) lent r₃ out₃ put_three e)

            module _ (n₃ : ℕ) (e₃ : r₃ ≡ Some n₃) where
              pub fits-three : n₃ ≤ length out₃
              fits-three = put-fits (three u v) lent r₃ out₃ put_three n₃ e₃

              pub put_all : (r₄ : Option ℕ) (out₄ : List ℕ) → Pushed u.d v.d out₃ n₃ r₄ out₄ → Put (limbs (number u v)) lent r₄ out₄
              put_all = put-more (three u v) lent r₃ out₃ put_three n₃ e₃ u.d v.d ok.3
