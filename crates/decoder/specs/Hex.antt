-- The digits of a `hex"` token, one and two at a time.
use Rattle.std.proofs.Math.Path.{◌≡◌, refl}
use Rattle.std.proofs.Common.{◌∙◌, arith}
use Rattle.std.specs.Prelude.{Bool, not, Option, Some, None, is_some, unwrap_or, ◌||◌, ℕ, ◌+◌, ◌*◌, ◌≤◌, ◌<◌, length}
use Rattle.std.proofs.Math.Bool.{true, false}
use Rattle.std.proofs.Math.Option as Math
use Rattle.std.proofs.Math.Option.{none, some}
use mathlib.Core.List.{List, [], ◌∷◌, ◌++◌, append-nil, append_assoc}
use Rattle.std.proofs.Math.Dec.{lit<}
use Rattle.words.specs.Report
use Rattle.literals.specs.declared.Span.{Span}
use Rattle.literals.specs.Numbers.{nibble}
use Rattle.literals.specs.Strings.{Event, byte, report, Char, char, bad_digit, is_bad, digit_or0, hex_from}
use Rattle.reading.specs.declared.parser.Parser.{Parser}
use Rattle.values.specs.Digits.{option, Under}
use Rattle.decoder.specs.Decodes.{Decodes, decodes-then}
use Rattle.decoder.specs.Chars.{chars, chars-over, Standing}

-- A character at byte `i`, what it counts as a digit, and whether it is none.
pub record Digit (w : List ℕ) (i code end digit : ℕ) (bad : Bool) : Type 0 where
  pub stands : Standing w i code end
  pub counts : (start stop : ℕ) → digit ≡ digit_or0 (char code start stop)
  pub fails : (start stop : ℕ) → bad ≡ is_bad (char code start stop)
  pub small : digit < 16

module _ (w : List ℕ) (i code end : ℕ) (st : Standing w i code end) where
  pub digit-good : (d : ℕ) → some d ≡ nibble code → d < 16 → Digit w i code end d false
  unfolding digit_or0 is_bad
  digit-good d e h = record { stands = st; counts = λ start stop. rw (← e, digit_or0); fails = λ start stop. rw (← e, is_bad); small = h }

  pub digit-bad : none ≡ nibble code → Digit w i code end 0 true
  unfolding digit_or0 is_bad
  digit-bad e = record { stands = st; counts = λ start stop. rw (← e, digit_or0); fails = λ start stop. rw (← e, is_bad); small = lit< tt }

  pub digit-told : (r : Option ℕ) → option r ≡ nibble code → Under 16 r → (b : Bool) → is_some r ≡ not b → Digit w i code end (unwrap_or r 0) b
  digit-told (Some d) e h false g = digit-good d e h
  digit-told (Some d) e h true g = absurd cc
  digit-told None e h false g = absurd cc
  digit-told None e h true g = digit-bad e

-- What the digits of the bytes `w` decode to, which begin at the offset `base`, from byte `i` on.
abbrev pub hex_events : Span → Bool → ℕ → List ℕ → ℕ → List Event
hex_events token already base w i = hex_from token already (chars base w i)

module _ (token : Span) (already : Bool) (base : ℕ) (w : List ℕ) (i : ℕ) where
  pub hex-over : length w ≤ i → hex_events token already base w i ≡ []
  unfolding hex_from
  hex-over h = rw (chars-over base w i h)

  module _ (code end digit : ℕ) (bad : Bool) (d : Digit w i code end digit bad) where
    pub hex-odd : length w ≤ end
        → hex_events token already base w i ≡ bad_digit already (char code (base + i) (base + end)) ++ (report Report.OddDigits 0 token ∷ [])
    unfolding hex_from
    hex-odd h = rw (d.stands.is base, chars-over base w end h)

    pub hex-pair : (code₂ end₂ digit₂ : ℕ) (bad₂ : Bool) → Digit w end code₂ end₂ digit₂ bad₂
        → hex_events token already base w i
        ≡ bad_digit already (char code (base + i) (base + end))
        ++ (bad_digit (already || bad) (char code₂ (base + end) (base + end₂))
        ++ (byte (16 * digit + digit₂) ∷ hex_events token (already || bad || bad₂) base w end₂))
    unfolding hex_from
    hex-pair code₂ end₂ digit₂ bad₂ e =
        rw (d.stands.is base, e.stands.is base, d.counts (base + i) (base + end), e.counts (base + end) (base + end₂), d.fails (base + i) (base + end), e.fails (base + end) (base + end₂))

-- The report of a bad digit, by case.
module _ (already : Bool) (c : Char) where
  pub bad-already : already ≡ true → bad_digit already c ≡ []
  unfolding bad_digit
  bad-already e = go (nibble c.code) refl
    where
      go : (o : Math.Option ℕ) → nibble c.code ≡ o → bad_digit already c ≡ []
      go (some d) f = rw (f, bad_digit)
      go none f = rw (f, bad_digit, e)

  module _ (b : Bool) (e : b ≡ is_bad c) where
    pub bad-fine : not b ≡ true → bad_digit already c ≡ []
    unfolding bad_digit is_bad
    bad-fine n = go (nibble c.code) refl
      where
        go : (o : Math.Option ℕ) → nibble c.code ≡ o → bad_digit already c ≡ []
        go (some d) f = rw (f, bad_digit)
        go none f =
            let g : b ≡ true = e ∙ rw (f, is_bad) in
            let h : false ≡ true = rw g at n in
            absurd cc

    pub bad-new : already ≡ false → not b ≡ false → bad_digit already c ≡ report Report.NonHexDigit c.code c.place ∷ []
    unfolding bad_digit is_bad
    bad-new a n = go (nibble c.code) refl
      where
        go : (o : Math.Option ℕ) → nibble c.code ≡ o → bad_digit already c ≡ report Report.NonHexDigit c.code c.place ∷ []
        go (some d) f =
            let g : b ≡ false = e ∙ rw (f, is_bad) in
            let h : true ≡ false = rw g at n in
            absurd cc
        go none f = rw (f, bad_digit, a)

or_same : (a b c : Bool) → ((a || b) || c) ≡ (a || b || c)
or_same true b c = refl
or_same false b c = refl

-- One turn: a digit and the next one, or a lone last one.
pub record Turn (token : Span) (at base : ℕ) (w : List ℕ) (i : ℕ) (already : Bool) (c : Option ℕ) (p : Parser) (next : ℕ) (already' : Bool) (c' : Option ℕ) (p' : Parser) : Type 0 where
  pub past : List Event
  pub is : hex_events token already base w i ≡ past ++ hex_events token already' base w next
  pub decodes : Decodes past at c p c' p'
  pub on : i < next
  pub within : next ≤ length w

module _ (token : Span) (at base : ℕ) (w : List ℕ) (i : ℕ) (already : Bool) (c : Option ℕ) (p : Parser)
    (code end digit : ℕ) (bad : Bool) (g : Digit w i code end digit bad)
    (c₁ : Option ℕ) (p₁ : Parser) (first : Decodes (bad_digit already (char code (base + i) (base + end))) at c p c₁ p₁) where
  pub turn_odd : (c₂ : Option ℕ) (p₂ : Parser) (already' : Bool) → length w ≤ end → Decodes (report Report.OddDigits 0 token ∷ []) at c₁ p₁ c₂ p₂
      → Turn token at base w i already c p end already' c₂ p₂
  turn_odd c₂ p₂ already' h e =
      record {
        past = bad_digit already (char code (base + i) (base + end)) ++ (report Report.OddDigits 0 token ∷ []);
        is = hex-odd token already base w i code end digit bad g h ∙ rw (hex-over token already' base w end h, append-nil);
        decodes = decodes-then at c p _ _ c₁ p₁ c₂ p₂ first e;
        on = g.stands.on;
        within = g.stands.within;
      }

  pub turn-pair : (already₁ already₂ : Bool) → already₁ ≡ (already || bad)
      → (code₂ end₂ digit₂ : ℕ) (bad₂ : Bool) → Digit w end code₂ end₂ digit₂ bad₂ → already₂ ≡ (already₁ || bad₂)
      → (c₂ : Option ℕ) (p₂ : Parser) → Decodes (bad_digit already₁ (char code₂ (base + end) (base + end₂))) at c₁ p₁ c₂ p₂
      → (c₃ : Option ℕ) (p₃ : Parser) → Decodes (byte (16 * digit + digit₂) ∷ []) at c₂ p₂ c₃ p₃
      → Turn token at base w i already c p end₂ already₂ c₃ p₃
  turn-pair already₁ already₂ e₁ code₂ end₂ digit₂ bad₂ k e₂ c₂ p₂ second c₃ p₃ third =
      let one = bad_digit already (char code (base + i) (base + end)) in
      let two = bad_digit already₁ (char code₂ (base + end) (base + end₂)) in
      let pair : List Event = byte (16 * digit + digit₂) ∷ [] in
      record {
        past = one ++ (two ++ pair);
        is = hex-pair token already base w i code end digit bad g code₂ end₂ digit₂ bad₂ k ∙ rw (e₂, e₁, or_same already bad bad₂) (simp append_assoc);
        decodes = decodes-then at c p one (two ++ pair) c₁ p₁ c₃ p₃ first (decodes-then at c₁ p₁ two pair c₂ p₂ c₃ p₃ second third);
        on = omega (arith, g.stands.on, k.stands.on);
        within = k.stands.within;
      }
