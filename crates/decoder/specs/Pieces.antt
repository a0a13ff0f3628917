-- What a byte, or a backslash and what it takes, decodes to, by case.
use Rattle.std.specs.Prelude.{◌≡◌, refl, Option, Some, None, ℕ, ◌+◌, ◌*◌, ◌≤◌, ◌<◌, length, get_or}
use Rattle.std.proofs.Common.{◌∙◌}
use Rattle.std.proofs.Math.Option.{none, some}
use mathlib.Core.List.{List, [], ◌∷◌}
use native.Mathlib.Omega.{arith}
use borrow.Author.Tests.{eq-eqb, ne_eqb}
use Rattle.words.specs.Report
use Rattle.literals.specs.Spelling.{span}
use Rattle.literals.specs.Numbers.{nibble}
use Rattle.literals.specs.Strings.{Event, byte, report, Char, char, end_after, piece, escape, two_digits, escaped}
use Rattle.values.specs.Digits.{option}
use Rattle.decoder.specs.declared.Event as code
use Rattle.decoder.specs.declared.Event.TheVariants.{Byte, Report}
use Rattle.decoder.specs.Chars.{chars, events, chars-over, Standing, event-escape}

abbrev pub event_of : code.Event → Event
event_of (Byte b) = byte b
event_of (Report kind detail start end) = report kind detail (span start end)

abbrev pub Small : Event → Type 0
Small (byte b) = b < 256
Small (report kind detail place) = Unit {0}

-- The first event from byte `i` on, and the byte from which the others come.
pub record Cut (base : ℕ) (w : List ℕ) (i : ℕ) (e : Event) (next : ℕ) : Type 0 where
  pub is : events base w i ≡ e ∷ events base w next
  pub on : i < next
  pub within : next ≤ length w
  pub small : Small e

-- A backslash stands at byte `i`; or a backslash and an x, behind which the next character stands at byte `end`.
pub record Slash (w : List ℕ) (i : ℕ) : Type 0 where
  pub is : get_or w i 0 ≡ 92
  pub within : i < length w

pub record SlashX (w : List ℕ) (i end : ℕ) : Type 0 where
  pub at : Slash w i
  pub then : Standing w (i + 1) 120 end

-- The cases of a piece that begins with the backslash at byte `i`.
module _ (base : ℕ) (w : List ℕ) (i : ℕ) (slash : Slash w i) where
  cut : (e : Event) (next : ℕ) → escaped (base + i) (chars base w (i + 1)) ≡ piece e (base + next) → i < next → next ≤ length w → Small e → Cut base w i e next
  cut e next p h g s = record { is = event-escape base w i slash.within slash.is e next p h; on = h; within = g; small = s }

  pub cut-end : length w ≤ i + 1 → Cut base w i (report Report.BackslashAtEnd 0 (span (base + i) (base + (i + 1)))) (i + 1)
  unfolding escaped
  cut-end h =
      let e : base + i + 1 ≡ base + (i + 1) = omega arith in
      cut _ (i + 1) (rw (chars-over base w (i + 1) h, e)) (omega arith) (omega (arith, slash.within)) tt

  module _ (code end : ℕ) (st : Standing w (i + 1) code end) where
    abbrev bad : ℕ → Event
    bad next = report Report.BadHexEscape 0 (span (base + i) (base + next))

    pub cut-escape : (b : ℕ) → some b ≡ escape code → b < 256 → Cut base w i (byte b) end
    unfolding escaped
    cut-escape b e h = cut (byte b) end (rw (st.is base, ← e, escaped)) (omega (arith, st.on)) st.within h

    pub cut-unknown : none ≡ escape code → (code ≡ 120 → ⊥) → Cut base w i (report Report.UnknownEscape code (span (base + i) (base + end))) end
    unfolding escaped
    cut-unknown e h = cut _ end (rw (st.is base, ← e, ne_eqb code 120 h, escaped)) (omega (arith, st.on)) st.within tt

    module _ (none-such : none ≡ escape code) (x : code ≡ 120) where
      abbrev cs : List Char
      cs = chars base w end

      -- Two digits after it, or none.
      cut-pair : (b next : ℕ) → two_digits cs ≡ some b → end_after (base + end) 2 cs ≡ base + next → end ≤ next → next ≤ length w → b < 256 → Cut base w i (byte b) next
      unfolding escaped
      cut-pair b next e f h g s = cut (byte b) next (rw (st.is base, ← none-such, eq-eqb code 120 x, e, escaped, f)) (omega (arith, st.on)) g s

      cut-bad : (next : ℕ) → two_digits cs ≡ none → end_after (base + end) 2 cs ≡ base + next → end ≤ next → next ≤ length w → Cut base w i (bad next) next
      unfolding escaped
      cut-bad next e f h g = cut (bad next) next (rw (st.is base, ← none-such, eq-eqb code 120 x, e, escaped, f)) (omega (arith, st.on)) g tt

      pub cut-x : length w ≤ end → Cut base w i (bad end) end
      unfolding two_digits end_after
      cut-x h = cut-bad end (rw (chars-over base w end h)) (rw (chars-over base w end h)) (omega arith) st.within

      module _ (code₃ end₃ : ℕ) (st₃ : Standing w end code₃ end₃) where
        pub cut-x-one : length w ≤ end₃ → Cut base w i (bad end₃) end₃
        unfolding two_digits end_after
        cut-x-one h =
            let e : cs ≡ char code₃ (base + end) (base + end₃) ∷ [] = st₃.is base ∙ rw (chars-over base w end₃ h) in
            cut-bad end₃ (rw e) (rw e) (omega (arith, st₃.on)) st₃.within

        module _ (code₄ end₄ : ℕ) (st₄ : Standing w end₃ code₄ end₄) where
          two : cs ≡ char code₃ (base + end) (base + end₃) ∷ char code₄ (base + end₃) (base + end₄) ∷ chars base w end₄
          two = st₃.is base ∙ rw (st₄.is base)

          ends : end_after (base + end) 2 cs ≡ base + end₄
          unfolding end_after
          ends = rw two

          wrong : two_digits cs ≡ none → Cut base w i (bad end₄) end₄
          wrong e = cut-bad end₄ e ends (omega (arith, st₃.on, st₄.on)) st₄.within

          pub cut-no-digit : none ≡ nibble code₃ → Cut base w i (bad end₄) end₄
          unfolding two_digits
          cut-no-digit e = wrong (rw (two, ← e, two_digits))

          module _ (h : ℕ) (eh : some h ≡ nibble code₃) where
            pub cut-one-digit : none ≡ nibble code₄ → Cut base w i (bad end₄) end₄
            unfolding two_digits
            cut-one-digit e = wrong (rw (two, ← eh, ← e, two_digits))

            pub cut-digits : (l : ℕ) → some l ≡ nibble code₄ → h < 16 → l < 16 → Cut base w i (byte (16 * h + l)) end₄
            unfolding two_digits
            cut-digits l el hh hl = cut-pair (16 * h + l) end₄ (rw (two, ← eh, ← el, two_digits)) ends (omega (arith, st₃.on, st₄.on)) st₄.within (omega arith)

          pub cut-no-second : (x : Option ℕ) → option x ≡ nibble code₃ → none ≡ nibble code₄ → Cut base w i (bad end₄) end₄
          cut-no-second (Some h) e f = cut-one-digit h e f
          cut-no-second None e f = cut-no-digit e

-- What a function answers that cuts a piece off.
abbrev pub Cuts : ℕ → List ℕ → ℕ → code.Event → ℕ → Type 0
Cuts base w i e next = Cut base w i (event_of e) next

pub no-escape : none ≡ escape 120
unfolding escape
no-escape = refl

-- A piece that was made of a report.
pub told : (base : ℕ) (w : List ℕ) (i : ℕ) (e : code.Event) (next : ℕ) (r : Event) (n : ℕ) → Cut base w i r n → (event_of e ≡ r) × (next ≡ n) → Cuts base w i e next
told base w i e next r n k p = rw (p.0, p.1) k
