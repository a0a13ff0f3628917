-- The characters of a part of the text, by where they stand, and what its bytes decode to.
use Rattle.std.specs.Prelude.{◌≡◌, refl, List, [], ◌∷◌, ℕ, zero, suc, ◌+◌, ◌-◌, ◌≤◌, ◌<◌, length, get_or, drop}
use Rattle.std.proofs.Common.{◌∙◌, ap, ap₂, add-zero, arith, eq-eqb, ne_eqb, drop_of_length-le, drop-cons, drop-drop}
use Rattle.std.proofs.Math.ListN.{length-drop}
use Rattle.utf8.specs.Utf8.{character, character_at}
use Rattle.utf8.specs.Laws.{ascii, character-fits}
use Rattle.std.specs.Prelude.{Some, None}
use Rattle.utf8.specs.declared.Character.{Character}
use Rattle.literals.specs.Strings.{Event, byte, Char, char, characters_from, piece, escaped, decoded_from}

-- Characters that are skipped in part start later.
skipped : (at k : ℕ) (s : List ℕ) → characters_from at k s ≡ characters_from (at + k) 0 (drop k s)
unfolding characters_from
skipped at zero s = rw add-zero
skipped at (suc k) [] = refl
skipped at (suc k) (b ∷ s) =
    let e : at + 1 + k ≡ at + suc k = omega arith in
    skipped (at + 1) k s ∙ ap (λ (n : ℕ). characters_from n 0 (drop k s)) e

-- Bytes that an escape took.
decoded-skipped : (at k : ℕ) (s : List ℕ) → decoded_from at k s ≡ decoded_from (at + k) 0 (drop k s)
unfolding decoded_from
decoded-skipped at zero s = rw add-zero
decoded-skipped at (suc k) [] = refl
decoded-skipped at (suc k) (b ∷ s) =
    let e : at + 1 + k ≡ at + suc k = omega arith in
    decoded-skipped (at + 1) k s ∙ ap (λ (n : ℕ). decoded_from n 0 (drop k s)) e

-- The characters of the bytes `w`, which begin at the offset `base`, from byte `i` on, and what these bytes decode to.
abbrev pub chars : ℕ → List ℕ → ℕ → List Char
chars base w i = characters_from (base + i) 0 (drop i w)

abbrev pub events : ℕ → List ℕ → ℕ → List Event
events base w i = decoded_from (base + i) 0 (drop i w)

-- A character stands at byte `i`, and the next one at byte `end`.
pub record Standing (w : List ℕ) (i code end : ℕ) : Type 0 where
  pub is : (base : ℕ) → chars base w i ≡ char code (base + i) (base + end) ∷ chars base w end
  pub on : i < end
  pub within : end ≤ length w

module _ (w : List ℕ) (i : ℕ) (h : i < length w) where
  abbrev b : ℕ
  b = get_or w i 0

  abbrev s : List ℕ
  s = drop (suc i) w

  opened : drop i w ≡ b ∷ s
  opened = drop-cons w i 0 h

  -- What comes behind the n bytes of a character.
  behind : (base n : ℕ) → 1 ≤ n → characters_from (base + i + 1) (n - 1) s ≡ chars base w (i + n)
  behind base n g =
      let e : base + i + 1 + (n - 1) ≡ base + (i + n) = omega arith in
      let f : suc i + (n - 1) ≡ i + n = omega arith in
      skipped (base + i + 1) (n - 1) s ∙ (rw (drop-drop (n - 1) (suc i) w, e, f))

  pub standing-is : (c : Character) → character_at (drop i w) ≡ Some c → Standing w i c.code_point (i + c.length)
  unfolding characters_from
  standing-is c e =
      let f = character-fits (drop i w) c e in
      let g : character_at (b ∷ s) ≡ Some c = rw opened at e in
      let l = length-drop i w in
      record {
        is = λ base. rw (opened, g, characters_from) (rw (behind base c.length f.some) (ap (λ (k : ℕ). char c.code_point (base + i) k ∷ chars base w (i + c.length)) (omega arith)));
        on = omega (arith, f.some);
        within = omega (arith, f.within);
      }

  pub standing-byte : character_at (drop i w) ≡ None → Standing w i b (i + 1)
  unfolding characters_from
  standing-byte e =
      let g : character_at (b ∷ s) ≡ None = rw opened at e in
      record {
        is = λ base. rw (opened, g, characters_from) (rw (behind base 1 (omega arith)) (ap (λ (k : ℕ). char b (base + i) k ∷ chars base w (i + 1)) (omega arith)));
        on = omega arith;
        within = omega arith;
      }

  -- An ASCII byte is its own character.
  pub standing-ascii : b < 128 → Standing w i b (i + 1)
  standing-ascii p = standing-is (character b 1) (rw opened (ascii b s p))

-- Nothing stands past the end.
pub chars-over : (base : ℕ) (w : List ℕ) (i : ℕ) → length w ≤ i → chars base w i ≡ []
unfolding characters_from
chars-over base w i h = rw (drop_of_length-le w {i = i} h)

pub events-over : (base : ℕ) (w : List ℕ) (i : ℕ) → length w ≤ i → events base w i ≡ []
unfolding decoded_from
events-over base w i h = rw (drop_of_length-le w {i = i} h)

-- A byte that is no backslash, and one that is, with what is taken behind it.
decoded-byte : (at b : ℕ) (s : List ℕ) → (b ≡ 92 → ⊥) → decoded_from at 0 (b ∷ s) ≡ byte b ∷ decoded_from (at + 1) 0 s
unfolding decoded_from
decoded-byte at b s n = rw (ne_eqb b 92 n)

decoded-escape : (at b : ℕ) (s : List ℕ) → b ≡ 92 → (e : Event) (end : ℕ) → escaped at (characters_from (at + 1) 0 s) ≡ piece e end → decoded_from at 0 (b ∷ s) ≡ e ∷ decoded_from (at + 1) (end - (at + 1)) s
unfolding decoded_from
decoded-escape at b s h e end p = rw (eq-eqb b 92 h, p)

module _ (base : ℕ) (w : List ℕ) (i : ℕ) (h : i < length w) where
  later : base + i + 1 ≡ base + (i + 1)
  later = omega arith

  further : drop (suc i) w ≡ drop (i + 1) w
  further =
      let e : suc i ≡ i + 1 = omega arith in
      ap (λ (k : ℕ). drop k w) e

  pub event-byte : (get_or w i 0 ≡ 92 → ⊥) → events base w i ≡ byte (get_or w i 0) ∷ events base w (i + 1)
  event-byte n =
      ap (decoded_from (base + i) 0) (opened w i h)
      ∙ decoded-byte (base + i) (get_or w i 0) (drop (suc i) w) n
      ∙ ap₂ (λ (at : ℕ) (s : List ℕ). byte (get_or w i 0) ∷ decoded_from at 0 s) later further

  pub event-escape : get_or w i 0 ≡ 92 → (e : Event) (next : ℕ) → escaped (base + i) (chars base w (i + 1)) ≡ piece e (base + next) → i < next → events base w i ≡ e ∷ events base w next
  event-escape is e next p g =
      let n = base + next - (base + i + 1) in
      let there : suc i + n ≡ next = omega arith in
      let past : base + i + 1 + n ≡ base + next = omega arith in
      ap (decoded_from (base + i) 0) (opened w i h)
      ∙ decoded-escape (base + i) (get_or w i 0) (drop (suc i) w) is e (base + next) (ap₂ (λ (at : ℕ) (s : List ℕ). escaped (base + i) (characters_from at 0 s)) later further ∙ p)
      ∙ ap (λ (es : List Event). e ∷ es)
      (decoded-skipped (base + i + 1) n (drop (suc i) w)
      ∙ ap₂ (λ (at : ℕ) (s : List ℕ). decoded_from at 0 s) past (drop-drop n (suc i) w ∙ ap (λ (k : ℕ). drop k w) there))
