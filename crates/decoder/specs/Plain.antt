-- Plain bytes of a string, those that are no backslash: each stands for itself, and four of them fill a word.
use Rattle.std.specs.Prelude.{◌≡◌, Option, Some, Bool, true, false, not, length, get_or, set, take, drop}
use Rattle.std.proofs.Math.Path.{refl, ap}
use Rattle.std.proofs.Common.{sym, ◌∙◌, length-append, length-drop, length-set, length-take-le}
use mathlib.Core.List.{List, [], ◌∷◌, ◌++◌, append-nil, append_assoc}
use Prim.Native.Nat.{ℕ, zero, suc, ◌+◌, ◌*◌, ◌/◌, ◌%◌, ◌≤◌, ◌<◌}
use native.Mathlib.Omega.{arith}
use Rattle.utf8.specs.Bytes.{AreBytes, are-bytes-append}
use Rattle.literals.specs.Strings.{Event, byte, fours, bytes_of}
use Rattle.definition.specs.Strings.{emit_events}
use Rattle.reading.specs.declared.parser.Parser.{Parser}
use Rattle.reading.specs.Does.{gives}
use Rattle.values.specs.Kept.{lending}
use Rattle.decoder.specs.Chars.{events, event-byte}
use Rattle.decoder.specs.declared.Event as code
use Rattle.decoder.specs.declared.Event.TheVariants.{Byte}
use Rattle.decoder.specs.Pieces.{Cut, Cuts}
use Rattle.decoder.specs.Fours.{packed, Held, PushByte, fours-length}
use Rattle.decoder.specs.Decodes.{Decodes, decodes-then, Walk, walk-on}

pub record Plain (b : ℕ) : Type 0 where
  pub small : b < 256
  pub other : b ≡ 92 → ⊥

pub record Quad (a b c d : ℕ) : Type 0 where
  pub first : Plain a
  pub second : Plain b
  pub third : Plain c
  pub fourth : Plain d

pub unless : (b : Bool) → not b ≡ false → b ≡ true
unless true e = refl
unless false e = sym e

-- What is false is not told.
pub untold : {A : Type 0} → false ≡ true → A
untold e =
    let z : ◌≡◌ {A = ℕ} 0 1 = cc in
    absurd (omega arith)

-- ---- a plain byte is a byte of the value

pub plain-cut : (w : List ℕ) (i : ℕ) → i < length w → (base : ℕ) → Plain (get_or w i 0) → Cut base w i (byte (get_or w i 0)) (i + 1)
plain-cut w i h base p = record { is = event-byte base w i h p.other; on = omega arith; within = omega arith; small = p.small }

plain-event : (base : ℕ) (w : List ℕ) (i j : ℕ) → j ≡ i + 1 → i < length w → Plain (get_or w i 0) → events base w i ≡ byte (get_or w i 0) ∷ events base w j
plain-event base w i j e h p = (plain-cut w i h base p).is ∙ ap (λ (k : ℕ). byte (get_or w i 0) ∷ events base w k) (sym e)

-- ---- bytes that are decoded as they stand

unfoldable pub plainly : List ℕ → List Event
plainly [] = []
plainly (b ∷ bs) = byte b ∷ plainly bs

plainly-append : (bs cs : List ℕ) → plainly (bs ++ cs) ≡ plainly bs ++ plainly cs
unfolding plainly
plainly-append [] cs = refl
plainly-append (b ∷ bs) cs = ap (λ (es : List Event). byte b ∷ es) (plainly-append bs cs)

plainly-bytes : (bs : List ℕ) → bytes_of (plainly bs) ≡ bs
unfolding plainly bytes_of
plainly-bytes [] = refl
plainly-bytes (b ∷ bs) = ap (λ (l : List ℕ). b ∷ l) (plainly-bytes bs)

-- They emit nothing.
plainly-silent : (bs : List ℕ) → emit_events (plainly bs) ≡ emit_events []
unfolding plainly emit_events
plainly-silent [] = refl
plainly-silent (b ∷ bs) = plainly-silent bs

-- ---- a word of four bytes

abbrev pub word : ℕ → ℕ → ℕ → ℕ → ℕ
word a b c d = a + 256 * (b + 256 * (c + 256 * d))

set-append-add : (xs ys : List ℕ) (k n v : ℕ) → k ≡ length xs + n → set (xs ++ ys) k v ≡ xs ++ set ys n v
set-append-add [] ys k n v e =
    let f : k ≡ n = omega arith in
    rw f
set-append-add (x ∷ xs) ys zero n v e = absurd (omega arith)
set-append-add (x ∷ xs) ys (suc k) n v e = ap (λ (l : List ℕ). x ∷ l) (set-append-add xs ys k n v (omega arith))

module _ (a b c d : ℕ) where
  abbrev quad : List ℕ
  quad = a ∷ b ∷ c ∷ d ∷ []

  packed-four : (bs room : List ℕ) → length bs % 4 ≡ 0 → length bs / 4 < length room → set (packed bs room) (length bs / 4) (word a b c d) ≡ packed (bs ++ quad) room
  unfolding fours
  packed-four bs [] m h = absurd (omega arith)
  packed-four [] (y ∷ room) m h = refl
  packed-four (x ∷ []) (y ∷ room) m h = absurd (omega arith)
  packed-four (x ∷ x₁ ∷ []) (y ∷ room) m h = absurd (omega arith)
  packed-four (x ∷ x₁ ∷ x₂ ∷ []) (y ∷ room) m h = absurd (omega arith)
  packed-four (x ∷ x₁ ∷ x₂ ∷ x₃ ∷ s) (y ∷ room) m h =
      let n = suc (suc (suc (suc (length s)))) in
      let q : n / 4 ≡ suc (length s / 4) = omega arith in
      rw q (ap (λ (l : List ℕ). word x x₁ x₂ x₃ ∷ l) (packed-four s room (omega arith) (omega arith)))

  pub held-four : (lent : List ℕ) (at : ℕ) (bs vs : List ℕ) (n : ℕ) → AreBytes quad → Held lent at bs (Some n) vs → n % 4 ≡ 0 → at + 1 + n / 4 < length vs
      → Held lent at (bs ++ quad) (Some (n + 4)) (set vs (at + 1 + n / 4) (word a b c d))
  held-four lent at bs vs n q k m h =
      let en : n ≡ length bs = k.by.0 in
      let l : length (bs ++ quad) ≡ length bs + 4 = length-append bs quad in
      let front : length (take (at + 1) lent) ≡ at + 1 = length-take-le (at + 1) lent (omega (arith, k.long)) in
      let fit : length bs / 4 < length (drop (at + 1) lent) = omega (arith, k.long, length-drop (at + 1) lent) in
      let place : at + 1 + n / 4 ≡ length (take (at + 1) lent) + length bs / 4 = omega arith in
      record {
        bytes = are-bytes-append bs quad k.bytes q;
        by = (
          omega arith,
          omega (arith, fours-length (bs ++ quad), fit, length-drop (at + 1) lent),
          rw (k.by.2, set-append-add (take (at + 1) lent) (packed bs (drop (at + 1) lent)) (at + 1 + n / 4) (length bs / 4) (word a b c d) place, packed-four bs (drop (at + 1) lent) (omega arith) fit),
        );
        long = length-set vs (at + 1 + n / 4) (word a b c d) ∙ k.long;
      }

-- ---- a stretch from byte `i` up to byte `j` that is bytes of the value, stored

pub record Stretch (base : ℕ) (w : List ℕ) (i j at : ℕ) (c : Option ℕ) (vs : List ℕ) (c' : Option ℕ) (vs' : List ℕ) : Type 0 where
  pub past : List ℕ
  pub left : events base w i ≡ plainly past ++ events base w j
  pub on : i ≤ j
  pub within : j ≤ length w
  pub holds : (lent bs : List ℕ) → Held lent at bs c vs → Held lent at (bs ++ past) c' vs'
  pub long : length vs' ≡ length vs

module _ (base : ℕ) (w : List ℕ) (i at : ℕ) (c : Option ℕ) (vs : List ℕ) where
  pub stretch-none : i ≤ length w → Stretch base w i i at c vs c vs
  unfolding plainly
  stretch-none h = record { past = []; left = refl; on = omega arith; within = h; holds = λ lent bs k. rw append-nil k; long = refl }

  -- A byte, by the piece at byte `j`.
  pub stretch-byte : (j : ℕ) (c₁ : Option ℕ) (vs₁ : List ℕ) → Stretch base w i j at c vs c₁ vs₁ → (e : code.Event) (b next : ℕ) → Cuts base w j e next → e ≡ Byte b
      → (c₂ : Option ℕ) (vs₂ : List ℕ) → PushByte at b c₁ vs₁ c₂ vs₂ → length vs₂ ≡ length vs₁ → Stretch base w i next at c vs c₂ vs₂
  unfolding plainly
  stretch-byte j c₁ vs₁ t e b next k ee c₂ vs₂ p l =
      let cut : Cut base w j (byte b) next = rw ee at k in
      record {
        past = t.past ++ (b ∷ []);
        left = t.left ∙ rw (cut.is, plainly-append, append_assoc);
        on = omega (arith, t.on, cut.on);
        within = cut.within;
        holds = λ lent bs h. rw (← append_assoc) (p.holds lent (bs ++ t.past) (t.holds lent bs h));
        long = l ∙ t.long;
      }

  pub stretch-then : (j : ℕ) (c₁ : Option ℕ) (vs₁ : List ℕ) (k : ℕ) (c₂ : Option ℕ) (vs₂ : List ℕ) → Stretch base w i j at c vs c₁ vs₁ → Stretch base w j k at c₁ vs₁ c₂ vs₂ → Stretch base w i k at c vs c₂ vs₂
  stretch-then j c₁ vs₁ k c₂ vs₂ t u =
      record {
        past = t.past ++ u.past;
        left = t.left ∙ rw (u.left, plainly-append, append_assoc);
        on = omega (arith, t.on, u.on);
        within = u.within;
        holds = λ lent bs h. rw (← append_assoc) (u.holds lent (bs ++ t.past) (t.holds lent bs h));
        long = u.long ∙ t.long;
      }

  -- Four plain bytes from byte `j` on.
  module _ (j n : ℕ) (vs₁ : List ℕ) (t : Stretch base w i j at c vs (Some n) vs₁) (h : j + 4 ≤ length w)
      (q : Quad (get_or w j 0) (get_or w (j + 1) 0) (get_or w (j + 2) 0) (get_or w (j + 3) 0)) where
    abbrev next : List ℕ
    next = get_or w j 0 ∷ get_or w (j + 1) 0 ∷ get_or w (j + 2) 0 ∷ get_or w (j + 3) 0 ∷ []

    next-events : events base w j ≡ plainly next ++ events base w (j + 4)
    unfolding plainly
    next-events =
        plain-event base w j (j + 1) refl (omega arith) q.first
        ∙ ap (λ (es : List Event). byte (get_or w j 0) ∷ es)
        (plain-event base w (j + 1) (j + 2) (omega arith) (omega arith) q.second
        ∙ ap (λ (es : List Event). byte (get_or w (j + 1) 0) ∷ es)
        (plain-event base w (j + 2) (j + 3) (omega arith) (omega arith) q.third
        ∙ ap (λ (es : List Event). byte (get_or w (j + 2) 0) ∷ es) (plain-event base w (j + 3) (j + 4) (omega arith) (omega arith) q.fourth)))

    pub stretch-four : n % 4 ≡ 0 → at + 1 + n / 4 < length vs₁
        → Stretch base w i (j + 4) at c vs (Some (n + 4)) (set vs₁ (at + 1 + n / 4) (word (get_or w j 0) (get_or w (j + 1) 0) (get_or w (j + 2) 0) (get_or w (j + 3) 0)))
    stretch-four m f =
        record {
          past = t.past ++ next;
          left = t.left ∙ rw (next-events, plainly-append, append_assoc);
          on = omega (arith, t.on);
          within = h;
          holds = λ lent bs k.
              rw (← append_assoc) (held-four (get_or w j 0) (get_or w (j + 1) 0) (get_or w (j + 2) 0) (get_or w (j + 3) 0) lent at (bs ++ t.past) vs₁ n
              (q.first.small, (q.second.small, (q.third.small, (q.fourth.small, tt)))) (t.holds lent bs k) m f);
          long = length-set vs₁ (at + 1 + n / 4) (word (get_or w j 0) (get_or w (j + 1) 0) (get_or w (j + 2) 0) (get_or w (j + 3) 0)) ∙ t.long;
        }

  -- The same, by how many words there are, as the code counts them.
  pub stretch-first : i ≤ length w → (n : ℕ) → c ≡ Some n → Stretch base w i (i + 4 * 0) at c vs (Some (n + 4 * 0)) vs
  stretch-first h n ec =
      let e : i + 4 * 0 ≡ i = omega arith in
      let f : n + 4 * 0 ≡ n = omega arith in
      rw (e, f, ← ec) (stretch-none h)

  pub stretch-next : (n k : ℕ) (vs₁ : List ℕ) → Stretch base w i (i + 4 * k) at c vs (Some (n + 4 * k)) vs₁ → i + 4 * k + 4 ≤ length w
      → Quad (get_or w (i + 4 * k) 0) (get_or w (i + 4 * k + 1) 0) (get_or w (i + 4 * k + 2) 0) (get_or w (i + 4 * k + 3) 0) → n % 4 ≡ 0 → at + 1 + n / 4 + k < length vs₁
      → (x : ℕ) → x ≡ word (get_or w (i + 4 * k) 0) (get_or w (i + 4 * k + 1) 0) (get_or w (i + 4 * k + 2) 0) (get_or w (i + 4 * k + 3) 0)
      → Stretch base w i (i + 4 * (k + 1)) at c vs (Some (n + 4 * (k + 1))) (set vs₁ (at + 1 + n / 4 + k) x)
  stretch-next n k vs₁ t h q m f x ex =
      let e : i + 4 * (k + 1) ≡ i + 4 * k + 4 = omega arith in
      let en : n + 4 * (k + 1) ≡ n + 4 * k + 4 = omega arith in
      let ep : at + 1 + n / 4 + k ≡ at + 1 + (n + 4 * k) / 4 = omega arith in
      rw (ex, e, en, ep) (stretch-four (i + 4 * k) (n + 4 * k) vs₁ t h q (omega arith) (omega arith))

-- ---- a stretch as a part of decoding

module _ (at base : ℕ) (w : List ℕ) (i j : ℕ) (c : Option ℕ) (p : Parser) (c' : Option ℕ) (vs' : List ℕ) (t : Stretch base w i j at c p.values.now c' vs') where
  decodes-stretch : Decodes (plainly t.past) at c p c' (lending p vs')
  unfolding emit_events
  decodes-stretch =
      record {
        does = λ lent. rw (plainly-silent t.past) gives;
        holds = λ right lent bs h k. rw (plainly-bytes t.past) (t.holds lent bs k);
      }

  pub decodes-past : (c₂ : Option ℕ) (p₂ : Parser) → Decodes (events base w j) at c' (lending p vs') c₂ p₂ → Decodes (events base w i) at c p c₂ p₂
  decodes-past c₂ p₂ f = rw t.left (decodes-then at c p (plainly t.past) (events base w j) c' (lending p vs') c₂ p₂ decodes-stretch f)

  pub walk-stretch : (total : List Event) (c₀ : Option ℕ) (p₀ : Parser) → Walk at total c₀ p₀ (events base w i) c p
      → Walk at total c₀ p₀ (events base w j) c' (lending p vs')
  walk-stretch total c₀ p₀ k = walk-on at total c₀ p₀ (events base w i) c p k (plainly t.past) (events base w j) c' (lending p vs') t.left decodes-stretch
