-- Bytes packed four to a word, one at a time.
use Rattle.std.specs.Prelude.{◌≡◌, refl, Option, Some, None, List, [], ◌∷◌, ◌++◌, ℕ, suc, ◌+◌, ◌-◌, ◌*◌, ◌/◌, ◌%◌, ◌^◌, ◌≤◌, ◌<◌, length, get_or, set, take, drop}
use Rattle.std.proofs.Common.{sym, ◌∙◌, ap, append-nil, arith, length-append, length-drop, take-append-drop, length-take-le, take_at, drop_at}
use Rattle.std.proofs.Math.Nat.{mod-one}
use Rattle.utf8.specs.Bytes.{AreBytes, are-bytes-append}
use Rattle.literals.specs.Strings.{fours}
use Rattle.words.specs.Parts.{part-whole, part-rest}

pub fours-length : (bs : List ℕ) → length (fours bs) ≡ (length bs + 3) / 4
unfolding fours
fours-length [] = refl
fours-length (a ∷ []) = refl
fours-length (a ∷ b ∷ []) = refl
fours-length (a ∷ b ∷ c ∷ []) = refl
fours-length (a ∷ b ∷ c ∷ d ∷ s) = omega (arith, fours-length s)

-- What the n-th byte of a word counts there.
unfoldable pub unit : ℕ → ℕ
unit n = 256 ^ (n % 4)

-- A word with one byte more.
abbrev pub joined : ℕ → ℕ → ℕ → ℕ
joined n word b = word % unit n + b * unit n

-- Bytes packed in front of words.
abbrev pub packed : List ℕ → List ℕ → List ℕ
packed bs room = fours bs ++ drop (length (fours bs)) room

pub packed_more : (bs room : List ℕ) (b : ℕ) → AreBytes bs → length bs / 4 < length room
    → set (packed bs room) (length bs / 4) (joined (length bs) (get_or (packed bs room) (length bs / 4) 0) b) ≡ packed (bs ++ b ∷ []) room
unfolding fours unit
packed_more bs [] b p h = absurd (omega arith)
packed_more [] (y ∷ room) b p h = ap (λ (x : ℕ). x ∷ room) (rw (mod-one y) (omega arith))
packed_more (a ∷ []) (y ∷ room) b p h = ap (λ (x : ℕ). x ∷ room) (omega arith)
packed_more (a ∷ c ∷ []) (y ∷ room) b p h = ap (λ (x : ℕ). x ∷ room) (omega arith)
packed_more (a ∷ c ∷ d ∷ []) (y ∷ room) b p h = ap (λ (x : ℕ). x ∷ room) (omega arith)
packed_more (a ∷ c ∷ d ∷ e ∷ s) (y ∷ room) b p h =
    let n = suc (suc (suc (suc (length s)))) in
    let q : n / 4 ≡ suc (length s / 4) = omega arith in
    let m : n % 4 ≡ length s % 4 = omega arith in
    rw (q, m) (ap (λ (l : List ℕ). (a + 256 * (c + 256 * (d + 256 * e))) ∷ l) (packed_more s room b p.1.1.1.1 (omega arith)))

pub unit-is : (n k : ℕ) → n % 4 ≡ k → unit n ≡ 256 ^ k
unfolding unit
unit-is n k e = rw e

-- A word with one byte more, by the byte's place.
pub joined_is : (n k word b : ℕ) → n % 4 ≡ k → word % 256 ^ k + b * 256 ^ k ≡ joined n word b
joined_is n k word b e = rw (unit-is n k e)

pub joined-first : (n word b : ℕ) → n % 4 ≡ 0 → b ≡ joined n word b
joined-first n word b e = rw (unit-is n 0 e, mod-one) (omega arith)

-- One byte more in front of words.
abbrev pub PutByte : List ℕ → ℕ → ℕ → Option ℕ → List ℕ → Type 0
PutByte room n b (Some m) room' = (m ≡ n + 1) × (n / 4 < length room) × (room' ≡ set room (n / 4) (joined n (get_or room (n / 4) 0) b))
PutByte room n b None room' = length room ≤ n / 4

-- The bytes of a string so far: how many, or that they don't fit; they stand behind the place of the first word, which is at `at`.
abbrev pub HeldBy : List ℕ → ℕ → List ℕ → Option ℕ → List ℕ → Type 0
HeldBy lent at bs (Some n) vs = (n ≡ length bs) × (length (fours bs) ≤ length lent - (at + 1)) × (vs ≡ take (at + 1) lent ++ packed bs (drop (at + 1) lent))
HeldBy lent at bs None vs = length lent - (at + 1) < length (fours bs)

pub record Held (lent : List ℕ) (at : ℕ) (bs : List ℕ) (c : Option ℕ) (vs : List ℕ) : Type 0 where
  pub bytes : AreBytes bs
  pub by : HeldBy lent at bs c vs
  pub long : length vs ≡ length lent

pub held_first : (lent : List ℕ) (at : ℕ) → Held lent at [] (Some 0) lent
unfolding fours
held_first lent at = record { bytes = tt; by = (refl, omega arith, sym (take-append-drop (at + 1) lent)); long = refl }

module _ (lent : List ℕ) (at : ℕ) (bs : List ℕ) (b : ℕ) (hb : b < 256) where
  -- One byte more takes at least as many words.
  longer : length (fours (bs ++ b ∷ [])) ≡ length bs / 4 + 1
  longer = fours-length (bs ++ b ∷ []) ∙ omega (arith, length-append bs (b ∷ []))

  module _ (vs vs' : List ℕ) (l : length vs' ≡ length vs) where
    pub held-still : Held lent at bs None vs → Held lent at (bs ++ b ∷ []) None vs'
    held-still k = record { bytes = are-bytes-append bs (b ∷ []) k.bytes (hb, tt); by = omega (arith, k.by, longer, fours-length bs); long = l ∙ k.long }

    module _ (n : ℕ) (k : Held lent at bs (Some n) vs) where
      pub held_none : length vs ≤ at → Held lent at (bs ++ b ∷ []) None vs'
      held_none h = record { bytes = are-bytes-append bs (b ∷ []) k.bytes (hb, tt); by = omega (arith, k.long, longer); long = l ∙ k.long }

      module _ (h : at < length vs) (c : Option ℕ) (room' : List ℕ) (p : PutByte (take (length vs - (at + 1)) (drop (at + 1) vs)) n b c room')
          (e : vs' ≡ take (at + 1) vs ++ (room' ++ drop (length vs - (at + 1)) (drop (at + 1) vs))) where
        front : length (take (at + 1) lent) ≡ at + 1
        front = length-take-le (at + 1) lent (omega (arith, k.long))

        room : take (length vs - (at + 1)) (drop (at + 1) vs) ≡ packed bs (drop (at + 1) lent)
        room = part-whole (at + 1) vs ∙ (ap (drop (at + 1)) k.by.2 ∙ drop_at (take (at + 1) lent) (packed bs (drop (at + 1) lent)) (at + 1) front)

        kept : vs' ≡ take (at + 1) lent ++ room'
        kept = e ∙ (rw (part-rest (at + 1) vs, append-nil) (ap (λ (x : List ℕ). x ++ room') (ap (take (at + 1)) k.by.2 ∙ take_at (take (at + 1) lent) (packed bs (drop (at + 1) lent)) (at + 1) front)))

        room-long : length (take (length vs - (at + 1)) (drop (at + 1) vs)) ≡ length lent - (at + 1)
        room-long = ap length (part-whole (at + 1) vs) ∙ (length-drop (at + 1) vs ∙ (rw k.long))

        step : (r : Option ℕ) → PutByte (take (length vs - (at + 1)) (drop (at + 1) vs)) n b r room' → HeldBy lent at (bs ++ b ∷ []) r vs'
        step None q = omega (arith, q, room-long, longer, k.by.0)
        step (Some m) q =
            let en : n ≡ length bs = k.by.0 in
            let fit : length bs / 4 < length (drop (at + 1) lent) = omega (arith, q.1, room-long, en, length-drop (at + 1) lent) in (
              omega (arith, q.0, length-append bs (b ∷ [])),
              omega (arith, longer, fit, length-drop (at + 1) lent),
              kept ∙ ap (λ (x : List ℕ). take (at + 1) lent ++ x) (q.2 ∙ rw (room, en) (packed_more bs (drop (at + 1) lent) b k.bytes fit)),
            )

        pub held_more : Held lent at (bs ++ b ∷ []) c vs'
        held_more = record { bytes = are-bytes-append bs (b ∷ []) k.bytes (hb, tt); by = step c p; long = l ∙ k.long }

-- What pushing a byte does, whatever was held.
pub record PushByte (at b : ℕ) (c : Option ℕ) (vs : List ℕ) (c' : Option ℕ) (vs' : List ℕ) : Type 0 where
  pub holds : (lent bs : List ℕ) → Held lent at bs c vs → Held lent at (bs ++ b ∷ []) c' vs'

module _ (at b : ℕ) (hb : b < 256) (vs vs' : List ℕ) (l : length vs' ≡ length vs) (c : Option ℕ) where
  pub push-still : c ≡ None → PushByte at b c vs None vs'
  push-still e = record { holds = λ lent bs k. held-still lent at bs b hb vs vs' l (rw e at k) }

  module _ (n : ℕ) (e : c ≡ Some n) where
    pub push-none : length vs ≤ at → PushByte at b c vs None vs'
    push-none h = record { holds = λ lent bs k. held_none lent at bs b hb vs vs' l n (rw e at k) h }

    pub push-put : at < length vs → (r : Option ℕ) (room' : List ℕ) → PutByte (take (length vs - (at + 1)) (drop (at + 1) vs)) n b r room'
        → vs' ≡ take (at + 1) vs ++ (room' ++ drop (length vs - (at + 1)) (drop (at + 1) vs)) → PushByte at b c vs r vs'
    push-put h r room' p f = record { holds = λ lent bs k. held_more lent at bs b hb vs vs' l n (rw e at k) h r room' p f }
