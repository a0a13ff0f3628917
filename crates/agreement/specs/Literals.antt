-- Laws of names, numbers, strings and heads of nodes, as both parsers store them.
use Rattle.std.specs.Prelude.{◌≡◌, Bool, true, cond, ◌&&◌, ◌||◌, eqb, leb, length, get_or, take, drop}
use Rattle.std.proofs.Math.Path.{refl}
use Rattle.std.proofs.Common.{sym, ◌∙◌, ap, ap₂, true≢false, zero-add, mul-le-mul_left, eqb-true, eq-eqb, leb-true, length-take, length-drop}
use Rattle.std.proofs.Math.Bool.{false}
use Rattle.std.proofs.lemmas.Bool.{false≢true, eqb-false}
use Rattle.std.proofs.Math.Option.{Option, none, some}
use mathlib.Core.List.{List, [], ◌∷◌, ◌++◌}
use Prim.Native.Nat.{ℕ, zero, suc, ◌+◌, ◌-◌, ◌*◌, ◌/◌, ◌%◌, ◌^◌, ◌<◌, ◌≤◌}
use native.Mathlib.Omega.{arith}
use Rattle.std.proofs.Math.Nat.{add-zero}
use Rattle.std.proofs.Math.Seq.{slice}
use Rattle.words.specs.Report
use Rattle.words.specs.Words.{token_kind, token_end, node_head, node_kind, node_payload}
use Rattle.words.specs.Laws.{high-pack, low-pack}
use Rattle.utf8.specs.Utf8.{character_at}
use Rattle.utf8.specs.declared.Character.{Character}
use Rattle.std.specs.Prelude.{Some, None}
use Rattle.std.specs.declared.option.Option as Optional
use Rattle.literals.specs.declared.Span.{Span}
use Rattle.literals.specs.Spelling.{span, word_at, token_start, covered, spelling, alike, first_from, first_alike}
use Rattle.literals.specs.Numbers.{nibble, digits, limb_base, limbs_within, limbs, number_value}
use Rattle.literals.specs.Strings.{Event, byte, report, bytes_of, Char, char, characters_from, Piece, piece, between, end_after, escape, two_digits, escaped, decoded_from, decode_string, bad_digit, is_bad, digit_or0, hex_from, decode_hex, fours, string_value}
use Rattle.definition.specs.Quiet.{word-inside}
use Rattle.chart.specs.Tree.{quiet}
use Rattle.utf8.specs.Bytes.{AreBytes, are-bytes-drop, are-bytes-take}

-- ---- heads of nodes

-- A head gives back the kind and the payload that were packed into it.
pub head-parts : (k p : ℕ) → k < 2 ^ 6 → p < 2 ^ 26 → (node_kind (node_head k p) ≡ k) × (node_payload (node_head k p) ≡ p)
head-parts k p h g = (high-pack 26 k p h, low-pack 26 k p g)

-- ---- names

alike_same : (s : List ℕ) → alike s s ≡ true
unfolding alike
alike_same [] = refl
alike_same (b ∷ s) = rw (eq-eqb b b refl, alike_same s)

both : (a b : Bool) → (a && b) ≡ true → (a ≡ true) × (b ≡ true)
both true b e = (refl, e)
both false b e = absurd (false≢true e)

alike-equal : (s t : List ℕ) → alike s t ≡ true → s ≡ t
unfolding alike
alike-equal [] [] e = refl
alike-equal [] (b ∷ t) e = absurd (false≢true e)
alike-equal (a ∷ s) [] e = absurd (false≢true e)
alike-equal (a ∷ s) (b ∷ t) e =
    let (h, g) = both (eqb a b) (alike s t) e in
    ap₂ (λ (x : ℕ) (y : List ℕ). x ∷ y) (eqb-true a b h) (alike-equal s t g)

module _ (text tokens : List ℕ) (kind : ℕ) where
  -- A token of the kind that is spelled as a name is.
  pub record Named (name : List ℕ) (i : ℕ) : Type 0 where
    pub inside : i < length tokens
    pub kinds : token_kind (word_at tokens i) ≡ kind
    pub spelled : spelling text tokens i ≡ name

  first-named : (name : List ℕ) (i : ℕ) (ws : List ℕ) (n : ℕ) → ((j : ℕ) → j < length ws → word_at tokens (n + j) ≡ get_or ws j 0) → n + length ws ≡ length tokens → n ≤ i → Named name i
      → Named name (first_from text kind name n (token_start tokens n) ws)
  unfolding first_from token_start
  first-named name i [] n h l g q = absurd (omega (arith, q.inside))
  first-named name i (w ∷ ws) n h l g q =
      let first : word_at tokens n ≡ w = rw add-zero at (h 0 (omega arith)) in
      rw (← first)
      (go (eqb (token_kind (word_at tokens n)) kind && alike (spelling text tokens n) name) refl
      (first-named name i ws (suc n) (λ j m. let e : suc n + j ≡ n + suc j = omega arith in rw e (h (suc j) (omega arith))) (omega arith)))
    where
      next : n + 1 ≡ suc n
      next = omega arith

      later : eqb (token_kind (word_at tokens n)) kind && alike (spelling text tokens n) name ≡ false → suc n ≤ i
      later e = less (eqb n i) refl
        where
          less : (b : Bool) → eqb n i ≡ b → suc n ≤ i
          less true f =
              let z : n ≡ i = eqb-true n i f in
              absurd (true≢false (sym (rw (z, q.kinds, q.spelled, eq-eqb kind kind refl, alike_same name) refl) ∙ e))
          less false f = omega (arith, eqb-false n i f)

      go : (b : Bool) → eqb (token_kind (word_at tokens n)) kind && alike (spelling text tokens n) name ≡ b
          → (suc n ≤ i → Named name i → Named name (first_from text kind name (suc n) (token_end (word_at tokens n)) ws))
          → Named name (elim b [ true ↦ n | false ↦ first_from text kind name (n + 1) (token_end (word_at tokens n)) ws ])
      go true e ih =
          let (a, b) = both (eqb (token_kind (word_at tokens n)) kind) (alike (spelling text tokens n) name) e in
          record { inside = omega arith; kinds = eqb-true (token_kind (word_at tokens n)) kind a; spelled = alike-equal (spelling text tokens n) name b }
      go false e ih = rw next (ih (later e) q)

-- The first token that is spelled as another is there, is of its kind, and is spelled so.
pub first_alike-named : (text tokens : List ℕ) (kind i : ℕ) → i < length tokens → token_kind (word_at tokens i) ≡ kind → Named text tokens kind (spelling text tokens i) (first_alike text tokens kind i)
unfolding token_start
first_alike-named text tokens kind i h e =
    first-named text tokens kind (spelling text tokens i) i tokens 0 (λ j l. rw (zero-add j) (sym (word-inside tokens j l))) (omega arith) (omega arith) (record { inside = h; kinds = e; spelled = refl })

-- ---- numbers

-- A digit is below 16.
nibble-small : (c d : ℕ) → nibble c ≡ some d → d < 16
unfolding nibble
nibble-small c d = go (leb 48 c && leb c 57) (leb 65 c && leb c 70) (leb 97 c && leb c 102) refl refl refl
  where
    go : (x y z : Bool) → (leb 48 c && leb c 57) ≡ x → (leb 65 c && leb c 70) ≡ y → (leb 97 c && leb c 102) ≡ z
        → cond x (some (c - 48)) (cond y (some (c - 65 + 10)) (cond z (some (c - 97 + 10)) none)) ≡ some d → d < 16
    go true y z p q r e = let v : c - 48 ≡ d = cc in omega (arith, leb-true c 57 (both (leb 48 c) (leb c 57) p).1)
    go false true z p q r e = let v : c - 65 + 10 ≡ d = cc in omega (arith, leb-true c 70 (both (leb 65 c) (leb c 70) q).1)
    go false false true p q r e = let v : c - 97 + 10 ≡ d = cc in omega (arith, leb-true c 102 (both (leb 97 c) (leb c 102) r).1)
    go false false false p q r e = absurd (let z : ◌≡◌ {A = ℕ} 0 1 = cc in omega arith)

limbs-none : (b n : ℕ) → n ≡ 0 → limbs_within b n ≡ []
unfolding limbs_within
limbs-none zero n e = refl
limbs-none (suc b) n e = rw (eq-eqb n 0 e, limbs_within)

-- A number has at most one limb more than one that is less than a limb below it.
limb-more : (b c m n : ℕ) → m < limb_base * suc n → n ≤ c → length (limbs_within b m) ≤ suc (length (limbs_within c n))
unfolding limbs_within
limb-more zero c m n h g = omega arith
limb-more (suc b) zero m n h g = go (eqb m 0)
  where
    go : (t : Bool) → length {A = ℕ} (elim t [ true ↦ [] | false ↦ m % limb_base ∷ limbs_within b (m / limb_base) ]) ≤ 1
    go true = omega arith
    go false = rw (limbs-none b (m / limb_base) (omega arith)) (omega arith)
limb-more (suc b) (suc c) m n h g = go (eqb m 0) (eqb n 0) refl (limb-more b c (m / limb_base) (n / limb_base))
  where
    go : (t u : Bool) → eqb n 0 ≡ u → (m / limb_base < limb_base * suc (n / limb_base) → n / limb_base ≤ c → length (limbs_within b (m / limb_base)) ≤ suc (length (limbs_within c (n / limb_base))))
        → length {A = ℕ} (elim t [ true ↦ [] | false ↦ m % limb_base ∷ limbs_within b (m / limb_base) ]) ≤ suc (length {A = ℕ} (elim u [ true ↦ [] | false ↦ n % limb_base ∷ limbs_within c (n / limb_base) ]))
    go true u e ih = omega arith
    go false true e ih = let z : n ≡ 0 = eqb-true n 0 e in rw (limbs-none b (m / limb_base) (omega arith)) (omega arith)
    go false false e ih = let z = eqb-false n 0 e in omega (arith, ih (omega arith) (omega arith))

digit-limbs : (radix n d : ℕ) → radix ≤ 16 → d < 16 → length (limbs (n * radix + d)) ≤ suc (length (limbs n))
digit-limbs radix n d h g = limb-more (n * radix + d) n (n * radix + d) n (omega (arith, mul-le-mul_left n h)) (omega arith)

digits-limbs : (radix n : ℕ) (s : List ℕ) → radix ≤ 16 → length (limbs (digits radix n s)) ≤ length (limbs n) + length s
unfolding digits
digits-limbs radix n [] h = omega arith
digits-limbs radix n (b ∷ s) h = go (nibble b) refl (λ m. digits-limbs radix m s h)
  where
    go : (o : Option ℕ) → nibble b ≡ o → ((m : ℕ) → length (limbs (digits radix m s)) ≤ length (limbs m) + length s)
        → length (limbs (elim o [ some d ↦ digits radix (n * radix + d) s | none ↦ digits radix n s ])) ≤ length (limbs n) + suc (length s)
    go (some d) e ih = omega (arith, ih (n * radix + d), digit-limbs radix n d h (nibble-small b d e))
    go none e ih = omega (arith, ih n)

-- A number takes no more words than one, and one for each character of its spelling.
pub number-few : (radix prefix : ℕ) (s : List ℕ) → radix ≤ 16 → length (number_value (digits radix 0 (drop prefix s))) ≤ suc (length s)
unfolding number_value
number-few radix prefix s h =
    let z : length (limbs 0) ≡ 0 = ap length (limbs-none 0 0 refl) in
    omega (arith, digits-limbs radix 0 (drop prefix s) h, length-drop prefix s)

-- ---- strings

-- The same characters, one list of them counted from `a`, the other from `b`.
data Same (a b : ℕ) : List Char → List Char → Type 0 where
  none-same : Same a b [] []
  one_same : {c d : Char} {cs ds : List Char} → c.code ≡ d.code → c.place.end + b ≡ d.place.end + a → Same a b cs ds → Same a b (c ∷ cs) (d ∷ ds)

one_on : (a n : ℕ) → a + n + 1 ≡ a + (n + 1)
one_on a n = omega arith

characters-same : (a b n skip : ℕ) (s : List ℕ) → Same a b (characters_from (a + n) skip s) (characters_from (b + n) skip s)
unfolding characters_from
characters-same a b n skip [] = none-same
characters-same a b n (suc skip) (x ∷ s) = rw (one_on a n, one_on b n) (characters-same a b (n + 1) skip s)
characters-same a b n zero (x ∷ s) = go (character_at (x ∷ s)) (λ k. rw (one_on a n, one_on b n) (characters-same a b (n + 1) k s))
  where
    go : (c : Optional.Option Character) → ((k : ℕ) → Same a b (characters_from (a + n + 1) k s) (characters_from (b + n + 1) k s))
        → Same a b (elim c [ Some c ↦ char c.code_point (a + n) (a + n + c.length) ∷ characters_from (a + n + 1) (c.length - 1) s | None ↦ char x (a + n) (a + n + 1) ∷ characters_from (a + n + 1) 0 s ])
        (elim c [ Some c ↦ char c.code_point (b + n) (b + n + c.length) ∷ characters_from (b + n + 1) (c.length - 1) s | None ↦ char x (b + n) (b + n + 1) ∷ characters_from (b + n + 1) 0 s ])
    go (Some c) ih = one_same {c = char c.code_point (a + n) (a + n + c.length)} {d = char c.code_point (b + n) (b + n + c.length)} refl (omega arith) (ih (c.length - 1))
    go None ih = one_same {c = char x (a + n) (a + n + 1)} {d = char x (b + n) (b + n + 1)} refl (omega arith) (ih 0)

-- The same byte, or two reports.
data Like : Event → Event → Type 0 where
  both_bytes : {b : ℕ} → Like (byte b) (byte b)
  both-reports : {k d l e : ℕ} {p q : Span} → Like (report k d p) (report l e q)

data Likes : List Event → List Event → Type 0 where
  none-like : Likes [] []
  one-like : {x y : Event} {xs ys : List Event} → Like x y → Likes xs ys → Likes (x ∷ xs) (y ∷ ys)

likes-append : {xs ys us vs : List Event} → Likes xs ys → Likes us vs → Likes (xs ++ us) (ys ++ vs)
likes-append none-like m = m
likes-append (one-like x l) m = one-like x (likes-append l m)

bytes-like : {xs ys : List Event} → Likes xs ys → bytes_of xs ≡ bytes_of ys
unfolding bytes_of
bytes-like none-like = refl
bytes-like (one-like (both_bytes {b}) l) = ap (λ (s : List ℕ). b ∷ s) (bytes-like l)
bytes-like (one-like both-reports l) = bytes-like l

quiet-like : {xs ys : List Event} → Likes xs ys → quiet xs ≡ quiet ys
unfolding quiet
quiet-like none-like = refl
quiet-like (one-like both_bytes l) = quiet-like l
quiet-like (one-like both-reports l) = refl

record Agree (a b : ℕ) (p q : Piece) : Type 0 where
  ends : p.end + b ≡ q.end + a
  events : Like p.event q.event

digits_same : {a b : ℕ} {cs ds : List Char} → Same a b cs ds → two_digits cs ≡ two_digits ds
unfolding two_digits
digits_same none-same = refl
digits_same (one_same e p none-same) = refl
digits_same (one_same e p (one_same f q s)) = rw (e, f) refl

ends_same : {a b : ℕ} (n x y : ℕ) {cs ds : List Char} → x + b ≡ y + a → Same a b cs ds → end_after x n cs + b ≡ end_after y n ds + a
unfolding end_after
ends_same zero x y h s = h
ends_same (suc n) x y h none-same = h
ends_same (suc n) x y h (one_same e p s) = ends_same n _ _ p s

escaped-same : (a b : ℕ) {cs ds : List Char} → Same a b cs ds → Agree a b (escaped a cs) (escaped b ds)
unfolding escaped
escaped-same a b none-same = record { ends = omega arith; events = both-reports }
escaped-same a b (one_same {c = e} {d = f} {cs} {ds} q p s) = rw q (go (escape f.code) (eqb f.code 120) (two_digits cs) (two_digits ds) (digits_same s))
  where
    m : ℕ
    m = end_after e.place.end 2 cs

    n : ℕ
    n = end_after f.place.end 2 ds

    g : m + b ≡ n + a
    g = ends_same 2 e.place.end f.place.end p s

    go : (o : Option ℕ) (x : Bool) (t u : Option ℕ) → t ≡ u
        → Agree a b (elim o [ some b ↦ piece (byte b) e.place.end | none ↦ elim x [ true ↦ elim t [ some b ↦ piece (byte b) m | none ↦ piece (report Report.BadHexEscape 0 (span a m)) m ] | false ↦ piece (report Report.UnknownEscape f.code (span a e.place.end)) e.place.end ] ])
        (elim o [ some b ↦ piece (byte b) f.place.end | none ↦ elim x [ true ↦ elim u [ some b ↦ piece (byte b) n | none ↦ piece (report Report.BadHexEscape 0 (span b n)) n ] | false ↦ piece (report Report.UnknownEscape f.code (span b f.place.end)) f.place.end ] ])
    go (some c) x t u h = record { ends = p; events = both_bytes }
    go none true (some c) (some d) h = let z : c ≡ d = cc in rw z (record { ends = g; events = both_bytes })
    go none true (some c) none h = absurd (let z : ◌≡◌ {A = ℕ} 0 1 = cc in omega arith)
    go none true none (some d) h = absurd (let z : ◌≡◌ {A = ℕ} 0 1 = cc in omega arith)
    go none true none none h = record { ends = g; events = both-reports }
    go none false t u h = record { ends = p; events = both-reports }

decoded-same : (a b taken : ℕ) (s : List ℕ) → Likes (decoded_from a taken s) (decoded_from b taken s)
unfolding decoded_from
decoded-same a b taken [] = none-like
decoded-same a b (suc taken) (x ∷ s) = decoded-same (a + 1) (b + 1) taken s
decoded-same a b zero (x ∷ s) = go (eqb x 92) (λ taken. decoded-same (a + 1) (b + 1) taken s)
  where
    l : List Char
    l = characters_from (a + 1) 0 s

    r : List Char
    r = characters_from (b + 1) 0 s

    g : Agree a b (escaped a l) (escaped b r)
    g = escaped-same a b (characters-same a b 1 0 s)

    e : (escaped a l).end - (a + 1) ≡ (escaped b r).end - (b + 1)
    e = omega (arith, g.ends)

    go : (t : Bool) → ((taken : ℕ) → Likes (decoded_from (a + 1) taken s) (decoded_from (b + 1) taken s))
        → Likes (cond t ((escaped a l).event ∷ decoded_from (a + 1) ((escaped a l).end - (a + 1)) s) (byte x ∷ decoded_from (a + 1) 0 s))
        (cond t ((escaped b r).event ∷ decoded_from (b + 1) ((escaped b r).end - (b + 1)) s) (byte x ∷ decoded_from (b + 1) 0 s))
    go true ih =
        let m : Likes (decoded_from (a + 1) ((escaped a l).end - (a + 1)) s) (decoded_from (b + 1) ((escaped b r).end - (b + 1)) s) = rw e (ih ((escaped b r).end - (b + 1))) in
        one-like g.events m
    go false ih = one-like both_bytes (ih 0)

bad-same : (already : Bool) (c d : Char) → c.code ≡ d.code → Likes (bad_digit already c) (bad_digit already d)
unfolding bad_digit
bad-same already c d e = rw e (go (nibble d.code) already)
  where
    go : (o : Option ℕ) (b : Bool)
        → Likes (elim o [ some x ↦ [] | none ↦ cond b [] (report Report.NonHexDigit d.code c.place ∷ []) ]) (elim o [ some x ↦ [] | none ↦ cond b [] (report Report.NonHexDigit d.code d.place ∷ []) ])
    go (some x) b = none-like
    go none true = none-like
    go none false = one-like both-reports none-like

is-bad-same : (c d : Char) → c.code ≡ d.code → is_bad c ≡ is_bad d
unfolding is_bad
is-bad-same c d e = rw e refl

digit-same : (c d : Char) → c.code ≡ d.code → digit_or0 c ≡ digit_or0 d
unfolding digit_or0
digit-same c d e = rw e refl

hex-same : {a b : ℕ} (p q : Span) (already : Bool) {cs ds : List Char} → Same a b cs ds → Likes (hex_from p already cs) (hex_from q already ds)
unfolding hex_from
hex-same p q already none-same = none-like
hex-same p q already (one_same {c} {d} e g none-same) = likes-append (bad-same already c d e) (one-like both-reports none-like)
hex-same p q already (one_same {c} {d} e g (one_same {c = x} {d = y} f h s)) =
    rw (is-bad-same c d e, is-bad-same x y f, digit-same c d e, digit-same x y f)
    (likes-append (bad-same already c d e) (likes-append (bad-same _ x y f) (one-like both_bytes (hex-same p q (already || is_bad d || is_bad y) s))))

module _ (p q : Span) (s : List ℕ) where
  string-like : Likes (decode_string p s) (decode_string q s)
  unfolding decode_string
  string-like = decoded-same (p.start + 1) (q.start + 1) 0 (between 1 s)

  hex-like : Likes (decode_hex p s) (decode_hex q s)
  unfolding decode_hex
  hex-like = hex-same p q false (characters-same p.start q.start 4 0 (between 4 s))

  -- What a token decodes to, and whether it does without a report, does not depend on its place.
  pub string-bytes-same : bytes_of (decode_string p s) ≡ bytes_of (decode_string q s)
  string-bytes-same = bytes-like string-like

  pub string-quiet-same : quiet (decode_string p s) ≡ quiet (decode_string q s)
  string-quiet-same = quiet-like string-like

  pub hex-bytes-same : bytes_of (decode_hex p s) ≡ bytes_of (decode_hex q s)
  hex-bytes-same = bytes-like hex-like

  pub hex-quiet-same : quiet (decode_hex p s) ≡ quiet (decode_hex q s)
  hex-quiet-same = quiet-like hex-like

-- There are no more characters than bytes.
characters-few : (at skip : ℕ) (s : List ℕ) → length (characters_from at skip s) ≤ length s
unfolding characters_from
characters-few at skip [] = omega arith
characters-few at (suc skip) (b ∷ s) = omega (arith, characters-few (at + 1) skip s)
characters-few at zero (b ∷ s) = go (character_at (b ∷ s)) (λ k. characters-few (at + 1) k s)
  where
    go : (c : Optional.Option Character) → ((k : ℕ) → length (characters_from (at + 1) k s) ≤ length s)
        → length {A = Char} (elim c [ Some c ↦ char c.code_point at (at + c.length) ∷ characters_from (at + 1) (c.length - 1) s | None ↦ char b at (at + 1) ∷ characters_from (at + 1) 0 s ]) ≤ suc (length s)
    go (Some c) ih = omega (arith, ih (c.length - 1))
    go None ih = omega (arith, ih 0)

between-few : (opening : ℕ) (s : List ℕ) → length (between opening s) ≤ length s
between-few opening s = omega (arith, length-take (length s - (opening + 1)) (drop opening s), length-drop opening s)

decoded-few : (at taken : ℕ) (s : List ℕ) → length (bytes_of (decoded_from at taken s)) ≤ length s
unfolding decoded_from bytes_of
decoded-few at taken [] = omega arith
decoded-few at (suc taken) (b ∷ s) = omega (arith, decoded-few (at + 1) taken s)
decoded-few at zero (b ∷ s) = go (eqb b 92) (escaped at (characters_from (at + 1) 0 s)).event (λ taken. decoded-few (at + 1) taken s)
  where
    k : ℕ
    k = (escaped at (characters_from (at + 1) 0 s)).end - (at + 1)

    go : (t : Bool) (e : Event) → ((taken : ℕ) → length (bytes_of (decoded_from (at + 1) taken s)) ≤ length s)
        → length (bytes_of (cond t (e ∷ decoded_from (at + 1) k s) (byte b ∷ decoded_from (at + 1) 0 s))) ≤ suc (length s)
    go true (byte c) ih = omega (arith, ih k)
    go true (report c d p) ih = omega (arith, ih k)
    go false e ih = omega (arith, ih 0)

bytes-append : (xs ys : List Event) → bytes_of (xs ++ ys) ≡ bytes_of xs ++ bytes_of ys
unfolding bytes_of
bytes-append [] ys = refl
bytes-append (byte b ∷ xs) ys = ap (λ (s : List ℕ). b ∷ s) (bytes-append xs ys)
bytes-append (report k d p ∷ xs) ys = bytes-append xs ys

bad-none : (already : Bool) (c : Char) → bytes_of (bad_digit already c) ≡ []
unfolding bad_digit bytes_of
bad-none already c = go (nibble c.code) already
  where
    go : (o : Option ℕ) (b : Bool) → bytes_of (elim o [ some d ↦ [] | none ↦ cond b [] (report Report.NonHexDigit c.code c.place ∷ []) ]) ≡ []
    go (some d) b = refl
    go none true = refl
    go none false = refl

hex-one : (p : Span) (already : Bool) (c : Char) → bytes_of (hex_from p already (c ∷ [])) ≡ []
unfolding hex_from bytes_of
hex-one p already c = rw (bytes-append (bad_digit already c) (report Report.OddDigits 0 p ∷ []), bad-none already c)

hex-two : (p : Span) (already : Bool) (c d : Char) (cs : List Char)
    → bytes_of (hex_from p already (c ∷ d ∷ cs)) ≡ (16 * digit_or0 c + digit_or0 d) ∷ bytes_of (hex_from p (already || is_bad c || is_bad d) cs)
unfolding hex_from bytes_of
hex-two p already c d cs =
    let last = byte (16 * digit_or0 c + digit_or0 d) ∷ hex_from p (already || is_bad c || is_bad d) cs in
    let mid = bad_digit (already || is_bad c) d ++ last in
    bytes-append (bad_digit already c) mid ∙ rw (bad-none already c) (bytes-append (bad_digit (already || is_bad c) d) last ∙ rw (bad-none (already || is_bad c) d))

hex-few : (p : Span) (already : Bool) (cs : List Char) → length (bytes_of (hex_from p already cs)) ≤ length cs
hex-few p already [] = unfold hex_from bytes_of in (omega arith)
hex-few p already (c ∷ []) = rw (hex-one p already c) (omega arith)
hex-few p already (c ∷ d ∷ cs) = rw (hex-two p already c d cs) (omega (arith, hex-few p (already || is_bad c || is_bad d) cs))

-- A token gives no more bytes than its spelling has.
pub string-few : (p : Span) (s : List ℕ) → length (bytes_of (decode_string p s)) ≤ length s
unfolding decode_string
string-few p s = omega (arith, decoded-few (p.start + 1) 0 (between 1 s), between-few 1 s)

pub hex-string-few : (p : Span) (s : List ℕ) → length (bytes_of (decode_hex p s)) ≤ length s
unfolding decode_hex
hex-string-few p s = omega (arith, hex-few p false (characters_from (p.start + 4) 0 (between 4 s)), characters-few (p.start + 4) 0 (between 4 s), between-few 4 s)

-- An event that is no report is a byte.
abbrev IsByte : Event → Type 0
IsByte (byte b) = b < 256
IsByte (report k d p) = Unit {0}

escape-small : (c b : ℕ) → escape c ≡ some b → b < 256
unfolding escape
escape-small c b = go (eqb c 110) (eqb c 114) (eqb c 116) (eqb c 48) (eqb c 92) (eqb c 34)
  where
    go : (t u v w x y : Bool) → cond t (some 10) (cond u (some 13) (cond v (some 9) (cond w (some 0) (cond x (some 92) (cond y (some 34) none))))) ≡ some b → b < 256
    go true u v w x y e = let z : 10 ≡ b = cc in omega arith
    go false true v w x y e = let z : 13 ≡ b = cc in omega arith
    go false false true w x y e = let z : 9 ≡ b = cc in omega arith
    go false false false true x y e = let z : 0 ≡ b = cc in omega arith
    go false false false false true y e = let z : 92 ≡ b = cc in omega arith
    go false false false false false true e = let z : 34 ≡ b = cc in omega arith
    go false false false false false false e = absurd (let z : ◌≡◌ {A = ℕ} 0 1 = cc in omega arith)

two-small : (cs : List Char) (b : ℕ) → two_digits cs ≡ some b → b < 256
unfolding two_digits
two-small [] b e = absurd (let z : ◌≡◌ {A = ℕ} 0 1 = cc in omega arith)
two-small (d ∷ []) b e = absurd (let z : ◌≡◌ {A = ℕ} 0 1 = cc in omega arith)
two-small (d ∷ e ∷ cs) b q = go (nibble d.code) (nibble e.code) refl refl q
  where
    go : (x y : Option ℕ) → nibble d.code ≡ x → nibble e.code ≡ y → (elim x [ some h ↦ elim y [ some l ↦ some (16 * h + l) | none ↦ none ] | none ↦ none ]) ≡ some b → b < 256
    go (some h) (some l) f g q = let z : 16 * h + l ≡ b = cc in omega (arith, nibble-small d.code h f, nibble-small e.code l g)
    go (some h) none f g q = absurd (let z : ◌≡◌ {A = ℕ} 0 1 = cc in omega arith)
    go none y f g q = absurd (let z : ◌≡◌ {A = ℕ} 0 1 = cc in omega arith)

abbrev MakesByte : Piece → Type 0
MakesByte p = IsByte p.event

escaped-byte : (at : ℕ) (cs : List Char) → MakesByte (escaped at cs)
unfolding escaped
escaped-byte at [] = tt
escaped-byte at (e ∷ cs) = go (escape e.code) (eqb e.code 120) (two_digits cs) refl refl
  where
    one : ℕ
    one = e.place.end

    three : ℕ
    three = end_after one 2 cs

    go : (o : Option ℕ) (x : Bool) (t : Option ℕ) → escape e.code ≡ o → two_digits cs ≡ t
        → MakesByte (elim o [ some b ↦ piece (byte b) one | none ↦ elim x [ true ↦ elim t [ some b ↦ piece (byte b) three | none ↦ piece (report Report.BadHexEscape 0 (span at three)) three ] | false ↦ piece (report Report.UnknownEscape e.code (span at one)) one ] ])
    go (some b) x t f g = escape-small e.code b f
    go none true (some b) f g = two-small cs b g
    go none true none f g = tt
    go none false t f g = tt

decoded-bytes : (at taken : ℕ) (s : List ℕ) → AreBytes s → AreBytes (bytes_of (decoded_from at taken s))
unfolding decoded_from bytes_of
decoded-bytes at taken [] h = tt
decoded-bytes at (suc taken) (b ∷ s) h = decoded-bytes (at + 1) taken s h.1
decoded-bytes at zero (b ∷ s) h = go (eqb b 92) (escaped at (characters_from (at + 1) 0 s)).event (escaped-byte at (characters_from (at + 1) 0 s)) (λ taken. decoded-bytes (at + 1) taken s h.1)
  where
    k : ℕ
    k = (escaped at (characters_from (at + 1) 0 s)).end - (at + 1)

    go : (t : Bool) (e : Event) → IsByte e → ((taken : ℕ) → AreBytes (bytes_of (decoded_from (at + 1) taken s))) → AreBytes (bytes_of (cond t (e ∷ decoded_from (at + 1) k s) (byte b ∷ decoded_from (at + 1) 0 s)))
    go true (byte c) i ih = (i, ih k)
    go true (report c d p) i ih = ih k
    go false e i ih = (h.0, ih 0)

digit-small : (c : Char) → digit_or0 c < 16
unfolding digit_or0
digit-small c = go (nibble c.code) refl
  where
    go : (o : Option ℕ) → nibble c.code ≡ o → (elim o [ some d ↦ d | none ↦ 0 ]) < 16
    go (some d) e = nibble-small c.code d e
    go none e = omega arith

hex-bytes : (p : Span) (already : Bool) (cs : List Char) → AreBytes (bytes_of (hex_from p already cs))
hex-bytes p already [] = unfold hex_from bytes_of in tt
hex-bytes p already (c ∷ []) = rw (hex-one p already c) tt
hex-bytes p already (c ∷ d ∷ cs) = rw (hex-two p already c d cs) (omega (arith, digit-small c, digit-small d), hex-bytes p (already || is_bad c || is_bad d) cs)

pub spelling-are-bytes : (text tokens : List ℕ) (i : ℕ) → AreBytes text → AreBytes (spelling text tokens i)
unfolding covered
spelling-are-bytes text tokens i h = go (leb start end) (leb end (length text))
  where
    start : ℕ
    start = token_start tokens i

    end : ℕ
    end = token_end (word_at tokens i)

    go : (a b : Bool) → AreBytes (cond (a && b) (slice start end text) [])
    go true true = are-bytes-drop start (take end text) (are-bytes-take end text h)
    go true false = tt
    go false b = tt

-- What a token decodes to are bytes.
pub string-are-bytes : (p : Span) (s : List ℕ) → AreBytes s → AreBytes (bytes_of (decode_string p s))
unfolding decode_string
string-are-bytes p s h = decoded-bytes (p.start + 1) 0 (between 1 s) (are-bytes-take (length s - 2) (drop 1 s) (are-bytes-drop 1 s h))

pub hex-are-bytes : (p : Span) (s : List ℕ) → AreBytes (bytes_of (decode_hex p s))
unfolding decode_hex
hex-are-bytes p s = hex-bytes p false (characters_from (p.start + 4) 0 (between 4 s))

fours-few : (s : List ℕ) → length (fours s) ≤ length s
unfolding fours
fours-few [] = omega arith
fours-few (a ∷ []) = omega arith
fours-few (a ∷ b ∷ []) = omega arith
fours-few (a ∷ b ∷ c ∷ []) = omega arith
fours-few (a ∷ b ∷ c ∷ d ∷ s) = omega (arith, fours-few s)

-- A string takes no more words than one, and one for each byte.
pub string-value-few : (s : List ℕ) → length (string_value s) ≤ suc (length s)
unfolding string_value
string-value-few s = omega (arith, fours-few s)
