-- Laws of the walk and its token at an offset of the text, in the terms of the functions that make them.
use Rattle.std.specs.Prelude.{◌≡◌, Bool, false, cond, not, ℕ, suc, ◌+◌, ◌-◌, ◌≤◌, ◌<◌, eqb, leb, length, get_or, drop, take}
use Rattle.std.proofs.Math.Path.{refl, sym}
use Rattle.std.proofs.Common.{◌∙◌, ap, drop_of_length-le, length-drop, drop-drop}
use mathlib.Core.List.{List, [], ◌∷◌}
use Rattle.std.proofs.Math.Bool.{true}
use Rattle.std.proofs.lemmas.Bool.{false≢true}
use native.Mathlib.Omega.{arith}
use borrow.Author.Tests.{eq-eqb, ne_eqb, eqb-true, eqb-false, leb-true, le-leb}
use Rattle.words.specs.Token as TokenKind
use Rattle.utf8.specs.Utf8.{character_at}
use Rattle.utf8.specs.declared.Character.{Character}
use Rattle.std.specs.Prelude.{Option, Some, None}
use Rattle.scan.specs.declared.Token.{Token}
use Rattle.scan.specs.Bytes.{Class, within, ident_start, ident_part, digit, blank}
use Rattle.scan.specs.Comments.{behind, behind-all}
use Rattle.scan.specs.Lexer.{Fixed, longest_text, Lexeme, lexeme, more, from, run, token_at, line_comment, block_comment, string, invalid_char, punctuation}
use Rattle.scan.specs.Longest.{same, keyword_of, and_both, run_length}
use Rattle.scan.specs.Laws.{within_low, ended, rest-cons, from_more, from_zero}
use Rattle.rules.specs.Rule.{class_of, goes_on, stop, start, name, blanks, quote, hex_quote, line, block, mark_of, rows, after, kind_of, marks, numeric, operator}
use Rattle.rules.specs.Alike.{below, below_at, between, numeral-on, numeral-over, operator-over, operator-ends}
use Rattle.rules.specs.Walk.{step, walk, after_first, special, token_of}
use Rattle.rules.proofs.Walk.{name-walk, blanks-walk, named-token}
use Rattle.rules.proofs.Whole.{walked}

-- ------------------------------------------------------------------ the walk

within_step : (q n : ℕ) (l : Lexeme) (k : ℕ) → l.len ≤ k → (step q n l).len ≤ suc k
within_step q n l k h = go (goes_on n) (eqb n stop)
  where
    go : (t u : Bool) → (cond t (more 1 l) (cond u (lexeme q 0) (lexeme n 1))).len ≤ suc k
    go true u = omega arith
    go false true = omega arith
    go false false = omega arith

walk-within : (q : ℕ) (s : List ℕ) → (walk q s).len ≤ length s
unfolding walk
walk-within q [] = omega arith
walk-within q (b ∷ s) = within_step q (after q b) (walk (after q b) s) (length s) (walk-within (after q b) s)

module _ (text : List ℕ) (i q : ℕ) (t : Token) where
  pub walk-over : length text ≤ i → from i (walk q (drop i text)) ≡ t → ended q i ≡ t
  unfolding walk
  walk-over h p = sym (from_zero q i) ∙ (rw (drop_of_length-le text h) at p)

  module _ (n : ℕ) (g : Bool) (h : i < length text) (en : n ≡ after q (get_or text i 0)) (eg : g ≡ goes_on n) where
    stepped : (u : Bool) → g ≡ u → from i (walk q (drop i text)) ≡ t
        → from i (cond u (more 1 (walk n (drop (i + 1) text))) (cond (eqb n stop) (lexeme q 0) (lexeme n 1))) ≡ t
    unfolding walk
    stepped u e p = rw (rest-cons text i h, ← en, sym eg ∙ e) at p

    pub walk-next : g ≡ true → from i (walk q (drop i text)) ≡ t → from (i + 1) (walk n (drop (i + 1) text)) ≡ t
    walk-next e p = sym (from_more i 1 _) ∙ stepped true e p

    pub walk-stop : g ≡ false → n ≡ stop → from i (walk q (drop i text)) ≡ t → ended q i ≡ t
    walk-stop e f p = sym (from_zero q i) ∙ (rw (eq-eqb n stop f) at (stepped false e p))

    pub walk_end : g ≡ false → (n ≡ stop → ⊥) → from i (walk q (drop i text)) ≡ t → ended n (i + 1) ≡ t
    walk_end e f p = rw (ne_eqb n stop f) at (stepped false e p)

pub walk-stay : (text : List ℕ) (i q : ℕ) (t : Token) (n : ℕ) → i < length text → 97 ≤ q → q ≤ 122 → n ≡ after q (get_or text i 0) → n ≡ q
    → from i (walk q (drop i text)) ≡ t → from (i + 1) (walk q (drop (i + 1) text)) ≡ t
walk-stay text i q t n h a b en e p =
    let g : goes_on n ≡ true = rw (e, le-leb 97 q a, le-leb q 122 b) in
    rw e at (walk-next text i q t n true h en (sym g) refl p)

-- the bytes that leave a state as it is
abbrev pub keeps : ℕ → Class
keeps q b = eqb (after q b) q

kept-byte : (q b i : ℕ) (s : List ℕ) → goes_on q ≡ true → after q b ≡ q → from i (walk q (b ∷ s)) ≡ from (i + 1) (walk q s)
unfolding walk
kept-byte q b i s g e = rw (e, g) (from_more i 1 (walk q s))

-- The walk goes over a run of them in one step.
kept-run : (q : ℕ) → goes_on q ≡ true → (s : List ℕ) (i : ℕ) → from (i + run (keeps q) s) (walk q (drop (run (keeps q) s) s)) ≡ from i (walk q s)
unfolding run
kept-run q g [] i = let z : i + 0 ≡ i = omega arith in ap (λ (j : ℕ). from j (walk q [])) z
kept-run q g (b ∷ s) i = go (eqb (after q b) q) refl (kept-run q g s (i + 1))
  where
    go : (t : Bool) → eqb (after q b) q ≡ t → from (i + 1 + run (keeps q) s) (walk q (drop (run (keeps q) s) s)) ≡ from (i + 1) (walk q s)
        → from (i + cond t (suc (run (keeps q) s)) 0) (walk q (drop (cond t (suc (run (keeps q) s)) 0) (b ∷ s))) ≡ from i (walk q (b ∷ s))
    go true e h =
        let z : i + suc (run (keeps q) s) ≡ i + 1 + run (keeps q) s = omega arith in
        ap (λ (j : ℕ). from j (walk q (drop (run (keeps q) s) s))) z ∙ (h ∙ sym (kept-byte q b i s g (eqb-true (after q b) q e)))
    go false e h = let z : i + 0 ≡ i = omega arith in ap (λ (j : ℕ). from j (walk q (b ∷ s))) z

pub walk-run : (text : List ℕ) (at q r : ℕ) → 97 ≤ q → q ≤ 122 → at ≤ length text → r ≡ at + run (keeps q) (drop at text)
    → (from r (walk q (drop r text)) ≡ from at (walk q (drop at text))) × (at ≤ r) × (r ≤ length text)
walk-run text at q r a b h e =
    let n = run (keeps q) (drop at text) in
    let g : goes_on q ≡ true = rw (le-leb 97 q a, le-leb q 122 b) in
    let short : n ≤ length (drop at text) = run_length (keeps q) (drop at text) in
    let kept : from (at + n) (walk q (drop (at + n) text)) ≡ from at (walk q (drop at text)) = rw (drop-drop n at text) at (kept-run q g (drop at text) at) in
    (rw e kept, omega (arith, e), omega (arith, e, short, length-drop at text))

pub walk-go : (text : List ℕ) (i q : ℕ) (t : Token) (n : ℕ) (g : Bool) (r : ℕ) → i < length text → n ≡ after q (get_or text i 0) → g ≡ goes_on n → g ≡ true
    → from r (walk n (drop r text)) ≡ from (i + 1) (walk n (drop (i + 1) text)) → from i (walk q (drop i text)) ≡ t → from r (walk n (drop r text)) ≡ t
walk-go text i q t n g r h en eg e s p = s ∙ walk-next text i q t n g h en eg e p

-- a state that has a line in the table, as those of numbers and operators do
pub record Line (q : ℕ) : Type 0 where
  pub low : 97 ≤ q
  pub high : q ≤ 122

line_of : (lo hi q : ℕ) → 97 ≤ lo → hi ≤ 122 → within lo hi q ≡ true → Line q
line_of lo hi q h g e =
    let l = between lo hi q e in
    record { low = omega arith; high = omega arith }

pub numeral-line : (q : ℕ) → numeric q ≡ true → Line q
numeral-line q e = line_of 105 111 q (omega arith) (omega arith) e

pub operator-line : (q : ℕ) → operator q ≡ true → Line q
operator-line q e = line_of 112 122 q (omega arith) (omega arith) e

pub line-goes : (q : ℕ) → Line q → goes_on q ≡ true
line-goes q l = rw (le-leb 97 q l.low, le-leb q 122 l.high)

-- a number, of which a byte of a name is a part
module _ (text : List ℕ) (i q : ℕ) (t : Token) (b : ℕ) (e : b ≡ get_or text i 0) (l : b < 256) (h : i < length text) (n : numeric q ≡ true) where
  numeral-go : ident_part b ≡ true → goes_on (after q b) ≡ true
  numeral-go p = line-goes (after q b) (numeral-line (after q b) (numeral-on q b l n p))

  pub numeral-next : (k : ℕ) → ident_part b ≡ true → k ≡ after q b → from i (walk q (drop i text)) ≡ t → from (i + 1) (walk k (drop (i + 1) text)) ≡ t
  numeral-next k p f w = walk-next text i q t k true h (f ∙ ap (after q) e) (sym (ap goes_on f ∙ numeral-go p)) refl w

  pub numeral-stop : ident_part b ≡ false → from i (walk q (drop i text)) ≡ t → ended q i ≡ t
  numeral-stop p w = walk-stop text i q t stop false h (sym (sym (ap (after q) e) ∙ numeral-over q b l n p)) refl refl refl w

-- an operator and the byte after it: what `second` promises of its answer
abbrev pub Second : List ℕ → ℕ → ℕ → ℕ → Type 0
Second text at q r =
    (r ≡ after_first q (drop at text)) × (32 ≤ r) × (r < 128) × (goes_on r ≡ false) × ((r ≡ stop → ⊥) → at < length text)

pub second-over : (text : List ℕ) (at q : ℕ) → length text ≤ at → Second text at q stop
second-over text at q h = (rw (drop_of_length-le text h), omega arith, omega arith, refl, λ d. absurd (d refl))

module _ (text : List ℕ) (at q b : ℕ) (h : at < length text) (e : b ≡ get_or text at 0) (l : b < 256) (o : operator q ≡ true) where
  pub second-alone : (c : ℕ) → c ≡ class_of b → c ≤ 58 → Second text at q stop
  second-alone c f g =
      (sym (rw (rest-cons text at h) (ap (after q) (sym e) ∙ operator-over q b l o (rw f at g))), omega arith, omega arith, refl, λ d. h)

  pub second-next : (r : ℕ) → r ≡ after q b → 32 ≤ r → r < 128 → Second text at q r
  second-next r f g k =
      (f ∙ (rw (rest-cons text at h) (ap (after q) e)), g, k, ap goes_on f ∙ operator-ends q b l o, λ d. h)

-- a state that goes on has a line in the table
pub on-low : (g : Bool) (n : ℕ) → g ≡ goes_on n → g ≡ true → 97 ≤ n
on-low g n e f = within_low 97 122 n (sym e ∙ f)

pub on-high : (g : Bool) (n : ℕ) → g ≡ goes_on n → g ≡ true → n ≤ 122
on-high g n e f = leb-true n 122 (and_both (leb 97 n) (leb n 122) (sym e ∙ f)).1

-- ------------------------------------------------------------------ the token of an end

-- how long an invalid character is
abbrev pub invalid_len : Option Character → ℕ
invalid_len (Some c) = c.length
invalid_len None = 1

invalid-char : (x : List ℕ) → invalid_char x ≡ lexeme TokenKind.InvalidCharError (invalid_len (character_at x))
unfolding invalid_char
invalid-char x = go (character_at x)
  where
    go : (c : Option Character) → elim c [ Some c ↦ lexeme TokenKind.InvalidCharError c.length | None ↦ lexeme TokenKind.InvalidCharError 1 ] ≡ lexeme TokenKind.InvalidCharError (invalid_len c)
    go (Some c) = refl
    go None = refl

pub invalid-is : (text : List ℕ) (at len : ℕ) (c : Option Character) → c ≡ character_at (drop at text) → invalid_len c ≡ len
    → ended TokenKind.InvalidCharError (at + len) ≡ from at (invalid_char (drop at text))
invalid-is text at len c e f = rw (invalid-char (drop at text), ← e, f)

module _ (text : List ℕ) (at q end : ℕ) (l : at ≤ end) where
  abbrev pub told : Token
  told = from at (token_of (drop at text) (lexeme q (end - at)))

  up : at + (end - at) ≡ end
  up = omega arith

  module _ (f : kind_of q ≡ TokenKind.Eof) where
    particular : told ≡ from at (special (drop at text) (lexeme q (end - at)))
    particular = rw (eq-eqb _ TokenKind.Eof f)

    -- the token goes on behind the end
    later : (g : List ℕ → Lexeme) (r : Token) → r ≡ from end (g (drop end text)) → r ≡ from at (more (end - at) (g (drop (end - at) (drop at text))))
    later g r p = p ∙ sym (from_more at (end - at) _ ∙ (rw (drop-drop (end - at) at text, up)))

    pub quote-told : (r : Token) → q ≡ quote → r ≡ from end (string TokenKind.LooseStringLiteral true false false (drop end text)) → r ≡ told
    quote-told r e p = later (string TokenKind.LooseStringLiteral true false false) r p ∙ sym (particular ∙ rw e)

    pub hex-told : (r : Token) → q ≡ hex_quote → r ≡ from end (string TokenKind.LooseHexStringLiteral false false false (drop end text)) → r ≡ told
    hex-told r e p = later (string TokenKind.LooseHexStringLiteral false false false) r p ∙ sym (particular ∙ rw e)

    pub line-told : (r : Token) → q ≡ line → r ≡ from end (line_comment (drop end text)) → r ≡ told
    line-told r e p = later line_comment r p ∙ sym (particular ∙ rw e)

    pub block-told : length text ≤ longest_text → (q ≡ block → 2 ≤ end) → (r : Token) → q ≡ block → r ≡ from end (block_comment (behind end text) 1) → r ≡ told
    block-told short two r e p =
        let b : 2 ≤ end = two e in
        later (λ s. block_comment s 1) r (rw (behind-all end text (omega arith)) at p) ∙ sym (particular ∙ rw e)

    pub start-told : (r : Token) → q ≡ start → r ≡ from at (invalid_char (drop at text)) → r ≡ told
    start-told r e p = p ∙ sym (particular ∙ rw e)

    pub name-told : (k : ℕ) → (q ≡ quote → ⊥) → (q ≡ hex_quote → ⊥) → (q ≡ line → ⊥) → (q ≡ block → ⊥) → (q ≡ start → ⊥)
        → k ≡ keyword_of (take (end - at) (drop at text)) → ended k end ≡ told
    name-told k a b c d e p = rw p (sym (particular ∙ rw (ne_eqb q quote a, ne_eqb q hex_quote b, ne_eqb q line c, ne_eqb q block d, ne_eqb q start e, up)))

-- ------------------------------------------------------------------ no `/*` after one byte

not-block : {x y : ℕ} (t : Bool) → (x ≡ block → ⊥) → (y ≡ block → ⊥) → cond t x y ≡ block → ⊥
not-block true h g = h
not-block false h g = g

abbrev no_block : List ℕ → Bool
no_block [] = true
no_block (v ∷ vs) = cond (eqb v block) false (no_block vs)

mark-not : (fs : List Fixed) (ms w : List ℕ) → no_block ms ≡ true → mark_of fs ms w ≡ block → ⊥
mark-not [] ms w h = λ z. omega arith
mark-not (f ∷ fs) [] w h = λ z. omega arith
mark-not (f ∷ fs) (m ∷ ms) w h = go (eqb m block) refl h (λ z. mark-not fs ms w z)
  where
    go : (t : Bool) → eqb m block ≡ t → cond t false (no_block ms) ≡ true → (no_block ms ≡ true → mark_of fs ms w ≡ block → ⊥) → cond (same f.spelling w) m (mark_of fs ms w) ≡ block → ⊥
    go true e z ih = absurd (false≢true z)
    go false e z ih = not-block (same f.spelling w) (eqb-false m block e) (ih z)

-- So where one byte alone is read, its state is another.
pub start-two : (b first end : ℕ) → first ≡ after start b → first ≡ block → 2 ≤ end
unfolding after rows
start-two b first end p e =
    absurd (not-block (eqb 104 b) (λ z. omega arith) (not-block (eqb 48 b) (λ z. omega arith) (not-block (eqb 64 b) (λ z. omega arith) (not-block (eqb 34 b) (λ z. omega arith)
    (not-block (ident_start b) (λ z. omega arith) (not-block (digit b) (λ z. omega arith) (not-block (blank b) (λ z. omega arith)
    (mark-not punctuation marks (b ∷ []) (unfold marks in refl)))))))) (sym p ∙ e))

-- ------------------------------------------------------------------ the token at an offset

-- numbers and operators are told by their states
plain-tested : below (λ k. not (eqb (kind_of (105 + k)) TokenKind.Eof)) 18 ≡ true
unfolding kind_of marks punctuation
plain-tested = refl

plain-kind : (q : ℕ) → 105 ≤ q → q ≤ 122 → kind_of q ≡ TokenKind.Eof → ⊥
plain-kind q h g e =
    let z : 105 + (q - 105) ≡ q = omega arith in
    let t = below_at (λ k. not (eqb (kind_of (105 + k)) TokenKind.Eof)) 18 (q - 105) plain-tested (omega arith) in
    false≢true (rw (z, eq-eqb _ TokenKind.Eof e) at t)

module _ (text : List ℕ) (at : ℕ) (h : at < length text) where
  abbrev pub here : Token
  here = from at (token_at (drop at text))

  abbrev b : ℕ
  b = get_or text at 0

  abbrev s : List ℕ
  s = drop (at + 1) text

  whole : from at (token_of (drop at text) (walk start (drop at text))) ≡ here
  whole = rw (rest-cons text at h) (ap (from at) (walked b s))

  module _ (q k end : ℕ) (w : walk start (drop at text) ≡ lexeme q k) (e : end ≡ at + k) where
    is-here : told text at q end (omega arith) ≡ here
    is-here =
        let z : end - at ≡ k = omega arith in
        rw z (rw w at whole)

    own-here : (kind : ℕ) → kind ≡ kind_of q → (kind ≡ TokenKind.Eof → ⊥) → ended kind end ≡ here
    own-here kind f d =
        let z : at + (end - at) ≡ end = omega arith in
        sym (rw (← f, ne_eqb kind TokenKind.Eof d, z)) ∙ is-here

  module _ (n : ℕ) (en : n ≡ after start b) where
    first : (t : Bool) → goes_on n ≡ t → walk start (drop at text) ≡ cond t (more 1 (walk n s)) (cond (eqb n stop) (lexeme start 0) (lexeme n 1))
    unfolding walk
    first t e = rw (rest-cons text at h, ← en, e)

    pub name-here : (kind end : ℕ) → n ≡ name → end ≡ at + 1 + run ident_part s → kind ≡ keyword_of (take (end - at) (drop at text)) → ended kind end ≡ here
    name-here kind end e f k =
        let z : end - at ≡ 1 + run ident_part s = omega arith in
        let w : walk start (drop at text) ≡ lexeme name (1 + run ident_part s) = first true (rw e) ∙ rw (e, name-walk s) in
        let v : end ≡ at + (1 + run ident_part s) = omega arith in
        rw (k, z, v) (sym (ap (from at) (named-token (drop at text) name (1 + run ident_part s) refl)) ∙ (rw w at whole))

    pub blank-here : (end : ℕ) → n ≡ blanks → end ≡ at + 1 + run blank s → ended TokenKind.Whitespace end ≡ here
    unfolding kind_of marks punctuation
    blank-here end e f =
        let w : walk start (drop at text) ≡ lexeme blanks (1 + run blank s) = first true (rw e) ∙ rw (e, blanks-walk s) in
        let v : end ≡ at + (1 + run blank s) = omega arith in
        rw v (rw w at whole)

    -- a number
    pub numeral-here : (kind : ℕ) (w : Token) → goes_on n ≡ true → w ≡ from (at + 1) (walk n s) → numeric w.kind ≡ true → kind ≡ kind_of w.kind → ended kind w.end ≡ here
    numeral-here kind w g e m k =
        let l = between 105 111 w.kind m in
        let z : w.end ≡ at + (1 + (walk n s).len) = (rw e (omega arith)) in
        let p : walk start (drop at text) ≡ lexeme w.kind (1 + (walk n s).len) = first true g ∙ rw e in
        own-here w.kind (1 + (walk n s).len) w.end p z kind k (λ f. plain-kind w.kind (omega arith) (omega arith) (sym k ∙ f))

    -- an operator, and the state after its next byte
    module _ (o : operator n ≡ true) (m : ℕ) (em : m ≡ after_first n s) where
      on : goes_on n ≡ true
      on = line-goes n (operator-line n o)

      alone-walk : m ≡ stop → walk n s ≡ lexeme n 0
      unfolding walk
      alone-walk e = go s (sym em ∙ e)
        where
          go : (x : List ℕ) → after_first n x ≡ stop → walk n x ≡ lexeme n 0
          go [] f = refl
          go (c ∷ x) f = rw f

      pair-walk : (m ≡ stop → ⊥) → goes_on m ≡ false → walk n s ≡ lexeme m 1
      unfolding walk
      pair-walk d g = go s em
        where
          go : (x : List ℕ) → m ≡ after_first n x → walk n x ≡ lexeme m 1
          go [] f = absurd (d f)
          go (c ∷ x) f = rw (← f, g, ne_eqb m stop d)

      pub alone-here : (kind : ℕ) → m ≡ stop → kind ≡ kind_of n → ended kind (at + 1) ≡ here
      alone-here kind e k =
          let l = between 112 122 n o in
          own-here n 1 (at + 1) (first true on ∙ rw (alone-walk e)) refl kind k (λ f. plain-kind n (omega arith) (omega arith) (sym k ∙ f))

      module _ (d : m ≡ stop → ⊥) (g : goes_on m ≡ false) where
        pair : walk start (drop at text) ≡ lexeme m 2
        pair = first true on ∙ rw (pair-walk d g)

        pub pair-here : (kind : ℕ) → kind ≡ kind_of m → (kind ≡ TokenKind.Eof → ⊥) → ended kind (at + 2) ≡ here
        pair-here kind k f = own-here m 2 (at + 2) pair refl kind k f

        pub pair-later : (r : Token) → r ≡ told text at m (at + 2) (omega arith) → r ≡ here
        pair-later r e = e ∙ is-here m 2 (at + 2) pair refl

    -- all others, by where the walk from the first state on ends
    module _ (g : Bool) (eg : g ≡ goes_on n) where
      pub on-ends : (w : Token) → g ≡ true → w ≡ from (at + 1) (walk n s) → w ≡ from at (walk start (drop at text))
      on-ends w e f = f ∙ sym (ap (from at) (first true (sym eg ∙ e)) ∙ from_more at 1 (walk n s))

      pub stop-ends : g ≡ false → n ≡ stop → ended start at ≡ from at (walk start (drop at text))
      stop-ends e f = sym (ap (from at) (first false (sym eg ∙ e) ∙ rw (eq-eqb n stop f)) ∙ from_zero start at)

      pub end-ends : g ≡ false → (n ≡ stop → ⊥) → ended n (at + 1) ≡ from at (walk start (drop at text))
      end-ends e f = sym (ap (from at) (first false (sym eg ∙ e) ∙ rw (ne_eqb n stop f)))

  module _ (w : Token) (e : w ≡ from at (walk start (drop at text))) where
    len : w.end ≡ at + (walk start (drop at text)).len
    len = ap (λ (x : Token). x.end) e

    shape : walk start (drop at text) ≡ lexeme w.kind (walk start (drop at text)).len
    shape = rw (ap (λ (x : Token). x.kind) e)

    pub ends-from : at ≤ w.end
    ends-from = omega (arith, len)

    pub ends-to : w.end ≤ length text
    ends-to = omega (arith, len, walk-within start (drop at text), length-drop at text)

    pub ends-own : (kind : ℕ) → kind ≡ kind_of w.kind → (kind ≡ TokenKind.Eof → ⊥) → ended kind w.end ≡ here
    ends-own kind k f = own-here w.kind (walk start (drop at text)).len w.end shape len kind k f

    pub ends-later : (r : Token) → r ≡ told text at w.kind w.end ends-from → r ≡ here
    ends-later r p = p ∙ is-here w.kind (walk start (drop at text)).len w.end shape len
