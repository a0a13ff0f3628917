-- Laws of the token that a text begins with, by its first byte: which rules are left, and what they make of the rest.
use Rattle.std.specs.Prelude.{◌≡◌, List, [], ◌∷◌, ◌++◌, map, Bool, cond, not, ◌&&◌, ◌||◌, leb, ltb, length, get_or, drop, take}
use Rattle.std.proofs.Math.Path.{refl, ap}
use Rattle.std.proofs.Common.{sym, ◌∙◌, add-zero, le_of_eq}
use Rattle.std.proofs.Math.Bool.{true, false}
use Rattle.std.proofs.lemmas.Bool.{false≢true}
use Prim.Native.Nat.{ℕ, suc, ◌≤◌}
use native.Mathlib.Omega.{arith}
use borrow.Author.Tests.{ne_eqb, le-ltb, leb-true, ltb-true, eqb-true}
use Rattle.std.proofs.Math.Dec.{eqb}
use Rattle.words.specs.Token as TokenKind
use Rattle.scan.specs.Bytes.{ascii, Class, none, within, digit, upper, lower, ident_start, ident_part, blank, is_digit}
use Rattle.scan.specs.Lexer.{lexeme, more, plain, Rule, regex, run, spelled, classed, matched, Match, longest, Fixed, rule, punctuation, keywords, others, rules, no_match, finish, token_at, string, number, block_comment, line_comment}
use Rattle.scan.specs.Longest.{keep, took, took-if, longest-append, differs, apart, pass, and_both, match, keyword_of, word-longest, or_identifier, wordlies, spelled-split}

exclude : (t : Bool) → (t ≡ true → ⊥) → t ≡ false
exclude true f = absurd (f refl)
exclude false f = refl

within_both : (lo hi b : ℕ) → within lo hi b ≡ true → (lo ≤ b) × (b ≤ hi)
within_both lo hi b e = let h = and_both (leb lo b) (leb b hi) e in (leb-true lo b h.0, leb-true b hi h.1)

-- Where the classes of first bytes lie: blanks up to 32, digits from 48 to 57, letters and `_` from 65.
module _ (b : ℕ) where
  start-from : ident_start b ≡ true → 65 ≤ b
  unfolding ident_start upper lower
  start-from e = go (within 97 122 b) (within 65 90 b) (eqb b 95) refl refl refl e
    where
      go : (p q r : Bool) → within 97 122 b ≡ p → within 65 90 b ≡ q → eqb b 95 ≡ r → (p || (q || r)) ≡ true → 65 ≤ b
      go true q r ep eq er e = let h = within_both 97 122 b ep in omega arith
      go false true r ep eq er e = let h = within_both 65 90 b eq in omega arith
      go false false true ep eq er e = let h = eqb-true b 95 er in omega arith
      go false false false ep eq er e = absurd (false≢true e)

  blank-to : blank b ≡ true → b ≤ 32
  unfolding blank
  blank-to e = go (eqb b 32) (eqb b 9) (eqb b 10) (eqb b 13) refl refl refl refl e
    where
      go : (p q r t : Bool) → eqb b 32 ≡ p → eqb b 9 ≡ q → eqb b 10 ≡ r → eqb b 13 ≡ t → (p || (q || (r || t))) ≡ true → b ≤ 32
      go true q r t ep eq er et e = let h = eqb-true b 32 ep in omega arith
      go false true r t ep eq er et e = let h = eqb-true b 9 eq in omega arith
      go false false true t ep eq er et e = let h = eqb-true b 10 er in omega arith
      go false false false true ep eq er et e = let h = eqb-true b 13 et in omega arith
      go false false false false ep eq er et e = absurd (false≢true e)

  digit-between : digit b ≡ true → (48 ≤ b) × (b ≤ 57)
  unfolding digit
  digit-between e = within_both 48 57 b e

  start-digit : ident_start b ≡ true → digit b ≡ false
  start-digit e = exclude (digit b) (λ f. let h = start-from e in let g = digit-between f in omega arith)

  start-blank : ident_start b ≡ true → blank b ≡ false
  start-blank e = exclude (blank b) (λ f. let h = start-from e in let g = blank-to f in omega arith)

  digit-start : digit b ≡ true → ident_start b ≡ false
  digit-start e = exclude (ident_start b) (λ f. let h = start-from f in let g = digit-between e in omega arith)

  digit-blank : digit b ≡ true → blank b ≡ false
  digit-blank e = exclude (blank b) (λ f. let h = blank-to f in let g = digit-between e in omega arith)

  blank-start : blank b ≡ true → ident_start b ≡ false
  blank-start e = exclude (ident_start b) (λ f. let h = start-from f in let g = blank-to e in omega arith)

  blank-digit : blank b ≡ true → digit b ≡ false
  blank-digit e = exclude (digit b) (λ f. let h = digit-between f in let g = blank-to e in omega arith)

  pub miss : (q : Class) (a : ℕ) → q b ≡ true → q a ≡ false → eqb a b ≡ false
  miss q a t f = differs q a b f t

-- The rules after Identifier's leave the best match as it is, where none of them begins with this byte.
module _ (m : Match) (b : ℕ) (s : List ℕ) where
  others-rest : eqb 64 b ≡ false → digit b ≡ false → eqb 48 b ≡ false → eqb 34 b ≡ false → spelled (ascii "hex\"") (b ∷ s) ≡ false
      → blank b ≡ false → eqb 47 b ≡ false → longest m (drop 1 others) (b ∷ s) ≡ m
  unfolding longest others matched classed spelled
  others-rest e64 d e48 e34 h k e47 = simp (e64, d, e48, e34, h, k, e47, le-ltb m.len 0 (omega arith))

  rules-split : longest m rules (b ∷ s)
      ≡ longest (longest (longest m (map rule punctuation) (b ∷ s)) (map rule keywords) (b ∷ s)) others (b ∷ s)
  unfolding rules
  rules-split = longest-append m (map rule punctuation) (map rule keywords ++ others) (b ∷ s) ∙ longest-append _ (map rule keywords) others (b ∷ s)

  -- no fixed spelling begins with a byte of the class
  no-spelling : (q : Class) → apart q punctuation ≡ true → apart q keywords ≡ true → q b ≡ true
      → longest m rules (b ∷ s) ≡ longest m others (b ∷ s)
  no-spelling q p k t = rules-split
      ∙ (ap (λ (x : Match). longest (longest x (map rule keywords) (b ∷ s)) others (b ∷ s)) (pass q punctuation m b s p t)
      ∙ ap (λ (x : Match). longest x others (b ∷ s)) (pass q keywords m b s k t))

-- A letter or `_`: `hex"` begins a string, any other word is a keyword or Identifier.
hex-known : (s : List ℕ) → token_at (ascii "hex\"" ++ s) ≡ more 4 (string TokenKind.LooseHexStringLiteral false false false s)
unfolding token_at longest rules punctuation keywords others matched classed spelled run ident_start ident_part upper lower digit blank is_digit
hex-known s = refl

pub hex-token : (s : List ℕ) → spelled (ascii "hex\"") s ≡ true
    → token_at s ≡ more 4 (string TokenKind.LooseHexStringLiteral false false false (drop 4 s))
hex-token s e = ap token_at (spelled-split (ascii "hex\"") s e) ∙ hex-known (drop 4 s)

module _ (b : ℕ) (s : List ℕ) (i : ident_start b ≡ true) where
  run-start : run ident_part (b ∷ s) ≡ suc (run ident_part s)
  unfolding run ident_part
  run-start = rw i

  first-other : (m : Match) → longest m others (b ∷ s) ≡ longest (or_identifier (b ∷ s) m) (drop 1 others) (b ∷ s)
  unfolding longest others
  first-other m = ap (λ (k : ℕ). longest (cond (ltb m.len k) (match TokenKind.Identifier k) m) (drop 1 others) (b ∷ s)) whole
    where
      whole : matched (regex (ident_start ∷ []) ident_part (plain TokenKind.Identifier)) (b ∷ s) ≡ run ident_part (b ∷ s)
      whole = unfold matched classed in (rw (i, run-start) (omega arith))

  not_start : (a : ℕ) → ident_start a ≡ false → eqb a b ≡ false
  not_start a f = miss b ident_start a i f

  identifier-longest : (m : Match) → spelled (ascii "hex\"") (b ∷ s) ≡ false → longest m others (b ∷ s) ≡ or_identifier (b ∷ s) m
  unfolding ident_start upper lower
  identifier-longest m h = first-other m
      ∙ others-rest _ b s (not_start 64 refl) (start-digit b i) (not_start 48 refl) (not_start 34 refl) h (start-blank b i) (not_start 47 refl)

  starts-wordly : apart ident_start punctuation ≡ true
  unfolding punctuation ident_start upper lower
  starts-wordly = refl

  keywords-wordly : wordlies keywords ≡ true
  unfolding keywords ident_part ident_start upper lower digit
  keywords-wordly = refl

  word-match : spelled (ascii "hex\"") (b ∷ s) ≡ false
      → longest no_match rules (b ∷ s) ≡ match (keyword_of (take (run ident_part (b ∷ s)) (b ∷ s))) (run ident_part (b ∷ s))
  word-match h = rules-split no_match b s
      ∙ (ap (λ (m : Match). longest (longest m (map rule keywords) (b ∷ s)) others (b ∷ s)) (pass ident_start punctuation no_match b s starts-wordly i)
      ∙ (identifier-longest _ h ∙ word-longest (b ∷ s) keywords no_match keywords-wordly (rw run-start (omega arith))))

  pub word-token : spelled (ascii "hex\"") (b ∷ s) ≡ false
      → token_at (b ∷ s) ≡ lexeme (keyword_of (take (suc (run ident_part s)) (b ∷ s))) (suc (run ident_part s))
  unfolding token_at
  word-token h =
      let w : ℕ → ℕ = λ k. keyword_of (take k (b ∷ s)) in
      ap (λ (m : Match). finish m (b ∷ s)) (word-match h)
      ∙ (ap (λ (k : ℕ). lexeme (w (run ident_part (b ∷ s))) k) (add-zero (run ident_part (b ∷ s)))
      ∙ ap (λ (k : ℕ). lexeme (w k) k) run-start)

-- A digit: a number in the radix that its prefix names.
run_none : (s : List ℕ) → run none s ≡ 0
unfolding run
run_none [] = refl
run_none (b ∷ s) = refl

abbrev identifier_rule : Rule
identifier_rule = regex (ident_start ∷ []) ident_part (plain TokenKind.Identifier)

abbrev builtin_rule : Rule
builtin_rule = regex (eqb 64 ∷ ident_start ∷ []) ident_part (plain TokenKind.BuiltinName)

abbrev decimal_rule : Rule
decimal_rule = regex (digit ∷ []) none (number TokenKind.DecimalLiteral 10 false)

at_most : (t : Bool) (k : ℕ) → cond t k 0 ≤ k
at_most true k = omega arith
at_most false k = omega arith

abbrev pub hex_prefix : List Class
hex_prefix = eqb 48 ∷ eqb 120 ∷ is_digit 16 ∷ []

abbrev pub bin_prefix : List Class
bin_prefix = eqb 48 ∷ eqb 98 ∷ is_digit 2 ∷ []

abbrev hex_rule : Rule
hex_rule = regex hex_prefix none (number TokenKind.HexLiteral 16 false)

abbrev bin_rule : Rule
bin_rule = regex bin_prefix none (number TokenKind.BinLiteral 2 false)

module _ (b : ℕ) (s : List ℕ) (i : digit b ≡ true) where
  digits-apart : (apart digit punctuation ≡ true) × (apart digit keywords ≡ true)
  unfolding punctuation keywords digit
  digits-apart = (refl, refl)

  not_digit : (eqb 34 b ≡ false) × (eqb 47 b ≡ false) × (eqb 64 b ≡ false) × (eqb 104 b ≡ false)
  unfolding digit
  not_digit = (miss b digit 34 i refl, miss b digit 47 i refl, miss b digit 64 i refl, miss b digit 104 i refl)

  abbrev pub radix : Bool → Bool → Match
  radix h g =
      cond h (record { len = 3; after = number TokenKind.HexLiteral 16 false })
      (cond g (record { len = 3; after = number TokenKind.BinLiteral 2 false }) (record { len = 1; after = number TokenKind.DecimalLiteral 10 false }))

  -- the rules after the numbers' leave the best match as it is
  digit-rest : (m : Match) → longest m (drop 5 others) (b ∷ s) ≡ m
  unfolding longest others matched classed spelled
  digit-rest m = simp (not_digit.0, not_digit.3, digit-blank b i, not_digit.1, not_digit.2, le-ltb m.len 0 (omega arith))

  abbrev decimal : Match
  decimal = record { len = 1; after = number TokenKind.DecimalLiteral 10 false }

  digit-first : longest no_match others (b ∷ s) ≡ longest decimal (drop 3 others) (b ∷ s)
  unfolding others
  digit-first =
      keep no_match identifier_rule (drop 1 others) (b ∷ s) (le_of_eq (unfold matched classed in (rw (digit-start b i))))
      ∙ (keep no_match builtin_rule (drop 2 others) (b ∷ s) (le_of_eq (unfold matched classed in (rw not_digit.2)))
      ∙ took no_match decimal_rule (drop 3 others) (b ∷ s) 1 (unfold matched classed in (rw (i, run_none s))) (omega arith))

  module _ (h g : Bool) (eh : classed hex_prefix (b ∷ s) ≡ h) (eg : classed bin_prefix (b ∷ s) ≡ g) where
    hex-next : longest decimal (drop 3 others) (b ∷ s) ≡ longest (radix h false) (drop 4 others) (b ∷ s)
    unfolding others
    hex-next = took-if decimal hex_rule (drop 4 others) (b ∷ s) 3 h (unfold matched in (rw (eh, run_none))) (omega arith)

    bin-size : matched bin_rule (b ∷ s) ≡ cond g 3 0
    unfolding matched
    bin-size = rw (eg, run_none)

    bin-next : (h' : Bool) → longest (radix h' false) (drop 4 others) (b ∷ s) ≡ longest (radix h' g) (drop 5 others) (b ∷ s)
    unfolding others
    bin-next true = keep (radix true false) bin_rule (drop 5 others) (b ∷ s) (rw bin-size (at_most g 3))
    bin-next false = took-if decimal bin_rule (drop 5 others) (b ∷ s) 3 g bin-size (omega arith)

    digit-match : longest no_match rules (b ∷ s) ≡ radix h g
    digit-match = no-spelling no_match b s digit digits-apart.0 digits-apart.1 i
        ∙ (digit-first ∙ (hex-next ∙ (bin-next h ∙ digit-rest (radix h g))))

    pub number-token : token_at (b ∷ s) ≡ finish (radix h g) (b ∷ s)
    unfolding token_at
    number-token = ap (λ (m : Match). finish m (b ∷ s)) digit-match

-- A blank: all blanks that follow.
blank_rule : Rule
blank_rule = regex (blank ∷ []) blank (plain TokenKind.Whitespace)

module _ (b : ℕ) (s : List ℕ) (i : blank b ≡ true) where
  blanks-apart : (apart blank punctuation ≡ true) × (apart blank keywords ≡ true)
  unfolding punctuation keywords blank
  blanks-apart = (refl, refl)

  not-blank : (eqb 34 b ≡ false) × (eqb 47 b ≡ false) × (eqb 48 b ≡ false) × (eqb 64 b ≡ false) × (eqb 104 b ≡ false)
  unfolding blank
  not-blank = (miss b blank 34 i refl, miss b blank 47 i refl, miss b blank 48 i refl, miss b blank 64 i refl, miss b blank 104 i refl)

  abbrev blanks : Match
  blanks = record { len = suc (run blank s); after = plain TokenKind.Whitespace }

  blank-first : longest no_match others (b ∷ s) ≡ longest no_match (drop 7 others) (b ∷ s)
  unfolding longest others matched classed spelled
  blank-first = simp (blank-start b i, blank-digit b i, not-blank.0, not-blank.2, not-blank.3, not-blank.4)

  blank-next : longest no_match (drop 7 others) (b ∷ s) ≡ longest blanks (drop 8 others) (b ∷ s)
  unfolding others blank_rule
  blank-next = took no_match blank_rule (drop 8 others) (b ∷ s) (suc (run blank s)) (unfold matched classed in (rw i (omega arith))) (omega arith)

  blank-rest : longest blanks (drop 8 others) (b ∷ s) ≡ blanks
  unfolding longest others matched spelled
  blank-rest = simp (not-blank.1, not-blank.3, le-ltb (suc (run blank s)) 0 (omega arith))

  blank-match : longest no_match rules (b ∷ s) ≡ blanks
  blank-match = no-spelling no_match b s blank blanks-apart.0 blanks-apart.1 i ∙ (blank-first ∙ (blank-next ∙ blank-rest))

  pub blank-token : token_at (b ∷ s) ≡ lexeme TokenKind.Whitespace (suc (run blank s))
  unfolding token_at
  blank-token = ap (λ (m : Match). finish m (b ∷ s)) blank-match ∙ ap (λ (k : ℕ). lexeme TokenKind.Whitespace k) (omega arith)

-- A quote, an `@`, a slash.
pub quote-token : (s : List ℕ) → token_at (34 ∷ s) ≡ more 1 (string TokenKind.LooseStringLiteral true false false s)
unfolding token_at longest rules punctuation keywords others matched classed spelled ident_start upper lower digit blank
quote-token s = refl

module _ (s : List ℕ) where
  at_first : longest no_match rules (64 ∷ s) ≡ longest no_match (drop 1 others) (64 ∷ s)
  unfolding punctuation keywords others
  at_first = no-spelling no_match 64 s (eqb 64) refl refl refl
      ∙ keep no_match identifier_rule (drop 1 others) (64 ∷ s) (le_of_eq (unfold matched classed ident_start upper lower in refl))

  at_rest : (n : ℕ) → longest (match TokenKind.BuiltinName (suc (suc n))) (drop 2 others) (64 ∷ s) ≡ match TokenKind.BuiltinName (suc (suc n))
  unfolding longest others matched classed spelled digit blank
  at_rest n = simp (le-ltb (suc (suc n)) 0 (omega arith), le-ltb (suc (suc n)) 1 (omega arith))

  at-alone : longest no_match (drop 2 others) (64 ∷ s) ≡ match TokenKind.AtWithoutIdentError 1
  unfolding longest others matched classed spelled digit blank
  at-alone = refl

builtin-next : (c : ℕ) (s : List ℕ) → ident_start c ≡ true
    → longest no_match (drop 1 others) (64 ∷ c ∷ s) ≡ longest (match TokenKind.BuiltinName (suc (suc (run ident_part s)))) (drop 2 others) (64 ∷ c ∷ s)
unfolding others
builtin-next c s e =
    took no_match builtin_rule (drop 2 others) (64 ∷ c ∷ s) (suc (suc (run ident_part s))) (unfold matched classed in (rw e (omega arith))) (omega arith)

builtin-skip : (s : List ℕ) → ident_start (get_or s 0 0) ≡ false → longest no_match (drop 1 others) (64 ∷ s) ≡ longest no_match (drop 2 others) (64 ∷ s)
unfolding others
builtin-skip s e = keep no_match builtin_rule (drop 2 others) (64 ∷ s) (le_of_eq (go s e))
  where
    go : (t : List ℕ) → ident_start (get_or t 0 0) ≡ false → matched builtin_rule (64 ∷ t) ≡ 0
    go [] f = unfold matched classed in refl
    go (c ∷ t) f = unfold matched classed in (rw f)

pub at-builtin : (s : List ℕ) → ident_start (get_or s 0 0) ≡ true → token_at (64 ∷ s) ≡ lexeme TokenKind.BuiltinName (suc (suc (run ident_part (drop 1 s))))
unfolding token_at
at-builtin [] e = absurd (false≢true (unfold ident_start upper lower in e))
at-builtin (c ∷ s) e =
    ap (λ (m : Match). finish m (64 ∷ c ∷ s)) (at_first (c ∷ s) ∙ (builtin-next c s e ∙ at_rest (c ∷ s) (run ident_part s)))
    ∙ ap (λ (k : ℕ). lexeme TokenKind.BuiltinName k) (omega arith)

pub at-error : (s : List ℕ) → ident_start (get_or s 0 0) ≡ false → token_at (64 ∷ s) ≡ lexeme TokenKind.AtWithoutIdentError 1
unfolding token_at
at-error s e = ap (λ (m : Match). finish m (64 ∷ s)) (at_first s ∙ (builtin-skip s e ∙ at-alone s))

slash-first : (s : List ℕ) → longest no_match rules (47 ∷ s) ≡ longest (match TokenKind.Slash 1) (drop 8 others) (47 ∷ s)
unfolding longest rules punctuation keywords others matched classed spelled ident_start upper lower digit blank
slash-first s = refl

line_known : (s : List ℕ) → token_at (47 ∷ 47 ∷ s) ≡ more 2 (line_comment s)
unfolding token_at longest rules punctuation keywords others matched classed spelled ident_start upper lower digit blank
line_known s = refl

block-known : (s : List ℕ) → token_at (47 ∷ 42 ∷ s) ≡ more 2 (block_comment s 1)
unfolding token_at longest rules punctuation keywords others matched classed spelled ident_start upper lower digit blank
block-known s = refl

pub slash-line : (s : List ℕ) → get_or s 0 0 ≡ 47 → token_at (47 ∷ s) ≡ more 2 (line_comment (drop 1 s))
slash-line [] e = absurd (omega arith)
slash-line (c ∷ s) e = rw e (line_known s)

pub slash-block : (s : List ℕ) → get_or s 0 0 ≡ 42 → token_at (47 ∷ s) ≡ more 2 (block_comment (drop 1 s) 1)
slash-block [] e = absurd (omega arith)
slash-block (c ∷ s) e = rw e (block-known s)

slash-rest : (s : List ℕ) → (get_or s 0 0 ≡ 47 → ⊥) → (get_or s 0 0 ≡ 42 → ⊥)
    → longest (match TokenKind.Slash 1) (drop 8 others) (47 ∷ s) ≡ match TokenKind.Slash 1
unfolding longest others matched spelled
slash-rest [] e f = refl
slash-rest (c ∷ s) e f = simp (ne_eqb 47 c (λ g. e (sym g)), ne_eqb 42 c (λ g. f (sym g)))

pub slash-alone : (s : List ℕ) → (get_or s 0 0 ≡ 47 → ⊥) → (get_or s 0 0 ≡ 42 → ⊥) → token_at (47 ∷ s) ≡ lexeme TokenKind.Slash 1
unfolding token_at
slash-alone s e f = ap (λ (m : Match). finish m (47 ∷ s)) (slash-first s ∙ slash-rest s e f)

-- Any other byte: a fixed spelling of one or two bytes, or none. It is found in the byte and the one after it, 0 at the end.
abbrev shortly : List ℕ → Bool
shortly [] = false
shortly (a ∷ []) = true
shortly (a ∷ c ∷ []) = ltb 0 c
shortly (a ∷ c ∷ d ∷ w) = false

abbrev short : List Fixed → Bool
short [] = true
short (f ∷ fs) = shortly f.spelling && short fs

short-spelled : (w : List ℕ) (b : ℕ) (s : List ℕ) → shortly w ≡ true → spelled w (b ∷ s) ≡ spelled w (b ∷ get_or s 0 0 ∷ [])
unfolding spelled
short-spelled [] b s e = refl
short-spelled (a ∷ []) b s e = refl
short-spelled (a ∷ c ∷ []) b [] e = rw (ne_eqb c 0 (λ z. let h = ltb-true 0 c e in omega arith))
short-spelled (a ∷ c ∷ []) b (d ∷ s) e = refl
short-spelled (a ∷ c ∷ d ∷ w) b s e = absurd (false≢true e)

short-longest : (fs : List Fixed) (m : Match) (b : ℕ) (s : List ℕ) → short fs ≡ true
    → longest m (map rule fs) (b ∷ s) ≡ longest m (map rule fs) (b ∷ get_or s 0 0 ∷ [])
unfolding longest matched
short-longest [] m b s e = refl
short-longest (f ∷ fs) m b s e =
    let h = and_both (shortly f.spelling) (short fs) e in
    ap (λ (t : Bool). longest (cond (ltb m.len (cond t (length f.spelling) 0)) (match f.kind (cond t (length f.spelling) 0)) m) (map rule fs) (b ∷ s))
    (short-spelled f.spelling b s h.0)
    ∙ short-longest fs _ b s h.1

module _ (b : ℕ) (s : List ℕ) (i : ident_start b ≡ false) (d : digit b ≡ false) (k : blank b ≡ false) (e34 : eqb 34 b ≡ false)
    (e47 : eqb 47 b ≡ false) (e64 : eqb 64 b ≡ false) where
  not-this : (q : Class) (a : ℕ) → q b ≡ false → q a ≡ true → eqb a b ≡ false
  not-this q a f t = ne_eqb a b (λ e. false≢true (sym f ∙ (ap q (sym e) ∙ t)))

  apart-keywords : apart (λ a. not (ident_start a)) keywords ≡ true
  unfolding keywords ident_start upper lower
  apart-keywords = refl

  short-punctuation : short punctuation ≡ true
  unfolding punctuation
  short-punctuation = refl

  -- no other rule begins with the byte
  unspelled : spelled (ascii "hex\"") (b ∷ s) ≡ false
  unfolding spelled ident_start upper lower
  unspelled = rw (not-this ident_start 104 i refl)

  others-none : (m : Match) → longest m others (b ∷ s) ≡ m
  unfolding others digit
  others-none m = keep m identifier_rule (drop 1 others) (b ∷ s) (unfold matched classed in (rw i (omega arith)))
      ∙ others-rest m b s e64 d (not-this digit 48 d refl) e34 unspelled k e47

  other-match : longest no_match rules (b ∷ s) ≡ longest no_match (map rule punctuation) (b ∷ get_or s 0 0 ∷ [])
  other-match = rules-split no_match b s
      ∙ (others-none _
      ∙ (pass (λ a. not (ident_start a)) keywords _ b s apart-keywords (ap not i)
      ∙ short-longest punctuation no_match b s short-punctuation))

  pub other-token : token_at (b ∷ s) ≡ finish (longest no_match (map rule punctuation) (b ∷ get_or s 0 0 ∷ [])) (b ∷ s)
  unfolding token_at
  other-token = ap (λ (m : Match). finish m (b ∷ s)) other-match
