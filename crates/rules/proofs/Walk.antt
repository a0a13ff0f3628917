-- The walk that the tables make is the definition's token: runs, numbers and names.
use Rattle.std.specs.Prelude.{◌≡◌, Bool, cond, not, ◌&&◌, ◌||◌, ℕ, suc, ◌+◌, ◌-◌, ltb, take}
use Rattle.std.proofs.Math.Path.{refl}
use Rattle.std.proofs.Common.{sym, ◌∙◌, ap, subst, arith}
use mathlib.Core.List.{List, [], ◌∷◌}
use Rattle.std.proofs.Math.Bool.{true, false}
use Rattle.std.proofs.lemmas.Bool.{false≢true}
use borrow.Author.Tests.{eqb-true}
use Rattle.std.proofs.Math.Dec.{eqb}
use Rattle.words.specs.Token as TokenKind
use Rattle.scan.specs.Bytes.{Class, digit, upper, lower, ident_start, ident_part, blank, is_digit}
use Rattle.scan.specs.Lexer.{Lexeme, lexeme, more, run, spelled, classed, token_at, number, punctuation}
use Rattle.scan.specs.Longest.{keyword_of}
use Rattle.tokens.specs.First.{hex_prefix, bin_prefix, number-token}
use Rattle.rules.specs.Rule.{goes_on, stop, start, name, name_h, name_he, name_hex, blanks, builtin, zero_alone, decimal, zero_x, zero_b, hexadecimal, binary, malformed, quote, hex_quote, line, block, marks, digits, rows, after, kind_of}
use Rattle.rules.specs.Walk.{named, special, step, token_of, walk}

or-true : (t : Bool) → (t || true) ≡ true
or-true true = refl
or-true false = refl

-- ------------------------------------------------------------------ runs

-- A walk that stays in its state through the bytes of a class, and ends behind them.
stays : (q : ℕ) (p : Class) → goes_on q ≡ true → ((b : ℕ) → after q b ≡ cond (p b) q stop) → (s : List ℕ) → walk q s ≡ lexeme q (run p s)
unfolding walk run
stays q p g h [] = refl
stays q p g h (b ∷ s) = rw (h b) (go (p b) (stays q p g h s))
  where
    go : (t : Bool) → walk q s ≡ lexeme q (run p s) → step q (cond t q stop) (walk (cond t q stop) s) ≡ lexeme q (cond t (suc (run p s)) 0)
    go true e = rw (g, e) (ap (λ (k : ℕ). lexeme q k) (omega arith))
    go false e = refl

pub blanks-walk : (s : List ℕ) → walk blanks s ≡ lexeme blanks (run blank s)
blanks-walk s = stays blanks blank refl (λ b. unfold after rows in refl) s

pub name-walk : (s : List ℕ) → walk name s ≡ lexeme name (run ident_part s)
name-walk s = stays name ident_part refl (λ b. unfold after rows in refl) s

pub builtin-walk : (s : List ℕ) → walk builtin s ≡ lexeme builtin (run ident_part s)
builtin-walk s = stays builtin ident_part refl (λ b. unfold after rows in refl) s

-- ------------------------------------------------------------------ numbers

-- An end whose kind is the state's own.
abbrev plainly : ℕ → Bool
plainly q = not (eqb (kind_of q) TokenKind.Eof)

abbrev plain_of : Lexeme → Lexeme
plain_of l = lexeme (kind_of l.kind) l.len

pub record Ends (l x : Lexeme) : Type 0 where
  pub own : plainly l.kind ≡ true
  pub is : plain_of l ≡ x

own-token : (s : List ℕ) (l : Lexeme) → plainly l.kind ≡ true → token_of s l ≡ plain_of l
own-token s l e = go (eqb (kind_of l.kind) TokenKind.Eof) e
  where
    go : (t : Bool) → not t ≡ true → cond t (special s l) (lexeme (kind_of l.kind) l.len) ≡ plain_of l
    go true e = absurd (false≢true e)
    go false e = refl

pub ends-token : (s : List ℕ) (l x : Lexeme) → Ends l x → token_of s l ≡ x
ends-token s l x e = own-token s l e.own ∙ e.is

pub ends_more : (n : ℕ) (l x : Lexeme) → Ends l x → Ends (more n l) (more n x)
ends_more n l x e = record { own = e.own; is = ap (more n) e.is }

digit-part : (r b : ℕ) → is_digit r b ≡ true → ident_part b ≡ true
unfolding is_digit ident_part ident_start
digit-part r b e = go (digit b) (upper b) (lower b) refl refl refl e
  where
    go : (t u v : Bool) → digit b ≡ t → upper b ≡ u → lower b ≡ v
        → cond t (ltb (b - 48) r) (cond u (ltb (b - 65 + 10) r) (cond v (ltb (b - 97 + 10) r) false)) ≡ true
        → ((v || (u || eqb b 95)) || t) ≡ true
    go true true true et eu ev e = refl
    go true true false et eu ev e = refl
    go true false true et eu ev e = refl
    go true false false et eu ev e = or-true (eqb b 95)
    go false true true et eu ev e = refl
    go false true false et eu ev e = refl
    go false false true et eu ev e = refl
    go false false false et eu ev e = absurd (false≢true e)

under-part : (b : ℕ) → eqb b 95 ≡ true → ident_part b ≡ true
unfolding ident_part ident_start upper lower
under-part b e = rw (eqb-true b 95 e)

malformed-walk : (s : List ℕ) → walk malformed s ≡ lexeme malformed (run ident_part s)
malformed-walk s = stays malformed ident_part refl (λ b. unfold after rows in refl) s

-- once malformed, a number is malformed to the end of its run
malformed-number : (k r : ℕ) (s : List ℕ) → number k r true s ≡ lexeme TokenKind.MalformedIdentError (run ident_part s)
unfolding number run
malformed-number k r [] = refl
malformed-number k r (b ∷ s) = go (ident_part b) (malformed-number k r s)
  where
    go : (t : Bool) → number k r true s ≡ lexeme TokenKind.MalformedIdentError (run ident_part s)
        → cond t (more 1 (number k r true s)) (lexeme TokenKind.MalformedIdentError 0) ≡ lexeme TokenKind.MalformedIdentError (cond t (suc (run ident_part s)) 0)
    go true e = rw e (ap (λ (n : ℕ). lexeme TokenKind.MalformedIdentError n) (omega arith))
    go false e = refl

malformed-ends : (k r : ℕ) (s : List ℕ) → Ends (walk malformed s) (number k r true s)
unfolding kind_of marks punctuation
malformed-ends k r s = rw (malformed-walk s, malformed-number k r s) (record { own = refl; is = refl })

-- A number's state `q`, of radix `r` and kind `k`.
module _ (q k r : ℕ) (g : goes_on q ≡ true) (o : plainly q ≡ true) (e : kind_of q ≡ k) where
  ends-here : Ends (lexeme q 0) (lexeme k 0)
  ends-here = record { own = o; is = ap (λ (x : ℕ). lexeme x 0) e }

  -- one byte on, from a state `p` of that kind: a digit or `_`, another letter or digit, or none
  digits_step : (p b : ℕ) (s : List ℕ) → Ends (lexeme p 0) (lexeme k 0) → Ends (walk q s) (number k r false s)
      → Ends (step p (digits q (is_digit r) b) (walk (digits q (is_digit r) b) s)) (number k r false (b ∷ s))
  unfolding number
  digits_step p b s z h = go (is_digit r b) (eqb b 95) (ident_part b) refl refl refl
    where
      m : Ends (walk malformed s) (number k r true s)
      m = malformed-ends k r s

      go : (t u v : Bool) → is_digit r b ≡ t → eqb b 95 ≡ u → ident_part b ≡ v
          → Ends (step p (cond (t || u) q (cond v malformed stop)) (walk (cond (t || u) q (cond v malformed stop)) s))
          (cond v (more 1 (number k r (not u && not t) s)) (lexeme k 0))
      go true true true et eu ev = rw g (ends_more 1 _ _ h)
      go true false true et eu ev = rw g (ends_more 1 _ _ h)
      go false true true et eu ev = rw g (ends_more 1 _ _ h)
      go false false true et eu ev = ends_more 1 _ _ m
      go false false false et eu ev = z
      go true u false et eu ev = absurd (false≢true (sym ev ∙ digit-part r b et))
      go false true false et eu ev = absurd (false≢true (sym ev ∙ under-part b eu))

  digits-walk : ((b : ℕ) → after q b ≡ digits q (is_digit r) b) → (s : List ℕ) → Ends (walk q s) (number k r false s)
  unfolding walk number
  digits-walk h [] = ends-here
  digits-walk h (b ∷ s) = rw (h b) (digits_step q b s ends-here (digits-walk h s))

pub decimal-walk : (s : List ℕ) → Ends (walk decimal s) (number TokenKind.DecimalLiteral 10 false s)
unfolding kind_of marks punctuation
decimal-walk s = digits-walk decimal TokenKind.DecimalLiteral 10 refl refl refl (λ b. unfold after rows in refl) s

hexadecimal-walk : (s : List ℕ) → Ends (walk hexadecimal s) (number TokenKind.HexLiteral 16 false s)
unfolding kind_of marks punctuation
hexadecimal-walk s = digits-walk hexadecimal TokenKind.HexLiteral 16 refl refl refl (λ b. unfold after rows in refl) s

binary-walk : (s : List ℕ) → Ends (walk binary s) (number TokenKind.BinLiteral 2 false s)
unfolding kind_of marks punctuation
binary-walk s = digits-walk binary TokenKind.BinLiteral 2 refl refl refl (λ b. unfold after rows in refl) s

-- `0`: alone, with a radix prefix, or a decimal number.
zero-digit : digit 48 ≡ true
unfolding digit
zero-digit = refl

more-two : (m n : ℕ) (l : Lexeme) → more m (more n l) ≡ more (m + n) l
more-two m n l = ap (λ (k : ℕ). lexeme l.kind k) (omega arith)

-- a prefix with no digit of its radix: a malformed number
prefix-no : (a : ℕ) (s : List ℕ) → ident_part a ≡ true → (not (eqb a 95) && not (is_digit 10 a)) ≡ true
    → classed hex_prefix (48 ∷ a ∷ s) ≡ false → classed bin_prefix (48 ∷ a ∷ s) ≡ false
    → token_at (48 ∷ a ∷ s) ≡ more 2 (number TokenKind.DecimalLiteral 10 true s)
unfolding number
prefix-no a s i m h g = number-token 48 (a ∷ s) zero-digit false false h g ∙ (rw (i, m) (more-two 1 1 _))

-- the states `0x` and `0b`: `q`, on which a digit of the radix leads to `p`
module _ (q p a k r : ℕ) (o : plainly q ≡ true) (e : kind_of q ≡ TokenKind.MalformedIdentError) (g : goes_on p ≡ true)
    (f : (b : ℕ) → after q b ≡ cond (is_digit r b) p (cond (ident_part b) malformed stop))
    (w : (s : List ℕ) → Ends (walk p s) (number k r false s))
    (yes : (b : ℕ) (s : List ℕ) → is_digit r b ≡ true → token_at (48 ∷ a ∷ b ∷ s) ≡ more 3 (number k r false s))
    (no : (b : ℕ) (s : List ℕ) → is_digit r b ≡ false → token_at (48 ∷ a ∷ b ∷ s) ≡ more 2 (number TokenKind.DecimalLiteral 10 true (b ∷ s)))
    (alone : token_at (48 ∷ a ∷ []) ≡ more 2 (number TokenKind.DecimalLiteral 10 true [])) where
  prefix_here : Ends (lexeme q 0) (lexeme TokenKind.MalformedIdentError 0)
  prefix_here = record { own = o; is = ap (λ (x : ℕ). lexeme x 0) e }

  prefix-ends : (s : List ℕ) → Ends (more 2 (walk q s)) (token_at (48 ∷ a ∷ s))
  unfolding walk number
  prefix-ends [] = rw alone (ends_more 2 _ _ prefix_here)
  prefix-ends (b ∷ s) = rw (f b) (go (is_digit r b) (ident_part b) refl refl)
    where
      go : (t v : Bool) → is_digit r b ≡ t → ident_part b ≡ v
          → Ends (more 2 (step q (cond t p (cond v malformed stop)) (walk (cond t p (cond v malformed stop)) s))) (token_at (48 ∷ a ∷ b ∷ s))
      go true v et ev = rw (g, yes b s et, ← more-two 2 1 (number k r false s)) (ends_more 2 _ _ (ends_more 1 _ _ (w s)))
      go false true et ev = rw (no b s et, ev) (ends_more 2 _ _ (ends_more 1 _ _ (malformed-ends TokenKind.DecimalLiteral 10 s)))
      go false false et ev = rw (no b s et, ev) (ends_more 2 _ _ prefix_here)

x-ends : (s : List ℕ) → Ends (more 2 (walk zero_x s)) (token_at (48 ∷ 120 ∷ s))
unfolding kind_of marks punctuation after rows classed ident_part ident_start is_digit upper lower digit
x-ends s =
    prefix-ends zero_x hexadecimal 120 TokenKind.HexLiteral 16 refl refl refl (λ b. refl) hexadecimal-walk
    (λ b s' t. number-token 48 (120 ∷ b ∷ s') zero-digit true false (rw t) refl)
    (λ b s' t. prefix-no 120 (b ∷ s') refl refl (rw t) refl)
    (prefix-no 120 [] refl refl refl refl) s

b-ends : (s : List ℕ) → Ends (more 2 (walk zero_b s)) (token_at (48 ∷ 98 ∷ s))
unfolding kind_of marks punctuation after rows classed ident_part ident_start is_digit upper lower digit
b-ends s =
    prefix-ends zero_b binary 98 TokenKind.BinLiteral 2 refl refl refl (λ b. refl) binary-walk
    (λ b s' t. number-token 48 (98 ∷ b ∷ s') zero-digit false true refl (rw t))
    (λ b s' t. prefix-no 98 (b ∷ s') refl refl refl (rw t))
    (prefix-no 98 [] refl refl refl refl) s

zero-here : Ends (lexeme zero_alone 0) (lexeme TokenKind.DecimalLiteral 0)
unfolding kind_of marks punctuation
zero-here = record { own = refl; is = refl }

pub zero-ends : (s : List ℕ) → Ends (more 1 (walk zero_alone s)) (token_at (48 ∷ s))
unfolding walk
zero-ends [] = unfold number classed in (rw (number-token 48 [] zero-digit false false refl refl) (ends_more 1 _ _ zero-here))
zero-ends (c ∷ s) = rw first (go (eqb 120 c) (eqb 98 c) refl refl)
  where
    first : after zero_alone c ≡ cond (eqb 120 c) zero_x (cond (eqb 98 c) zero_b (digits decimal (is_digit 10) c))
    first = unfold after rows in refl

    go : (t u : Bool) → eqb 120 c ≡ t → eqb 98 c ≡ u
        → Ends (more 1 (step zero_alone (cond t zero_x (cond u zero_b (digits decimal (is_digit 10) c))) (walk (cond t zero_x (cond u zero_b (digits decimal (is_digit 10) c))) s))) (token_at (48 ∷ c ∷ s))
    go true u et eu = rw (← eqb-true 120 c et, more-two 1 1 (walk zero_x s)) (x-ends s)
    go false true et eu = rw (← eqb-true 98 c eu, more-two 1 1 (walk zero_b s)) (b-ends s)
    go false false et eu =
        rw (number-token 48 (c ∷ s) zero-digit false false (unfold classed in (rw et)) (unfold classed in (rw eu)))
        (ends_more 1 _ _ (unfold kind_of marks punctuation in (digits_step decimal TokenKind.DecimalLiteral 10 refl refl refl zero_alone c s zero-here (decimal-walk s))))

-- ------------------------------------------------------------------ names

-- an end in a name: its spelling says the kind
record Spelt (q : ℕ) : Type 0 where
  own : eqb (kind_of q) TokenKind.Eof ≡ true
  quotes : eqb q quote ≡ false
  hex_quotes : eqb q hex_quote ≡ false
  lines : eqb q line ≡ false
  blocks : eqb q block ≡ false
  starts : eqb q start ≡ false

spelt : (q : ℕ) → named q ≡ true → Spelt q
unfolding kind_of marks punctuation
spelt q e = go (eqb q name) (eqb q name_h) (eqb q name_he) (eqb q name_hex) refl refl refl refl e
  where
    this : (k : ℕ) → eqb q k ≡ true → Spelt k → Spelt q
    this k f h = subst Spelt (sym (eqb-true q k f)) h

    go : (t u v w : Bool) → eqb q name ≡ t → eqb q name_h ≡ u → eqb q name_he ≡ v → eqb q name_hex ≡ w → (t || (u || (v || w))) ≡ true → Spelt q
    go true u v w et eu ev ew f = this name et (record { own = refl; quotes = refl; hex_quotes = refl; lines = refl; blocks = refl; starts = refl })
    go false true v w et eu ev ew f = this name_h eu (record { own = refl; quotes = refl; hex_quotes = refl; lines = refl; blocks = refl; starts = refl })
    go false false true w et eu ev ew f = this name_he ev (record { own = refl; quotes = refl; hex_quotes = refl; lines = refl; blocks = refl; starts = refl })
    go false false false true et eu ev ew f = this name_hex ew (record { own = refl; quotes = refl; hex_quotes = refl; lines = refl; blocks = refl; starts = refl })
    go false false false false et eu ev ew f = absurd (false≢true f)

pub named-token : (s : List ℕ) (q n : ℕ) → named q ≡ true → token_of s (lexeme q n) ≡ lexeme (keyword_of (take n s)) n
named-token s q n e =
    let h = spelt q e in
    rw (h.own, h.quotes, h.hex_quotes, h.lines, h.blocks, h.starts)

-- The walk ends in a name behind all letters, digits and `_`.
pub record Names (l : Lexeme) (s : List ℕ) : Type 0 where
  pub ends : named l.kind ≡ true
  pub all : l.len ≡ run ident_part s

pub name-names : (s : List ℕ) → Names (walk name s) s
name-names s = rw (name-walk s) (record { ends = refl; all = refl })

-- a state `q` of a name, on which the byte `a` leads to `p`
module _ (q a p : ℕ) (n : named q ≡ true) (f : (b : ℕ) → after q b ≡ cond (eqb a b) p (cond (ident_part b) name stop)) where
  names-step : (b : ℕ) (s : List ℕ) → (eqb a b ≡ true → Names (step q p (walk p s)) (b ∷ s)) → Names (walk q (b ∷ s)) (b ∷ s)
  unfolding walk run
  names-step b s h = rw (f b) (go (eqb a b) (ident_part b) refl refl)
    where
      go : (t v : Bool) → eqb a b ≡ t → ident_part b ≡ v
          → Names (step q (cond t p (cond v name stop)) (walk (cond t p (cond v name stop)) s)) (b ∷ s)
      go true v et ev = h et
      go false true et ev = let k = name-names s in record { ends = k.ends; all = rw ev (omega (arith, k.all)) }
      go false false et ev = record { ends = n; all = rw ev }

names-end : (q : ℕ) → named q ≡ true → Names (walk q []) []
unfolding walk run
names-end q n = record { ends = n; all = refl }

names_more : (q a p : ℕ) (s : List ℕ) → goes_on p ≡ true → ident_part a ≡ true → Names (walk p s) s → Names (step q p (walk p s)) (a ∷ s)
unfolding run
names_more q a p s g i k = rw g (record { ends = k.ends; all = rw i (omega (arith, k.all)) })

hex-names : (s : List ℕ) → spelled (34 ∷ []) s ≡ false → Names (walk name_hex s) s
hex-names [] e = names-end name_hex refl
hex-names (b ∷ s) e = names-step name_hex 34 hex_quote refl (λ c. unfold after rows in refl) b s (λ t. absurd (false≢true (unfold spelled in (sym e ∙ rw t))))

he-names : (s : List ℕ) → spelled (120 ∷ 34 ∷ []) s ≡ false → Names (walk name_he s) s
he-names [] e = names-end name_he refl
he-names (b ∷ s) e = names-step name_he 120 name_hex refl (λ c. unfold after rows in refl) b s (λ t. go t (unfold spelled in (rw t at e)))
  where
    go : eqb 120 b ≡ true → spelled (34 ∷ []) s ≡ false → Names (step name_he name_hex (walk name_hex s)) (b ∷ s)
    go t h = rw (← eqb-true 120 b t) (names_more name_he 120 name_hex s refl (unfold ident_part ident_start upper lower in refl) (hex-names s h))

pub h-names : (s : List ℕ) → spelled (101 ∷ 120 ∷ 34 ∷ []) s ≡ false → Names (walk name_h s) s
h-names [] e = names-end name_h refl
h-names (b ∷ s) e = names-step name_h 101 name_he refl (λ c. unfold after rows in refl) b s (λ t. go t (unfold spelled in (rw t at e)))
  where
    go : eqb 101 b ≡ true → spelled (120 ∷ 34 ∷ []) s ≡ false → Names (step name_h name_he (walk name_he s)) (b ∷ s)
    go t h = rw (← eqb-true 101 b t) (names_more name_h 101 name_he s refl (unfold ident_part ident_start upper lower in refl) (he-names s h))
