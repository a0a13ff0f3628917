-- A source can be made of every text and its tokens: the names that lexing makes have places of their own in the table.
use Rattle.std.specs.Prelude.{◌≡◌, Bool, cond, ◌&&◌, ◌||◌, ℕ, zero, suc, pred, ◌+◌, ◌/◌, ◌≤◌, ◌<◌, length, get_or, drop}
use Rattle.std.proofs.Math.Path.{refl}
use Rattle.std.proofs.Common.{sym, ◌∙◌, true≢false, length-drop}
use Rattle.std.proofs.Math.Bool.{true, false, not}
use Rattle.std.proofs.lemmas.Bool.{false≢true}
use mathlib.Core.List.{List, [], ◌∷◌, ◌++◌, map}
use native.Mathlib.Omega.{arith}
use borrow.Author.Tests.{eqb-true, ltb-true, ltb-false, lt-ltb, le-leb, not-true}
use Rattle.std.proofs.Math.Dec.{eqb, ltb}
use Rattle.words.specs.Token as TokenKind
use Rattle.words.specs.Words.{token_word, token_kind, token_end}
use Rattle.words.specs.Laws.{high-pack, low-pack}
use Rattle.utf8.specs.Utf8.{character_at}
use Rattle.utf8.specs.declared.Character.{Character}
use Rattle.std.specs.Prelude.{Option, Some, None}
use Rattle.scan.specs.Bytes.{lower, upper, digit, is_digit, ident_start, ident_part}
use Rattle.scan.specs.Lexer.{Lexeme, lexeme, more, plain, line_comment, block_comment, number, string, Rule, regex, run, classed, matched, callback, Match, longest, Fixed, rule, punctuation, keywords, others, rules, invalid_char, no_match, finish, token_at, tokens_from, mark, has_mark, tokens_of, word}
use Rattle.scan.specs.Fits.{token-fits, spelled-within}
use Rattle.reading.specs.Source.{table_start, is_name}
use Rattle.interner.specs.Alike.{both}
use Rattle.interner.specs.Same.{all_inside}
use Rattle.interner.specs.Order.{rise_from, names_rise}
use Rattle.interner.specs.Table.{annotatable, source_length}

-- A token that is no name.
abbrev Quiet : Lexeme → Type 0
Quiet l = (l.kind < 128) × (is_name l.kind ≡ false)

either : (t : Bool) (x y : Lexeme) → Quiet x → Quiet y → Quiet (cond t x y)
either true x y p q = p
either false x y p q = q

line_quiet : (s : List ℕ) → Quiet (line_comment s)
unfolding line_comment
line_quiet [] = (omega arith, refl)
line_quiet (b ∷ s) = either (eqb b 10) _ _ (omega arith, refl) (line_quiet s)

block-quiet : (s : List ℕ) (depth : ℕ) → Quiet (block_comment s depth)
unfolding block_comment
block-quiet [] depth = either (eqb depth 0) _ _ (omega arith, refl) (omega arith, refl)
block-quiet (a ∷ []) depth = either (eqb depth 0) _ _ (omega arith, refl) (omega arith, refl)
block-quiet (a ∷ b ∷ s) depth =
    either (eqb depth 0) _ _ (omega arith, refl)
    (either (eqb a 42 && eqb b 47) _ _ (block-quiet s (pred depth))
    (either (eqb a 47 && eqb b 42) _ _ (block-quiet s (suc depth)) (block-quiet (b ∷ s) depth)))

-- A kind that is no name's, or that of a malformed token.
kind-quiet : (t : Bool) (a b n : ℕ) → Quiet (lexeme a n) → Quiet (lexeme b n) → Quiet (lexeme (cond t a b) n)
kind-quiet true a b n p q = p
kind-quiet false a b n p q = q

module _ (kind : ℕ) (q : Quiet (lexeme kind 0)) where
  number-quiet : (radix : ℕ) (m : Bool) (s : List ℕ) → Quiet (number kind radix m s)
  unfolding number
  number-quiet radix m [] = kind-quiet m _ _ 0 (omega arith, refl) q
  number-quiet radix m (b ∷ s) = either (ident_part b) _ _ (number-quiet radix (m || not (eqb b 95) && not (is_digit radix b)) s) (kind-quiet m _ _ 0 (omega arith, refl) q)

  string-quiet : (hides hidden m : Bool) (s : List ℕ) → Quiet (string kind hides hidden m s)
  unfolding string
  string-quiet hides hidden m [] = (omega arith, refl)
  string-quiet hides hidden m (b ∷ s) = either (not hidden && eqb b 34) _ _ (kind-quiet m _ _ 1 (omega arith, refl) q) (string-quiet hides (hides && (not hidden && eqb b 92)) _ s)

-- What holds of a token that is a name: it ends before a byte that could go on in it.
record Named (s : List ℕ) (l : Lexeme) : Type 0 where
  small : l.kind < 128
  start : l.kind ≡ TokenKind.Identifier → ident_part (get_or s 0 0) ≡ true
  long : l.kind ≡ TokenKind.BuiltinName → 2 ≤ l.len
  stop : is_name l.kind ≡ true → ident_part (get_or s l.len 0) ≡ false

quiet-named : (s : List ℕ) (l : Lexeme) → Quiet l → Named s l
quiet-named s l (a, b) =
    record {
      small = a;
      start = λ e. absurd (false≢true (sym b ∙ rw e));
      long = λ e. absurd (false≢true (sym b ∙ rw e));
      stop = λ e. absurd (true≢false (sym e ∙ b));
    }

none-past : ident_part 0 ≡ false
unfolding ident_part ident_start lower upper digit
none-past = refl

run-stop : (s : List ℕ) → ident_part (get_or s (run ident_part s) 0) ≡ false
unfolding run
run-stop [] = none-past
run-stop (b ∷ s) = go (ident_part b) refl (run-stop s)
  where
    go : (t : Bool) → ident_part b ≡ t → ident_part (get_or s (run ident_part s) 0) ≡ false → ident_part (get_or (b ∷ s) (cond t (suc (run ident_part s)) 0) 0) ≡ false
    go true e r = r
    go false e r = e

start-part : (b : ℕ) → ident_start b ≡ true → ident_part b ≡ true
unfolding ident_part
start-part b e = rw e

abbrev match_of : Rule → List ℕ → Match
match_of r s = record { len = matched r s; after = callback r }

abbrev Told : List ℕ → Rule → Type 0
Told s r = 0 < matched r s → Named s (finish (match_of r s) s)

data Sound (s : List ℕ) : List Rule → Type 0 where
  none : Sound s []
  one : {r : Rule} {rs : List Rule} → Told s r → Sound s rs → Sound s (r ∷ rs)

identifier-told : (s : List ℕ) → Told s (regex (ident_start ∷ []) ident_part (plain TokenKind.Identifier))
unfolding matched classed
identifier-told [] h = absurd (omega arith)
identifier-told (b ∷ s) h = go (ident_start b) refl h
  where
    go : (t : Bool) → ident_start b ≡ t → 0 < cond (t && true) (1 + run ident_part s) 0 → Named (b ∷ s) (more (cond (t && true) (1 + run ident_part s) 0) (lexeme TokenKind.Identifier 0))
    go true e l =
        let z : 1 + run ident_part s + 0 ≡ suc (run ident_part s) = omega arith in
        record { small = omega arith; start = λ _. start-part b e; long = λ k. absurd (omega arith); stop = λ _. rw z (run-stop s) }
    go false e l = absurd (omega arith)

builtin-told : (s : List ℕ) → Told s (regex (eqb 64 ∷ ident_start ∷ []) ident_part (plain TokenKind.BuiltinName))
unfolding matched classed
builtin-told [] h = absurd (omega arith)
builtin-told (a ∷ []) h = go (eqb 64 a) h
  where
    go : (t : Bool) → 0 < cond (t && false) (2 + run ident_part (drop 2 (a ∷ []))) 0 → Named (a ∷ []) (more (cond (t && false) (2 + run ident_part (drop 2 (a ∷ []))) 0) (lexeme TokenKind.BuiltinName 0))
    go true l = absurd (omega arith)
    go false l = absurd (omega arith)
builtin-told (a ∷ b ∷ s) h = go (eqb 64 a && (ident_start b && true)) h
  where
    go : (t : Bool) → 0 < cond t (2 + run ident_part s) 0 → Named (a ∷ b ∷ s) (more (cond t (2 + run ident_part s) 0) (lexeme TokenKind.BuiltinName 0))
    go true l =
        let z : 2 + run ident_part s + 0 ≡ suc (suc (run ident_part s)) = omega arith in
        record { small = omega arith; start = λ k. absurd (omega arith); long = λ _. omega arith; stop = λ _. rw z (run-stop s) }
    go false l = absurd (omega arith)

quiet_kinds : List Fixed → Bool
quiet_kinds [] = true
quiet_kinds (f ∷ fs) = (ltb f.kind 128 && not (is_name f.kind)) && quiet_kinds fs

module _ (s : List ℕ) where
  quiet_told : (r : Rule) → ((t : List ℕ) → Quiet (callback r t)) → Told s r
  quiet_told r q l = quiet-named s (finish (match_of r s) s) (q (drop (matched r s) s))

  fixed_told : (fs : List Fixed) (rs : List Rule) → quiet_kinds fs ≡ true → Sound s rs → Sound s (map rule fs ++ rs)
  unfolding quiet_kinds
  fixed_told [] rs e h = h
  fixed_told (f ∷ fs) rs e h =
      let (a, b) = both (ltb f.kind 128 && not (is_name f.kind)) (quiet_kinds fs) e in
      let (x, y) = both (ltb f.kind 128) (not (is_name f.kind)) a in
      one (quiet_told (rule f) (λ t. (ltb-true f.kind 128 x, not-true (is_name f.kind) y))) (fixed_told fs rs b h)

  rules-told : Sound s rules
  unfolding rules others punctuation keywords quiet_kinds
  rules-told =
      fixed_told punctuation _ refl
      (fixed_told keywords _ refl
      (one (identifier-told s)
      (one (builtin-told s)
      (one (quiet_told _ (number-quiet TokenKind.DecimalLiteral (omega arith, refl) 10 false))
      (one (quiet_told _ (number-quiet TokenKind.HexLiteral (omega arith, refl) 16 false))
      (one (quiet_told _ (number-quiet TokenKind.BinLiteral (omega arith, refl) 2 false))
      (one (quiet_told _ (string-quiet TokenKind.LooseStringLiteral (omega arith, refl) true false false))
      (one (quiet_told _ (string-quiet TokenKind.LooseHexStringLiteral (omega arith, refl) false false false))
      (one (quiet_told _ (λ t. (omega arith, refl)))
      (one (quiet_told _ line_quiet)
      (one (quiet_told _ (λ t. block-quiet t 1))
      (one (quiet_told _ (λ t. (omega arith, refl))) none))))))))))))

  longest-named : (m : Match) (rs : List Rule) → Sound s rs → Named s (finish m s) → Named s (finish (longest m rs s) s)
  unfolding longest
  longest-named m [] none f = f
  longest-named m (r ∷ rs) (one w h) f = longest-named (cond (ltb m.len (matched r s)) (match_of r s) m) rs h (go (ltb m.len (matched r s)) refl)
    where
      go : (t : Bool) → ltb m.len (matched r s) ≡ t → Named s (finish (cond t (match_of r s) m) s)
      go true e = w (let l = ltb-true m.len (matched r s) e in omega arith)
      go false e = f

  invalid-quiet : Quiet (invalid_char s)
  unfolding invalid_char
  invalid-quiet = go (character_at s)
    where
      go : (c : Option Character) → Quiet (elim c [ Some c ↦ lexeme TokenKind.InvalidCharError c.length | None ↦ lexeme TokenKind.InvalidCharError 1 ])
      go (Some c) = (omega arith, refl)
      go None = (omega arith, refl)

  token-named : Named s (token_at s)
  unfolding token_at
  token-named = longest-named no_match rules rules-told (quiet-named s (finish no_match s) invalid-quiet)

-- A word of the row, by its kind and end.
module _ (kind end : ℕ) (small : kind < 128) (low : end ≤ 65536) (ws : List ℕ) where
  kind-of : token_kind (token_word kind end) ≡ kind
  kind-of = high-pack 25 kind end small

  end_of : token_end (token_word kind end) ≡ end
  end_of = low-pack 25 kind end (omega arith)

  rise-word : (i last : ℕ) → is_name kind ≡ true → last < (end + 1) / 2 → i < 65536 → rise_from (i + 1) ((end + 1) / 2) ws ≡ true → rise_from i last (token_word kind end ∷ ws) ≡ true
  unfolding rise_from
  rise-word i last e h g r = rw (kind-of, e, end_of, lt-ltb last ((end + 1) / 2) h, lt-ltb i 65536 g) r

  rise-other : (i last : ℕ) → is_name kind ≡ false → rise_from (i + 1) last ws ≡ true → rise_from i last (token_word kind end ∷ ws) ≡ true
  unfolding rise_from
  rise-other i last e r = rw (kind-of, e) r

  inside-word : (n : ℕ) → end ≤ n → all_inside ws n ≡ true → all_inside (token_word kind end ∷ ws) n ≡ true
  unfolding all_inside
  inside-word n h r = rw (end_of, le-leb end n h) r

rise-none : (i last : ℕ) → rise_from i last [] ≡ true
unfolding rise_from
rise-none i last = refl

inside-none : (n : ℕ) → all_inside [] n ≡ true
unfolding all_inside
inside-none n = refl

suc-pred : (n : ℕ) → 1 ≤ n → suc (pred n) ≡ n
suc-pred zero h = absurd (omega arith)
suc-pred (suc n) h = refl

-- A token behind a name that ends at `e`, and what lies behind it.
module _ (s : List ℕ) (at i e : ℕ) (l : Lexeme) (named : Named s l) (some : 1 ≤ l.len) (fits : at + l.len ≤ 65536) (h : i ≤ at) (g : e ≤ at) (f : e ≡ at → 0 < e → ident_part (get_or s 0 0) ≡ false) where
  rises : is_name l.kind ≡ true → (e + 1) / 2 < (at + l.len + 1) / 2
  rises n = go (eqb l.kind TokenKind.Identifier) (eqb l.kind TokenKind.BuiltinName) refl refl n
    where
      identifier : ident_part (get_or s 0 0) ≡ true → (a b : Bool) → ltb e at ≡ a → ltb 0 e ≡ b → (e + 1) / 2 < (at + l.len + 1) / 2
      identifier p true b x y = omega (arith, ltb-true e at x)
      identifier p false true x y = absurd (true≢false (sym p ∙ f (omega (arith, ltb-false e at x)) (ltb-true 0 e y)))
      identifier p false false x y = omega (arith, ltb-false 0 e y)

      go : (a b : Bool) → eqb l.kind TokenKind.Identifier ≡ a → eqb l.kind TokenKind.BuiltinName ≡ b → (a || b) ≡ true → (e + 1) / 2 < (at + l.len + 1) / 2
      go true b x y n = identifier (named.start (eqb-true l.kind TokenKind.Identifier x)) (ltb e at) (ltb 0 e) refl refl
      go false true x y n = let k = named.long (eqb-true l.kind TokenKind.BuiltinName y) in omega arith
      go false false x y n = absurd (false≢true n)

  rise-behind : (ws : List ℕ)
      → ((j d : ℕ) → j ≤ at + l.len → d ≤ at + l.len → (d ≡ at + l.len → 0 < d → ident_part (get_or s l.len 0) ≡ false) → rise_from j ((d + 1) / 2) ws ≡ true)
      → rise_from i ((e + 1) / 2) (token_word l.kind (at + l.len) ∷ ws) ≡ true
  rise-behind ws rest = go (is_name l.kind) refl
    where
      go : (t : Bool) → is_name l.kind ≡ t → rise_from i ((e + 1) / 2) (token_word l.kind (at + l.len) ∷ ws) ≡ true
      go true n =
          rise-word l.kind (at + l.len) named.small fits ws i ((e + 1) / 2) n (rises n) (omega arith)
          (rest (i + 1) (at + l.len) (omega arith) (omega arith) (λ _ _. named.stop n))
      go false n =
          rise-other l.kind (at + l.len) named.small fits ws i ((e + 1) / 2) n
          (rest (i + 1) e (omega arith) (omega arith) (λ z _. absurd (omega arith)))

-- The names from an offset on: `e` is where the name before them ends, and the rest's first `skip` bytes belong to the token before.
lexed-rise : (s : List ℕ) (at skip i e : ℕ) → at + length s ≤ 65536 → i ≤ at + skip → e ≤ at + skip → (e ≡ at + skip → 0 < e → ident_part (get_or s skip 0) ≡ false)
    → rise_from i ((e + 1) / 2) (map word (tokens_from at skip s)) ≡ true
unfolding tokens_from
lexed-rise [] at skip i e n h g f = rise-other TokenKind.Eof at (omega arith) (omega arith) [] i ((e + 1) / 2) refl (rise-none (i + 1) ((e + 1) / 2))
lexed-rise (b ∷ s) at (suc skip) i e n h g f = lexed-rise s (suc at) skip i e (omega arith) (omega arith) (omega arith) (λ z l. f (omega arith) l)
lexed-rise (b ∷ s) at zero i e n h g f =
    let l = token_at (b ∷ s) in
    let t = token-fits b s in
    let w : l.len ≤ suc (length s) = t.within in
    let o : 1 ≤ l.len = t.some in
    let z : suc (pred l.len) ≡ l.len = suc-pred l.len o in
    rise-behind (b ∷ s) at i e l (token-named (b ∷ s)) o (omega arith) (omega arith) (omega arith) (λ x y. f (omega arith) y) _
    (λ j d p q r. lexed-rise s (suc at) (pred l.len) j d (omega arith) (omega arith) (omega arith) (λ x y. rw (← z) at (r (omega arith) y)))

lexed-inside : (s : List ℕ) (at skip n : ℕ) → at + length s ≤ n → n ≤ 65536 → all_inside (map word (tokens_from at skip s)) n ≡ true
unfolding tokens_from
lexed-inside [] at skip n h g = inside-word TokenKind.Eof at (omega arith) (omega arith) [] n (omega arith) (inside-none n)
lexed-inside (b ∷ s) at (suc skip) n h g = lexed-inside s (suc at) skip n (omega arith) g
lexed-inside (b ∷ s) at zero n h g =
    let l = token_at (b ∷ s) in
    let w : l.len ≤ suc (length s) = (token-fits b s).within in
    inside-word l.kind (at + l.len) (token-named (b ∷ s)).small (omega arith) _ n (omega arith) (lexed-inside s (suc at) (pred l.len) n (omega arith) g)

mark-long : (text : List ℕ) → has_mark text ≡ true → 3 ≤ length text
unfolding has_mark
mark-long text e = spelled-within mark text e

-- Every name of every text is in the table.
pub every-text : (text : List ℕ) (size : ℕ) → length text ≤ table_start → source_length (length text) ≤ size → annotatable text (map word (tokens_of text)) size ≡ true
unfolding annotatable tokens_of
every-text text size h room = rw (le-leb (length text) table_start h, le-leb (source_length (length text)) size room) (go (has_mark text) refl)
  where
    go : (t : Bool) → has_mark text ≡ t
        → (all_inside (map word (cond t (record { kind = TokenKind.Whitespace; end = 3 } ∷ tokens_from 3 0 (drop 3 text)) (tokens_from 0 0 text))) (length text)
        && names_rise (map word (cond t (record { kind = TokenKind.Whitespace; end = 3 } ∷ tokens_from 3 0 (drop 3 text)) (tokens_from 0 0 text))))
        ≡ true
    go true e =
        let m = mark-long text e in
        let r = length-drop 3 text in
        rw
        (inside-word TokenKind.Whitespace 3 (omega arith) (omega arith) _ (length text) m (lexed-inside (drop 3 text) 3 0 (length text) (omega arith) h), rise-other TokenKind.Whitespace 3 (omega arith) (omega arith) _ 0 0 refl (lexed-rise (drop 3 text) 3 0 1 0 (omega arith) (omega arith) (omega arith) (λ z _. absurd (omega arith))))
    go false e =
        rw
        (lexed-inside text 0 0 (length text) (omega arith) h, lexed-rise text 0 0 0 0 (omega arith) (omega arith) (omega arith) (λ _ z. absurd (omega arith)))
