-- Law: no rule of the lexer makes an Eof; it stands only at the end of a text.
use Rattle.std.specs.Prelude.{◌≡◌, refl, List, [], ◌∷◌, ◌++◌, map, Bool, true, false, cond, not, ◌&&◌, ◌||◌, ℕ, suc, pred, ◌<◌, eqb, ltb, drop}
use Rattle.std.proofs.Common.{ltb-true, lit<}
use Rattle.words.specs.Token as TokenKind
use Rattle.utf8.specs.Utf8.{character_at}
use Rattle.utf8.specs.declared.Character.{Character}
use Rattle.std.specs.Prelude.{Option, Some, None}
use Rattle.scan.specs.Bytes.{ident_part, is_digit}
use Rattle.scan.specs.Longest.{and_both}
use Rattle.scan.specs.Lexer.{Lexeme, lexeme, more, Rule, matched, callback, Match, longest, Fixed, rule, punctuation, keywords, others, rules, no_match, token_at, string, number, block_comment, line_comment, invalid_char}

-- A kind that is not Eof, nor one that there isn't.
abbrev pub Low : Lexeme → Type 0
Low l = l.kind < TokenKind.Eof

abbrev Lows : (List ℕ → Lexeme) → Type 0
Lows f = (s : List ℕ) → Low (f s)

either : (t : Bool) (a b : Lexeme) → Low a → Low b → Low (cond t a b)
either true a b h g = h
either false a b h g = g

chosen : (t : Bool) (a b : ℕ) → a < TokenKind.Eof → b < TokenKind.Eof → cond t a b < TokenKind.Eof
chosen true a b h g = h
chosen false a b h g = g

line_low : Lows line_comment
unfolding line_comment
line_low [] = lit< tt
line_low (b ∷ s) = either (eqb b 10) (lexeme TokenKind.LineComment 1) (more 1 (line_comment s)) (lit< tt) (line_low s)

block-low : (s : List ℕ) (depth : ℕ) → Low (block_comment s depth)
unfolding block_comment
block-low [] depth = either (eqb depth 0) (lexeme TokenKind.BlockComment 0) (lexeme TokenKind.UnclosedBlockCommentError 0) (lit< tt) (lit< tt)
block-low (a ∷ []) depth = either (eqb depth 0) (lexeme TokenKind.BlockComment 0) (lexeme TokenKind.UnclosedBlockCommentError 1) (lit< tt) (lit< tt)
block-low (a ∷ b ∷ s) depth =
    either (eqb depth 0) (lexeme TokenKind.BlockComment 0) _ (lit< tt)
    (either (eqb a 42 && eqb b 47) (more 2 (block_comment s (pred depth))) _ (block-low s (pred depth))
    (either (eqb a 47 && eqb b 42) (more 2 (block_comment s (suc depth))) (more 1 (block_comment (b ∷ s) depth)) (block-low s (suc depth)) (block-low (b ∷ s) depth)))

number-low : (kind radix : ℕ) (m : Bool) → kind < TokenKind.Eof → Lows (number kind radix m)
unfolding number
number-low kind radix m h [] = chosen m TokenKind.MalformedIdentError kind (lit< tt) h
number-low kind radix m h (b ∷ s) =
    let m' = m || (not (eqb b 95) && not (is_digit radix b)) in
    either (ident_part b) (more 1 (number kind radix m' s)) (lexeme (cond m TokenKind.MalformedIdentError kind) 0) (number-low kind radix m' h s) (chosen m TokenKind.MalformedIdentError kind (lit< tt) h)

string-low : (kind : ℕ) (hides hidden m : Bool) → kind < TokenKind.Eof → Lows (string kind hides hidden m)
unfolding string
string-low kind hides hidden m h [] = lit< tt
string-low kind hides hidden m h (b ∷ s) =
    let h' = hides && (not hidden && eqb b 92) in
    let m' = m || (not hidden && (eqb b 10 || eqb b 13)) in
    either (not hidden && eqb b 34) (lexeme (cond m TokenKind.MultilineStringError kind) 1) (more 1 (string kind hides h' m' s)) (chosen m TokenKind.MultilineStringError kind (lit< tt) h) (string-low kind hides h' m' h s)

invalid-low : Lows invalid_char
unfolding invalid_char
invalid-low s = go (character_at s)
  where
    go : (c : Option Character) → Low (elim c [ Some c ↦ lexeme TokenKind.InvalidCharError c.length | None ↦ lexeme TokenKind.InvalidCharError 1 ])
    go (Some c) = lit< tt
    go None = lit< tt

data Sound : List Rule → Type 0 where
  none : Sound []
  one : {r : Rule} {rs : List Rule} → Lows (callback r) → Sound rs → Sound (r ∷ rs)

-- Whether all kinds of fixed spellings are so.
all-low : List Fixed → Bool
all-low [] = true
all-low (f ∷ fs) = ltb f.kind TokenKind.Eof && all-low fs

fixed-sound : (fs : List Fixed) (rs : List Rule) → all-low fs ≡ true → Sound rs → Sound (map rule fs ++ rs)
unfolding all-low
fixed-sound [] rs e h = h
fixed-sound (f ∷ fs) rs e h = let (l, g) = and_both (ltb f.kind TokenKind.Eof) (all-low fs) e in one (λ s. ltb-true f.kind TokenKind.Eof l) (fixed-sound fs rs g h)

rules-sound : Sound rules
unfolding rules others punctuation keywords all-low
rules-sound =
    fixed-sound punctuation _ refl
    (fixed-sound keywords _ refl
    (one (λ s. lit< tt)
    (one (λ s. lit< tt)
    (one (number-low TokenKind.DecimalLiteral 10 false (lit< tt))
    (one (number-low TokenKind.HexLiteral 16 false (lit< tt))
    (one (number-low TokenKind.BinLiteral 2 false (lit< tt))
    (one (string-low TokenKind.LooseStringLiteral true false false (lit< tt))
    (one (string-low TokenKind.LooseHexStringLiteral false false false (lit< tt))
    (one (λ s. lit< tt)
    (one line_low
    (one (λ s. block-low s 1)
    (one (λ s. lit< tt) none))))))))))))

longest-low : (s : List ℕ) (m : Match) {rs : List Rule} → Sound rs → Lows m.after → Lows (longest m rs s).after
unfolding longest
longest-low s m none h = h
longest-low s m (one {r} w l) h = longest-low s (cond (ltb m.len (matched r s)) (record { len = matched r s; after = callback r }) m) l (go (ltb m.len (matched r s)))
  where
    go : (t : Bool) → Lows (cond t (record { len = matched r s; after = callback r }) m).after
    go true = w
    go false = h

-- The token at the front of a text is no Eof.
pub token-low : (s : List ℕ) → Low (token_at s)
unfolding token_at
token-low s = longest-low s no_match rules-sound invalid-low (drop (longest no_match rules s).len s)
