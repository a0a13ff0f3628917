-- Law: a token has at least one byte and ends inside the text.
use Rattle.std.specs.Prelude.{◌≡◌, refl, List, [], ◌∷◌, ◌++◌, map, Bool, true, false, cond, not, ◌&&◌, ◌||◌, ℕ, suc, pred, ◌+◌, ◌≤◌, eqb, ltb, length, drop}
use Rattle.std.proofs.lemmas.Bool.{false≢true}
use Rattle.std.proofs.Common.{arith, ltb-true, length-drop}
use Rattle.words.specs.Token as TokenKind
use Rattle.utf8.specs.Utf8.{character_at}
use Rattle.utf8.specs.Laws.{character-fits}
use Rattle.utf8.specs.declared.Character.{Character}
use Rattle.std.specs.Prelude.{Option, Some, None}
use Rattle.scan.specs.Bytes.{Class, ident_part, is_digit}
use Rattle.scan.specs.Lexer.{Lexeme, lexeme, more, plain, Rule, token, regex, run, spelled, classed, matched, callback, Match, longest, Fixed, rule, punctuation, keywords, others, rules, no_match, finish, token_at, string, number, block_comment, line_comment, invalid_char}
use Rattle.scan.specs.Longest.{and_both, run_length}

-- A callback takes no more than there is.
abbrev Within : (List ℕ → Lexeme) → Type 0
Within f = (s : List ℕ) → (f s).len ≤ length s

-- of one step: either the token ends here with n bytes, or goes on behind one byte
either : (t : Bool) (k n : ℕ) (x : Lexeme) (s : ℕ) → n ≤ suc s → x.len ≤ s → (cond t (lexeme k n) (more 1 x)).len ≤ suc s
either true k n x s h g = h
either false k n x s h g = omega arith

plain-within : (k : ℕ) → Within (plain k)
plain-within k s = omega arith

line-within : Within line_comment
unfolding line_comment
line-within [] = omega arith
line-within (b ∷ s) = either (eqb b 10) TokenKind.LineComment 1 (line_comment s) (length s) (omega arith) (line-within s)

block_within : (s : List ℕ) (depth : ℕ) → (block_comment s depth).len ≤ length s
unfolding block_comment
block_within [] depth = go (eqb depth 0)
  where
    go : (t : Bool) → (cond t (lexeme TokenKind.BlockComment 0) (lexeme TokenKind.UnclosedBlockCommentError 0)).len ≤ 0
    go true = omega arith
    go false = omega arith
block_within (a ∷ []) depth = go (eqb depth 0)
  where
    go : (t : Bool) → (cond t (lexeme TokenKind.BlockComment 0) (lexeme TokenKind.UnclosedBlockCommentError 1)).len ≤ 1
    go true = omega arith
    go false = omega arith
block_within (a ∷ b ∷ s) depth =
    go (eqb depth 0) (eqb a 42 && eqb b 47) (eqb a 47 && eqb b 42) (block_within s (pred depth)) (block_within s (suc depth)) (block_within (b ∷ s) depth)
  where
    go : (t u v : Bool) → (block_comment s (pred depth)).len ≤ length s → (block_comment s (suc depth)).len ≤ length s → (block_comment (b ∷ s) depth).len ≤ suc (length s)
        → (cond t (lexeme TokenKind.BlockComment 0) (cond u (more 2 (block_comment s (pred depth))) (cond v (more 2 (block_comment s (suc depth))) (more 1 (block_comment (b ∷ s) depth))))).len ≤ suc (suc (length s))
    go true u v x y z = omega arith
    go false true v x y z = omega arith
    go false false true x y z = omega arith
    go false false false x y z = omega arith

number-within : (kind radix : ℕ) (m : Bool) → Within (number kind radix m)
unfolding number
number-within kind radix m [] = omega arith
number-within kind radix m (b ∷ s) = go (ident_part b) (number-within kind radix (m || not (eqb b 95) && not (is_digit radix b)) s)
  where
    m' : Bool
    m' = m || (not (eqb b 95) && not (is_digit radix b))

    go : (t : Bool) → (number kind radix m' s).len ≤ length s → (cond t (more 1 (number kind radix m' s)) (lexeme (cond m TokenKind.MalformedIdentError kind) 0)).len ≤ suc (length s)
    go true h = omega arith
    go false h = omega arith

string-within : (kind : ℕ) (hides hidden m : Bool) → Within (string kind hides hidden m)
unfolding string
string-within kind hides hidden m [] = omega arith
string-within kind hides hidden m (b ∷ s) =
    either (not hidden && eqb b 34) _ 1 _ (length s) (omega arith) (string-within kind hides (hides && (not hidden && eqb b 92)) _ s)

-- A rule matches no more than there is, and its callback takes no more than is left.
pub spelled-within : (w s : List ℕ) → spelled w s ≡ true → length w ≤ length s
unfolding spelled
spelled-within [] s e = omega arith
spelled-within (a ∷ w) [] e = absurd (false≢true e)
spelled-within (a ∷ w) (b ∷ s) e = let h = spelled-within w s (and_both (eqb a b) (spelled w s) e).1 in omega arith

classed-within : (ps : List Class) (s : List ℕ) → classed ps s ≡ true → length ps ≤ length s
unfolding classed
classed-within [] s e = omega arith
classed-within (p ∷ ps) [] e = absurd (false≢true e)
classed-within (p ∷ ps) (b ∷ s) e = let h = classed-within ps s (and_both (p b) (classed ps s) e).1 in omega arith

matched-within : (r : Rule) (s : List ℕ) → matched r s ≤ length s
unfolding matched
matched-within (token w f) s = go (spelled w s) refl
  where
    go : (t : Bool) → spelled w s ≡ t → cond t (length w) 0 ≤ length s
    go true e = spelled-within w s e
    go false e = omega arith
matched-within (regex ps q f) s = go (classed ps s) refl
  where
    go : (t : Bool) → classed ps s ≡ t → cond t (length ps + run q (drop (length ps) s)) 0 ≤ length s
    go true e = let h = classed-within ps s e in omega (arith, run_length q (drop (length ps) s), length-drop (length ps) s)
    go false e = omega arith

data Sound : List Rule → Type 0 where
  none : Sound []
  one : {r : Rule} {rs : List Rule} → Within (callback r) → Sound rs → Sound (r ∷ rs)

fixed-sound : (fs : List Fixed) (rs : List Rule) → Sound rs → Sound (map rule fs ++ rs)
fixed-sound [] rs h = h
fixed-sound (f ∷ fs) rs h = one (plain-within f.kind) (fixed-sound fs rs h)

rules-sound : Sound rules
unfolding rules others
rules-sound =
    fixed-sound punctuation _
    (fixed-sound keywords _
    (one (plain-within TokenKind.Identifier)
    (one (plain-within TokenKind.BuiltinName)
    (one (number-within TokenKind.DecimalLiteral 10 false)
    (one (number-within TokenKind.HexLiteral 16 false)
    (one (number-within TokenKind.BinLiteral 2 false)
    (one (string-within TokenKind.LooseStringLiteral true false false)
    (one (string-within TokenKind.LooseHexStringLiteral false false false)
    (one (plain-within TokenKind.Whitespace)
    (one line-within
    (one (λ s. block_within s 1)
    (one (plain-within TokenKind.AtWithoutIdentError) none))))))))))))

-- The best match: none, or some bytes with such a callback.
data Fit (s : List ℕ) : Match → Type 0 where
  nothing : Fit s no_match
  some : {m : Match} → 1 ≤ m.len → m.len ≤ length s → Within m.after → Fit s m

longest-fits : (s : List ℕ) (m : Match) (rs : List Rule) → Sound rs → Fit s m → Fit s (longest m rs s)
unfolding longest
longest-fits s m [] none f = f
longest-fits s m (r ∷ rs) (one w h) f = longest-fits s (cond (ltb m.len (matched r s)) (record { len = matched r s; after = callback r }) m) rs h (go (ltb m.len (matched r s)) refl)
  where
    go : (t : Bool) → ltb m.len (matched r s) ≡ t → Fit s (cond t (record { len = matched r s; after = callback r }) m)
    go true e = let g = ltb-true m.len (matched r s) e in some {m = record { len = matched r s; after = callback r }} (omega arith) (matched-within r s) w
    go false e = f

pub record TokenFits (s : List ℕ) (l : Lexeme) : Type 0 where
  pub some : 1 ≤ l.len
  pub within : l.len ≤ length s

finish-fits : (b : ℕ) (s : List ℕ) (m : Match) → Fit (b ∷ s) m → TokenFits (b ∷ s) (finish m (b ∷ s))
unfolding invalid_char
finish-fits b s m nothing = go (character_at (b ∷ s)) refl
  where
    go : (c : Option Character) → character_at (b ∷ s) ≡ c → TokenFits (b ∷ s) (more 0 (elim c [ Some c ↦ lexeme TokenKind.InvalidCharError c.length | None ↦ lexeme TokenKind.InvalidCharError 1 ]))
    go (Some c) e = let h = character-fits (b ∷ s) c e in record { some = omega arith; within = omega arith }
    go None e = record { some = omega arith; within = omega arith }
finish-fits b s m (some h g w) =
    let k = w (drop m.len (b ∷ s)) in
    record { some = omega arith; within = omega (arith, length-drop m.len (b ∷ s)) }

pub token-fits : (b : ℕ) (s : List ℕ) → TokenFits (b ∷ s) (token_at (b ∷ s))
unfolding token_at
token-fits b s = finish-fits b s _ (longest-fits (b ∷ s) no_match rules rules-sound nothing)

pub longest-within : (s : List ℕ) (m : Match) (rs : List Rule) → m.len ≤ length s → (longest m rs s).len ≤ length s
unfolding longest
longest-within s m [] h = h
longest-within s m (r ∷ rs) h = longest-within s (cond (ltb m.len (matched r s)) (record { len = matched r s; after = callback r }) m) rs (go (ltb m.len (matched r s)))
  where
    go : (t : Bool) → (cond t (record { len = matched r s; after = callback r }) m).len ≤ length s
    go true = matched-within r s
    go false = h
