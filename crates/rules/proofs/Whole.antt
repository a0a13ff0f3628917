-- The token that the walk's end says is the definition's, by the first byte.
use Rattle.std.specs.Prelude.{◌≡◌, List, [], ◌∷◌, ◌++◌, map, Bool, cond, ◌||◌, ℕ, suc, ◌+◌, eqb, ltb, length, get_or, drop}
use Rattle.std.proofs.Math.Path.{refl}
use Rattle.std.proofs.Common.{sym, ◌∙◌, ap, subst, arith, ne_eqb, eqb-true}
use Rattle.std.proofs.Math.Bool.{true, false, not}
use Rattle.std.proofs.lemmas.Bool.{false≢true}
use Rattle.words.specs.Token as TokenKind
use Rattle.scan.specs.Bytes.{ascii, Class, digit, upper, lower, ident_start, ident_part, blank}
use Rattle.scan.specs.Lexer.{Fixed, Lexeme, lexeme, more, run, spelled, classed, token_at, string, invalid_char, longest, no_match, finish, rules, punctuation, keywords, others, matched, Match}
use Rattle.scan.specs.Longest.{same, and_both, differs, apart, pass, spelled-split}
use Rattle.tokens.specs.First.{hex-token, word-token, number-token, blank-token, quote-token, at-builtin, at-error, other-token}
use Rattle.rules.specs.Rule.{stop, start, name, name_h, blanks, at_sign, builtin, decimal, mark_of, rows, after, marks, kind_of}
use Rattle.rules.specs.Walk.{walk, step, token_of}
use Rattle.rules.proofs.Walk.{Names, ends-token, ends_more, name-names, h-names, named-token, zero-ends, decimal-walk, blanks-walk, builtin-walk}

abbrev Right : ℕ → Type 0
Right b = (s : List ℕ) → token_of (b ∷ s) (walk start (b ∷ s)) ≡ token_at (b ∷ s)

abbrev At : ℕ → ℕ → List ℕ → Type 0
At b c s = token_of (b ∷ c ∷ s) (walk start (b ∷ c ∷ s)) ≡ token_at (b ∷ c ∷ s)

-- ------------------------------------------------------------------ bytes that are known

-- spellings of one byte that none goes on from
mark : (s : List ℕ) → map (λ b. token_of (b ∷ s) (walk start (b ∷ s))) (ascii ";,.${}()[]%^~") ≡ map (λ b. token_at (b ∷ s)) (ascii ";,.${}()[]%^~")
unfolding walk after rows kind_of marks token_at longest rules punctuation keywords others matched classed spelled ident_start upper lower digit blank same
mark s = refl

abbrev among : List ℕ → ℕ → Bool
among [] b = false
among (x ∷ xs) b = eqb x b || among xs b

data Every (P : ℕ → Type 0) : List ℕ → Type 0 where
  end : Every P []
  next : {k : ℕ} {ks : List ℕ} → P k → Every P ks → Every P (k ∷ ks)

-- from one statement over the list
each : (ks : List ℕ) (f g : ℕ → Lexeme) → map f ks ≡ map g ks → Every (λ k. f k ≡ g k) ks
each [] f g e = end
each (k ∷ ks) f g e = next (ap (λ (l : List Lexeme). head l) e) (each ks f g (ap (λ (l : List Lexeme). drop 1 l) e))
  where
    head : List Lexeme → Lexeme
    head [] = lexeme 0 0
    head (x ∷ xs) = x

member_of : (P : ℕ → Type 0) (ks : List ℕ) → Every P ks → (b : ℕ) → among ks b ≡ true → P b
member_of P [] end b e = absurd (false≢true e)
member_of P (k ∷ ks) (next p ps) b e = go (eqb k b) refl e (λ h. member_of P ks ps b h)
  where
    go : (t : Bool) → eqb k b ≡ t → (t || among ks b) ≡ true → (among ks b ≡ true → P b) → P b
    go true f h r = subst P (eqb-true k b f) p
    go false f h r = r h

or-both : (p q : Bool) → (p || q) ≡ false → (p ≡ false) × (q ≡ false)
or-both true q e = absurd (false≢true (sym e))
or-both false q e = (refl, e)

-- A byte that begins fixed spellings: by the bytes that may be its second, and all others.
module _ (a : ℕ) (ks : List ℕ) (alone : token_of (a ∷ []) (walk start (a ∷ [])) ≡ token_at (a ∷ []))
    (pairs : (s : List ℕ) → map (λ k. token_of (a ∷ k ∷ s) (walk start (a ∷ k ∷ s))) ks ≡ map (λ k. token_at (a ∷ k ∷ s)) ks) (other : (c : ℕ) (s : List ℕ) → among ks c ≡ false → At a c s) where
  by-second : Right a
  by-second [] = alone
  by-second (c ∷ s) = go (among ks c) refl
    where
      go : (t : Bool) → among ks c ≡ t → At a c s
      go true e = member_of (λ k. At a k s) ks (each ks _ _ (pairs s)) c e
      go false e = other c s e

-- none of one, two or three bytes
not-one : (k c : ℕ) → among (k ∷ []) c ≡ false → eqb k c ≡ false
not-one k c e = (or-both (eqb k c) false e).0

not-two : (j k c : ℕ) → among (j ∷ k ∷ []) c ≡ false → (eqb j c ≡ false) × (eqb k c ≡ false)
not-two j k c e = let h = or-both (eqb j c) _ e in (h.0, not-one k c h.1)

not_three : (i j k c : ℕ) → among (i ∷ j ∷ k ∷ []) c ≡ false → (eqb i c ≡ false) × (eqb j c ≡ false) × (eqb k c ≡ false)
not_three i j k c e = let h = or-both (eqb i c) _ e in let g = not-two j k c h.1 in (h.0, g.0, g.1)

-- `:`
colon : Right 58
unfolding walk after rows kind_of marks token_at longest rules punctuation keywords others matched classed spelled ident_start upper lower digit blank same
colon = by-second 58 (58 ∷ []) refl (λ s. refl) (λ c s e. let h = not-one 58 c e in simp (h))

-- `=`
equals : Right 61
unfolding walk after rows kind_of marks token_at longest rules punctuation keywords others matched classed spelled ident_start upper lower digit blank same
equals = by-second 61 (62 ∷ 61 ∷ []) refl (λ s. refl) (λ c s e. let h = not-two 62 61 c e in simp (h.0, h.1))

-- `+`
plus : Right 43
unfolding walk after rows kind_of marks token_at longest rules punctuation keywords others matched classed spelled ident_start upper lower digit blank same
plus = by-second 43 (37 ∷ 47 ∷ []) refl (λ s. refl) (λ c s e. let h = not-two 37 47 c e in simp (h.0, h.1))

-- `-`
minus : Right 45
unfolding walk after rows kind_of marks token_at longest rules punctuation keywords others matched classed spelled ident_start upper lower digit blank same
minus = by-second 45 (37 ∷ 47 ∷ []) refl (λ s. refl) (λ c s e. let h = not-two 37 47 c e in simp (h.0, h.1))

-- `*`
star : Right 42
unfolding walk after rows kind_of marks token_at longest rules punctuation keywords others matched classed spelled ident_start upper lower digit blank same
star = by-second 42 (37 ∷ []) refl (λ s. refl) (λ c s e. let h = not-one 37 c e in simp (h))

-- `/`
slash : Right 47
unfolding walk after rows kind_of marks token_at longest rules punctuation keywords others matched classed spelled ident_start upper lower digit blank same
slash = by-second 47 (47 ∷ 42 ∷ []) refl (λ s. refl) (λ c s e. let h = not-two 47 42 c e in simp (h.0, h.1))

-- `<`
less : Right 60
unfolding walk after rows kind_of marks token_at longest rules punctuation keywords others matched classed spelled ident_start upper lower digit blank same
less = by-second 60 (47 ∷ 61 ∷ 60 ∷ []) refl (λ s. refl) (λ c s e. let h = not_three 47 61 60 c e in simp (h.0, h.1, h.2))

-- `>`
greater : Right 62
unfolding walk after rows kind_of marks token_at longest rules punctuation keywords others matched classed spelled ident_start upper lower digit blank same
greater = by-second 62 (47 ∷ 61 ∷ 62 ∷ []) refl (λ s. refl) (λ c s e. let h = not_three 47 61 62 c e in simp (h.0, h.1, h.2))

-- `!`
bang : Right 33
unfolding walk after rows kind_of marks token_at longest rules punctuation keywords others matched classed spelled ident_start upper lower digit blank same
bang = by-second 33 (61 ∷ []) refl (λ s. refl) (λ c s e. let h = not-one 61 c e in simp (h))

-- `&`
amper : Right 38
unfolding walk after rows kind_of marks token_at longest rules punctuation keywords others matched classed spelled ident_start upper lower digit blank same
amper = by-second 38 (38 ∷ []) refl (λ s. refl) (λ c s e. let h = not-one 38 c e in simp (h))

-- `|`
pipe : Right 124
unfolding walk after rows kind_of marks token_at longest rules punctuation keywords others matched classed spelled ident_start upper lower digit blank same
pipe = by-second 124 (124 ∷ []) refl (λ s. refl) (λ c s e. let h = not-one 124 c e in simp (h))

-- `"`
quotes : Right 34
quotes s = unfold walk after rows kind_of marks punctuation in (sym (quote-token s))

-- `@`: a builtin's name, or alone
sign : Right 64
unfolding walk after rows kind_of marks punctuation
sign [] = sym (at-error [] (unfold ident_start upper lower in refl))
sign (c ∷ s) = go (ident_start c) refl
  where
    go : (t : Bool) → ident_start c ≡ t
        → token_of (64 ∷ c ∷ s) (more 1 (step at_sign (cond t builtin stop) (walk (cond t builtin stop) s))) ≡ token_at (64 ∷ c ∷ s)
    go true e = rw (builtin-walk s, at-builtin (c ∷ s) e) (ap (λ (k : ℕ). lexeme TokenKind.BuiltinName k) (omega arith))
    go false e = sym (at-error (c ∷ s) e)

-- `0`
nought : Right 48
nought s = unfold walk after rows in (ends-token (48 ∷ s) _ _ (zero-ends s))

-- a name, whatever its first byte
names : (b q : ℕ) (s : List ℕ) → ident_start b ≡ true → spelled (ascii "hex\"") (b ∷ s) ≡ false → Names (walk q s) s
    → token_of (b ∷ s) (more 1 (walk q s)) ≡ token_at (b ∷ s)
names b q s i h n =
    let z : (more 1 (walk q s)).len ≡ suc (run ident_part s) = omega (arith, n.all) in
    named-token (b ∷ s) (walk q s).kind (1 + (walk q s).len) n.ends ∙ (rw z (sym (word-token b s i h)))

-- `h`
aitch : Right 104
aitch s = go (spelled (ascii "hex\"") (104 ∷ s)) refl
  where
    hex : (t : List ℕ) → token_of (ascii "hex\"" ++ t) (walk start (ascii "hex\"" ++ t)) ≡ more 4 (string TokenKind.LooseHexStringLiteral false false false t)
    hex t = unfold walk after rows kind_of marks punctuation in refl

    go : (t : Bool) → spelled (ascii "hex\"") (104 ∷ s) ≡ t → token_of (104 ∷ s) (walk start (104 ∷ s)) ≡ token_at (104 ∷ s)
    go true e = subst (λ (x : List ℕ). token_of x (walk start x) ≡ token_at x) (sym (spelled-split (ascii "hex\"") (104 ∷ s) e)) (hex (drop 4 (104 ∷ s)) ∙ sym (hex-token (ascii "hex\"" ++ drop 4 (104 ∷ s)) (unfold spelled in refl)))
    go false e = unfold walk after rows in (names 104 name_h s (unfold ident_start upper lower in refl) e (h-names s (unfold spelled in e)))

-- ------------------------------------------------------------------ all bytes

join : (P : ℕ → Type 0) (xs ys : List ℕ) → Every P xs → Every P ys → Every P (xs ++ ys)
join P [] ys end h = h
join P (x ∷ xs) ys (next p ps) h = next p (join P xs ys ps h)

-- the bytes that fixed spellings begin with
abbrev heads : List ℕ
heads = ascii ";,.${}()[]%^~:=+-*/<>!&|"

abbrev known : List ℕ
known = 104 ∷ 48 ∷ 64 ∷ 34 ∷ heads

known-right : (s : List ℕ) → Every (λ b. token_of (b ∷ s) (walk start (b ∷ s)) ≡ token_at (b ∷ s)) known
known-right s =
    next (aitch s) (next (nought s) (next (sign s) (next (quotes s)
    (join _ (ascii ";,.${}()[]%^~") (ascii ":=+-*/<>!&|") (each (ascii ";,.${}()[]%^~") _ _ (mark s))
    (next (colon s) (next (equals s) (next (plus s) (next (minus s) (next (star s) (next (slash s) (next (less s) (next (greater s) (next (bang s) (next (amper s) (next (pipe s) end)))))))))))))))

not-true : (t : Bool) → not t ≡ true → t ≡ false
not-true true e = absurd (false≢true e)
not-true false e = refl

-- no fixed spelling begins with the byte
mark-none : (q : Class) (fs : List Fixed) (ms : List ℕ) (b : ℕ) → apart q fs ≡ true → q b ≡ true → mark_of fs ms (b ∷ []) ≡ stop
unfolding same
mark-none q [] ms b e h = refl
mark-none q (f ∷ fs) [] b e h = refl
mark-none q (f ∷ fs) (m ∷ ms) b e h =
    let k = and_both (not (q (get_or f.spelling 0 0))) _ e in
    go f.spelling k.0 (mark-none q fs ms b (and_both (ltb 0 (length f.spelling)) (apart q fs) k.1).1 h)
  where
    go : (w : List ℕ) → not (q (get_or w 0 0)) ≡ true → mark_of fs ms (b ∷ []) ≡ stop → cond (same w (b ∷ [])) m (mark_of fs ms (b ∷ [])) ≡ stop
    go [] n i = i
    go (a ∷ w) n i = rw (differs q a b (not-true (q a) n) h) i

not-among : (ks : List ℕ) (k b : ℕ) → among ks b ≡ false → among ks k ≡ true → eqb k b ≡ false
not-among ks k b e t = ne_eqb k b (λ z. false≢true (sym e ∙ (ap (among ks) (sym z) ∙ t)))

module _ (b : ℕ) (s : List ℕ) (e : among known b ≡ false) where
  not-h : eqb 104 b ≡ false
  not-h = not-among known 104 b e refl

  not-zero : eqb 48 b ≡ false
  not-zero = not-among known 48 b e refl

  not-heads : among heads b ≡ false
  not-heads = (or-both (eqb 34 b) _ (or-both (eqb 64 b) _ (or-both (eqb 48 b) _ (or-both (eqb 104 b) _ e).1).1).1).1

  apart-heads : apart (λ a. not (among heads a)) punctuation ≡ true
  unfolding punctuation
  apart-heads = refl

  first : after start b ≡ cond (ident_start b) name (cond (digit b) decimal (cond (blank b) blanks stop))
  unfolding after rows
  first = rw (not-h, not-zero, not-among known 64 b e refl, not-among known 34 b e refl, mark-none (λ a. not (among heads a)) punctuation marks b apart-heads (ap not not-heads))

  invalid : ident_start b ≡ false → digit b ≡ false → blank b ≡ false → invalid_char (b ∷ s) ≡ token_at (b ∷ s)
  invalid i d k =
      let p = pass (λ a. not (among heads a)) punctuation no_match b (get_or s 0 0 ∷ []) apart-heads (ap not not-heads) in
      let z : (invalid_char (b ∷ s)).len ≡ 0 + (invalid_char (b ∷ s)).len = omega arith in
      ap (λ (n : ℕ). lexeme (invalid_char (b ∷ s)).kind n) z
      ∙ sym (other-token b s i d k (not-among known 34 b e refl) (not-among known 47 b e refl) (not-among known 64 b e refl)
      ∙ ap (λ (m : Match). finish m (b ∷ s)) p)

  unknown : token_of (b ∷ s) (walk start (b ∷ s)) ≡ token_at (b ∷ s)
  unfolding walk
  unknown = rw first (go (ident_start b) (digit b) (blank b) refl refl refl)
    where
      go : (t u v : Bool) → ident_start b ≡ t → digit b ≡ u → blank b ≡ v
          → token_of (b ∷ s) (step start (cond t name (cond u decimal (cond v blanks stop))) (walk (cond t name (cond u decimal (cond v blanks stop))) s)) ≡ token_at (b ∷ s)
      go true u v et eu ev = names b name s et (unfold spelled in (rw not-h)) (name-names s)
      go false true v et eu ev =
          rw (number-token b s eu false false (unfold classed in (rw not-zero)) (unfold classed in (rw not-zero)))
          (ends-token (b ∷ s) _ _ (ends_more 1 _ _ (decimal-walk s)))
      go false false true et eu ev = rw (blanks-walk s, blank-token b s ev) (unfold kind_of marks punctuation in (ap (λ (k : ℕ). lexeme TokenKind.Whitespace k) (omega arith)))
      go false false false et eu ev = unfold kind_of marks punctuation in (invalid et eu ev)

-- The theorem: at each byte, and so at each offset of a text, the walk's end says the definition's token.
pub walked : (b : ℕ) (s : List ℕ) → token_of (b ∷ s) (walk start (b ∷ s)) ≡ token_at (b ∷ s)
walked b s = go (among known b) refl
  where
    go : (t : Bool) → among known b ≡ t → token_of (b ∷ s) (walk start (b ∷ s)) ≡ token_at (b ∷ s)
    go true e = member_of (λ a. token_of (a ∷ s) (walk start (a ∷ s)) ≡ token_at (a ∷ s)) known (known-right s) b e
    go false e = unknown b s e
