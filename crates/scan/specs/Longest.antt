-- Laws of the longest match: which rule it is, by the first byte of the text's rest.
use Rattle.std.specs.Prelude.{◌≡◌, Bool, not, ◌&&◌, ◌||◌, ℕ, zero, suc, ◌≤◌, ◌<◌, eqb, leb, length, get_or, drop, take}
use Rattle.std.proofs.Math.Path.{refl}
use Rattle.std.specs.Cmp.Lexicographic.{pointwise}
use Rattle.std.proofs.Common.{sym, ◌∙◌, ap, length-take}
use mathlib.Core.List.{List, [], ◌∷◌, ◌++◌, map}
use Rattle.std.proofs.Math.Bool.{true, false, cond}
use Rattle.std.proofs.lemmas.Bool.{false≢true}
use native.Mathlib.Omega.{arith}
use borrow.Author.Tests.{ne_eqb, lt-ltb, le-ltb, leb-true, ltb-true, ltb-false, eqb-true}
use Rattle.std.proofs.Math.Dec.{ltb}
use Rattle.std.proofs.Math.Seq.{take-nil}
use Rattle.words.specs.Token as TokenKind
use Rattle.scan.specs.Bytes.{Class, ident_part}
use Rattle.scan.specs.Lexer.{Lexeme, plain, Rule, token, run, spelled, matched, callback, Match, longest, Fixed, rule, keywords}

-- One rule: passed over where it matches no more than the best so far, else the best.
pub keep : (m : Match) (r : Rule) (rs : List Rule) (s : List ℕ) → matched r s ≤ m.len → longest m (r ∷ rs) s ≡ longest m rs s
unfolding longest
keep m r rs s h = rw (le-ltb m.len (matched r s) h)

pub best : (m : Match) (r : Rule) (rs : List Rule) (s : List ℕ) → m.len < matched r s
    → longest m (r ∷ rs) s ≡ longest (record { len = matched r s; after = callback r }) rs s
unfolding longest
best m r rs s h = rw (lt-ltb m.len (matched r s) h)

pub took : (m : Match) (r : Rule) (rs : List Rule) (s : List ℕ) (k : ℕ) → matched r s ≡ k → m.len < k
    → longest m (r ∷ rs) s ≡ longest (record { len = k; after = callback r }) rs s
took m r rs s k e h = best m r rs s (omega arith) ∙ ap (λ (n : ℕ). longest (record { len = n; after = callback r }) rs s) e

pub took-if : (m : Match) (r : Rule) (rs : List Rule) (s : List ℕ) (k : ℕ) (t : Bool) → matched r s ≡ cond t k 0 → m.len < k
    → longest m (r ∷ rs) s ≡ longest (cond t (record { len = k; after = callback r }) m) rs s
took-if m r rs s k true e h = took m r rs s k e h
took-if m r rs s k false e h = keep m r rs s (omega arith)

pub longest-append : (m : Match) (xs ys : List Rule) (s : List ℕ) → longest m (xs ++ ys) s ≡ longest (longest m xs s) ys s
unfolding longest
longest-append m [] ys s = refl
longest-append m (r ∷ xs) ys s = longest-append (cond (ltb m.len (matched r s)) (record { len = matched r s; after = callback r }) m) xs ys s

-- A byte of a class is none that is outside it.
pub differs : (q : Class) (a b : ℕ) → q a ≡ false → q b ≡ true → eqb a b ≡ false
differs q a b f t = ne_eqb a b (λ e. false≢true (sym f ∙ (ap q e ∙ t)))

-- Spellings that begin outside the class of the first byte are passed over.
abbrev pub apart : Class → List Fixed → Bool
apart q [] = true
apart q (f ∷ fs) = not (q (get_or f.spelling 0 0)) && (ltb 0 (length f.spelling) && apart q fs)

pub token-miss : (w : List ℕ) (f : List ℕ → Lexeme) (b : ℕ) (s : List ℕ) → ltb 0 (length w) ≡ true → eqb (get_or w 0 0) b ≡ false
    → matched (token w f) (b ∷ s) ≡ 0
unfolding matched spelled
token-miss [] f b s l e = absurd (false≢true l)
token-miss (a ∷ w) f b s l e = rw e

not-true' : (t : Bool) → not t ≡ true → t ≡ false
not-true' true e = absurd (false≢true e)
not-true' false e = refl

pub and-true : (p : Bool) → (p && true) ≡ p
and-true true = refl
and-true false = refl

pub and_both : (p q : Bool) → (p && q) ≡ true → (p ≡ true) × (q ≡ true)
and_both true q e = (refl, e)
and_both false q e = absurd (false≢true e)

pub pass : (q : Class) (fs : List Fixed) (m : Match) (b : ℕ) (s : List ℕ) → apart q fs ≡ true → q b ≡ true
    → longest m (map rule fs) (b ∷ s) ≡ m
unfolding longest
pass q [] m b s a t = refl
pass q (f ∷ fs) m b s a t =
    let h = and_both (not (q (get_or f.spelling 0 0))) (ltb 0 (length f.spelling) && apart q fs) a in
    let g = and_both (ltb 0 (length f.spelling)) (apart q fs) h.1 in
    let z : matched (rule f) (b ∷ s) ≡ 0 = token-miss f.spelling _ b s g.0 (differs q _ b (not-true' _ h.0) t) in
    keep m (rule f) (map rule fs) (b ∷ s) (omega arith) ∙ pass q fs m b s g.1 t

-- ------------------------------------------------------------------ words

-- two spellings are alike
unfoldable pub same : List ℕ → List ℕ → Bool
same [] [] = true
same [] (b ∷ v) = false
same (a ∷ w) [] = false
same (a ∷ w) (b ∷ v) = eqb a b && same w v

-- the kind of a word: the keyword that is spelled so, else Identifier
unfoldable pub kind_in : List Fixed → List ℕ → ℕ
kind_in [] v = TokenKind.Identifier
kind_in (f ∷ fs) v = cond (same f.spelling v) f.kind (kind_in fs v)

abbrev pub keyword_of : List ℕ → ℕ
keyword_of v = kind_in keywords v

pub same_length : (w v : List ℕ) → same w v ≡ true → length w ≡ length v
unfolding same
same_length [] [] e = refl
same_length [] (b ∷ v) e = absurd (false≢true e)
same_length (a ∷ w) [] e = absurd (false≢true e)
same_length (a ∷ w) (b ∷ v) e = ap suc (same_length w v (and_both (eqb a b) (same w v) e).1)

same-spelled : (w s : List ℕ) (n : ℕ) → same w (take n s) ≡ true → spelled w s ≡ true
unfolding same spelled
same-spelled [] s n e = refl
same-spelled (a ∷ w) [] n e = absurd (false≢true (rw take-nil at e))
same-spelled (a ∷ w) (b ∷ s) zero e = absurd (false≢true e)
same-spelled (a ∷ w) (b ∷ s) (suc n) e =
    let h = and_both (eqb a b) (same w (take n s)) e in
    rw h.0 (same-spelled w s n h.1)

spelled_same : (w s : List ℕ) → spelled w s ≡ true → same w (take (length w) s) ≡ true
unfolding same spelled
spelled_same [] [] e = refl
spelled_same [] (b ∷ s) e = refl
spelled_same (a ∷ w) [] e = absurd (false≢true e)
spelled_same (a ∷ w) (b ∷ s) e =
    let h = and_both (eqb a b) (spelled w s) e in
    rw h.0 (spelled_same w s h.1)

-- a spelling of letters reaches no further than the run of letters, digits and `_`
abbrev pub wordly : List ℕ → Bool
wordly [] = true
wordly (a ∷ w) = ident_part a && wordly w

pub spelled-run : (w s : List ℕ) → wordly w ≡ true → spelled w s ≡ true → length w ≤ run ident_part s
unfolding spelled run
spelled-run [] s l e = omega arith
spelled-run (a ∷ w) [] l e = absurd (false≢true e)
spelled-run (a ∷ w) (b ∷ s) l e =
    let h = and_both (eqb a b) (spelled w s) e in
    let g = and_both (ident_part a) (wordly w) l in
    let p : ident_part b ≡ true = rw (eqb-true a b h.0) at g.0 in
    let i = spelled-run w s g.1 h.1 in
    rw p (omega arith)

abbrev pub wordlies : List Fixed → Bool
wordlies [] = true
wordlies (f ∷ fs) = wordly f.spelling && wordlies fs

abbrev pub match : ℕ → ℕ → Match
match kind n = record { len = n; after = plain kind }

pub run_length : (q : Class) (s : List ℕ) → run q s ≤ length s
unfolding run
run_length q [] = omega arith
run_length q (b ∷ s) = go (q b) (run_length q s)
  where
    go : (t : Bool) → run q s ≤ length s → cond t (suc (run q s)) 0 ≤ suc (length s)
    go true h = omega arith
    go false h = omega arith

-- The best match is a whole word already: no spelling is longer.
module _ (s : List ℕ) where
  abbrev pub n : ℕ
  n = run ident_part s

  -- how many bytes a spelling of letters matches: none, some of the word, or the whole word
  pub fixed-within : (f : Fixed) → wordly f.spelling ≡ true → matched (rule f) s ≤ n
  unfolding matched
  fixed-within f l = go (spelled f.spelling s) refl
    where
      go : (t : Bool) → spelled f.spelling s ≡ t → cond t (length f.spelling) 0 ≤ n
      go true e = spelled-run f.spelling s l e
      go false e = omega arith

  word_kept : (fs : List Fixed) (m : Match) → wordlies fs ≡ true → m.len ≡ n → longest m (map rule fs) s ≡ m
  unfolding longest
  word_kept [] m l e = refl
  word_kept (f ∷ fs) m l e =
      let g = and_both (wordly f.spelling) (wordlies fs) l in
      let h = fixed-within f g.0 in
      keep m (rule f) (map rule fs) s (omega arith) ∙ word_kept fs m g.1 e

  -- then Identifier's rule, which matches the whole word
  abbrev pub or_identifier : Match → Match
  or_identifier m = cond (ltb m.len n) (match TokenKind.Identifier n) m

  module _ (f : Fixed) (fs : List Fixed) (m : Match) (l : wordly f.spelling ≡ true) (ls : wordlies fs ≡ true) (h : m.len < n)
      (ih : (m' : Match) → m'.len < n → or_identifier (longest m' (map rule fs) s) ≡ match (kind_in fs (take n s)) n) where
    abbrev w : List ℕ
    w = f.spelling

    other : same w (take n s) ≡ false → matched (rule f) s < n
        → or_identifier (longest m (map rule (f ∷ fs)) s) ≡ match (kind_in (f ∷ fs) (take n s)) n
    unfolding kind_in
    other e d = rw e (go (ltb m.len (matched (rule f) s)) refl)
      where
        go : (t : Bool) → ltb m.len (matched (rule f) s) ≡ t
            → or_identifier (longest m (map rule (f ∷ fs)) s) ≡ match (kind_in fs (take n s)) n
        go true g = rw (best m (rule f) (map rule fs) s (ltb-true _ _ g)) (ih _ d)
        go false g = rw (keep m (rule f) (map rule fs) s (ltb-false _ _ g)) (ih m h)

    this : spelled w s ≡ true → length w ≡ n → or_identifier (longest m (map rule (f ∷ fs)) s) ≡ match (kind_in (f ∷ fs) (take n s)) n
    unfolding kind_in
    this e g =
        let z : matched (rule f) s ≡ n = unfold matched in (rw e g) in
        let t : same w (take n s) ≡ true = rw g at (spelled_same w s e) in
        rw (best m (rule f) (map rule fs) s (omega arith), z, word_kept fs (match f.kind n) ls refl, le-ltb n n (omega arith), t)

    nil : spelled w s ≡ false → matched (rule f) s < n
    unfolding matched
    nil e = rw e (omega arith)

    part : spelled w s ≡ true → length w < n → matched (rule f) s < n
    unfolding matched
    part e d = rw e d

    word-step : or_identifier (longest m (map rule (f ∷ fs)) s) ≡ match (kind_in (f ∷ fs) (take n s)) n
    word-step = go (spelled w s) refl
      where
        unlike : (t : Bool) → same w (take n s) ≡ t → length w < n → same w (take n s) ≡ false
        unlike true e d = absurd (let k = same_length w (take n s) e in let j = run_length ident_part s in omega (arith, length-take n s))
        unlike false e d = e

        missing : (t : Bool) → same w (take n s) ≡ t → spelled w s ≡ false → same w (take n s) ≡ false
        missing true e d = absurd (false≢true (sym d ∙ same-spelled w s n e))
        missing false e d = e

        sized : (t : Bool) → ltb (length w) n ≡ t → spelled w s ≡ true
            → or_identifier (longest m (map rule (f ∷ fs)) s) ≡ match (kind_in (f ∷ fs) (take n s)) n
        sized true d e = other (unlike _ refl (ltb-true _ _ d)) (part e (ltb-true _ _ d))
        sized false d e = let j = spelled-run w s l e in let k = ltb-false (length w) n d in this e (omega arith)

        go : (t : Bool) → spelled w s ≡ t → or_identifier (longest m (map rule (f ∷ fs)) s) ≡ match (kind_in (f ∷ fs) (take n s)) n
        go true e = sized (ltb (length w) n) refl e
        go false e = other (missing _ refl e) (nil e)

  pub word-longest : (fs : List Fixed) (m : Match) → wordlies fs ≡ true → m.len < n
      → or_identifier (longest m (map rule fs) s) ≡ match (kind_in fs (take n s)) n
  word-longest [] m l h = unfold longest kind_in in (rw (lt-ltb m.len n h))
  word-longest (f ∷ fs) m l h =
      let g = and_both (wordly f.spelling) (wordlies fs) l in
      word-step f fs m g.0 g.1 h (λ m' h'. word-longest fs m' g.1 h')

pub spelled-split : (w s : List ℕ) → spelled w s ≡ true → s ≡ w ++ drop (length w) s
unfolding spelled
spelled-split [] s e = refl
spelled-split (a ∷ w) [] e = absurd (false≢true e)
spelled-split (a ∷ w) (b ∷ s) e =
    let h = and_both (eqb a b) (spelled w s) e in
    rw (eqb-true a b h.0) (ap (λ (x : List ℕ). b ∷ x) (spelled-split w s h.1))

-- Only the keywords with a word's first letter count for its kind.
abbrev pub with_head : ℕ → List Fixed → List Fixed
with_head a [] = []
with_head a (f ∷ fs) = cond (eqb (get_or f.spelling 0 0) a) (f ∷ with_head a fs) (with_head a fs)

kind_in-head : (fs : List Fixed) (a : ℕ) (v : List ℕ) → kind_in fs (a ∷ v) ≡ kind_in (with_head a fs) (a ∷ v)
unfolding kind_in same
kind_in-head [] a v = refl
kind_in-head (f ∷ fs) a v = go f.spelling refl (eqb (get_or f.spelling 0 0) a) refl (kind_in-head fs a v)
  where
    go : (w : List ℕ) → f.spelling ≡ w → (t : Bool) → eqb (get_or f.spelling 0 0) a ≡ t → kind_in fs (a ∷ v) ≡ kind_in (with_head a fs) (a ∷ v)
        → kind_in (f ∷ fs) (a ∷ v) ≡ kind_in (cond t (f ∷ with_head a fs) (with_head a fs)) (a ∷ v)
    go w e true h i = ap (λ (k : ℕ). cond (same f.spelling (a ∷ v)) f.kind k) i
    go [] e false h i = rw e i
    go (b ∷ w) e false h i =
        let g : eqb b a ≡ false = rw e at h in
        let u : same f.spelling (a ∷ v) ≡ false = rw (e, g) in
        rw u i

pub keyword-head : (a : ℕ) (v : List ℕ) → 0 < a → get_or v 0 0 ≡ a → keyword_of v ≡ kind_in (with_head a keywords) v
keyword-head a [] h e = absurd (omega arith)
keyword-head a (b ∷ v) h e = rw e (kind_in-head keywords a v)

pub keyword-at : (a b : ℕ) (v : List ℕ) (r : ℕ) → 0 < a → b ≡ get_or v 0 0 → b ≡ a → r ≡ kind_in (with_head a keywords) v → r ≡ keyword_of v
keyword-at a b v r h e f p = p ∙ sym (keyword-head a v h (sym e ∙ f))

pub kind-none : (v : List ℕ) → TokenKind.Identifier ≡ kind_in [] v
unfolding kind_in
kind-none v = refl

pub kind-more : (f : Fixed) (fs : List Fixed) (v : List ℕ) (q r : ℕ) → q ≡ kind_in fs v → r ≡ cond (same f.spelling v) f.kind q → r ≡ kind_in (f ∷ fs) v
unfolding kind_in
kind-more f fs v q r e p = p ∙ ap (λ (k : ℕ). cond (same f.spelling v) f.kind k) e

-- A word whose first letter no keyword has is an Identifier.
pub data Outside (b : ℕ) : List ℕ → Type 0 where
  end : Outside b []
  next : {a : ℕ} {heads : List ℕ} → (b ≡ a → ⊥) → Outside b heads → Outside b (a ∷ heads)

-- Letters below `lo` or from `hi` on.
abbrev pub apart_from : ℕ → ℕ → List ℕ → Bool
apart_from lo hi [] = true
apart_from lo hi (a ∷ heads) = (ltb a lo || leb hi a) && apart_from lo hi heads

pub lies-apart : (lo hi b : ℕ) (heads : List ℕ) → lo ≤ b → b < hi → apart_from lo hi heads ≡ true → Outside b heads
lies-apart lo hi b [] l h e = end
lies-apart lo hi b (a ∷ heads) l h e =
    let k = and_both (ltb a lo || leb hi a) (apart_from lo hi heads) e in
    next (go (ltb a lo) refl k.0) (lies-apart lo hi b heads l h k.1)
  where
    go : (t : Bool) → ltb a lo ≡ t → (t || leb hi a) ≡ true → b ≡ a → ⊥
    go true g k f = omega (arith, ltb-true a lo g)
    go false g k f = omega (arith, leb-true hi a k)

pub lies-above : (lo b : ℕ) (heads : List ℕ) → lo ≤ b → apart_from lo (suc b) heads ≡ true → Outside b heads
lies-above lo b heads l e = lies-apart lo (suc b) b heads l (omega arith) e

abbrev pub holds : List ℕ → ℕ → Bool
holds [] a = false
holds (x ∷ xs) a = eqb a x || holds xs a

abbrev pub covered : List ℕ → List Fixed → Bool
covered heads [] = true
covered heads (f ∷ fs) = holds heads (get_or f.spelling 0 0) && covered heads fs

pub outside : (heads : List ℕ) (b a : ℕ) → Outside b heads → holds heads a ≡ true → b ≡ a → ⊥
outside [] b a end h e = false≢true h
outside (x ∷ xs) b a (next f o) h e = go (eqb a x) refl h (λ k. outside xs b a o k e)
  where
    go : (t : Bool) → eqb a x ≡ t → (t || holds xs a) ≡ true → (holds xs a ≡ true → ⊥) → ⊥
    go true g k r = f (e ∙ eqb-true a x g)
    go false g k r = r k

-- the library's comparison of two lists is the same
pub equal-same : (w v : List ℕ) → pointwise eqb w v ≡ same w v
unfolding same
equal-same [] [] = refl
equal-same [] (b ∷ v) = refl
equal-same (a ∷ w) [] = refl
equal-same (a ∷ w) (b ∷ v) = ap (λ (t : Bool). eqb a b && t) (equal-same w v)

pub same_head : (w v : List ℕ) → same w v ≡ true → get_or w 0 0 ≡ get_or v 0 0
unfolding same
same_head [] [] e = refl
same_head [] (b ∷ v) e = absurd (false≢true e)
same_head (a ∷ w) [] e = absurd (false≢true e)
same_head (a ∷ w) (b ∷ v) e = eqb-true a b (and_both (eqb a b) (same w v) e).0

pub same-equal : (w v : List ℕ) → same w v ≡ true → w ≡ v
unfolding same
same-equal [] [] e = refl
same-equal [] (b ∷ v) e = absurd (false≢true e)
same-equal (a ∷ w) [] e = absurd (false≢true e)
same-equal (a ∷ w) (b ∷ v) e =
    let h = and_both (eqb a b) (same w v) e in
    rw (eqb-true a b h.0, same-equal w v h.1)

kind-outside : (heads : List ℕ) (fs : List Fixed) (b : ℕ) (v : List ℕ) → covered heads fs ≡ true → b ≡ get_or v 0 0 → Outside b heads → TokenKind.Identifier ≡ kind_in fs v
unfolding kind_in
kind-outside heads [] b v c e o = refl
kind-outside heads (f ∷ fs) b v c e o =
    let h = and_both (holds heads (get_or f.spelling 0 0)) (covered heads fs) c in
    rw (unlike (same f.spelling v) refl h.0) (kind-outside heads fs b v h.1 e o)
  where
    unlike : (t : Bool) → same f.spelling v ≡ t → holds heads (get_or f.spelling 0 0) ≡ true → same f.spelling v ≡ false
    unlike true g k = absurd (outside heads b (get_or f.spelling 0 0) o k (e ∙ sym (same_head f.spelling v g)))
    unlike false g k = g

pub keyword-none : (heads : List ℕ) (b : ℕ) (v : List ℕ) → covered heads keywords ≡ true → b ≡ get_or v 0 0 → Outside b heads → TokenKind.Identifier ≡ keyword_of v
keyword-none heads b v c e o = kind-outside heads keywords b v c e o
