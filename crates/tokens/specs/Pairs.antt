-- Laws of the punctuation: spellings of one or two bytes, found by the first byte and the next one.
use Rattle.std.specs.Prelude.{◌≡◌, List, [], ◌∷◌, map, Bool, not, ◌&&◌, ◌||◌, ℕ, ◌≤◌, ◌<◌, eqb, ltb, length, get_or, Option, Some, None}
use Rattle.std.proofs.Math.Path.{refl}
use Rattle.std.proofs.Common.{sym, ◌∙◌, ap, eq-eqb, ne_eqb, eqb-true}
use Rattle.std.proofs.Math.Bool.{true, false, cond}
use Rattle.std.proofs.lemmas.Bool.{false≢true}
use native.Mathlib.Omega.{arith}
use Rattle.scan.specs.Lexer.{Match, longest, matched, spelled, no_match, Fixed, rule, punctuation, plain}
use Rattle.scan.specs.Longest.{keep, took, match, with_head, and_both, Outside, holds, covered, outside, token-miss}

-- the kind of the first spelling of two bytes that ends in `n`
abbrev pub pair_of : List Fixed → ℕ → Option ℕ
pair_of [] n = None
pair_of (f ∷ fs) n = cond (eqb (length f.spelling) 2 && eqb (get_or f.spelling 1 0) n) (Some f.kind) (pair_of fs n)

-- the kind of the first spelling of one byte
abbrev pub alone_of : List Fixed → Option ℕ
alone_of [] = None
alone_of (f ∷ fs) = cond (eqb (length f.spelling) 1) (Some f.kind) (alone_of fs)

-- a spelling of so many bytes, or else another match
abbrev pub found : ℕ → Option ℕ → Match → Match
found n (Some k) other = match k n
found n None other = other

-- spellings of one or two bytes that begin with `b`
data From (b : ℕ) : List Fixed → Type 0 where
  end : From b []
  one : {k : ℕ} {fs : List Fixed} → From b fs → From b (record { kind = k; spelling = b ∷ [] } ∷ fs)
  two : {k c : ℕ} {fs : List Fixed} → From b fs → From b (record { kind = k; spelling = b ∷ c ∷ [] } ∷ fs)

module _ (b n : ℕ) where
  one-matched : (k : ℕ) → matched (rule (record { kind = k; spelling = b ∷ [] })) (b ∷ n ∷ []) ≡ 1
  unfolding matched spelled
  one-matched k = rw (eq-eqb b b refl)

  two-matched : (k c : ℕ) → matched (rule (record { kind = k; spelling = b ∷ c ∷ [] })) (b ∷ n ∷ []) ≡ cond (eqb c n) 2 0
  unfolding matched spelled
  two-matched k c = rw (eq-eqb b b refl) (go (eqb c n))
    where
      go : (t : Bool) → cond (t && true) 2 0 ≡ cond {A = ℕ} t 2 0
      go true = refl
      go false = refl

  -- nothing is longer than two bytes
  pair-kept : (k : ℕ) {fs : List Fixed} → From b fs → longest (match k 2) (map rule fs) (b ∷ n ∷ []) ≡ match k 2
  pair-kept k end = unfold longest in refl
  pair-kept k (one {k = j} {fs = fs} f) = keep _ _ (map rule fs) _ (rw (one-matched j) (omega arith)) ∙ pair-kept k f
  pair-kept k (two {k = j} {c = c} {fs = fs} f) = keep _ _ (map rule fs) _ (rw (two-matched j c) (go (eqb c n))) ∙ pair-kept k f
    where
      go : (t : Bool) → cond t 2 0 ≤ 2
      go true = omega arith
      go false = omega arith

  -- a longer match than `m`, which has one byte or none
  chosen : (m other : Match) (k c : ℕ) (fs : List Fixed) → m.len < 2 → From b fs
      → longest m (map rule fs) (b ∷ n ∷ []) ≡ found 2 (pair_of fs n) other
      → longest m (map rule (record { kind = k; spelling = b ∷ c ∷ [] } ∷ fs)) (b ∷ n ∷ []) ≡ found 2 (cond (eqb c n) (Some k) (pair_of fs n)) other
  chosen m other k c fs h f e = go (eqb c n) refl
    where
      go : (t : Bool) → eqb c n ≡ t
          → longest m (map rule (record { kind = k; spelling = b ∷ c ∷ [] } ∷ fs)) (b ∷ n ∷ []) ≡ found 2 (cond t (Some k) (pair_of fs n)) other
      go true g = took m _ (map rule fs) _ 2 (two-matched k c ∙ ap (λ (t : Bool). cond {A = ℕ} t 2 0) g) h ∙ pair-kept k f
      go false g = keep m _ (map rule fs) _ (rw (two-matched k c, g) (omega arith)) ∙ e

  after_one : (k : ℕ) {fs : List Fixed} → From b fs → longest (match k 1) (map rule fs) (b ∷ n ∷ []) ≡ found 2 (pair_of fs n) (match k 1)
  after_one k end = unfold longest in refl
  after_one k (one {k = j} {fs = fs} f) = keep _ _ (map rule fs) _ (rw (one-matched j) (omega arith)) ∙ after_one k f
  after_one k (two {k = j} {c = c} {fs = fs} f) = chosen (match k 1) (match k 1) j c fs (omega arith) f (after_one k f)

  from-none : {fs : List Fixed} → From b fs → longest no_match (map rule fs) (b ∷ n ∷ []) ≡ found 2 (pair_of fs n) (found 1 (alone_of fs) no_match)
  from-none end = unfold longest in refl
  from-none (one {k = j} {fs = fs} f) = took no_match _ (map rule fs) _ 1 (one-matched j) (omega arith) ∙ after_one j f
  from-none (two {k = j} {c = c} {fs = fs} f) = chosen no_match (found 1 (alone_of fs) no_match) j c fs (omega arith) f (from-none f)

-- Only the spellings that begin with the byte count.
abbrev headed : List Fixed → Bool
headed [] = true
headed (f ∷ fs) = ltb 0 (length f.spelling) && headed fs

head-longest : (fs : List Fixed) (m : Match) (b : ℕ) (s : List ℕ) → headed fs ≡ true
    → longest m (map rule fs) (b ∷ s) ≡ longest m (map rule (with_head b fs)) (b ∷ s)
head-longest [] m b s h = refl
head-longest (f ∷ fs) m b s h =
    let g = and_both (ltb 0 (length f.spelling)) (headed fs) h in
    go (eqb (get_or f.spelling 0 0) b) refl (λ m'. head-longest fs m' b s g.1) g.0
  where
    go : (t : Bool) → eqb (get_or f.spelling 0 0) b ≡ t → ((m' : Match) → longest m' (map rule fs) (b ∷ s) ≡ longest m' (map rule (with_head b fs)) (b ∷ s))
        → ltb 0 (length f.spelling) ≡ true
        → longest m (map rule (f ∷ fs)) (b ∷ s) ≡ longest m (map rule (cond t (f ∷ with_head b fs) (with_head b fs))) (b ∷ s)
    go true e i l = unfold longest in (i _)
    go false e i l =
        let z : matched (rule f) (b ∷ s) ≡ 0 = token-miss f.spelling (plain f.kind) b s l e in
        keep m (rule f) (map rule fs) (b ∷ s) (omega arith) ∙ i m

punctuation-headed : headed punctuation ≡ true
unfolding punctuation
punctuation-headed = refl

-- the spellings with a first byte are all of one or two bytes
abbrev shortly : List ℕ → Bool
shortly [] = false
shortly (a ∷ []) = true
shortly (a ∷ c ∷ []) = true
shortly (a ∷ c ∷ d ∷ w) = false

abbrev short : List Fixed → Bool
short [] = true
short (f ∷ fs) = shortly f.spelling && short fs

from-head : (fs : List Fixed) (b : ℕ) → short fs ≡ true → From b (with_head b fs)
from-head [] b h = end
from-head (f ∷ fs) b h =
    let g = and_both (shortly f.spelling) (short fs) h in
    go f.spelling f.kind (eqb (get_or f.spelling 0 0) b) refl g.0 (from-head fs b g.1)
  where
    go : (w : List ℕ) (k : ℕ) (t : Bool) → eqb (get_or w 0 0) b ≡ t → shortly w ≡ true → From b (with_head b fs)
        → From b (cond t (record { kind = k; spelling = w } ∷ with_head b fs) (with_head b fs))
    go w k false e l i = i
    go [] k true e l i = absurd (false≢true l)
    go (a ∷ []) k true e l i = rw (eqb-true a b e) (one i)
    go (a ∷ c ∷ []) k true e l i = rw (eqb-true a b e) (two i)
    go (a ∷ c ∷ d ∷ w) k true e l i = absurd (false≢true l)

punctuation-short : short punctuation ≡ true
unfolding punctuation
punctuation-short = refl

pub punctuation-is : (b n : ℕ) (q r : Option ℕ) → q ≡ alone_of (with_head b punctuation) → r ≡ pair_of (with_head b punctuation) n
    → found 2 r (found 1 q no_match) ≡ longest no_match (map rule punctuation) (b ∷ n ∷ [])
punctuation-is b n q r e p =
    rw (e, p) (sym (head-longest punctuation no_match b (n ∷ []) punctuation-headed ∙ from-none b n (from-head punctuation b punctuation-short)))

-- one byte, by that byte
pub single-at : (a b : ℕ) (r : Option ℕ) → b ≡ a → r ≡ alone_of (with_head a punctuation) → r ≡ alone_of (with_head b punctuation)
single-at a b r e p = rw e p

-- two bytes, by both
pub double-at : (a c b n : ℕ) (r : Option ℕ) → b ≡ a → n ≡ c → r ≡ pair_of (with_head a punctuation) c → r ≡ pair_of (with_head b punctuation) n
double-at a c b n r e f p = rw (e, f) p

-- a spelling before others: the kind is its own, or theirs
pub pair-more : (k c n : ℕ) (q r other : Option ℕ) → q ≡ other → r ≡ cond (eqb c n) (Some k) q → r ≡ cond (eqb c n) (Some k) other
pair-more k c n q r other e p = p ∙ ap (λ (x : Option ℕ). cond (eqb c n) (Some k) x) e

-- none, where no spelling begins with the byte
no-head : (fs : List Fixed) (heads : List ℕ) (b : ℕ) → covered heads fs ≡ true → Outside b heads → with_head b fs ≡ []
no-head [] heads b c o = refl
no-head (f ∷ fs) heads b c o =
    let g = and_both (holds heads (get_or f.spelling 0 0)) (covered heads fs) c in
    rw (ne_eqb (get_or f.spelling 0 0) b (λ e. outside heads b _ o g.0 (sym e))) (no-head fs heads b g.1 o)

pub single-none : (heads : List ℕ) (b : ℕ) → covered heads punctuation ≡ true → Outside b heads → None ≡ alone_of (with_head b punctuation)
single-none heads b c o = ap alone_of (sym (no-head punctuation heads b c o))

-- and where none of two bytes does
abbrev covered_pairs : List ℕ → List Fixed → Bool
covered_pairs heads [] = true
covered_pairs heads (f ∷ fs) = (not (eqb (length f.spelling) 2) || holds heads (get_or f.spelling 0 0)) && covered_pairs heads fs

no-pair : (fs : List Fixed) (heads : List ℕ) (b n : ℕ) → covered_pairs heads fs ≡ true → Outside b heads → None ≡ pair_of (with_head b fs) n
no-pair [] heads b n c o = refl
no-pair (f ∷ fs) heads b n c o =
    let g = and_both (not (eqb (length f.spelling) 2) || holds heads (get_or f.spelling 0 0)) (covered_pairs heads fs) c in
    go (eqb (get_or f.spelling 0 0) b) refl (eqb (length f.spelling) 2) refl g.0 (no-pair fs heads b n g.1 o)
  where
    go : (t : Bool) → eqb (get_or f.spelling 0 0) b ≡ t → (u : Bool) → eqb (length f.spelling) 2 ≡ u → (not u || holds heads (get_or f.spelling 0 0)) ≡ true
        → None ≡ pair_of (with_head b fs) n → None ≡ pair_of (cond t (f ∷ with_head b fs) (with_head b fs)) n
    go false e u h l i = i
    go true e false h l i = rw h i
    go true e true h l i = absurd (outside heads b _ o l (sym (eqb-true _ b e)))

pub double-none : (heads : List ℕ) (b n : ℕ) → covered_pairs heads punctuation ≡ true → Outside b heads → None ≡ pair_of (with_head b punctuation) n
double-none heads b n c o = no-pair punctuation heads b n c o

-- nor with this second byte, where none of those that begin with the first one ends so
abbrev covered_seconds : List ℕ → List Fixed → Bool
covered_seconds seconds [] = true
covered_seconds seconds (f ∷ fs) = (not (eqb (length f.spelling) 2) || holds seconds (get_or f.spelling 1 0)) && covered_seconds seconds fs

no-second : (fs : List Fixed) (seconds : List ℕ) (n : ℕ) → covered_seconds seconds fs ≡ true → Outside n seconds → None ≡ pair_of fs n
no-second [] seconds n c o = refl
no-second (f ∷ fs) seconds n c o =
    let g = and_both (not (eqb (length f.spelling) 2) || holds seconds (get_or f.spelling 1 0)) (covered_seconds seconds fs) c in
    go (eqb (length f.spelling) 2) (eqb (get_or f.spelling 1 0) n) refl g.0 (no-second fs seconds n g.1 o)
  where
    go : (u t : Bool) → eqb (get_or f.spelling 1 0) n ≡ t → (not u || holds seconds (get_or f.spelling 1 0)) ≡ true
        → None ≡ pair_of fs n → None ≡ cond (u && t) (Some f.kind) (pair_of fs n)
    go false t e h i = i
    go true false e h i = i
    go true true e h i = absurd (outside seconds n _ o h (sym (eqb-true _ n e)))

pub double-other : (a : ℕ) (seconds : List ℕ) (b n : ℕ) → b ≡ a → covered_seconds seconds (with_head a punctuation) ≡ true → Outside n seconds
    → None ≡ pair_of (with_head b punctuation) n
double-other a seconds b n e c o = rw e (no-second (with_head a punctuation) seconds n c o)
