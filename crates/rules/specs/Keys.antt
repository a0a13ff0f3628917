-- Which keyword a word may be: by its first letter and its length one at most, from a table; its spelling is then compared. One computed
-- test over the table shows that at each entry.
use Rattle.std.specs.Prelude.{◌≡◌, refl, List, [], ◌∷◌, ◌++◌, Bool, true, false, cond, ◌&&◌, ℕ, ◌+◌, ◌-◌, ◌*◌, ◌≤◌, eqb, leb, length, get_or, take, drop}
use Rattle.std.proofs.Common.{sym, ◌∙◌, ap, arith, eqb-true, eq-eqb, ne_eqb, leb-true}
use Rattle.std.proofs.lemmas.Bool.{false≢true}
use Rattle.words.specs.Token as TokenKind
use Rattle.scan.specs.Bytes.{ascii, within}
use Rattle.scan.specs.Lexer.{Fixed, keywords}
use Rattle.scan.specs.Longest.{same, same_length, same_head, same-equal, kind_in, keyword_of, and_both}
use Rattle.rules.specs.Alike.{between}

-- The keywords, in the order of their kinds, a line for each.
unfoldable pub spelling_list : List ℕ
spelling_list =
    ascii "if------" ++
    (ascii "else----" ++
    (ascii "fn------" ++
    (ascii "eager---" ++
    (ascii "let-----" ++
    (ascii "mut-----" ++
    (ascii "const---" ++
    (ascii "init----" ++
    (ascii "run-----" ++
    (ascii "struct--" ++
    (ascii "tuple---" ++
    (ascii "return--" ++
    (ascii "comptime" ++
    (ascii "inline--" ++
    (ascii "while---" ++
    (ascii "true----" ++
    (ascii "false---" ++
    (ascii "and-----" ++
    (ascii "or------" ++
    (ascii "pub-----" ++
    (ascii "use-----" ++
    (ascii "as------" ++
    (ascii "match---" ++
    ascii "Self----"))))))))))))))))))))))

-- The table: a line for each letter `a` to `z`, a column for each length, 1 to 8. `A` is the first keyword's line, `-` none.
unfoldable pub key_list : List ℕ
key_list =
    ascii "-VR-----" ++
    (ascii "--------" ++
    (ascii "----G--M" ++
    (ascii "--------" ++
    (ascii "---BD---" ++
    (ascii "-C--Q---" ++
    (ascii "--------" ++
    (ascii "--------" ++
    (ascii "-A-H-N--" ++
    (ascii "--------" ++
    (ascii "--------" ++
    (ascii "--E-----" ++
    (ascii "--F-W---" ++
    (ascii "--------" ++
    (ascii "-S------" ++
    (ascii "--T-----" ++
    (ascii "--------" ++
    (ascii "--I--L--" ++
    (ascii "-----J--" ++
    (ascii "---PK---" ++
    (ascii "--U-----" ++
    (ascii "--------" ++
    (ascii "----O---" ++
    (ascii "--------" ++
    (ascii "--------" ++
    ascii "--------"))))))))))))))))))))))))

-- the keyword of an entry
abbrev pub none : ℕ
none = 45

abbrev pub spelling : ℕ → ℕ → List ℕ
spelling key n = cond (eqb key none) [] (take n (drop ((key - 65) * 8) spelling_list))

-- no keyword but `w` begins with the byte and has the length
abbrev only : List Fixed → ℕ → ℕ → List ℕ → Bool
only [] b n w = true
only (f ∷ fs) b n w = cond (eqb (get_or f.spelling 0 0) b && eqb (length f.spelling) n) (same f.spelling w) true && only fs b n w

-- The rule of an entry, for a byte and a length: no keyword but its own begins and is as long so, and its own has the kind that its
-- line says.
abbrev pub right : ℕ → ℕ → ℕ → Bool
right key b n =
    only keywords b n (spelling key n)
    && cond (eqb key none) true (within 65 88 key && eqb (kind_in keywords (spelling key n)) (key - 24))

-- ------------------------------------------------------------------ what the rule says of a word

not-only : (fs : List Fixed) (v w : List ℕ) → only fs (get_or v 0 0) (length v) w ≡ true → same w v ≡ false → kind_in fs v ≡ TokenKind.Identifier
unfolding kind_in
not-only [] v w e d = refl
not-only (f ∷ fs) v w e d =
    let h = and_both _ (only fs (get_or v 0 0) (length v) w) e in
    go (same f.spelling v) refl h.0 (not-only fs v w h.1 d)
  where
    go : (t : Bool) → same f.spelling v ≡ t
        → cond (eqb (get_or f.spelling 0 0) (get_or v 0 0) && eqb (length f.spelling) (length v)) (same f.spelling w) true ≡ true
        → kind_in fs v ≡ TokenKind.Identifier → cond t f.kind (kind_in fs v) ≡ TokenKind.Identifier
    go true s k i =
        let own : same f.spelling w ≡ true = rw (eq-eqb _ _ (same_head f.spelling v s), eq-eqb _ _ (same_length f.spelling v s)) at k in
        let both : w ≡ f.spelling = sym (same-equal f.spelling w own) in
        absurd (false≢true (sym d ∙ (ap (λ (x : List ℕ). same x v) both ∙ s)))
    go false s k i = i

unless : (t x : Bool) → t ≡ false → cond t true x ≡ true → x ≡ true
unless true x f e = absurd (false≢true (sym f))
unless false x f e = e

same-empty : (v : List ℕ) → 1 ≤ length v → same [] v ≡ false
unfolding same
same-empty [] i = absurd (omega arith)
same-empty (b ∷ v) i = refl

module _ (v : List ℕ) (key : ℕ) (r : right key (get_or v 0 0) (length v) ≡ true) where
  pub other_word : same (spelling key (length v)) v ≡ false → TokenKind.Identifier ≡ keyword_of v
  other_word d = sym (not-only keywords v (spelling key (length v)) (and_both _ _ r).0 d)

  pub no_word : 1 ≤ length v → key ≡ none → TokenKind.Identifier ≡ keyword_of v
  no_word i e = other_word (rw (eq-eqb key none e) (same-empty v i))

  module _ (d : key ≡ none → ⊥) where
    own : (within 65 88 key && eqb (kind_in keywords (spelling key (length v))) (key - 24)) ≡ true
    own = unless (eqb key none) _ (ne_eqb key none d) (and_both (only keywords (get_or v 0 0) (length v) (spelling key (length v))) _ r).1

    pub key-from : 65 ≤ key
    key-from = (between 65 88 key (and_both _ _ own).0).0

    pub key-to : key ≤ 88
    key-to = (between 65 88 key (and_both _ _ own).0).1

    pub own-word : same (spelling key (length v)) v ≡ true → key - 24 ≡ keyword_of v
    own-word s =
        sym (eqb-true _ _ (and_both (within 65 88 key) _ own).1) ∙ ap (kind_in keywords) (same-equal _ v s)

    -- the part of the spellings that is compared
    pub spelt-part : (xs : List ℕ) (first last : ℕ) → xs ≡ spelling_list → first ≡ (key - 65) * 8 → last ≡ first + length v
        → take (last - first) (drop first xs) ≡ spelling key (length v)
    spelt-part xs first last e f g =
        let z : last - first ≡ length v = omega arith in
        rw (e, z, f, ne_eqb key none d)

-- ------------------------------------------------------------------ other lengths

abbrev shortly : List Fixed → Bool
shortly [] = true
shortly (f ∷ fs) = leb (length f.spelling) 8 && (leb 1 (length f.spelling) && shortly fs)

no_length : (fs : List Fixed) (v : List ℕ) → shortly fs ≡ true → (1 ≤ length v → length v ≤ 8 → ⊥) → kind_in fs v ≡ TokenKind.Identifier
unfolding kind_in
no_length [] v e h = refl
no_length (f ∷ fs) v e h =
    let k = and_both (leb (length f.spelling) 8) _ e in
    let l = and_both (leb 1 (length f.spelling)) (shortly fs) k.1 in
    go (same f.spelling v) refl (leb-true _ 8 k.0) (leb-true 1 _ l.0) (no_length fs v l.1 h)
  where
    go : (t : Bool) → same f.spelling v ≡ t → length f.spelling ≤ 8 → 1 ≤ length f.spelling → kind_in fs v ≡ TokenKind.Identifier
        → cond t f.kind (kind_in fs v) ≡ TokenKind.Identifier
    go true s l m i = let z = same_length f.spelling v s in absurd (h (omega arith) (omega arith))
    go false s l m i = i

pub other_length : (v : List ℕ) → (1 ≤ length v → length v ≤ 8 → ⊥) → TokenKind.Identifier ≡ keyword_of v
unfolding keywords
other_length v h = sym (no_length keywords v refl h)
