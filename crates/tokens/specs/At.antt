-- Laws of the token at an offset, in the terms of the functions that read it: `r` is what they answer.
use Rattle.std.specs.Prelude.{◌≡◌, List, [], ◌∷◌, map, Bool, true, false, ◌&&◌, ℕ, suc, ◌+◌, ◌-◌, ◌≤◌, ◌<◌, eqb, length, get_or, drop, take}
use Rattle.std.proofs.Math.Path.{refl}
use Rattle.std.proofs.Common.{sym, ◌∙◌, ap, ⊎_elim, add-zero, eq-eqb, ne_eqb, drop_of_length-le, length-drop, drop-drop, get_or-drop}
use native.Mathlib.Omega.{arith}
use Rattle.std.proofs.Math.ListN.{get_or-eq_default}
use Rattle.words.specs.Token as TokenKind
use Rattle.utf8.specs.Utf8.{character_at}
use Rattle.utf8.specs.declared.Character.{Character}
use Rattle.std.specs.Prelude.{Option, Some, None}
use Rattle.scan.specs.declared.Token.{Token}
use Rattle.scan.specs.Bytes.{ascii, Class, digit, upper, lower, ident_start, ident_part, blank, is_digit}
use Rattle.scan.specs.Comments.{behind, behind-all}
use Rattle.scan.specs.Lexer.{longest_text, Lexeme, lexeme, more, from, run, spelled, classed, token_at, line_comment, block_comment, number, string, Match, longest, no_match, finish, rule, punctuation, invalid_char}
use Rattle.scan.specs.Longest.{keyword_of, run_length, and-true}
use Rattle.tokens.specs.First
use Rattle.tokens.specs.First.{hex_prefix, bin_prefix, hex-token, word-token, number-token, blank-token, quote-token, at-builtin, at-error, slash-line, slash-block, slash-alone, other-token}
use Rattle.scan.specs.Fits.{spelled-within, longest-within}
use Rattle.std.specs.Prelude.{Some, None}
use Rattle.std.specs.Cmp.Lexicographic.{pointwise}
use Rattle.words.specs.Parts.{part-whole}
use Rattle.tokens.specs.declared.Spelled.{Spelled}
use Rattle.tokens.specs.Cases.{match_of}
use Rattle.scan.specs.Laws.{ended, rest-cons, from_more, lt-or-le, spelled-starts}

-- A byte that begins no word, number, run of blanks, string, comment or builtin's name.
pub record Other (b : ℕ) : Type 0 where
  pub start : ident_start b ≡ false
  pub number : digit b ≡ false
  pub blanks : blank b ≡ false
  pub quote : b ≡ 34 → ⊥
  pub slash : b ≡ 47 → ⊥
  pub sign : b ≡ 64 → ⊥

-- a fixed spelling has at most two bytes
pub fixed-fits : (s : Spelled) (b n : ℕ) → match_of (Some s) ≡ longest no_match (map rule punctuation) (b ∷ n ∷ []) → s.len ≤ 2
fixed-fits s b n p =
    let h = longest-within (b ∷ n ∷ []) no_match (map rule punctuation) (omega arith) in
    let e : s.len ≡ (longest no_match (map rule punctuation) (b ∷ n ∷ [])).len = ap (λ (m : Match). m.len) p in
    omega arith

-- The test in code on what stands at an offset.
pub spelled-there : (w text : List ℕ) (at : ℕ) (r : Bool) → r ≡ pointwise eqb w (take (length w) (take (length text - at) (drop at text)))
    → r ≡ spelled w (drop at text)
spelled-there w text at r e = spelled-starts w (drop at text) r (rw (part-whole at text) at e)

-- how long an invalid character is
abbrev pub invalid_len : Option Character → ℕ
invalid_len (Some c) = c.length
invalid_len None = 1

invalid-is : (x : List ℕ) → invalid_char x ≡ lexeme TokenKind.InvalidCharError (invalid_len (character_at x))
unfolding invalid_char
invalid-is x = go (character_at x)
  where
    go : (c : Option Character) → elim c [ Some c ↦ lexeme TokenKind.InvalidCharError c.length | None ↦ lexeme TokenKind.InvalidCharError 1 ] ≡ lexeme TokenKind.InvalidCharError (invalid_len c)
    go (Some c) = refl
    go None = refl

-- a byte of each class in turn, read one by one, where 0, what is read past the end, is of none
pub classed-cons : (text : List ℕ) (i : ℕ) (p : Class) (ps : List Class) → p 0 ≡ false
    → classed (p ∷ ps) (drop i text) ≡ (p (get_or text i 0) && classed ps (drop (i + 1) text))
unfolding classed
classed-cons text i p ps z = ⊎_elim in' out (lt-or-le i (length text))
  where
    in' : i < length text → classed (p ∷ ps) (drop i text) ≡ (p (get_or text i 0) && classed ps (drop (i + 1) text))
    in' h = rw (rest-cons text i h)

    out : length text ≤ i → classed (p ∷ ps) (drop i text) ≡ (p (get_or text i 0) && classed ps (drop (i + 1) text))
    out h = rw (drop_of_length-le text h, get_or-eq_default text 0 h, z)

module _ (text : List ℕ) (at letter radix : ℕ) (l : 0 < letter) where
  abbrev prefix : List Class
  prefix = eqb 48 ∷ eqb letter ∷ is_digit radix ∷ []

  pub prefix_is : classed prefix (drop at text)
      ≡ (eqb 48 (get_or text at 0) && (eqb letter (get_or text (at + 1) 0) && (is_digit radix (get_or text (at + 2) 0) && true)))
  prefix_is =
      classed-cons text at (eqb 48) _ refl
      ∙ ap (λ (t : Bool). eqb 48 (get_or text at 0) && t)
      (classed-cons text (at + 1) (eqb letter) _ (ne_eqb letter 0 (omega arith))
      ∙ ap (λ (t : Bool). eqb letter (get_or text (at + 1) 0) && t)
      (rw (two at) (classed-cons text (at + 2) (is_digit radix) [] zero-no ∙ ap (λ (t : Bool). is_digit radix (get_or text (at + 2) 0) && t) (unfold classed in refl))))
    where
      two : (i : ℕ) → i + 1 + 1 ≡ i + 2
      two i = omega arith

      zero-no : is_digit radix 0 ≡ false
      zero-no = unfold is_digit digit upper lower in refl

  pub prefix-unlike : (get_or text at 0 ≡ 48 → ⊥) → false ≡ classed prefix (drop at text)
  prefix-unlike e = rw (prefix_is, ne_eqb 48 (get_or text at 0) (λ f. e (sym f)))

  module _ (e : get_or text at 0 ≡ 48) (n : ℕ) (en : n ≡ get_or text (at + 1) 0) where
    pub prefix-other : (n ≡ letter → ⊥) → false ≡ classed prefix (drop at text)
    prefix-other f = rw (prefix_is, e, ne_eqb letter (get_or text (at + 1) 0) (λ g. f (en ∙ sym g)))

    pub prefix-digit : (m : ℕ) (r : Bool) → n ≡ letter → m ≡ get_or text (at + 2) 0 → r ≡ is_digit radix m → r ≡ classed prefix (drop at text)
    prefix-digit m r f em er = rw (prefix_is, e, eq-eqb letter (get_or text (at + 1) 0) (sym f ∙ en), ← em, ← er) (sym (and-true r))

module _ (text : List ℕ) (at : ℕ) where
  abbrev pub here : Token
  here = from at (token_at (drop at text))

  abbrev b : ℕ
  b = get_or text at 0

  abbrev s : List ℕ
  s = drop (at + 1) text

  -- the token goes on at a later offset
  later : (n : ℕ) (f : List ℕ → Lexeme) (r : Token) → token_at (drop at text) ≡ more n (f (drop n (drop at text)))
      → r ≡ from (at + n) (f (drop (at + n) text)) → r ≡ here
  later n f r e p = p ∙ sym (ap (from at) e ∙ (from_more at n _ ∙ ap (λ (x : List ℕ). from (at + n) (f x)) (drop-drop n at text)))

  begun : at < length text → (l : Lexeme) → token_at (b ∷ s) ≡ l → from at l ≡ here
  begun h l e = sym (ap (λ (x : List ℕ). from at (token_at x)) (rest-cons text at h) ∙ ap (from at) e)

  pub hex-at : (t : Bool) (r : Token) → t ≡ spelled (ascii "hex\"") (drop at text) → t ≡ true
      → r ≡ from (at + 4) (string TokenKind.LooseHexStringLiteral false false false (drop (at + 4) text)) → r ≡ here
  hex-at t r e g p = later 4 (string TokenKind.LooseHexStringLiteral false false false) r (hex-token (drop at text) (sym e ∙ g)) p

  pub hex-fits : (t : Bool) → t ≡ spelled (ascii "hex\"") (drop at text) → t ≡ true → at + 4 ≤ length text
  hex-fits t e g = let h = spelled-within (ascii "hex\"") (drop at text) (sym e ∙ g) in omega (arith, length-drop at text)

  module _ (h : at < length text) where
    pub word_at : (t : Bool) (kind end : ℕ) → ident_start b ≡ true → t ≡ spelled (ascii "hex\"") (drop at text) → t ≡ false
        → end ≡ at + 1 + run ident_part (drop (at + 1) text) → kind ≡ keyword_of (take (end - at) (drop at text)) → ended kind end ≡ here
    word_at t kind end i e f g k =
        let n : end - at ≡ suc (run ident_part s) = omega arith in
        let z : end ≡ at + suc (run ident_part s) = omega arith in
        let q : kind ≡ keyword_of (take (suc (run ident_part s)) (b ∷ s)) = rw (n, rest-cons text at h) at k in
        rw (q, z) (begun h _ (word-token b s i (rw (rest-cons text at h) at (sym e ∙ f))))

    pub word_fits : (end : ℕ) → end ≡ at + 1 + run ident_part (drop (at + 1) text) → (at ≤ end) × (end ≤ length text)
    word_fits end g = (omega arith, omega (arith, run_length ident_part s, length-drop (at + 1) text))

    pub blank-at : (end : ℕ) → blank b ≡ true → end ≡ at + 1 + run blank (drop (at + 1) text) → ended TokenKind.Whitespace end ≡ here
    blank-at end i e =
        let z : end ≡ at + suc (run blank s) = omega arith in
        rw z (begun h _ (blank-token b s i))

    -- a number, by its prefix
    module _ (i : digit b ≡ true) (x y : Bool) (ex : x ≡ classed hex_prefix (drop at text)) (ey : y ≡ classed bin_prefix (drop at text)) (r : Token) where
      digits : token_at (drop at text) ≡ finish (First.radix b s i x y) (drop at text)
      digits = rw (rest-cons text at h) (number-token b s i x y (rw (rest-cons text at h) at (sym ex)) (rw (rest-cons text at h) at (sym ey)))

      pub binary-at : x ≡ false → y ≡ true → r ≡ from (at + 3) (number TokenKind.BinLiteral 2 false (drop (at + 3) text)) → r ≡ here
      binary-at e f p = later 3 (number TokenKind.BinLiteral 2 false) r (rw (e, f) at digits) p

      pub decimal-at : x ≡ false → y ≡ false → r ≡ from (at + 1) (number TokenKind.DecimalLiteral 10 false (drop (at + 1) text)) → r ≡ here
      decimal-at e f p = later 1 (number TokenKind.DecimalLiteral 10 false) r (rw (e, f) at digits) p

    pub hexadecimal-at : (x : Bool) (r : Token) → digit b ≡ true → x ≡ classed hex_prefix (drop at text) → x ≡ true
        → r ≡ from (at + 3) (number TokenKind.HexLiteral 16 false (drop (at + 3) text)) → r ≡ here
    hexadecimal-at x r i ex e p =
        later 3 (number TokenKind.HexLiteral 16 false) r (rw e at (digits i x (classed bin_prefix (drop at text)) ex refl r)) p

    -- a byte that is known
    known : (k : ℕ) → b ≡ k → drop at text ≡ k ∷ s
    known k e = rest-cons text at h ∙ ap (λ (x : ℕ). x ∷ s) e

    pub quote-at : (r : Token) → b ≡ 34 → r ≡ from (at + 1) (string TokenKind.LooseStringLiteral true false false (drop (at + 1) text)) → r ≡ here
    quote-at r e p =
        let q = known 34 e in
        later 1 (string TokenKind.LooseStringLiteral true false false) r (rw q (quote-token s)) p

    -- the byte after it, 0 at the end of the text
    module _ (n : ℕ) (en : n ≡ get_or text (at + 1) 0) where
      second : n ≡ get_or s 0 0
      second = en ∙ sym (rw (add-zero (at + 1)) at (get_or-drop (at + 1) text 0 0))

      pub builtin-at : (t : Bool) (end : ℕ) → b ≡ 64 → t ≡ ident_start n → t ≡ true → end ≡ at + 2 + run ident_part (drop (at + 2) text)
          → ended TokenKind.BuiltinName end ≡ here
      builtin-at t end e f g k =
          let i : ident_start (get_or s 0 0) ≡ true = rw second at (sym f ∙ g) in
          let j : at + 2 ≡ at + 1 + 1 = omega arith in
          let z : drop (at + 2) text ≡ drop 1 s = rw (drop-drop 1 (at + 1) text) (ap (λ (j : ℕ). drop j text) j) in
          let y : end ≡ at + suc (suc (run ident_part (drop 1 s))) = k ∙ rw z (omega arith) in
          rw (known 64 e, y) (sym (ap (from at) (at-builtin s i)))

      pub at-error-at : (t : Bool) → b ≡ 64 → t ≡ ident_start n → t ≡ false → ended TokenKind.AtWithoutIdentError (at + 1) ≡ here
      at-error-at t e f g = rw (known 64 e) (sym (ap (from at) (at-error s (rw second at (sym f ∙ g)))))

      module _ (e : b ≡ 47) where
        pub line_at : (r : Token) → n ≡ 47 → r ≡ from (at + 2) (line_comment (drop (at + 2) text)) → r ≡ here
        line_at r f p = later 2 line_comment r (rw (known 47 e) (slash-line s (sym second ∙ f))) p

        pub block_at : length text ≤ longest_text → (r : Token) → n ≡ 42 → r ≡ from (at + 2) (block_comment (behind (at + 2) text) 1) → r ≡ here
        block_at l r f p =
            later 2 (λ x. block_comment x 1) r (rw (known 47 e) (slash-block s (sym second ∙ f))) (rw (behind-all (at + 2) text (omega arith)) at p)

        pub slash-at : (n ≡ 47 → ⊥) → (n ≡ 42 → ⊥) → ended TokenKind.Slash (at + 1) ≡ here
        slash-at f g = rw (known 47 e) (sym (ap (from at) (slash-alone s (λ x. f (second ∙ x)) (λ x. g (second ∙ x)))))

      -- no other rule begins with the byte: a fixed spelling of one or two bytes, or none
      module _ (o : Other b) where
        not-this : (a : ℕ) → (b ≡ a → ⊥) → eqb a b ≡ false
        not-this a f = ne_eqb a b (λ e. f (sym e))

        other : token_at (drop at text) ≡ finish (longest no_match (map rule punctuation) (b ∷ n ∷ [])) (drop at text)
        other = rw (second, rest-cons text at h) (other-token b s o.start o.number o.blanks (not-this 34 o.quote) (not-this 47 o.slash) (not-this 64 o.sign))

        pub fixed-at : (f : Spelled) → match_of (Some f) ≡ longest no_match (map rule punctuation) (b ∷ n ∷ []) → ended f.kind (at + f.len) ≡ here
        fixed-at f p =
            let z : at + f.len ≡ at + (f.len + 0) = omega arith in
            rw (other, ← p, z)

        pub invalid-at : (c : Option Character) (len : ℕ) → match_of None ≡ longest no_match (map rule punctuation) (b ∷ n ∷ [])
            → c ≡ character_at (drop at text) → invalid_len c ≡ len → ended TokenKind.InvalidCharError (at + len) ≡ here
        invalid-at c len p e f =
            let z : at + len ≡ at + (0 + len) = omega arith in
            rw (other, ← p, invalid-is (drop at text), ← e, f, z)
