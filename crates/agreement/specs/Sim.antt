-- The abstract run beside the parser of rows (`Parser`, crate chart): what it is that they agree, and the steps that look at tokens.
use Rattle.std.proofs.Math.Path.{◌≡◌, refl}
use Rattle.std.proofs.Common.{sym, ◌∙◌, subst, true≢false, arith}
use Rattle.std.specs.Prelude.{Bool, ◌&&◌, ℕ, suc, ◌+◌, ◌<◌, ◌^◌, length}
use Rattle.std.proofs.Math.Bool.{true, false}
use mathlib.Core.List.{List, [], ◌∷◌}
use Rattle.std.proofs.Math.Dec.{eqb, ltb}
use borrow.Author.Tests.{eqb-true, eq-eqb}
use Rattle.words.specs.Token
use Rattle.words.specs.Token.{lex_error}
use Rattle.std.specs.Prelude.{None}
use Rattle.words.specs.Words.{token_kind}
use Rattle.literals.specs.Spelling.{word_at}
use Rattle.words.specs.Report
use Rattle.definition.specs.Prog.{Turn, Prog, Then, Branch, peek, pass, before, emit_and_mark}
use Rattle.definition.specs.Tokens.{contains, check, eat, eof, emit_unexpected, expect, expect_check_recovery}
use Rattle.definition.specs.Abstract.{Seen, good, Node, World, Fate, ok, fail, deep, bind_a, move_to, kind_a, pass_a, skip_a, ReadersA, eval_a}
use Rattle.chart.specs.Row.{Lexeme, RowToken, token, begins}
use Rattle.chart.specs.Tree.{Trees}
use Rattle.chart.specs.Parser.{Outcome, if, on, bind, try, failed}
use Rattle.chart.specs.Parser as Chart
use Rattle.tree.specs.Rows.{lexeme}
use Rattle.agreement.specs.Run.{run, turns, run_is, run_ok, turns_then}

-- What a program comes to beside an outcome: an answer, of which P holds; a report, where the row is in no rule; too deep, both of them.
pub data Sim {A : Type 0} (P : A → World → Outcome → Type 0) : Fate A → Outcome → Type 0 where
  gives : {a : A} {u : World} {o : Outcome} → P a u o → Sim P (ok a u) o
  fails : Sim P fail failed
  sinks : {u : World} → Sim P (deep u) Chart.deep

-- An answer beside trees and what is left of the row.
pub data Made {A : Type 0} (Q : A → World → Trees → List RowToken → Type 0) : A → World → Outcome → Type 0 where
  made : {a : A} {u : World} {ts : Trees} {ys : List RowToken} → Q a u ts ys → Made Q a u (Chart.ok ts ys)

-- One program after another, where trees have to be there.
pub then : {A B : Type 0} {Q : A → World → Trees → List RowToken → Type 0} {P : B → World → Outcome → Type 0} {f : Fate A} {o : Outcome} (k : A → World → Fate B) (c : Trees → List RowToken → Outcome)
    → Sim (Made Q) f o → ((a : A) (u : World) (ts : Trees) (ys : List RowToken) → Q a u ts ys → Sim P (k a u) (c ts ys)) → Sim P (bind_a f k) (bind o c)
unfolding bind
then k c (gives (made {a} {u} {ts} {ys} q)) h = h a u ts ys q
then k c fails h = fails
then k c sinks h = sinks

-- The trees are made to others.
pub mapped : {A : Type 0} {Q S : A → World → Trees → List RowToken → Type 0} {f : Fate A} {o : Outcome} (g : Trees → Trees) → Sim (Made Q) f o
    → ((a : A) (u : World) (ts : Trees) (ys : List RowToken) → Q a u ts ys → S a u (g ts) ys) → Sim (Made S) f (bind o (λ ts ys. Chart.ok (g ts) ys))
unfolding bind
mapped g (gives (made {a} {u} {ts} {ys} q)) h = gives (made (h a u ts ys q))
mapped g fails h = fails
mapped g sinks h = sinks

-- The text, its tokens and where they end; how many turns a loop may take; the readers one level deeper, of the abstract run and of rows.
pub record Setting : Type 0 where
  pub text : List ℕ
  pub tokens : List ℕ
  pub end : ℕ
  pub bound : ℕ
  pub readers : ReadersA
  pub rows : Chart.Readers

abbrev pub runs : (s : Setting) {A B : Type 0} → Prog A → World → (A → World → Fate B) → Fate B
runs s p w k = run s.text s.tokens s.end s.bound s.readers p w k

abbrev pub lexeme_of : Setting → ℕ → Lexeme
lexeme_of s i = lexeme s.text s.tokens i

-- A program whose agreement is known, and what comes after it.
pub call : (s : Setting) {A B : Type 0} {Q : A → World → Trees → List RowToken → Type 0} {P : B → World → Outcome → Type 0} (p : Prog A) (w : World) (k : A → World → Fate B) (c : Trees → List RowToken → Outcome) {o : Outcome}
    → Sim (Made Q) (runs s p w ok) o → ((a : A) (u : World) (ts : Trees) (ys : List RowToken) → Q a u ts ys → Sim P (k a u) (c ts ys)) → Sim P (runs s p w k) (bind o c)
call s {A} {B} {P = P} p w k c {o} h g =
    let e : runs s p w ok ≡ eval_a s.text s.tokens s.end s.bound s.readers p w = run_ok s.text s.tokens s.end s.bound s.readers p w in
    let q : runs s {A = A} {B = B} p w k ≡ bind_a (eval_a s.text s.tokens s.end s.bound s.readers p w) k = run_is s.text s.tokens s.end s.bound s.readers p w k in
    subst (λ f. Sim P f (bind o c)) (sym q) (then k c (rw e at h) g)

-- A loop whose agreement is known, with so many turns left.
pub call-turns : (s : Setting) {S B : Type 0} {Q : S → World → Trees → List RowToken → Type 0} {P : B → World → Outcome → Type 0} (body : S → Prog (Turn S)) (n : ℕ) (x : S) (w : World) (k : S → World → Fate B) (c : Trees → List RowToken → Outcome) {o : Outcome}
    → Sim (Made Q) (turns (λ y u j. runs s (body y) u j) n x w ok) o → ((a : S) (u : World) (ts : Trees) (ys : List RowToken) → Q a u ts ys → Sim P (k a u) (c ts ys)) → Sim P (turns (λ y u j. runs s (body y) u j) n x w k) (bind o c)
call-turns s {S} {B} {P = P} body n x w k c {o} h g =
    subst (λ f. Sim P f (bind o c)) (sym (turns_then s.text s.tokens s.end s.bound s.readers body n x w k)) (then k c h g)

-- The same, where trees may be there.
pub call-try : (s : Setting) {A B : Type 0} {Q : A → World → Outcome → Type 0} {P : B → World → Outcome → Type 0} (p : Prog A) (w : World) (k : A → World → Fate B) (c : Trees → List RowToken → Outcome) (z : Outcome) {o : Outcome}
    → Sim Q (runs s p w ok) o → ((a : A) (u : World) → Q a u o → Sim P (k a u) (try o c z)) → Sim P (runs s p w k) (try o c z)
unfolding try
call-try s {A} {B} {Q} {P} p w k c z {o} h g =
    let e : runs s p w ok ≡ eval_a s.text s.tokens s.end s.bound s.readers p w = run_ok s.text s.tokens s.end s.bound s.readers p w in
    let q : runs s {A = A} {B = B} p w k ≡ bind_a (eval_a s.text s.tokens s.end s.bound s.readers p w) k = run_is s.text s.tokens s.end s.bound s.readers p w k in
    subst (λ f. Sim P f (try o c z)) (sym q) (go (rw e at h) g)
  where
    go : {f : Fate A} {o : Outcome} → Sim Q f o → ((a : A) (u : World) → Q a u o → Sim P (k a u) (try o c z)) → Sim P (bind_a f k) (try o c z)
    go (gives {a} {u} x) g = g a u x
    go fails g = fails
    go sinks g = sinks

-- How many words values may take that are made of tokens: one, and one for each byte.
unfoldable pub cost : List RowToken → ℕ
cost [] = 0
cost (token k v ∷ xs) = suc (length v.spelling) + cost xs

module _ (s : Setting) where
  -- What is ahead of the abstract run, as the chart has it: tokens that are read, then Eof or nothing.
  pub data Ahead : List Seen → List RowToken → Type 0 where
    over : Ahead [] []
    eof-ahead : {i : ℕ} → Ahead (good i Token.Eof ∷ []) []
    next : {i k : ℕ} {row : List Seen} {xs : List RowToken} → i < length s.tokens → token_kind (word_at s.tokens i) ≡ k → eqb k Token.Eof ≡ false → lex_error k ≡ None → Ahead row xs
        → Ahead (good i k ∷ row) (token k (lexeme_of s i) ∷ xs)

  -- Where a program begins: the row that is ahead; payloads have room for offsets of values, and loops for the tokens; File is there, and
  -- each link so far was sound.
  pub record Fit (store : List Node) (values : List ℕ) (row : List Seen) (sane : Bool) (xs : List RowToken) : Type 0 where
    pub ahead : Ahead row xs
    pub room : length values + cost xs < 2 ^ 26
    pub few : length xs < s.bound
    pub born : 0 < length store
    pub sound : sane ≡ true

  abbrev pub Fits : World → List RowToken → Type 0
  Fits w xs = Fit w.store w.values w.row w.sane xs

  -- A token of kind K was passed, and `ys` is ahead.
  pub record Taken (K : ℕ) (w : World) (xs : List RowToken) (j : ℕ) (row : List Seen) (ys : List RowToken) : Type 0 where
    pub inside : j < length s.tokens
    pub kind : token_kind (word_at s.tokens j) ≡ K
    pub first : xs ≡ token K (lexeme_of s j) ∷ ys
    pub fit : Fit w.store w.values row w.sane ys
    pub shorter : length ys < length xs

  -- No token that is ahead is an error.
  clean-ahead : {row : List Seen} {zs xs : List RowToken} {kind : ℕ} {v : Lexeme} → Ahead row zs → zs ≡ token kind v ∷ xs → lex_error kind ≡ None
  clean-ahead over q = absurd (let z : ◌≡◌ {A = ℕ} 0 1 = cc in omega arith)
  clean-ahead eof-ahead q = absurd (let z : ◌≡◌ {A = ℕ} 0 1 = cc in omega arith)
  clean-ahead {kind = kind} (next {k = k} l t n c a) q = let z : k ≡ kind = cc in rw z at c

  pub first-clean : (w : World) {xs ys : List RowToken} {kind : ℕ} {v : Lexeme} → Fits w xs → xs ≡ token kind v ∷ ys → lex_error kind ≡ None
  first-clean w f e = clean-ahead f.ahead e

  -- What is ahead once a token is passed.
  passed-fit : (w : World) {xs ys : List RowToken} {K : ℕ} {v : Lexeme} {row : List Seen} → Fits w xs → xs ≡ token K v ∷ ys → Ahead row ys → Fit w.store w.values row w.sane ys
  unfolding cost
  passed-fit w f e a = let g = rw e at f in record { ahead = a; room = omega (arith, g.room); few = omega (arith, g.few); born = f.born; sound = f.sound }

  module _ {B : Type 0} {P : B → World → Outcome → Type 0} where
    -- Trivia is gone from the row: the run stands at its first token, or at the end.
    peek-at : (w : World) (k : ℕ → World → Fate B) {row : List Seen} {xs : List RowToken} {o : Outcome} → w.row ≡ row → Ahead row xs
        → ((i : ℕ) → xs ≡ [] → Sim P (k Token.Eof (move_to i w.row w)) o)
        → ((j kind : ℕ) (ys : List RowToken) → xs ≡ token kind (lexeme_of s j) ∷ ys → eqb kind Token.Eof ≡ false → Sim P (k kind (move_to j w.row w)) o)
        → Sim P (runs s peek w k) o
    unfolding run skip_a kind_a
    peek-at w k e over h g = rw e (rw e at (h s.end refl))
    peek-at w k e (eof-ahead {i}) h g = rw e (rw e at (h i refl))
    peek-at w k e (next {i} {k = kind} {xs = ys} l t n c a) h g = rw e (rw e at (g i kind ys refl n))

    pub peek-rule : (w : World) (k : ℕ → World → Fate B) {xs : List RowToken} {o : Outcome} → Fits w xs
        → ((i : ℕ) → xs ≡ [] → Sim P (k Token.Eof (move_to i w.row w)) o)
        → ((j kind : ℕ) (ys : List RowToken) → xs ≡ token kind (lexeme_of s j) ∷ ys → eqb kind Token.Eof ≡ false → Sim P (k kind (move_to j w.row w)) o)
        → Sim P (runs s peek w k) o
    peek-rule w k f h g = peek-at w k refl f.ahead h g

    -- The first token is passed.
    pass-at : (w : World) (k : Unit {0} → World → Fate B) {row : List Seen} {zs ys : List RowToken} {K : ℕ} {v : Lexeme} {o : Outcome} → w.row ≡ row → Ahead row zs → zs ≡ token K v ∷ ys
        → ((j : ℕ) (rest : List Seen) → j < length s.tokens → token_kind (word_at s.tokens j) ≡ K → v ≡ lexeme_of s j → Ahead rest ys → Sim P (k tt (move_to (suc j) rest w)) o)
        → Sim P (runs s pass w k) o
    unfolding run skip_a pass_a
    pass-at w k e over q h = absurd (let z : ◌≡◌ {A = ℕ} 0 1 = cc in omega arith)
    pass-at w k e eof-ahead q h = absurd (let z : ◌≡◌ {A = ℕ} 0 1 = cc in omega arith)
    pass-at w k {ys = ys} {K = K} {v = v} e (next {i} {k = kind} {row = rest} {xs = xs} l t n c a) q h =
        let z : xs ≡ ys = cc in
        let a' : Ahead rest ys = rw z at a in
        let t' : kind ≡ K = cc in
        let v' : v ≡ lexeme_of s i = cc in
        rw e (h i rest l (t ∙ t') v' a')

    pub pass-rule : (w : World) (k : Unit {0} → World → Fate B) {xs ys : List RowToken} {K : ℕ} {v : Lexeme} {o : Outcome} → Fits w xs → xs ≡ token K v ∷ ys
        → ((j : ℕ) (row : List Seen) → v ≡ lexeme_of s j → Taken K w xs j row ys → Sim P (k tt (move_to (suc j) row w)) o)
        → Sim P (runs s pass w k) o
    pass-rule w k {xs} {ys} {K} {v} f e h =
        pass-at w k refl f.ahead e (λ j row l t q a. h j row q (record { inside = l; kind = t; first = rw (← q) e; fit = passed-fit w f e a; shorter = rw e (omega arith) }))

    -- `eat` beside what the chart does on a token.
    pub eat-rule : (w : World) (k : Bool → World → Fate B) {K : ℕ} {xs : List RowToken} (h : Lexeme → List RowToken → Outcome) {m : Outcome} → eqb Token.Eof K ≡ false → Fits w xs
        → ((j : ℕ) (row : List Seen) (ys : List RowToken) → Taken K w xs j row ys → Sim P (k true (move_to (suc j) row w)) (h (lexeme_of s j) ys))
        → (begins K xs ≡ false → (i : ℕ) → Sim P (k false (move_to i w.row w)) m)
        → Sim P (runs s (eat K) w k) (on K xs h m)
    unfolding run eat check on if begins
    eat-rule w k {K} {xs} h {m} n f hit miss =
        peek-rule w kept f (λ i e. rw e (stays i (eqb Token.Eof K) n (miss (rw e refl) i)))
        (λ j kind ys e ne. rw e (go j kind ys e (eqb kind K) refl))
      where
        stays : (i : ℕ) (b : Bool) → b ≡ false → Sim P (k false (move_to i w.row w)) m
            → Sim P (elim b [ true ↦ runs s pass (move_to i w.row w) (λ _ v. k true v) | false ↦ k false (move_to i w.row w) ]) m
        stays i true q s = absurd (true≢false q)
        stays i false q s = s

        kept : ℕ → World → Fate B
        kept found u = elim (eqb found K) [ true ↦ runs s pass u (λ _ v. k true v) | false ↦ k false u ]

        go : (j kind : ℕ) (ys : List RowToken) → xs ≡ token kind (lexeme_of s j) ∷ ys → (b : Bool) → eqb kind K ≡ b
            → Sim P (elim b [ true ↦ runs s pass (move_to j w.row w) (λ _ v. k true v) | false ↦ k false (move_to j w.row w) ]) (if b (h (lexeme_of s j) ys) m)
        go j kind ys e true q =
            let z : kind ≡ K = eqb-true kind K q in
            let e' : xs ≡ token K (lexeme_of s j) ∷ ys = rw (← z) e in
            pass-rule (move_to j w.row w) (λ _ v. k true v) f e' (λ i row v t. rw v (hit i row ys (record { inside = t.inside; kind = t.kind; first = t.first; fit = t.fit; shorter = t.shorter })))
        go j kind ys e false q = miss (rw e q) j

    -- `check` likewise: the token is still ahead.
    pub check-rule : (w : World) (k : Bool → World → Fate B) {K : ℕ} {xs : List RowToken} (h : Lexeme → List RowToken → Outcome) {m : Outcome} → eqb Token.Eof K ≡ false → Fits w xs
        → ((j : ℕ) (ys : List RowToken) → xs ≡ token K (lexeme_of s j) ∷ ys → Sim P (k true (move_to j w.row w)) (h (lexeme_of s j) ys))
        → (begins K xs ≡ false → (i : ℕ) → Sim P (k false (move_to i w.row w)) m)
        → Sim P (runs s (check K) w k) (on K xs h m)
    unfolding run check on if begins
    check-rule w k {K} {xs} h {m} n f hit miss =
        peek-rule w (λ found u. k (eqb found K) u) f (λ i e. rw (n, e) (miss (rw e refl) i))
        (λ j kind ys e ne. rw e (go j kind ys e (eqb kind K) refl))
      where
        go : (j kind : ℕ) (ys : List RowToken) → xs ≡ token kind (lexeme_of s j) ∷ ys → (b : Bool) → eqb kind K ≡ b → Sim P (k b (move_to j w.row w)) (if b (h (lexeme_of s j) ys) m)
        go j kind ys e true q = let z : kind ≡ K = eqb-true kind K q in hit j ys (rw (← z) e)
        go j kind ys e false q = miss (rw e q) j

    -- A kind that the row begins with, or not, is known beforehand.
    pub check-hit : (w : World) (k : Bool → World → Fate B) {K : ℕ} {v : Lexeme} {xs ys : List RowToken} {o : Outcome} → Fits w xs → xs ≡ token K v ∷ ys
        → ((i : ℕ) → Sim P (k true (move_to i w.row w)) o) → Sim P (runs s (check K) w k) o
    unfolding run check
    check-hit w k {K} f e h =
        peek-rule w (λ found u. k (eqb found K) u) f (λ i q. absurd (let z : ◌≡◌ {A = ℕ} 0 1 = cc in omega arith))
        (λ j kind ys q ne. let z : kind ≡ K = cc in rw (eq-eqb kind K z) (h j))

    pub check-miss : (w : World) (k : Bool → World → Fate B) (K : ℕ) {xs : List RowToken} {o : Outcome} → eqb Token.Eof K ≡ false → Fits w xs → begins K xs ≡ false
        → ((i : ℕ) → Sim P (k false (move_to i w.row w)) o) → Sim P (runs s (check K) w k) o
    unfolding run check begins
    check-miss w k K n f e h =
        peek-rule w (λ found u. k (eqb found K) u) f (λ i q. rw n (h i))
        (λ j kind ys q ne. let z : eqb kind K ≡ false = rw q at e in rw z (h j))

    -- Whichever it is.
    pub check-either : (w : World) (k : Bool → World → Fate B) (K : ℕ) {xs : List RowToken} {o : Outcome} → Fits w xs → ((b : Bool) (i : ℕ) → Sim P (k b (move_to i w.row w)) o) → Sim P (runs s (check K) w k) o
    unfolding run check
    check-either w k K f h = peek-rule w (λ found u. k (eqb found K) u) f (λ i e. h (eqb Token.Eof K) i) (λ j kind ys e n. h (eqb kind K) j)

    -- `eof`.
    pub eof-rule : (w : World) (k : Bool → World → Fate B) {xs : List RowToken} {o : Outcome} → Fits w xs
        → (xs ≡ [] → (i : ℕ) → Sim P (k true (move_to i w.row w)) o)
        → ((j kind : ℕ) (ys : List RowToken) → xs ≡ token kind (lexeme_of s j) ∷ ys → Sim P (k false (move_to j w.row w)) o)
        → Sim P (runs s eof w k) o
    unfolding run eof check
    eof-rule w k f h g = peek-rule w (λ found u. k (eqb found Token.Eof) u) f (λ i e. h e i) (λ j kind ys e n. rw n (g j kind ys e))

    pub eof-either : (w : World) (k : Bool → World → Fate B) {xs : List RowToken} {o : Outcome} → Fits w xs → ((b : Bool) (i : ℕ) → Sim P (k b (move_to i w.row w)) o) → Sim P (runs s eof w k) o
    unfolding run eof
    eof-either w k f h = check-either w k Token.Eof f h

    -- A report is made: the row is in no rule.
    pub unexpected-rule : (w : World) (k : Unit {0} → World → Fate B) {xs : List RowToken} → Fits w xs → Sim P (runs s emit_unexpected w k) failed
    unfolding run emit_unexpected
    unexpected-rule w k f = peek-rule w (λ _ _. fail) f (λ i e. fails) (λ j kind ys e n. fails)

    -- `expect` beside a token that has to be there.
    pub expect-rule : (w : World) (k : Bool → World → Fate B) {K : ℕ} {xs : List RowToken} (h : Lexeme → List RowToken → Outcome) → eqb Token.Eof K ≡ false → Fits w xs
        → ((j : ℕ) (row : List Seen) (ys : List RowToken) → Taken K w xs j row ys → Sim P (k true (move_to (suc j) row w)) (h (lexeme_of s j) ys))
        → Sim P (runs s (expect K) w k) (on K xs h failed)
    unfolding run expect
    expect-rule w k h n f hit = eat-rule w _ h n f hit (λ _ i. unexpected-rule (move_to i w.row w) _ f)

    pub expect-hit : (w : World) (k : Bool → World → Fate B) {K : ℕ} {v : Lexeme} {xs ys : List RowToken} {o : Outcome} → Fits w xs → xs ≡ token K v ∷ ys
        → ((j : ℕ) (row : List Seen) → Taken K w xs j row ys → Sim P (k true (move_to (suc j) row w)) o) → Sim P (runs s (expect K) w k) o
    unfolding run expect eat
    expect-hit w k f e h = check-hit w _ f e (λ i. pass-rule (move_to i w.row w) _ f e (λ j row v t. h j row (record { inside = t.inside; kind = t.kind; first = t.first; fit = t.fit; shorter = t.shorter })))

    pub expect-miss : (w : World) (k : Bool → World → Fate B) (K : ℕ) {xs : List RowToken} → eqb Token.Eof K ≡ false → Fits w xs → begins K xs ≡ false → Sim P (runs s (expect K) w k) failed
    unfolding run expect eat
    expect-miss w k K n f e = check-miss w _ K n f e (λ i. unexpected-rule (move_to i w.row w) _ f)

    -- What the row begins with is looked at.
    pub check-is : (w : World) (k : Bool → World → Fate B) (K : ℕ) {xs : List RowToken} {o : Outcome} → eqb Token.Eof K ≡ false → Fits w xs → ((i : ℕ) → Sim P (k (begins K xs) (move_to i w.row w)) o) → Sim P (runs s (check K) w k) o
    unfolding run check begins
    check-is w k K n f h = peek-rule w (λ found u. k (eqb found K) u) f (λ i e. rw n (rw e at (h i))) (λ j kind ys e m. rw e at (h j))

    pub eat-hit : (w : World) (k : Bool → World → Fate B) {K : ℕ} {v : Lexeme} {xs ys : List RowToken} {o : Outcome} → Fits w xs → xs ≡ token K v ∷ ys
        → ((j : ℕ) (row : List Seen) → Taken K w xs j row ys → Sim P (k true (move_to (suc j) row w)) o) → Sim P (runs s (eat K) w k) o
    unfolding run eat
    eat-hit w k f e h = check-hit w _ f e (λ i. pass-rule (move_to i w.row w) _ f e (λ j row v t. h j row (record { inside = t.inside; kind = t.kind; first = t.first; fit = t.fit; shorter = t.shorter })))

    pub eat-miss : (w : World) (k : Bool → World → Fate B) (K : ℕ) {xs : List RowToken} {o : Outcome} → eqb Token.Eof K ≡ false → Fits w xs → begins K xs ≡ false
        → ((i : ℕ) → Sim P (k false (move_to i w.row w)) o) → Sim P (runs s (eat K) w k) o
    unfolding run eat
    eat-miss w k K n f e h = check-miss w _ K n f e h

    -- `expect_check_recovery`: a report, where the token is not there.
    pub recover-rule : (w : World) (k : Bool → World → Fate B) {K : ℕ} (recovery : List ℕ) {xs : List RowToken} (h : Lexeme → List RowToken → Outcome) {m : Outcome} → eqb Token.Eof K ≡ false → Fits w xs
        → ((j : ℕ) (row : List Seen) (ys : List RowToken) → Taken K w xs j row ys → Sim P (k true (move_to (suc j) row w)) (h (lexeme_of s j) ys))
        → (begins K xs ≡ false → m ≡ failed)
        → Sim P (runs s (expect_check_recovery K recovery) w k) (on K xs h m)
    unfolding run expect_check_recovery
    recover-rule w k {K} recovery h n f hit miss =
        eat-rule w _ h n f hit (λ e i. rw (miss e)
        (peek-rule (move_to i w.row w) (λ next u. runs s (Branch (contains recovery next && ltb 0 u.at) (Then before (λ place. emit_and_mark Report.MissingToken K place)) emit_unexpected) u (λ _ v. k false v)) f
        (λ i₁ e₁. either i₁ (contains recovery Token.Eof && ltb 0 i₁))
        (λ j kind ys e₁ e₂. either j (contains recovery kind && ltb 0 j))))
      where
        either : (i : ℕ) (b : Bool) → Sim P (runs s (Branch b (Then before (λ place. emit_and_mark Report.MissingToken K place)) emit_unexpected) (move_to i w.row w) (λ _ v. k false v)) failed
        either i true = fails
        either i false = unexpected-rule (move_to i w.row w) _ f
