-- Laws of skipping trivia: first what the cursor skips by itself, then an error token, and so on.
use Rattle.std.specs.Prelude.{◌≡◌, Bool, true, false, cond, ◌||◌, eqb, ltb, leb, length}
use Rattle.std.proofs.Math.Path.{refl, sym}
use Rattle.std.proofs.Common.{◌∙◌, ap, arith, ne_eqb, eqb-true, ltb-true, ltb-false, leb-true, leb-false}
use mathlib.Core.List.{List, []}
use Rattle.std.proofs.lemmas.Bool.{false≢true}
use Prim.Native.Nat.{ℕ, zero, suc, ◌+◌, ◌-◌, ◌*◌, ◌≤◌, ◌<◌}
use Rattle.words.specs.Token
use Rattle.words.specs.Token.{is_trivia, lex_error, LexError}
use Rattle.std.specs.Prelude.{Option, Some, None}
use Rattle.words.specs.Words.{report_width}
use Rattle.literals.specs.declared.Span.{Span}
use Rattle.definition.specs.declared.Cursor.{Cursor}
use Rattle.definition.specs.declared.State.{State}
use Rattle.definition.specs.Prog.{Memory, Out, done, refused, bind, with_cursor, advanced, kind_at, passed, reported, is_marked, skipped, skip_trivia}
use Rattle.definition.specs.Quiet.{is_quiet, quiet_end, quiet-yes, quiet-no, advanced-on, kind-over}
use Rattle.words.specs.Refusal.{number}
use Rattle.words.specs.declared.refusal.Refused.{Refused}
use Rattle.reading.specs.declared.parser.Parser.{Parser}
use Rattle.reading.specs.Standing.{is_refused, words, Kept}
use Rattle.reading.specs.Does.{Steps, view, from, same, kept_then, standing, not_refused}
use Rattle.reading.specs.Leaves.{reported-fits, reported-full}
use Rattle.stream.specs.Skip.{moved, moved-kept, kind-any, passed-plain, passed-marked, passed-told, advance-plain}

-- A quiet token is trivia and no error.
quiet-known : (k : ℕ) → is_quiet k ≡ true → (is_trivia k ≡ true) × (lex_error k ≡ None)
unfolding is_quiet is_trivia lex_error
quiet-known k e = go (eqb k Token.Whitespace) (eqb k Token.LineComment) (eqb k Token.BlockComment) refl refl refl e
  where
    at : (n : ℕ) → k ≡ n → (is_trivia n ≡ true) × (lex_error n ≡ None) → (is_trivia k ≡ true) × (lex_error k ≡ None)
    at n f h = rw f h

    go : (p q r : Bool) → eqb k Token.Whitespace ≡ p → eqb k Token.LineComment ≡ q → eqb k Token.BlockComment ≡ r → (p || (q || r)) ≡ true
        → (is_trivia k ≡ true) × (lex_error k ≡ None)
    go true q r ep eq er e = at Token.Whitespace (eqb-true k Token.Whitespace ep) (refl, refl)
    go false true r ep eq er e = at Token.LineComment (eqb-true k Token.LineComment eq) (refl, refl)
    go false false true ep eq er e = at Token.BlockComment (eqb-true k Token.BlockComment er) (refl, refl)
    go false false false ep eq er e = absurd (false≢true e)

eof-plain : is_trivia Token.Eof ≡ false
unfolding is_trivia
eof-plain = refl

-- Trivia stands before the place where the cursor stops.
trivia-inside : (text tokens : List ℕ) (c : Cursor) → is_trivia (kind_at text tokens c) ≡ true → c.at < c.end
trivia-inside text tokens c h = go (ltb c.at c.end) refl
  where
    go : (t : Bool) → ltb c.at c.end ≡ t → c.at < c.end
    go true e = ltb-true c.at c.end e
    go false e = absurd (false≢true (sym eof-plain ∙ (ap is_trivia (kind-over tokens c (ltb-false c.at c.end e) ∙ kind-any text tokens c) ∙ h)))

module _ (text tokens : List ℕ) where
  skip-no : (left : ℕ) (s : State) (m : Memory) → is_trivia (kind_at text tokens s.cursor) ≡ false → skipped text tokens left s m ≡ done tt s m
  unfolding skipped
  skip-no zero s m h = refl
  skip-no (suc left) s m h = rw (h, skipped)

  skip-yes : (left : ℕ) (s : State) (m : Memory) → is_trivia (kind_at text tokens s.cursor) ≡ true
      → skipped text tokens (suc left) s m ≡ bind (passed text tokens s m) (λ _ t n. skipped text tokens left t n)
  unfolding skipped
  skip-yes left s m h = rw (h, skipped)

  -- What the cursor skips by itself.
  quiet-skip : (left : ℕ) (s : State) (m : Memory) → left ≡ s.cursor.end - s.cursor.at
      → skip_trivia text tokens s m ≡ skip_trivia text tokens (with_cursor (quiet_end tokens left s.cursor) s) m
  unfolding quiet_end
  quiet-skip zero s m e = refl
  quiet-skip (suc left) s m e = go (is_quiet (kind_at [] tokens s.cursor)) refl (λ u f. quiet-skip left u m f)
    where
      c : Cursor
      c = s.cursor

      t : State
      t = with_cursor (advanced c) s

      on : advanced c ≡ record { at = c.at + 1; end = c.end }
      on = sym (advanced-on c (omega arith))

      go : (q : Bool) → is_quiet (kind_at [] tokens c) ≡ q
          → ((u : State) → left ≡ u.cursor.end - u.cursor.at → skip_trivia text tokens u m ≡ skip_trivia text tokens (with_cursor (quiet_end tokens left u.cursor) u) m)
          → skip_trivia text tokens s m ≡ skip_trivia text tokens (with_cursor (elim q [ true ↦ quiet_end tokens left (advanced c) | false ↦ c ]) s) m
      go false h ih = refl
      go true h ih =
          let k = quiet-known (kind_at text tokens c) (rw (kind-any text tokens c) at h) in
          let f : left ≡ t.cursor.end - t.cursor.at = rw on (omega arith) in
          ap (λ (n : ℕ). skipped text tokens n s m) (sym e)
          ∙ (skip-yes left s m k.0
          ∙ (ap (λ (o : Out (Unit {0})). bind o (λ _ u n. skipped text tokens left u n)) (passed-plain text tokens s m k.1)
          ∙ (ap (λ (n : ℕ). skipped text tokens n t m) f ∙ ih t f)))

  -- Passing a token moves the cursor to the next one, or is refused.
  data Moved (c : Cursor) : Out (Unit {0}) → Type 0 where
    on : (t : State) (n : Memory) → t.cursor ≡ c → Moved c (done tt t n)
    off : (number place : ℕ) → Moved c (refused number place)

  reported-moved : (kind detail : ℕ) (p : Span) (s : State) (m : Memory) → Moved s.cursor (reported kind detail p s m)
  reported-moved kind detail p s m = go (leb (report_width * s.reports + report_width) (length m.reports)) refl
    where
      go : (t : Bool) → leb (report_width * s.reports + report_width) (length m.reports) ≡ t → Moved s.cursor (reported kind detail p s m)
      go true e = rw (reported-fits kind detail p s m (leb-true _ _ e)) (on _ _ refl)
      go false e = rw (reported-full kind detail p s m (leb-false _ _ e)) (off _ _)

  passed-moved : (s : State) (m : Memory) → Moved (advanced s.cursor) (passed text tokens s m)
  passed-moved s m = go (lex_error (kind_at text tokens s.cursor)) refl (is_marked s) refl
    where
      go : (l : LexError) → lex_error (kind_at text tokens s.cursor) ≡ l → (b : Bool) → is_marked s ≡ b → Moved (advanced s.cursor) (passed text tokens s m)
      go None e b f = rw (passed-plain text tokens s m e) (on _ _ refl)
      go (Some x) e true f = rw (passed-marked text tokens s m x e f) (on _ _ refl)
      go (Some x) e false f = rw (passed-told text tokens s m x e f) (reported-moved _ _ _ _ m)

  -- An error token that is trivia: it is passed, and then trivia is skipped on.
  trivia-skip : (s : State) (m : Memory) → is_trivia (kind_at text tokens s.cursor) ≡ true
      → skip_trivia text tokens s m ≡ bind (passed text tokens s m) (λ _ t n. skip_trivia text tokens t n)
  trivia-skip s m h =
      ap (λ (n : ℕ). skipped text tokens n s m) e ∙ (skip-yes left s m h ∙ go (passed text tokens s m) (passed-moved s m))
    where
      c : Cursor
      c = s.cursor

      inside : c.at < c.end
      inside = trivia-inside text tokens c h

      left : ℕ
      left = c.end - (c.at + 1)

      e : c.end - c.at ≡ suc left
      e = omega (arith, inside)

      go : (o : Out (Unit {0})) → Moved (advanced c) o → bind o (λ _ t n. skipped text tokens left t n) ≡ bind o (λ _ t n. skip_trivia text tokens t n)
      go o (on t n f) = ap (λ (x : Cursor). skipped text tokens (x.end - x.at) t n) (advanced-on c inside ∙ sym f)
      go o (off number place) = refl

-- What is left to skip at `r` comes to what the whole comes to, from `p₀` on.
pub record Left (p₀ r : Parser) : Type 0 where
  pub is : from r (skip_trivia r.text.now r.tokens.now) ≡ from p₀ (skip_trivia p₀.text.now p₀.tokens.now)
  pub kept : Kept p₀ r

-- How much is left: nothing where reading was refused.
abbrev pub left : Parser → ℕ
left r = elim r.refused [ None ↦ suc (r.state.cursor.end - r.state.cursor.at) | Some x ↦ 0 ]

advanced-end : (c : Cursor) → (advanced c).end ≡ c.end
unfolding advanced
advanced-end c = pick (ltb c.at c.end)
  where
    pick : (t : Bool) → (cond t (record { at = c.at + 1; end = c.end }) c).end ≡ c.end
    pick true = refl
    pick false = refl

quiet-end : (tokens : List ℕ) (n : ℕ) (c : Cursor) → (quiet_end tokens n c).end ≡ c.end
quiet-end tokens zero c = unfold quiet_end in refl
quiet-end tokens (suc n) c = go (is_quiet (kind_at [] tokens c)) refl (quiet-end tokens n (advanced c))
  where
    go : (t : Bool) → is_quiet (kind_at [] tokens c) ≡ t → (quiet_end tokens n (advanced c)).end ≡ (advanced c).end → (quiet_end tokens (suc n) c).end ≡ c.end
    go true e h = ap (λ (x : Cursor). x.end) (quiet-yes tokens n c e) ∙ (h ∙ advanced-end c)
    go false e h = ap (λ (x : Cursor). x.end) (quiet-no tokens n c e)

pub skips-first : {p : Parser} → Left p p
skips-first = record { is = refl; kept = same }

pub skips-refused : {p₀ r : Parser} → Left p₀ r → is_refused r ≡ true → Steps skip_trivia p₀ r
skips-refused {r = r} t h = record { is = standing tt r (skip_trivia r.text.now r.tokens.now) h ∙ t.is; kept = t.kept }

module _ {p₀ r : Parser} (t : Left p₀ r) (h : is_refused r ≡ false) (q : Cursor) (eq : q ≡ quiet_end r.tokens.now (r.state.cursor.end - r.state.cursor.at) r.state.cursor)
    (k : ℕ) (ek : k ≡ kind_at [] r.tokens.now q) (b : Bool) (eb : b ≡ is_trivia k) where
  abbrev text : List ℕ
  text = r.text.now

  abbrev tokens : List ℕ
  tokens = r.tokens.now

  abbrev whole : Out (Unit {0})
  whole = from p₀ (skip_trivia p₀.text.now p₀.tokens.now)

  abbrev s : State
  s = (moved r q).state

  going : skip_trivia text tokens s (words r) ≡ whole
  going =
      let e : skip_trivia text tokens r.state (words r) ≡ whole = rw (not_refused r h) at t.is in
      rw eq (sym (quiet-skip text tokens _ r.state (words r) refl) ∙ e)

  kind-is : is_trivia (kind_at text tokens q) ≡ b
  kind-is = ap is_trivia (sym (ek ∙ kind-any text tokens q)) ∙ sym eb

  pub skips-stop : b ≡ false → Steps skip_trivia p₀ (moved r q)
  skips-stop f =
      record {
        is = rw (not_refused r h) (sym (skip-no text tokens _ s (words r) (kind-is ∙ f)) ∙ going);
        kept = kept_then t.kept moved-kept;
      }

  module _ {r₂ : Parser} (f : b ≡ true) (g : Steps passed (moved r q) r₂) where
    passes : view tt r₂ ≡ passed text tokens s (words r)
    passes = rw (not_refused r h) at g.is

    goes-on : from r₂ (skip_trivia text tokens) ≡ whole
    goes-on = go r₂.refused passes ∙ (sym (trivia-skip text tokens s (words r) (kind-is ∙ f)) ∙ going)
      where
        go : (o : Option Refused) → elim o [ None ↦ done tt r₂.state (words r₂) | Some x ↦ refused (number x.refusal) x.place ] ≡ passed text tokens s (words r)
            → elim o [ None ↦ skip_trivia text tokens r₂.state (words r₂) | Some x ↦ refused (number x.refusal) x.place ]
            ≡ bind (passed text tokens s (words r)) (λ _ u n. skip_trivia text tokens u n)
        go None z = ap (λ (x : Out (Unit {0})). bind x (λ _ u n. skip_trivia text tokens u n)) z
        go (Some x) z = ap (λ (x : Out (Unit {0})). bind x (λ _ u n. skip_trivia text tokens u n)) z

    pub skips-next : Left p₀ r₂
    skips-next = record { is = again text r₂.text.now tokens r₂.tokens.now (cc g.kept.text) (cc g.kept.tokens) goes-on; kept = kept_then t.kept (kept_then moved-kept g.kept) }
      where
        again : (a a' b b' : List ℕ) → a' ≡ a → b' ≡ b → from r₂ (skip_trivia a b) ≡ whole → from r₂ (skip_trivia a' b') ≡ whole
        again a a' b b' x y z = rw (x, y) z

    pub skips-falls : r.state.cursor.at ≤ q.at → left r₂ < left r
    skips-falls far = rw (not_refused r h) (go r₂.refused (passed text tokens s (words r)) (passed-moved text tokens s (words r)) passes)
      where
        inside : q.at < q.end
        inside = trivia-inside text tokens q (kind-is ∙ f)

        end' : q.end ≡ r.state.cursor.end
        end' = ap (λ (x : Cursor). x.end) eq ∙ quiet-end tokens _ _

        go : (o : Option Refused) (u : Out (Unit {0})) → Moved text tokens (advanced q) u
            → elim o [ None ↦ done tt r₂.state (words r₂) | Some x ↦ refused (number x.refusal) x.place ] ≡ u
            → elim o [ None ↦ suc (r₂.state.cursor.end - r₂.state.cursor.at) | Some x ↦ 0 ] < suc (r.state.cursor.end - r.state.cursor.at)
        go (Some x) u v z = omega arith
        go None u (off number place) z = absurd cc
        go None u (on t n e) z =
            let same_state : r₂.state ≡ t = cc in
            let c : r₂.state.cursor ≡ record { at = q.at + 1; end = q.end } = ap (λ (x : State). x.cursor) same_state ∙ (e ∙ sym (advanced-on q inside)) in
            rw c (omega (arith, inside, end', far))

-- The kinds below that of blanks are neither trivia nor errors.
small_plain : (k : ℕ) → k < Token.Whitespace → (is_trivia k ≡ false) × (lex_error k ≡ None)
unfolding is_trivia lex_error
small_plain k h =
    let other : (n : ℕ) → Token.Whitespace ≤ n → eqb k n ≡ false = λ n l. ne_eqb k n (λ e. omega (arith, e, h, l)) in
    rw (
      other Token.Whitespace (omega arith),
      other Token.LineComment (omega arith),
      other Token.BlockComment (omega arith),
      other Token.InvalidCharError (omega arith),
      other Token.MalformedIdentError (omega arith),
      other Token.MultilineStringError (omega arith),
      other Token.UnclosedBlockCommentError (omega arith),
      other Token.UnclosedStringError (omega arith),
      other Token.AtWithoutIdentError (omega arith),
    ) (refl, refl)

-- Where the token at the cursor is of such a kind, nothing is skipped, and it is passed with no report.
module _ (p : Parser) (k : ℕ) (ek : k ≡ kind_at [] p.tokens.now p.state.cursor) (h : k < Token.Whitespace) where
  pub stays_here : Steps skip_trivia p p
  stays_here =
      record {
        is =
            ap (λ (o : Out (Unit {0})). elim p.refused [ None ↦ o | Some r ↦ refused (number r.refusal) r.place ])
            (sym (skip-no p.text.now p.tokens.now (p.state.cursor.end - p.state.cursor.at) p.state (words p)
            (ap is_trivia (sym (ek ∙ kind-any p.text.now p.tokens.now p.state.cursor)) ∙ (small_plain k h).0)));
        kept = same;
      }

  pub passes-here : (c : Cursor) → c ≡ advanced p.state.cursor → Steps passed p (moved p c)
  passes-here c ec = advance-plain p c k ec ek (small_plain k h).1

-- Where a blank stands at the cursor and such a token behind it, the blank is what is skipped.
module _ (p : Parser) (c : Cursor) (k : ℕ) (blank : kind_at [] p.tokens.now p.state.cursor ≡ Token.Whitespace)
    (ec : c ≡ advanced p.state.cursor) (ek : k ≡ kind_at [] p.tokens.now c) (h : k < Token.Whitespace) where
  abbrev here : Cursor
  here = p.state.cursor

  abbrev past : State
  past = with_cursor (advanced here) p.state

  known : (is_trivia (kind_at p.text.now p.tokens.now here) ≡ true) × (lex_error (kind_at p.text.now p.tokens.now here) ≡ None)
  unfolding is_trivia lex_error
  known = let e : kind_at p.text.now p.tokens.now here ≡ Token.Whitespace = sym (kind-any p.text.now p.tokens.now here) ∙ blank in rw e (refl, refl)

  behind : is_trivia (kind_at p.text.now p.tokens.now (advanced here)) ≡ false
  behind = ap is_trivia (sym (ek ∙ (kind-any p.text.now p.tokens.now c ∙ ap (kind_at p.text.now p.tokens.now) ec))) ∙ (small_plain k h).0

  blank-skipped : (left : ℕ) → here.end - here.at ≡ left → skipped p.text.now p.tokens.now left p.state (words p) ≡ done tt past (words p)
  blank-skipped zero e = let l = trivia-inside p.text.now p.tokens.now here known.0 in absurd (omega arith)
  blank-skipped (suc left) e =
      skip-yes p.text.now p.tokens.now left p.state (words p) known.0
      ∙ (ap (λ (o : Out (Unit {0})). bind o (λ _ u n. skipped p.text.now p.tokens.now left u n)) (passed-plain p.text.now p.tokens.now p.state (words p) known.1)
      ∙ skip-no p.text.now p.tokens.now left past (words p) behind)

  pub skips-blank : Steps skip_trivia p (moved p c)
  skips-blank =
      record {
        is =
            rw ec
            (ap (λ (o : Out (Unit {0})). elim p.refused [ None ↦ o | Some r ↦ refused (number r.refusal) r.place ]) (sym (blank-skipped (here.end - here.at) refl)));
        kept = moved-kept;
      }
