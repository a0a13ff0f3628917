-- Laws of the commands on tokens, in the terms of the functions that do them.
use Rattle.std.specs.Prelude.{◌≡◌, refl, List, [], Bool, true, false, ◌&&◌, ℕ, pred, ◌+◌, ◌≤◌, ◌<◌, length, get_or, drop, ltb}
use Rattle.std.proofs.Common.{◌∙◌, add-one, eq-eqb, ne_eqb, drop_of_length-le, drop-cons}
use Rattle.std.proofs.Math.Path.{ap}
use Rattle.words.specs.Words.{token_end}
use Rattle.words.specs.Report
use Rattle.words.specs.Token
use Rattle.literals.specs.declared.Span.{Span}
use Rattle.literals.specs.Spelling.{span, token_start, word_at}
use Rattle.definition.specs.declared.Cursor.{Cursor}
use Rattle.definition.specs.Prog.{Act, Turn, again, stop, ◌>>=◌, whether◌then◌else◌, done, kind_at, advanced, passed, skip_trivia, is_marked, marked_here, peek, pass, here, before, marked, position, emit, emit_and_mark, eval}
use Rattle.definition.specs.Tokens.{contains, emit_unexpected}
use Rattle.reading.specs.declared.parser.Parser.{Parser}
use Rattle.reading.specs.Does.{Does, Steps, view, from, run, then-view, same, kept_then}
use Rattle.stream.specs.Skip.{moved, kind-any}
use Rattle.stream.specs.Trivia.{stays_here, passes-here}

module _ {p r : Parser} (e : Steps skip_trivia p r) where
  pub peek_is : (k : ℕ) → k ≡ kind_at [] p.tokens.now r.state.cursor → Does peek p k r
  peek_is k f =
      record {
        is = λ w. then-view tt k p r r (skip_trivia p.text.now p.tokens.now) (run p peek) (λ _ t n. done (kind_at p.text.now p.tokens.now t.cursor) t n) e.is there (λ t n. unfold eval in refl);
        kept = e.kept;
      }
    where
      there : view k r ≡ from r (λ t n. done (kind_at p.text.now p.tokens.now t.cursor) t n)
      there = ap (λ (x : ℕ). view x r) (f ∙ kind-any p.text.now p.tokens.now r.state.cursor)

  pub pass-is : {r₂ : Parser} → Steps passed r r₂ → Does pass p tt r₂
  pass-is {r₂ = r₂} g =
      record {
        is = λ w. then-view tt tt p r r₂ (skip_trivia p.text.now p.tokens.now) (run p pass) (λ _ t n. passed p.text.now p.tokens.now t n) e.is there (λ t n. unfold eval in refl);
        kept = kept_then e.kept g.kept;
      }
    where
      go : (a a' b b' : List ℕ) → a' ≡ a → b' ≡ b → view tt r₂ ≡ from r (passed a' b') → view tt r₂ ≡ from r (passed a b)
      go a a' b b' x y z = rw (x, y) at z

      there : view tt r₂ ≡ from r (passed p.text.now p.tokens.now)
      there = go p.text.now r.text.now p.tokens.now r.tokens.now (cc e.kept.text) (cc e.kept.tokens) g.is

-- A token of a kind below that of blanks is passed by a step of the cursor.
pub pass-here : {p : Parser} {c : Cursor} (k : ℕ) → k ≡ kind_at [] p.tokens.now p.state.cursor → k < Token.Whitespace → c ≡ advanced p.state.cursor → Does pass p tt (moved p c)
pass-here {p = p} {c = c} k ek h ec = pass-is (stays_here p k ek h) (passes-here p k ek h c ec)

-- Commands that only look.
module _ {p : Parser} where
  pub marked-is : {b : Bool} → b ≡ is_marked p.state → Does marked p b p
  unfolding eval
  marked-is f = record { is = λ w. rw f; kept = same }

  pub position-is : {n : ℕ} → n ≡ p.state.cursor.at → Does position p n p
  unfolding eval
  position-is f = record { is = λ w. rw f; kept = same }

  pub here-is : {x y : ℕ} → x ≡ token_start p.tokens.now p.state.cursor.at → y ≡ token_end (word_at p.tokens.now p.state.cursor.at) → Does here p (span x y) p
  unfolding eval
  here-is f g = record { is = λ w. rw (f, g); kept = same }

-- The mark is put at the cursor's token.
abbrev pub mark_here : Parser → Parser
mark_here p = record p { state = marked_here p.state }

pub mark-emit : {p r : Parser} {kind detail : ℕ} {q : Span} → Does (emit kind detail q) (mark_here p) tt r → Does (emit_and_mark kind detail q) p tt r
unfolding eval
mark-emit g = record { is = λ w. g.is w; kept = kept_then (record { text = refl; tokens = refl; nodes = refl; values = refl; reports = refl; levels = refl }) g.kept }

-- A list searched from its i-th on.
pub contains-next : (l : List ℕ) (i token : ℕ) (b : Bool) → i < length l → (token ≡ get_or l i 0 → ⊥) → contains (drop i l) token ≡ b → contains (drop (i + 1) l) token ≡ b
unfolding contains
contains-next l i token b h e p = rw (add-one i) (rw (drop-cons l i 0 h, ne_eqb token (get_or l i 0) e) at p)

pub contains-here : (l : List ℕ) (i token : ℕ) (b : Bool) → i < length l → token ≡ get_or l i 0 → contains (drop i l) token ≡ b → true ≡ b
unfolding contains
contains-here l i token b h e p = rw (drop-cons l i 0 h, eq-eqb token (get_or l i 0) e) at p

pub contains-over : (l : List ℕ) (i token : ℕ) (b : Bool) → length l ≤ i → contains (drop i l) token ≡ b → false ≡ b
unfolding contains
contains-over l i token b h p = rw (drop_of_length-le l h) at p

-- What `expect_check_recovery` does where the token is missing and no report was made yet.
abbrev pub missing : ℕ → List ℕ → Act
missing token recovery = do
  next ← peek
  number ← position
  whether contains recovery next && ltb 0 number
      then (do
        place ← before
        emit_and_mark Report.MissingToken token place)
      else emit_unexpected

-- A turn that goes on, or was the last.
abbrev pub turn_if : Bool → Turn (Unit {0})
turn_if true = again tt
turn_if false = stop tt

pub before-is : {p : Parser} {x y : ℕ} → x ≡ token_start p.tokens.now (pred p.state.cursor.at) → y ≡ token_start p.tokens.now p.state.cursor.at → Does before p (span x y) p
unfolding eval
before-is f g = record { is = λ w. rw (f, g); kept = same }
