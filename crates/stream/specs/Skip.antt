-- Laws of passing and skipping tokens.
use Rattle.std.specs.Prelude.{◌≡◌, refl, List, [], true, false, ℕ, zero, suc, ◌-◌, ◌≤◌, ◌<◌, length, get_or}
use Rattle.std.proofs.Common.{sym, ◌∙◌, ap, sub-one}
use Rattle.std.proofs.Math.ListN.{get_or-eq_default}
use Rattle.words.specs.Words.{token_end, token_word, pack, low}
use Rattle.words.specs.Token
use Rattle.words.specs.declared.error_token.ErrorToken.{ErrorToken}
use Rattle.words.specs.ErrorToken.{error_number}
use Rattle.words.specs.Token.{lex_error}
use Rattle.std.specs.Prelude.{Some, None}
use Rattle.words.specs.Report
use Rattle.literals.specs.Spelling.{token_start, token_span, span, word_at}
use Rattle.definition.specs.declared.Cursor.{Cursor}
use Rattle.definition.specs.declared.State.{State}
use Rattle.definition.specs.Prog.{Memory, Out, done, refused, with_cursor, advanced, kind_at, passed, reported, is_marked}
use Rattle.definition.specs.Quiet.{word-inside}
use Rattle.reading.specs.declared.parser.Parser.{Parser}
use Rattle.reading.specs.Standing.{words, Kept}
use Rattle.reading.specs.Does.{Steps, from, kept_then}
use Rattle.reading.specs.Leaves.{Reports}
use Rattle.words.specs.Refusal.{number}

abbrev pub moved : Parser → Cursor → Parser
moved p c = record p { state = with_cursor c p.state }

pub end-inside : (tokens : List ℕ) (i : ℕ) → i < length tokens → token_end (get_or tokens i 0) ≡ token_end (word_at tokens i)
end-inside tokens i h = ap token_end (word-inside tokens i h)

pub end-past : (tokens : List ℕ) (i : ℕ) → length tokens ≤ i → 0 ≡ token_end (word_at tokens i)
end-past tokens i h = rw (get_or-eq_default tokens (token_word Token.Eof 0) h) (unfold low pack in refl)

pub start-next : (tokens : List ℕ) (i x : ℕ) → (i ≡ 0 → ⊥) → x ≡ token_end (word_at tokens (i - 1)) → x ≡ token_start tokens i
unfolding token_start
start-next tokens zero x h e = absurd (h refl)
start-next tokens (suc i) x h e = rw sub-one at e

-- The kind of a token doesn't depend on the text.
pub kind-any : (text tokens : List ℕ) (c : Cursor) → kind_at [] tokens c ≡ kind_at text tokens c
unfolding kind_at
kind-any text tokens c = refl

pub kind-kept : {p r : Parser} (c : Cursor) {k : ℕ} → Kept p r → k ≡ kind_at [] p.tokens.now c → k ≡ kind_at [] r.tokens.now c
kind-kept {p = p} {r = r} c e f =
    let same_tokens : p.tokens.now ≡ r.tokens.now = cc e.tokens in
    f ∙ ap (λ (x : List ℕ). kind_at [] x c) same_tokens

module _ (text tokens : List ℕ) (s : State) (m : Memory) where
  abbrev t : State
  t = with_cursor (advanced s.cursor) s

  pub passed-plain : lex_error (kind_at text tokens s.cursor) ≡ None → passed text tokens s m ≡ done tt t m
  unfolding passed
  passed-plain h = rw (h, passed)

  pub passed-marked : (e : ErrorToken) → lex_error (kind_at text tokens s.cursor) ≡ Some e → is_marked s ≡ true → passed text tokens s m ≡ done tt t m
  unfolding passed
  passed-marked e h g = rw (h, g, passed)

  pub passed-told : (e : ErrorToken) → lex_error (kind_at text tokens s.cursor) ≡ Some e → is_marked s ≡ false
      → passed text tokens s m ≡ reported Report.LexerError (error_number e) (token_span tokens s.cursor.at) t m
  unfolding passed
  passed-told e h g = rw (h, g, passed)

pub moved-kept : {p : Parser} {c : Cursor} → Kept p (moved p c)
moved-kept = record { text = refl; tokens = refl; nodes = refl; values = refl; reports = refl; levels = refl }

-- A token is passed: nothing more, or with its report.
module _ (p : Parser) (c : Cursor) (k : ℕ) (ec : c ≡ advanced p.state.cursor) (ek : k ≡ kind_at [] p.tokens.now p.state.cursor) where
  known : lex_error k ≡ lex_error (kind_at p.text.now p.tokens.now p.state.cursor)
  known = ap lex_error (ek ∙ kind-any p.text.now p.tokens.now p.state.cursor)

  -- What a parser that goes on does with a step's outcome.
  onward : (o : Out (Unit {0})) → o ≡ passed p.text.now p.tokens.now p.state (words p)
      → elim p.refused [ None ↦ o | Some r ↦ refused (number r.refusal) r.place ] ≡ from p (passed p.text.now p.tokens.now)
  onward o e = ap (λ (x : Out (Unit {0})). elim p.refused [ None ↦ x | Some r ↦ refused (number r.refusal) r.place ]) e

  pub advance-plain : lex_error k ≡ None → Steps passed p (moved p c)
  advance-plain h =
      record { is = rw ec (onward _ (sym (passed-plain p.text.now p.tokens.now p.state (words p) (sym known ∙ h)))); kept = moved-kept }

  pub advance-marked : (e : ErrorToken) → lex_error k ≡ Some e → is_marked p.state ≡ true → Steps passed p (moved p c)
  advance-marked e h g =
      record { is = rw ec (onward _ (sym (passed-marked p.text.now p.tokens.now p.state (words p) e (sym known ∙ h) g))); kept = moved-kept }

  pub advance-told : (e : ErrorToken) (x y : ℕ) (p' : Parser) → lex_error k ≡ Some e → is_marked p.state ≡ false
      → x ≡ token_start p.tokens.now p.state.cursor.at → y ≡ token_end (word_at p.tokens.now p.state.cursor.at)
      → Reports Report.LexerError (error_number e) (span x y) (moved p c) p' → Steps passed p p'
  advance-told e x y p' h g ex ey r =
      record {
        is = r.is ∙ onward _ (rw (ec, ex, ey) (sym (passed-told p.text.now p.tokens.now p.state (words p) e (sym known ∙ h) g)));
        kept = kept_then moved-kept r.kept;
      }
