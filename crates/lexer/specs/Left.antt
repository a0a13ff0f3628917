-- Laws of what lexing leaves and answers together, case by case.
use Rattle.std.specs.Prelude.{◌≡◌, List, [], ◌∷◌, map, ℕ, ◌≤◌, ◌<◌, length, replicate, refl, Ok}
use Rattle.std.proofs.Common.{sym, ◌∙◌, ap, arith}
use borrow.Author.Tests.{lt-ltb, le-ltb}
use Rattle.std.proofs.lemmas.List.Edits.{sets}
use Rattle.words.specs.Refusal
use Rattle.words.specs.Answer.{Answer, done, refused}
use Rattle.utf8.specs.Utf8.{bad, checked}
use Rattle.utf8.specs.declared.Way.{Way}
use Rattle.scan.specs.Lexer.{longest_text, tokens_of, word}
use Rattle.lexer.specs.Lex.{not_utf8, lexed, lexed_words}
use Rattle.lexer.specs.Walk.{cleared}
use Rattle.lexer.specs.Calls
use Rattle.lexer.specs.Calls.{cleared-all, refused-words, left-words}

pub record Left (text ws out : List ℕ) (a : Answer) : Type 0 where
  pub answered : a ≡ lexed text (length ws)
  pub words : out ≡ lexed_words text (length ws)

module _ (text ws : List ℕ) where
  abbrev lent : ℕ
  lent = length ws

  refusal : (number place : ℕ) (ws' out : List ℕ) → lexed text lent ≡ refused number place → length ws' ≡ lent → out ≡ cleared ws' 0
      → Left text ws out (refused number place)
  refusal number place ws' out e l o =
      record { answered = sym e; words = o ∙ (cleared-all ws' ∙ (ap (λ (n : ℕ). replicate n 0) l ∙ sym (refused-words text lent number place e))) }

  pub too_long : (out : List ℕ) → longest_text < length text → out ≡ cleared ws 0 → Left text ws out (refused Refusal.TooLong longest_text)
  too_long out h o = refusal _ _ ws out long refl o
    where
      long : lexed text lent ≡ refused Refusal.TooLong longest_text
      long = unfold lexed in (rw (lt-ltb longest_text (length text) h))

  module _ (h : length text ≤ longest_text) where
    pub not-utf8 : (w : Way) (at number : ℕ) (out : List ℕ) → checked text ≡ bad w at → number ≡ not_utf8 w → out ≡ cleared ws 0
        → Left text ws out (refused number at)
    not-utf8 w at number out e f o = rw f (refusal _ _ ws out wrong refl o)
      where
        wrong : lexed text lent ≡ refused (not_utf8 w) at
        wrong = unfold lexed in (rw (le-ltb longest_text (length text) h, e))

    pub no_room : (n : ℕ) (ws' out : List ℕ) → checked text ≡ Ok tt → n ≡ length (tokens_of text) → length ws' ≡ lent → length ws' < n
        → out ≡ cleared ws' 0 → Left text ws out (refused Refusal.TokensDontFit n)
    no_room n ws' out e en l g o = rw en (refusal _ _ ws' out full l o)
      where
        full : lexed text lent ≡ refused Refusal.TokensDontFit (length (tokens_of text))
        full = unfold lexed in (rw (le-ltb longest_text (length text) h, e, lt-ltb lent (length (tokens_of text)) (omega arith)))

    pub room : (n : ℕ) (ws' out : List ℕ) → checked text ≡ Ok tt → n ≡ length (tokens_of text) → ws' ≡ sets ws 0 (map word (tokens_of text)) → length ws' ≡ lent → n ≤ length ws'
        → out ≡ cleared ws' n → Left text ws out (done (n ∷ []))
    room n ws' out e en es k g o =
        let c = Calls.room text ws ws' h e n en (omega arith) es in
        record { answered = c.answered; words = o ∙ left-words text ws ws' (Ok n) k c }
