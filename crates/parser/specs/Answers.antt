-- What parsing answers, in document 01's terms, and that the file's reading comes to it.
use Rattle.std.specs.Prelude.{◌≡◌, refl, cond, List, [], ◌∷◌, ℕ, ◌≤◌, ◌<◌, ltb, length, replicate, Some, None, Result, Ok, Err}
use Rattle.std.proofs.Math.Path.{ap}
use Rattle.std.proofs.Common.{lt-ltb, le-ltb}
use Rattle.words.specs.Answer.{Answer}
use Rattle.words.specs.Refusal.{number}
use Rattle.words.specs.Refusal
use Rattle.words.specs.declared.refusal.Refusal.TheVariants as Case
use Rattle.words.specs.declared.refusal.Refused.{Refused}
use Rattle.lexer.specs.Lexer.{longest_text}
use Rattle.definition.specs.declared.State.{State}
use Rattle.definition.specs.Prog.{Memory, memory, Out, done, refused}
use Rattle.definition.specs.Declarations.{parse_file}
use Rattle.definition.specs.Parse.{max_depth, start, zeros, parsed_to, parsed_within, parsed}
use Rattle.definition.specs.Parse.{Parsed as Definition}
use Rattle.reading.specs.declared.parser.Parser.{Parser}
use Rattle.reading.specs.Source.{Right}
use Rattle.reading.specs.Standing.{words}
use Rattle.reading.specs.Does.{Does, view, run_of}
use Rattle.parser.specs.declared.Counts.{Counts}

-- "Success returns the counts of .. nodes, value words and reports", "A refusal returns number and place" (01).
abbrev pub Parsed : Type 0
Parsed = Result Counts Refused

abbrev pub answer : Parsed → Answer
answer (Ok c) = Answer.done (c.nodes ∷ c.values ∷ c.reports ∷ [])
answer (Err r) = Answer.refused (number r.refusal) r.place

-- An answer, and the words of nodes, values and reports when it is given.
abbrev pub given : Parsed → Memory → Definition
given r words = record { answer = answer r; words = words }

-- As many words, all 0.
abbrev pub zeroed : List ℕ → List ℕ
zeroed words = replicate (length words) 0

-- Where reading begins.
abbrev pub begun : List ℕ → State
begun tokens = start tokens

-- "2 over 65,536 bytes (65,536)" (01, Refusals). Lexing refuses such a text, so reading parses none.
unfoldable pub parsed_text : List ℕ → List ℕ → ℕ → ℕ → ℕ → Definition
parsed_text text tokens n v w =
    cond (ltb longest_text (length text)) (record { answer = Answer.refused Refusal.TooLong longest_text; words = zeros n v w }) (parsed text tokens n v w)

module _ (text tokens : List ℕ) (n v w : ℕ) where
  pub text-long : (r : Refused) → r.refusal ≡ Case.TooLong → r.place ≡ longest_text → longest_text < length text → given (Err r) (zeros n v w) ≡ parsed_text text tokens n v w
  unfolding parsed_text
  text-long r f g h = rw (f, g, lt-ltb longest_text (length text) h)

  pub text-short : length text ≤ longest_text → parsed text tokens n v w ≡ parsed_text text tokens n v w
  unfolding parsed_text
  text-short h = rw (le-ltb longest_text (length text) h)

-- The words that were lent are those at the end of the reading, or those that were cleared then.
pub lent : {a : Answer} {d : Definition} {ns vs ws ns' vs' ws' : List ℕ} → ns ≡ ns' → vs ≡ vs' → ws ≡ ws'
    → record { answer = a; words = memory ns' vs' ws' } ≡ d → record { answer = a; words = memory ns vs ws } ≡ d
lent e f g h = rw (e, f, g) h

pub cleared : (ws : List ℕ) {ws' ws'' : List ℕ} {n : ℕ} → ws'' ≡ ws' → ws' ≡ zeroed ws → length ws ≡ n → ws'' ≡ replicate n 0
cleared ws e f g = rw (e, f, g) refl

-- The file is read from its start, by a parser that is lent words that are 0.
module _ (n v w : ℕ) {file : ℕ} {p p' : Parser} (fresh : p.refused ≡ None) (starts : p.state ≡ begun p.tokens.now) (all : p.levels ≡ max_depth) (blank : words p ≡ zeros n v w)
    (e : Does parse_file p file p') (right : Right p.text.now p.tokens.now) where
  came : view file p' ≡ run_of p.text.now p.tokens.now max_depth parse_file (start p.tokens.now) (zeros n v w)
  came = rw (fresh, starts, all, blank) at (e.is right)

  came-to : (o : Out ℕ) → o ≡ run_of p.text.now p.tokens.now max_depth parse_file (start p.tokens.now) (zeros n v w) → parsed_to (zeros n v w) o ≡ parsed p.text.now p.tokens.now n v w
  unfolding parsed parsed_within
  came-to o h = ap (parsed_to (zeros n v w)) h

  pub read : p'.refused ≡ None → given (Ok (record { nodes = p'.state.nodes; values = p'.state.values; reports = p'.state.reports })) (words p') ≡ parsed p.text.now p.tokens.now n v w
  unfolding parsed_to
  read h = came-to (done file p'.state (words p')) (rw h at came)

  pub refuses : {r : Refused} → p'.refused ≡ Some r → given (Err r) (zeros n v w) ≡ parsed p.text.now p.tokens.now n v w
  unfolding parsed_to
  refuses {r = r} h = came-to (refused (number r.refusal) r.place) (rw h at came)
