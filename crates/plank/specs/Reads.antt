-- What reading answers, in document 01's terms, and that its two steps come to it.
use Rattle.std.specs.Prelude.{◌≡◌, Bool, true, false, cond, List, [], ◌∷◌, ℕ, ◌≤◌, ltb, length, take, Result, Ok, Err}
use Rattle.std.proofs.Math.Path.{refl, ap}
use Rattle.std.proofs.Common.{sym, ◌∙◌, arith, ltb-false}
use Rattle.std.proofs.Math.ListN.{replicate}
use Rattle.words.specs.Answer.{Answer, done, refused}
use Rattle.words.specs.declared.refusal.Refused.{Refused}
use Rattle.utf8.specs.Utf8.{Checked, checked}
use Rattle.words.specs.Refusal
use Rattle.words.specs.Refusal.{number}
use Rattle.scan.specs.Lexer.{longest_text, tokens_of}
use Rattle.lexer.specs.Lex.{not_utf8, lexed, lexed_words}
use Rattle.definition.specs.Prog.{Memory, memory, Out}
use Rattle.definition.specs.Prog as Prog
use Rattle.definition.specs.Parse.{zeros, parsed_to, parsed_within, parsed}
use Rattle.definition.specs.Parse.{Parsed as Definition}
use Rattle.parser.specs.declared.Counts as Parsing
use Rattle.parser.specs.Answers as Parser
use Rattle.parser.specs.Answers.{Parsed, zeroed, parsed_text, text-short}
use Rattle.reader.specs.Read.{Read, Lent, after, after_lexing, reads}
use Rattle.reader.specs.Demand.{Agrees}
use Rattle.reader.proofs.Joined.{agrees-of}
use Rattle.plank.specs.declared.Counts.{Counts}

-- "Success returns the counts of tokens, nodes, value words and reports", "a refusal returns number and place" (01).
abbrev pub Outcome : Type 0
Outcome = Result Counts Refused

abbrev pub answer : Outcome → Answer
answer (Ok c) = done (c.tokens ∷ c.nodes ∷ c.values ∷ c.reports ∷ [])
answer (Err r) = refused (number r.refusal) r.place

-- An answer, and the words of tokens, nodes, values and reports when it is given.
abbrev pub given : Outcome → List ℕ → List ℕ → List ℕ → List ℕ → Read
given r tokens nodes values reports = record { answer = answer r; tokens = tokens; nodes = nodes; values = values; reports = reports }

-- How many words are lent.
abbrev pub lent : List ℕ → List ℕ → List ℕ → List ℕ → Lent
lent tokens nodes values reports = record { tokens = length tokens; nodes = length nodes; values = length values; reports = length reports }

-- Where lexing is done, its tokens fit.
module _ (text : List ℕ) (k n : ℕ) where
  abbrev fitting : Bool → Answer
  fitting t = cond t (refused Refusal.TokensDontFit (length (tokens_of text))) (done (length (tokens_of text) ∷ []))

  abbrev checking : Checked → Answer
  checking c = elim c [ Err e ↦ refused (not_utf8 e.way) e.at | Ok u ↦ fitting (ltb k (length (tokens_of text))) ]

  fit : (t : Bool) → ltb k (length (tokens_of text)) ≡ t → done (n ∷ []) ≡ fitting t → n ≤ k
  fit true h e = let z : ◌≡◌ {A = ℕ} 0 1 = cc in omega arith
  fit false h e = let g = ltb-false k (length (tokens_of text)) h in let f : n ≡ length (tokens_of text) = cc in omega arith

  good : (c : Checked) → done (n ∷ []) ≡ checking c → n ≤ k
  good (Ok u) e = fit (ltb k (length (tokens_of text))) refl e
  good (Err r) e = let z : ◌≡◌ {A = ℕ} 0 1 = cc in omega arith

  long : (t : Bool) → done (n ∷ []) ≡ cond t (refused Refusal.TooLong longest_text) (checking (checked text)) → n ≤ k
  long true e = let z : ◌≡◌ {A = ℕ} 0 1 = cc in omega arith
  long false e = good (checked text) e

  short : (t : Bool) → ltb longest_text (length text) ≡ t → done (n ∷ []) ≡ cond t (refused Refusal.TooLong longest_text) (checking (checked text)) → length text ≤ longest_text
  short true h e = let z : ◌≡◌ {A = ℕ} 0 1 = cc in omega arith
  short false h e = ltb-false longest_text (length text) h

  pub text-fits : done (n ∷ []) ≡ lexed text k → length text ≤ longest_text
  unfolding lexed
  text-fits e = short (ltb longest_text (length text)) refl e

  pub tokens-fit : done (n ∷ []) ≡ lexed text k → n ≤ k
  unfolding lexed
  tokens-fit e = long (ltb longest_text (length text)) e

-- What a refusal of parsing leaves is what it began with.
refused-words : (blank m : Memory) (o : Out ℕ) (r : Refused) → Parser.given (Err r) m ≡ parsed_to blank o → m ≡ blank
unfolding parsed_to
refused-words blank m (Prog.done file s m') r e =
    let a : refused (number r.refusal) r.place ≡ done (s.nodes ∷ s.values ∷ s.reports ∷ []) = ap (λ (d : Definition). d.answer) e in
    let z : ◌≡◌ {A = ℕ} 0 1 = cc in
    absurd (omega arith)
refused-words blank m (Prog.refused n p) r e = ap (λ (d : Definition). d.words) e

-- What is parsed after lexing: `tokens` are the words that lexing left, `n` of them tokens.
module _ (text tokens ns vs rs : List ℕ) (n : ℕ) where
  abbrev parse-done : Definition
  parse-done = parsed text (take n tokens) (length ns) (length vs) (length rs)

  abbrev after-done : Read
  after-done = after_lexing text (lent tokens ns vs rs) tokens (done (n ∷ []))

  came-to : (p : Definition) → p ≡ parse-done → after (lent tokens ns vs rs) tokens n p p.answer ≡ after-done
  unfolding after_lexing
  came-to p e = ap (λ (d : Definition). after (lent tokens ns vs rs) tokens n d d.answer) e

  -- A refusal of parsing leaves 0 in every word.
  cleared : (r : Refused) (m : Memory) → Parser.given (Err r) m ≡ parse-done → m ≡ zeros (length ns) (length vs) (length rs)
  unfolding parsed parsed_within
  cleared r m e = refused-words _ m _ r e

  module _ (r : Parsed) {ns' vs' rs' : List ℕ} (p : Parser.given r (memory ns' vs' rs') ≡ parsed_text text (take n tokens) (length ns) (length vs) (length rs))
      (short : length text ≤ longest_text) where
    e : Parser.given r (memory ns' vs' rs') ≡ parse-done
    e = p ∙ sym (text-short text (take n tokens) (length ns) (length vs) (length rs) short)

    pub parsed-done : (c : Parsing.Counts) → r ≡ Ok c → given (Ok (record { tokens = n; nodes = c.nodes; values = c.values; reports = c.reports })) tokens ns' vs' rs' ≡ after-done
    unfolding after
    parsed-done c h = came-to (Parser.given (Ok c) (memory ns' vs' rs')) (rw h at e)

    pub parsed-refused : (f : Refused) → r ≡ Err f → given (Err f) (zeroed tokens) ns' vs' rs' ≡ after-done
    unfolding after
    parsed-refused f h =
        let g : Parser.given (Err f) (memory ns' vs' rs') ≡ parse-done = rw h at e in
        let z = cleared f (memory ns' vs' rs') g in
        ap (λ (m : Memory). given (Err f) (zeroed tokens) m.nodes m.values m.reports) z ∙ came-to _ g

-- What lexing came to is gone on from.
module _ (text ws ws' ns vs rs : List ℕ) (k : length ws' ≡ length ws) (w : ws' ≡ lexed_words text (length ws)) where
  pub lexed-done : (n : ℕ) (r : Read) → done (n ∷ []) ≡ lexed text (length ws) → r ≡ after_lexing text (lent ws' ns vs rs) ws' (done (n ∷ [])) → r ≡ reads text (lent ws ns vs rs)
  unfolding reads
  lexed-done n r e h = rw (← e, ← w, ← k) h

  pub lexed-refused : (r : Refused) → refused (number r.refusal) r.place ≡ lexed text (length ws) → given (Err r) ws' (zeroed ns) (zeroed vs) (zeroed rs) ≡ reads text (lent ws ns vs rs)
  unfolding reads after_lexing
  lexed-refused r e = rw (← e, w, refused-left) refl
    where
      refused-left : lexed_words text (length ws) ≡ replicate (length ws) 0
      refused-left = unfold lexed_words in (rw (← e) refl)

-- Both clauses of the contract: the equation, and demand 3, which follows from it.
pub both-clauses : (text : List ℕ) (l : Lent) {q : Read} → q ≡ reads text l → (q ≡ reads text l) × Agrees text q
both-clauses text l e = (e, agrees-of text l e)
