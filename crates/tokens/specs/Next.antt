-- The token at an offset, of any text and any offset.
use Rattle.std.specs.Prelude.{◌≡◌, cond, List, ℕ, ◌≤◌, ◌<◌, ltb, length, take, drop}
use Rattle.std.proofs.Common.{sym, ◌∙◌, arith, lt-ltb, le-ltb, length-take, take_all}
use Rattle.words.specs.Token as TokenKind
use Rattle.scan.specs.declared.Token.{Token}
use Rattle.scan.specs.Lexer.{longest_text, from, token_at}

-- What `tokens_from` of crate scan begins with, where no byte belongs to the token before.
unfoldable pub next_token : List ℕ → ℕ → Token
next_token text at = cond (ltb at (length text)) (from at (token_at (drop at text))) (record { kind = TokenKind.Eof; end = at })

-- A part from the start of a text is no longer than what is taken.
pub part-short : (n : ℕ) (text : List ℕ) → n ≤ longest_text → length (take n text) ≤ longest_text
part-short n text h = omega (arith, length-take n text)

module _ (text : List ℕ) (at : ℕ) where
  inside : at < length text → next_token text at ≡ from at (token_at (drop at text))
  unfolding next_token
  inside h = rw (lt-ltb at (length text) h)

  pub next_past : length text ≤ at → record { kind = TokenKind.Eof; end = at } ≡ next_token text at
  unfolding next_token
  next_past h = rw (le-ltb at (length text) h)

  pub next-there : (t : Token) → at < length text → t ≡ from at (token_at (drop at text)) → t ≡ next_token text at
  next-there t h e = e ∙ sym (inside h)

  -- In a text that is no longer than a text may be.
  pub next-inside : length text ≤ longest_text → (t : Token) → at < length text → t ≡ next_token (take longest_text text) at → t ≡ from at (token_at (drop at text))
  next-inside l t h e = (rw (take_all longest_text text l) at e) ∙ inside h
