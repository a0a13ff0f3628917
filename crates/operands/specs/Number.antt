-- What the functions on number literals do, by case.
use Rattle.std.specs.Prelude.{◌≡◌, refl, List, ℕ, drop}
use Rattle.std.proofs.Math.Option.{Option, none, some}
use borrow.Author.Tests.{ne_eqb}
use Rattle.words.specs.Token
use Rattle.literals.specs.Numbers.{digits, number_value}
use Rattle.literals.specs.Spelling as Source
use Rattle.definition.specs.Prog.{Prog, give, ◌>>=◌, ◌>>◌, pass, spelling, value, eval}
use Rattle.definition.specs.Nodes.{radix_of}
use Rattle.reading.specs.declared.parser.Parser.{Parser}
use Rattle.reading.specs.Standing.{Kept}
use Rattle.reading.specs.Does.{Does, same}

-- What is done with a number token.
abbrev pub number_of : ℕ → ℕ → Prog (Option ℕ)
number_of radix prefix = do
  source ← spelling
  pass
  n ← value (number_value (digits radix 0 (drop prefix source)))
  give (some n)

pub spelling-is : {p : Parser} → Does spelling p (Source.spelling p.text.now p.tokens.now p.state.cursor.at) p
unfolding eval
spelling-is = record { is = λ w. refl; kept = same }

-- A token is spelled as it was before it was passed.
pub number-kept : {p p₁ p₂ : Parser} (radix prefix token : ℕ) {n : ℕ} → Kept p p₁
    → Does (value (number_value (digits radix 0 (drop prefix (Source.spelling p₁.text.now p₁.tokens.now token))))) p₁ n p₂
    → Does (value (number_value (digits radix 0 (drop prefix (Source.spelling p.text.now p.tokens.now token))))) p₁ n p₂
number-kept {p = p} {p₁ = p₁} {p₂ = p₂} radix prefix token {n = n} k g = go p.text.now p₁.text.now p.tokens.now p₁.tokens.now (cc k.text) (cc k.tokens) g
  where
    go : (text text' tokens tokens' : List ℕ) → text' ≡ text → tokens' ≡ tokens
        → Does (value (number_value (digits radix 0 (drop prefix (Source.spelling text' tokens' token))))) p₁ n p₂
        → Does (value (number_value (digits radix 0 (drop prefix (Source.spelling text tokens token))))) p₁ n p₂
    go text text' tokens tokens' e f g = rw (← e, ← f) g

module _ (token : ℕ) where
  pub radix-decimal : token ≡ Token.DecimalLiteral → radix_of token ≡ some (record { radix = 10; prefix = 0 })
  unfolding radix_of
  radix-decimal e = rw e

  pub radix-hex : token ≡ Token.HexLiteral → radix_of token ≡ some (record { radix = 16; prefix = 2 })
  unfolding radix_of
  radix-hex e = rw e

  pub radix-bin : token ≡ Token.BinLiteral → radix_of token ≡ some (record { radix = 2; prefix = 2 })
  unfolding radix_of
  radix-bin e = rw e

  pub radix-none : (token ≡ Token.DecimalLiteral → ⊥) → (token ≡ Token.HexLiteral → ⊥) → (token ≡ Token.BinLiteral → ⊥) → radix_of token ≡ none
  unfolding radix_of
  radix-none h g f = rw (ne_eqb token Token.DecimalLiteral h, ne_eqb token Token.HexLiteral g, ne_eqb token Token.BinLiteral f)
