-- What a number token's value does, by case.
use Rattle.std.specs.Prelude.{◌≡◌, false, Option, Some, None, List, ◌++◌, ℕ, ◌+◌, ◌-◌, ◌≤◌, ◌<◌, length, take, drop, set}
use Rattle.std.proofs.Common.{◌∙◌, arith}
use Rattle.std.proofs.Math.Path.{ap}
use Rattle.words.specs.declared.refusal.Refusal.TheVariants.{ValuesDontFit}
use Rattle.words.specs.Value
use Rattle.words.specs.Words.{value_head}
use Rattle.lexer.specs.Lex.{spelling_of}
use Rattle.literals.specs.Numbers.{limbs, digits, number_value}
use Rattle.literals.specs.Spelling.{spelling}
use Rattle.numerals.specs.declared.Base.{Base}
use Rattle.numerals.specs.declared.Base.TheVariants.{Binary, Decimal, Hexadecimal}
use Rattle.numerals.specs.Numbers.{radix_of}
use Rattle.numerals.specs.Chunks.{Radix}
use Rattle.definition.specs.Prog.{Prog, value}
use Rattle.reading.specs.declared.parser.Parser.{Parser}
use Rattle.reading.specs.Standing.{is_refused, refused_at}
use Rattle.reading.specs.Does.{Does}
use Rattle.values.specs.Kept.{Put, Kept, past_words, lending, kept-none, kept_full, fit, kept-fits, value-full, value-fits}
use Rattle.spellings.specs.Spelled.{spelled}

-- The value of a number, or that it doesn't fit.
module _ (n : ℕ) (vs : List ℕ) (at : ℕ) where
  pub number-none : length vs ≤ at → length vs < at + length (number_value n)
  unfolding number_value
  number-none = kept-none (value_head Value.Number (length (limbs n))) (limbs n) vs at

  module _ (h : at < length vs) (r : Option ℕ) (out : List ℕ) (p : Put (limbs n) (take (length vs - (at + 1)) (drop (at + 1) vs)) r out) where
    pub number-full : r ≡ None → length vs < at + length (number_value n)
    unfolding number_value
    number-full = kept_full (value_head Value.Number (length (limbs n))) (limbs n) vs at h r out p

    pub number_fits : (m : ℕ) → r ≡ Some m → (head : ℕ) → head ≡ value_head Value.Number m
        → Kept (number_value n) vs at (Some (at + 1 + m)) (set (take (at + 1) vs ++ (out ++ drop (length vs - (at + 1)) (drop (at + 1) vs))) at head)
    unfolding number_value
    number_fits m e head f =
        let g : head ≡ value_head Value.Number (length (limbs n)) = f ∙ ap (value_head Value.Number) (fit 0 (limbs n) vs at h r out p m e).0 in
        rw g (kept-fits (value_head Value.Number (length (limbs n))) (limbs n) vs at h r out p m e)

pub radix-is : (base : Base) → Radix (radix_of base)
radix-is Binary = omega arith
radix-is Decimal = omega arith
radix-is Hexadecimal = omega arith

-- The digits are those of the token's spelling.
module _ (text tokens : List ℕ) (token prefix : ℕ) (base : Base) (source : List ℕ) (es : source ≡ spelling_of text tokens token) (radix : ℕ) (er : radix ≡ radix_of base) where
  pub number-spelled : (vs : List ℕ) (at : ℕ) (c : Option ℕ) (vs' : List ℕ) → Kept (number_value (digits radix 0 (drop prefix source))) vs at c vs'
      → Kept (number_value (digits (radix_of base) 0 (drop prefix (spelling text tokens token)))) vs at c vs'
  number-spelled vs at c vs' k = rw (es, er, spelled text tokens token) at k

module _ (p : Parser) (h : is_refused p ≡ false) (token prefix : ℕ) (base : Base)
    (source : List ℕ) (es : source ≡ spelling_of p.text.now p.tokens.now token) (radix : ℕ) (er : radix ≡ radix_of base)
    (c : Option ℕ) (vs : List ℕ) (k : Kept (number_value (digits radix 0 (drop prefix source))) p.values.now p.state.values c vs) where
  abbrev program : Prog ℕ
  program = value (number_value (digits (radix_of base) 0 (drop prefix (spelling p.text.now p.tokens.now token))))

  spelled-so : Kept (number_value (digits (radix_of base) 0 (drop prefix (spelling p.text.now p.tokens.now token)))) p.values.now p.state.values c vs
  spelled-so = number-spelled p.text.now p.tokens.now token prefix base source es radix er p.values.now p.state.values c vs k

  pub number-stored : (end : ℕ) → c ≡ Some end → Does program p p.state.values (past_words (lending p vs) end)
  number-stored end e = value-fits p h _ c vs spelled-so end e

  pub number-refused : c ≡ None → Does program p p.state.values (refused_at (lending p vs) ValuesDontFit)
  number-refused e = value-full p h _ c vs spelled-so e
