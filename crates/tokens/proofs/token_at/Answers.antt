-- `token_at` meets its contract: the first byte's class says which rules are left.
use native.Mathlib.Omega.{arith}
use mathlib.Core.Path.{sym, ◌∙◌}
use Rattle.tokens.specs.At.{blank-at, quote-at}
use Rattle.tokens.proofs.token_at.Goals as goal

pub word-requires : goal.word-requires
word-requires c = (c.requires.0, sym c.is_ident_start.ensures ∙ c.if-is_ident_start.true)

pub numeral-requires : goal.numeral-requires
numeral-requires c = (c.requires.0, sym c.is_decimal.ensures ∙ c.if-is_decimal.true)

pub returns-then-is_blank : goal.returns-then-is_blank
returns-then-is_blank c = blank-at _ _ c.requires.0 _ (sym c.is_blank.ensures ∙ c.if-is_blank.true) c.blank_end.ensures

pub slash-requires : goal.slash-requires
slash-requires c = (c.requires.0, c.in-47.is, c.requires.1)

pub at_sign-requires : goal.at_sign-requires
at_sign-requires c = (c.requires.0, c.in-64.is)

pub other-requires : goal.other-requires
other-requires c = (c.requires.0, record { start = sym c.is_ident_start.ensures ∙ c.if-is_ident_start.false; number = sym c.is_decimal.ensures ∙ c.if-is_decimal.false; blanks = sym c.is_blank.ensures ∙ c.if-is_blank.false; quote = omega arith; slash = omega arith; sign = (omega arith) })

pub returns-in-34 : goal.returns-in-34
returns-in-34 c = quote-at _ _ c.requires.0 _ c.in-34.is c.string.ensures
