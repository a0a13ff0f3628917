-- `punctuation` meets its contract: of two spellings the longer one counts.
use mathlib.Core.Path.{refl}
use Rattle.std.proofs.Common.{◌≡◌, None, rules, sym, ◌∙◌, ap}
use Rattle.tokens.specs.Cases.{match_of}
use Rattle.tokens.specs.Pairs.{punctuation-is}
use Rattle.tokens.proofs.punctuation.Goals as goal

pub returns-in-Some : goal.returns-in-Some
returns-in-Some c = punctuation-is _ _ _ _ refl (sym c.in-Some.is ∙ c.double.ensures)

pub returns-in_err-kind : goal.returns-in_err-kind
returns-in_err-kind c =
    let none : c.from_residual.result ≡ None = search rules in
    ap match_of none ∙ punctuation-is _ _ _ _ (sym c.in_err-kind.was ∙ c.single.ensures) (sym c.in_default.is ∙ c.double.ensures)

pub returns : goal.returns
returns c = punctuation-is _ _ _ _ (sym c.in_ok-kind.was ∙ c.single.ensures) (sym c.in_default.is ∙ c.double.ensures)
