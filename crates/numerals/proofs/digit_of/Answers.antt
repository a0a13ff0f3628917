-- `digit_of` meets its contract, by case.
use Rattle.values.specs.Digits.{is_digit}
use native.Mathlib.Omega.{arith}
use Rattle.numerals.proofs.digit_of.Goals as goal

pub returns-in-48-to-57 : goal.returns-in-48-to-57
returns-in-48-to-57 c = (is_digit _ (omega arith) (omega arith), omega arith)
