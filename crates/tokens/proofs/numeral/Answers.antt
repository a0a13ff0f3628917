-- `numeral` meets its contract.
use Rattle.tokens.specs.At.{hexadecimal-at, binary-at, decimal-at}
use Rattle.std.proofs.Common.{rules}
use Rattle.tokens.proofs.numeral.Goals as goal

pub returns-then-has_prefix : goal.returns-then-has_prefix
returns-then-has_prefix c = search (rules, hexadecimal-at)

pub returns-then-has_prefix-2 : goal.returns-then-has_prefix-2
returns-then-has_prefix-2 c = search (rules, binary-at)

pub returns : goal.returns
returns c = search (rules, decimal-at)
