-- `at_sign` meets its contract.
use Rattle.tokens.specs.At.{builtin-at, at-error-at}
use Rattle.std.proofs.Common.{rules}
use Rattle.tokens.proofs.at_sign.Goals as goal

pub returns-then-is_ident_start : goal.returns-then-is_ident_start
returns-then-is_ident_start c = search (rules, builtin-at)

pub returns : goal.returns
returns c = search (rules, at-error-at)
