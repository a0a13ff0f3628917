-- `slash` meets its contract.
use Rattle.tokens.specs.At.{line_at, block_at, slash-at}
use Rattle.std.proofs.Common.{rules}
use Rattle.tokens.proofs.slash.Goals as goal

pub returns-in-47 : goal.returns-in-47
returns-in-47 c = search (rules, line_at)

pub returns-in-42 : goal.returns-in-42
returns-in-42 c = search (rules, block_at)

pub returns-in_default : goal.returns-in_default
returns-in_default c = search (rules, slash-at)
