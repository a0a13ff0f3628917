-- `special` meets its contract.
use Rattle.rules.proofs.Steps.{quote-told, hex-told, line-told, block-told, start-told, name-told}
use Rattle.std.proofs.Common.{rules}
use Rattle.tables.proofs.Tables.special.Goals as goal

pub returns-in-49 : goal.returns-in-49
returns-in-49 c = search (rules, quote-told)

pub returns-in-50 : goal.returns-in-50
returns-in-50 c = search (rules, hex-told)

pub returns-in-51 : goal.returns-in-51
returns-in-51 c = search (rules, line-told)

pub returns-in-52 : goal.returns-in-52
returns-in-52 c = search (rules, block-told)

pub returns-in-97 : goal.returns-in-97
returns-in-97 c = search (rules, start-told)

pub returns-in_default : goal.returns-in_default
returns-in_default c = search (rules, name-told)
