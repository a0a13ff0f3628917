-- `same` meets its contract: from `i` on the two are alike where they are alike as a whole.
use Rattle.scan.specs.Laws.{same_over, same_stop, same_next, same-unlike}
use Rattle.std.proofs.Common.{rules}
use Rattle.tokens.proofs.same.Goals as goal

pub returns-then-a-b : goal.returns-then-a-b
returns-then-a-b c = search (rules, same-unlike)

pub returns-then-a-i : goal.returns-then-a-i
returns-then-a-i c = search (rules, same_stop)

pub loop-i-preserved : goal.loop-i-preserved
loop-i-preserved c = search (rules, same_next)

pub returns : goal.returns
returns c = search (rules, same_over)
