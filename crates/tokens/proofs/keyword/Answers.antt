-- `keyword` meets its contract.
use Rattle.tokens.proofs.keyword.Goals as goal

pub returns-then-first-lt103 : goal.returns-then-first-lt103
returns-then-first-lt103 c = c.keyword_to_f.ensures

pub returns-then-first-lt113 : goal.returns-then-first-lt113
returns-then-first-lt113 c = c.keyword_to_p.ensures

pub returns : goal.returns
returns c = c.keyword_from_r.ensures
