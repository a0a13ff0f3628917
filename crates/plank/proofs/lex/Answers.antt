-- `lex` meets its contract.
use Rattle.plank.proofs.lex.Goals as goal

pub returns : goal.returns
returns c = c.lex.ensures
