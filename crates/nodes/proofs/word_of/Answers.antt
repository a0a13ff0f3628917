-- `word_of` meets its contract.
use Rattle.nodes.specs.Laws.{word_none, word_out, word-there}
use Rattle.nodes.proofs.word_of.Goals as goal

pub returns-then-p-n : goal.returns-then-p-n
returns-then-p-n c = word_none _ _ _ _ c.if-p-n.true

pub returns-then-p-at : goal.returns-then-p-at
returns-then-p-at c = word_out _ _ _ _ c.if-p-n.false c.if-p-at.true

pub returns : goal.returns
returns c = word-there _ _ _ _ c.if-p-n.false
