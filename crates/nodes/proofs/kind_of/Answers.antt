-- `kind_of` meets its contract.
use Rattle.nodes.specs.Laws.{kind_of-is}
use Rattle.nodes.proofs.kind_of.Goals as goal

pub returns : goal.returns
returns c = kind_of-is _ _ _ c.word_of-head.ensures c.node_kind.ensures
