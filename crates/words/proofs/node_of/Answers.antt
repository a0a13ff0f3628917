-- `words::node_of` meets its contract: what its two callees ensure, put together. Assumes nothing.
use Rattle.words.proofs.node_of.Goals as goal

pub returns : goal.returns
returns c = cc
