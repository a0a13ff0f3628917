-- `fill_with` meets its contract: it begins with nothing that hangs.
use Rattle.interner.specs.State.{state-none}
use Rattle.interner.proofs.trees.fill_with.Goals as goal

pub fill-requires : goal.fill-requires
fill-requires g c = state-none _ _ _ _ c.requires.room.0 c.requires.table
