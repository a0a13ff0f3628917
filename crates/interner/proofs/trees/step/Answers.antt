-- `step` meets its contract, by case.
use Rattle.interner.specs.Order.{name-is}
use Rattle.interner.specs.State.{state-skip}
use Rattle.interner.proofs.trees.step.Goals as goal

pub add-requires : goal.add-requires
add-requires c = record { i_in_bounds = (c.requires.i_in_bounds, name-is _ _ _ _ _ c.kind_at.ensures c.is_name.ensures c.if-is_name.true); state = c.requires.state }

pub returns-else-is_name : goal.returns-else-is_name
returns-else-is_name c = state-skip _ _ _ _ _ c.requires.state (name-is _ _ _ _ _ c.kind_at.ensures c.is_name.ensures c.if-is_name.false)
