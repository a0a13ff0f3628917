-- `slot_at` meets its contract, by case.
use native.Mathlib.Omega.{arith}
use Rattle.interner.specs.Told.{slot-past, slot-within}
use Rattle.interner.proofs.table.slot_at.Goals as goal

pub returns-then-tokens-i : goal.returns-then-tokens-i
returns-then-tokens-i c = (slot-past c.args.tokens.now _ c.if-tokens-i.true, omega arith)

pub returns : goal.returns
returns c = slot-within c.args.tokens.now _ c.if-tokens-i.false _ c.token_end.ensures
