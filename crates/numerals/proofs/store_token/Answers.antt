-- `store_token` meets its contract.
use Rattle.numerals.specs.Number.{number-spelled}
use Rattle.numerals.proofs.store_token.Goals as goal

pub returns : goal.returns
returns c = number-spelled _ _ _ _ c.args.base _ c.spelling-source.ensures.0 _ c.radix.ensures _ _ _ _ c.store.ensures
