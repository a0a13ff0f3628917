-- `store` meets its contract, by case.
use lib.ListN.{drop}
use Rattle.literals.specs.Numbers.{digits}
use Rattle.numerals.specs.Number.{number-none, number-full, number_fits}
use Rattle.numerals.proofs.store.Goals as goal

pub returns-then-values-at : goal.returns-then-values-at
returns-then-values-at c = number-none (digits c.args.radix 0 (drop c.args.prefix c.args.source.now)) c.args.values.now _ c.if-values-at.true

pub returns : goal.returns
returns c = number_fits (digits c.args.radix 0 (drop c.args.prefix c.args.source.now)) _ _ c.if-values-at.false _ _ c.put.ensures _ c.in_ok-n.was _ c.head.ensures

pub returns-in_err-n : goal.returns-in_err-n
returns-in_err-n c = rw c.from_residual.ensures (number-full (digits c.args.radix 0 (drop c.args.prefix c.args.source.now)) c.args.values.now _ c.if-values-at.false _ _ c.put.ensures c.in_err-n.was)
