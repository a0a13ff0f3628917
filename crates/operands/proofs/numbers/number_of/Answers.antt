-- `number_of` meets its contract.
use Rattle.reading.specs.Does.{then, gives}
use Rattle.numerals.specs.Numbers.{radix_of}
use Rattle.operands.specs.Number.{spelling-is, number-kept}
use Rattle.operands.proofs.numbers.number_of.Goals as goal

pub returns : goal.returns
returns c = then spelling-is (then c.pass.ensures (then (number-kept (radix_of c.args.base) c.args.prefix c.args.p.now.state.cursor.at c.pass.ensures.kept c.number.ensures) gives))
