-- `leading` meets its contract: the digits that were passed over count nothing.
use mathlib.Core.Path.{◌≡◌}
use lib.ListN.{drop}
use Rattle.literals.specs.Numbers.{digits}
use Rattle.numerals.proofs.hexadecimal.leading.Given as goal

abbrev pub invariant-loop-i : goal.invariant-loop-i
invariant-loop-i l = digits 16 0 (drop l.i l.source) ≡ digits 16 0 (drop l.prefix l.source)
