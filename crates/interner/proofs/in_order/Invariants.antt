-- `in_order` meets its contract: the tokens that were passed end inside, and the names among them rise.
use mathlib.Core.Path.{◌≡◌}
use lib.ListN.{drop}
use Rattle.interner.specs.Same.{all_inside}
use Rattle.interner.specs.Order.{names_rise, rise_from}
use Rattle.interner.proofs.in_order.Given as goal

abbrev pub invariant-loop-i : goal.invariant-loop-i
invariant-loop-i l = (all_inside l.tokens l.n ≡ all_inside (drop l.i l.tokens) l.n) × (names_rise l.tokens ≡ rise_from l.i l.last (drop l.i l.tokens))
