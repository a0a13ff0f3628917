-- `numeral` meets its contract: what is left of the walk at `i` ends where, and in which state, all of it ends.
use mathlib.Core.Path.{◌≡◌}
use mathlib.Core.Bool.{true}
use lib.ListN.{drop}
use Rattle.scan.specs.Lexer.{from}
use Rattle.rules.specs.Rule.{numeric}
use Rattle.rules.specs.Walk.{walk}
use Rattle.tables.proofs.Tables.numeral.Given as goal

abbrev pub invariant-loop-i : goal.invariant-loop-i
invariant-loop-i l = (from l.i (walk l.q (drop l.i l.text)) ≡ from l.at (walk l.state (drop l.at l.text))) × (numeric l.q ≡ true)
