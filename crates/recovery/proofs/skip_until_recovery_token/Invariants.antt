-- `skip_until_recovery_token` meets its contract: what is left of the loop comes to what the whole loop comes to; the scan inside it
-- asks whether the token is among the others.
use mathlib.Core.Path.{◌≡◌}
use lib.ListN.{drop}
use Rattle.definition.specs.Tokens.{contains, skip_turn}
use Rattle.reading.specs.Turns.{Turns}
use Rattle.recovery.proofs.skip_until_recovery_token.Given as goal

abbrev pub invariant-loop-i : goal.invariant-loop-i
invariant-loop-i l = contains (drop l.i l.recovery) l.found ≡ contains l.recovery l.found

abbrev pub invariant-skip : goal.invariant-skip
invariant-skip l = Turns (skip_turn l.recovery) tt l.initial.p l._turn tt l.p
