-- `skip_trivia` meets its contract: what is left to skip ends where all of it ends, and no step goes back.
use mathlib.Core.Path.{◌≡◌}
use Prim.Native.Nat.{◌-◌, ◌≤◌}
use Rattle.definition.specs.Quiet.{quiet_end}
use Rattle.definition.proofs.Cursor.skip_trivia.Given as goal

-- `skip_trivia` meets its contract: what is left to skip ends where all of it ends, and no step goes back.
abbrev pub invariant-loop-c : goal.invariant-loop-c
invariant-loop-c l = (quiet_end l.tokens (l.c.end - l.c.at) l.c ≡ quiet_end l.tokens (l.initial.c.end - l.initial.c.at) l.initial.c) × (l.initial.c.at ≤ l.c.at)

abbrev pub decreases-loop-c : goal.decreases-loop-c
decreases-loop-c l = l.c.end - l.c.at
