-- `fill_from` meets its contract: the tokens from `at` on, put from `n` on, make the words that all tokens make.
use Prim.Native.Nat.{◌-◌}
use lib.ListN.{length}
use Rattle.lexer.specs.Walk.{Filling}
use Rattle.lexer.proofs.fill_from.Given as goal

abbrev pub invariant-loop-at : goal.invariant-loop-at
invariant-loop-at g l = Filling l.text l.initial.words l.start l.first l.words l.at l.n

abbrev pub decreases-loop-at : goal.decreases-loop-at
decreases-loop-at g l = length l.text - l.at
