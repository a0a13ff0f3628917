-- `skip_path` meets its contract: what is left of the loop comes to what the whole loop comes to.
use Rattle.definition.specs.Declarations.{path_turn}
use Rattle.reading.specs.Turns.{Turns}
use Rattle.imports.proofs.group.skip_path.Given as goal

abbrev pub invariant-loop-turn : goal.invariant-loop-turn
invariant-loop-turn l = Turns path_turn tt l.initial.p l._turn tt l.p
