-- `import_path` meets its contract: what is left of the loop comes to what the whole loop comes to.
use mathlib.Core.Option.{none}
use Rattle.definition.specs.Declarations.{import_turn}
use Rattle.reading.specs.Turns.{Turns}
use Rattle.cst.specs.Cst.{maybe}
use Rattle.imports.specs.Import.{so_far}
use Rattle.imports.proofs.import_path.Given as goal

abbrev pub invariant-loop-turn : goal.invariant-loop-turn
invariant-loop-turn l = Turns (import_turn l.public) (so_far l.initial.path none) l.initial.p l._turn (so_far l.path (maybe l.whole)) l.p
