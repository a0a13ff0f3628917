-- `decls` meets its contract: what is left of the loop comes to what the whole loop comes to.
use Rattle.definition.specs.Declarations.{decl_turn}
use Rattle.reading.specs.Turns.{Turns}
use Rattle.declarations.proofs.decls.Given as goal

abbrev pub invariant-loop-turn : goal.invariant-loop-turn
invariant-loop-turn l = Turns decl_turn l.initial.file l.initial.p l._turn l.file l.p
