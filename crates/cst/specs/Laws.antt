-- Rules for the proofs of functions that only call others.
use Rattle.std.proofs.Math.Path.{refl}
use Rattle.definition.specs.Prog.{position, eval}
use Rattle.reading.specs.declared.parser.Parser.{Parser}
use Rattle.reading.specs.Does.{Does, then, gives, when_true, when_false, same}
use Rattle.nodes.specs.Laws.{acts}

pub position-is : {p : Parser} → Does position p p.state.cursor.at p
unfolding eval
position-is = acts refl same refl

-- what `search` chains calls by: at most two of them
pub ruleset steps = (then, gives, when_true, when_false, position-is)
