-- `end_arm` meets its contract.
use Rattle.reading.specs.Does.{then}
use Rattle.stream.specs.Delimited.{regroup}
use Rattle.answers.specs.Laws.{turn-if}
use Rattle.stages.proofs.end_arm.Goals as goal

pub returns : goal.returns
returns c = regroup (then c.push_close-n.ensures (then c.push_child-it.ensures (then c.eat-on.ensures (turn-if c.eat-on.result))))
