-- `open_named` meets its contract.
use Rattle.reading.specs.Does.{then, gives}
use Rattle.steps.proofs.open_named.Goals as goal

pub returns : goal.returns
returns c = then c.open_here-u.ensures (then c.try_parse_ident-name.ensures (then c.push_option-u.ensures (then c.expect.ensures gives)))
