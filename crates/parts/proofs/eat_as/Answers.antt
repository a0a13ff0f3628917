-- `eat_as` meets its contract.
use Rattle.answers.specs.Rules.{eats-found, eats-missed}
use Rattle.parts.proofs.eat_as.Goals as goal

pub returns-then-not-eat : goal.returns-then-not-eat
returns-then-not-eat c = eats-missed c.args.token _ c.eat.ensures c.if-not-eat.true

pub returns : goal.returns
returns c = eats-found c.args.token c.eat.ensures c.if-not-eat.false c.alloc_last_token_as_node.ensures
