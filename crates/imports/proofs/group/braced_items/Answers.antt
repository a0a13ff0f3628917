-- `braced_items` meets its contract.
use Rattle.words.specs.Token
use Rattle.definition.specs.Declarations.{group_item}
use Rattle.stream.specs.Delimited.{list-within}
use Rattle.imports.proofs.group.braced_items.Goals as goal

pub returns : goal.returns
returns c = list-within Token.LeftCurly Token.RightCurly Token.Comma group_item _ c.expect.ensures c.group_items-items.ensures c.expect-2.ensures
