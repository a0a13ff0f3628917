-- `token_or_end` meets its contract, inside the text and past it.
use Rattle.tokens.specs.Next.{next_past, next-there}
use Rattle.tokens.proofs.token_or_end.Goals as goal

pub returns-then-text-at : goal.returns-then-text-at
returns-then-text-at c = next_past _ _ c.if-text-at.true

pub returns : goal.returns
returns c = next-there _ _ _ c.if-text-at.false c.token_at.ensures
