-- `named` meets its contract: the library compares as the definition does.
use Rattle.std.proofs.Common.{◌∙◌}
use Rattle.spellings.specs.Names.{equal-alike, named-kind}
use Rattle.spellings.proofs.named.Goals as goal

pub returns-then-kind_at-kind : goal.returns-then-kind_at-kind
returns-then-kind_at-kind c = c.eq.ensures ∙ equal-alike _ _ ∙ named-kind _ _ _ _ _ _ c.kind_at.ensures c.if-kind_at-kind.true _ c.spelling.ensures.0
