-- `kind_at` meets its contract: past the words stands an Eof.
use Rattle.std.proofs.Common.{sym, ltb-false}
use Rattle.spellings.specs.Names.{kind-past}
use Rattle.spellings.proofs.kind_at.Goals as goal

pub returns-in-None : goal.returns-in-None
returns-in-None c = kind-past c.args.tokens.now c.args.i (ltb-false _ _ (sym c.in-None.ensures.lookup.0))
