-- `has_mark` meets its contract: a text begins with the bytes of a spelling where it is spelled so.
use Rattle.scan.specs.Lexer.{has_mark}
use Rattle.scan.specs.Laws.{spelled-starts}
use Rattle.scan.proofs.has_mark.Goals as goal

pub returns : goal.returns
unfolding has_mark
returns c = spelled-starts _ _ _ c.starts_with.ensures.value
