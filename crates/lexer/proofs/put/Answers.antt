-- `put` meets its contract.
use mathlib.Core.Path.{sym}
use lib.Seq.{set_out}
use Rattle.lexer.proofs.put.Goals as goal

pub returns-else-n-words : goal.returns-else-n-words
returns-else-n-words c = sym (set_out c.args.words.now c.args.n c.args.word c.if-n-words.false)
