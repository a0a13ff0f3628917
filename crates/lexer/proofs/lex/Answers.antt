-- `lex` meets its contract: the branching lexer tells the tokens.
use Rattle.tokens.specs.Next.{next-inside}
use Rattle.std.proofs.Common.{rules}
use Rattle.lexer.proofs.lex.Goals as goal

pub lex_by-requires : goal.lex_by-requires
lex_by-requires c = λ short. record { callable = λ at h. search rules; right = λ at t h p. next-inside c.args.text.now at short t h (search rules) }
