-- `read` meets its contract: what lexing came to is gone on from, or refused.
use mathlib.Core.Path.{sym, ◌∙◌, ap}
use lib.ListN.{length}
use Rattle.lexer.specs.Lex.{answer}
use Rattle.plank.specs.Reads.{text-fits, tokens-fit, lexed-done, lexed-refused, both-clauses}
use native.Mathlib.Omega.{arith}
use Rattle.plank.proofs.read.Goals as goal

pub parse_lexed-requires : goal.parse_lexed-requires
parse_lexed-requires c = let e = ap answer (sym c.in-Ok.is) ∙ c.lex.ensures.0 in (omega (arith, tokens-fit c.args.text.now (length c.args.tokens.now) _ e, c.lex.auto.tokens), text-fits c.args.text.now (length c.args.tokens.now) _ e)

pub returns-in-Ok : goal.returns-in-Ok
returns-in-Ok c = both-clauses _ _ (lexed-done c.args.text.now c.args.tokens.now c.lex.new.tokens c.args.nodes.now c.args.values.now c.args.reports.now c.lex.auto.tokens c.lex.ensures.1 _ _ (ap answer (sym c.in-Ok.is) ∙ c.lex.ensures.0) c.parse_lexed.ensures)

pub returns-in-Err : goal.returns-in-Err
returns-in-Err c = both-clauses _ _ (rw (c.clear.ensures, c.clear-in-Err.ensures, c.clear-in-Err-2.ensures) (lexed-refused c.args.text.now c.args.tokens.now c.lex.new.tokens c.args.nodes.now c.args.values.now c.args.reports.now c.lex.auto.tokens c.lex.ensures.1 _ (ap answer (sym c.in-Err.is) ∙ c.lex.ensures.0)))
