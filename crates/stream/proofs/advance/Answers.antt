-- `advance` meets its contract.
use mathlib.Core.Path.{sym, ◌∙◌}
use Rattle.stream.specs.Skip.{advance-plain, advance-marked, advance-told}
use Rattle.stream.proofs.advance.Goals as goal

pub returns-then-marked : goal.returns-then-marked
returns-then-marked c = advance-marked _ _ _ (c.advance-p.ensures.0) c.peek.ensures _ (sym c.lex_error.ensures ∙ c.in-Some.is) (sym c.is_marked-marked.ensures ∙ c.if-marked.true)

pub returns : goal.returns
returns c = advance-told _ _ _ c.advance-p.ensures.0 c.peek.ensures _ _ _ _ (sym c.lex_error.ensures ∙ c.in-Some.is) (sym c.is_marked-marked.ensures ∙ c.if-marked.false) c.token_start.ensures c.token_end.ensures (rw c.number.ensures at c.emit.ensures.reports)

pub returns-in_default : goal.returns-in_default
returns-in_default c = advance-plain _ _ _ c.advance-p.ensures.0 c.peek.ensures (sym c.lex_error.ensures ∙ c.in_default.is)
