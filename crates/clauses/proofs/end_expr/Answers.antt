-- `end_expr` meets its contract.
use Rattle.words.specs.Token
use Rattle.definition.specs.Tokens.{eof}
use Rattle.definition.specs.Statements.{end_expr_turn}
use Rattle.reading.specs.Does.{then, gives, when_true, when_false}
use Rattle.stream.specs.Delimited.{regroup}
use Rattle.answers.specs.Rules.{one-of}
use Rattle.clauses.proofs.end_expr.Goals as goal

pub returns-then-one_of : goal.returns-then-one_of
unfolding end_expr_turn eof
returns-then-one_of c = one-of Token.RightCurly Token.Eof c.one_of.ensures (when_true c.if-one_of.true gives)

pub returns : goal.returns
unfolding end_expr_turn eof
returns c = one-of Token.RightCurly Token.Eof c.one_of.ensures (when_false c.if-one_of.false (regroup (then c.missing_semicolon.ensures (then c.push_child.ensures gives))))
