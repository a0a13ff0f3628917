-- `add_stmt` meets its contract.
use Rattle.reading.specs.Does.{then, gives}
use Rattle.stages.proofs.add_stmt.Goals as goal

pub returns-in-None : goal.returns-in-None
returns-in-None c = rw c.in-None.is (then c.emit_unexpected.ensures gives)

pub returns-in-Some-Statement : goal.returns-in-Some-Statement
returns-in-Some-Statement c = rw (c.in-Some-Statement.is, (rw c.in-Some-Statement.is at c.in-Some-Statement.field-0-is)) (then c.push_option-more.ensures (then c.push_child.ensures gives))

pub returns-in-Some-EndExprOrStmt : goal.returns-in-Some-EndExprOrStmt
returns-in-Some-EndExprOrStmt c = rw (c.in-Some-EndExprOrStmt.is, (rw c.in-Some-EndExprOrStmt.is at c.in-Some-EndExprOrStmt.field-0-is)) (then c.push_option.ensures gives)

pub returns-in-Some-EndExpr : goal.returns-in-Some-EndExpr
returns-in-Some-EndExpr c = rw (c.in-Some-EndExpr.is, (rw c.in-Some-EndExpr.is at c.in-Some-EndExpr.field-0-is)) (then c.push_option-more-in-Some-EndExpr.ensures c.end_expr.ensures)
