-- `allows_struct_literal` meets its contract.
use Rattle.answers.proofs.allows_struct_literal.Goals as goal

pub returns-in-AllowAll : goal.returns-in-AllowAll
returns-in-AllowAll c = rw c.in-AllowAll.is

pub returns-in-NoPostFixCurlyBrace : goal.returns-in-NoPostFixCurlyBrace
returns-in-NoPostFixCurlyBrace c = rw c.in-NoPostFixCurlyBrace.is
