-- `glob_flags` meets its contract.
use Rattle.answers.proofs.glob_flags.Goals as goal

pub returns-then-public : goal.returns-then-public
returns-then-public c = rw c.if-public.true

pub returns : goal.returns
returns c = rw c.if-public.false
