-- `let_flags` meets its contract.
use Rattle.words.specs.Flag
use Rattle.answers.specs.Rules.{flag_small}
use native.Mathlib.Omega.{arith}
use Rattle.answers.proofs.let_flags.Goals as goal

pub overflow_add-result : goal.overflow_add-result
overflow_add-result c = omega (arith, flag_small c.args.mutable Flag.LetStmt-mutable c.flag-b.ensures, flag_small c.args.typed Flag.LetStmt-typed c.flag-c.ensures)

pub overflow_add-result-2 : goal.overflow_add-result-2
overflow_add-result-2 c = omega (arith, flag_small c.args.comptime Flag.LetStmt-comptime c.flag-a.ensures, flag_small c.args.mutable Flag.LetStmt-mutable c.flag-b.ensures, flag_small c.args.typed Flag.LetStmt-typed c.flag-c.ensures)

pub returns : goal.returns
returns c = rw (c.flag-a.ensures, c.flag-b.ensures, c.flag-c.ensures)
