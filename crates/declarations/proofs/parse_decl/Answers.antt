-- `parse_decl` meets its contract.
use Rattle.std.proofs.Common.{arith}
use Rattle.definition.specs.Declarations.{no_decl}
use Rattle.definition.specs.Tokens.{skip_until_decl_start}
use Rattle.reading.specs.Does.{then}
use Rattle.cst.specs.Laws.{position-is}
use Rattle.answers.specs.Same.{regrouped, taken_none}
use Rattle.declarations.specs.Decls.{decl_ways, decl-same}
use Rattle.declarations.proofs.parse_decl.Goals as goal

pub returns-in-0 : goal.returns-in-0
returns-in-0 c = regrouped decl-same (then position-is (then c.eat_first.ensures (rw c.in-0.is c.block.ensures)))

pub returns-in-1 : goal.returns-in-1
returns-in-1 c = regrouped decl-same (then position-is (then c.eat_first.ensures (rw c.in-1.is c.block-in-1.ensures)))

pub returns-in-2 : goal.returns-in-2
returns-in-2 c = regrouped decl-same (then position-is (then c.eat_first.ensures (rw c.in-2.is c.parse_const_decl.ensures)))

pub returns-in-3 : goal.returns-in-3
returns-in-3 c = regrouped decl-same (then position-is (then c.eat_first.ensures (rw c.in-3.is c.public_decl.ensures)))

pub returns-in-4 : goal.returns-in-4
returns-in-4 c = regrouped decl-same (then position-is (then c.eat_first.ensures (rw c.in-4.is c.parse_import_decl.ensures)))

pub returns-in_default : goal.returns-in_default
returns-in_default c = regrouped decl-same (then position-is (then c.eat_first.ensures (rw (taken_none (decl_ways c.args.p.now.state.cursor.at) (no_decl c.args.p.now.state.cursor.at skip_until_decl_start) c.eat_first.result (omega (arith, c.in_default.in_default-own.rest.1, c.in_default.in_default-own.rest.0.1, c.in_default.in_default-own.rest.0.0.1, c.in_default.in_default-own.rest.0.0.0.1, c.in_default.in_default-own.rest.0.0.0.0.1))) c.no_decl.ensures)))
