-- `parse_source` meets its contract: reading begins at words that are 0, and what it comes to is the definition's answer.
use Rattle.std.specs.Prelude.{refl, length}
use Rattle.std.proofs.Common.{rules}
use Rattle.parser.specs.Answers.{lent, cleared, read, refuses}
use Rattle.parser.proofs.parse_source.Goals as goal

pub returns-in-Some : goal.returns-in-Some
returns-in-Some c = λ right. lent (cleared c.parse_file.new.p.nodes.now (search rules) c.clear-in-Some.ensures (search rules)) (cleared c.parse_file.new.p.values.now (search rules) c.clear-in-Some-2.ensures (search rules)) (cleared c.parse_file.new.p.reports.now (search rules) c.clear-in-Some-3.ensures (search rules)) (refuses (length c.args.nodes.now) (length c.args.values.now) (length c.args.reports.now) refl c.begin.ensures refl (rw (c.clear.ensures, c.clear-2.ensures, c.clear-3.ensures) refl) c.parse_file.ensures right c.in-Some.is)

pub returns : goal.returns
returns c = λ right. lent (search rules) (search rules) (search rules) (read (length c.args.nodes.now) (length c.args.values.now) (length c.args.reports.now) refl c.begin.ensures refl (rw (c.clear.ensures, c.clear-2.ensures, c.clear-3.ensures) refl) c.parse_file.ensures right c.in_default.is)
