-- `operator_at` meets its contract: by the state after its next byte.
use mathlib.Core.Path.{sym, ◌∙◌}
use native.Mathlib.Omega.{arith}
use Rattle.rules.proofs.Steps.{operator-line, alone-here, pair-here, pair-later}
use Rattle.tables.proofs.Tables.operator_at.Goals as goal

pub kind_of-requires : goal.kind_of-requires
kind_of-requires c = let l = operator-line c.args.first c.requires.3 in (omega (arith, l.low), omega (arith, l.high))

pub returns-then-n-eq-STOP : goal.returns-then-n-eq-STOP
returns-then-n-eq-STOP c = alone-here _ _ c.requires.1 _ c.requires.2 c.requires.3 _ c.second-n.ensures.0 _ c.if-n-eq-STOP.true c.kind_of.ensures

pub returns-then-kind-ne-EOF : goal.returns-then-kind-ne-EOF
returns-then-kind-ne-EOF c = pair-here _ _ c.requires.1 _ c.requires.2 c.requires.3 _ c.second-n.ensures.0 c.if-n-eq-STOP.false c.second-n.ensures.3 _ c.kind_of-kind.ensures c.if-kind-ne-EOF.true

pub special-comment-requires : goal.special-comment-requires
special-comment-requires c = let inside = c.second-n.ensures.4 c.if-n-eq-STOP.false in (c.requires.0, c.requires.1, omega arith, omega (arith, inside), sym c.kind_of-kind.ensures ∙ c.if-kind-ne-EOF.false, λ e. omega arith)

pub returns : goal.returns
returns c = pair-later _ _ c.requires.1 _ c.requires.2 c.requires.3 _ c.second-n.ensures.0 c.if-n-eq-STOP.false c.second-n.ensures.3 _ c.special-comment.ensures
