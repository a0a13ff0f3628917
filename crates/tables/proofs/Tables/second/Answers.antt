-- `second` meets its contract: blanks and the bytes of names end every operator.
use mathlib.Core.Path.{refl}
use Rattle.rules.proofs.Steps.{second-over, second-alone, second-next, operator-line}
use Rattle.tables.proofs.Tables.second.Goals as goal

pub returns-then-text-at : goal.returns-then-text-at
returns-then-text-at c = second-over _ _ _ c.if-text-at.true

pub returns-then-class-le58 : goal.returns-then-class-le58
returns-then-class-le58 c = second-alone _ _ _ _ c.if-text-at.false refl c.class.ensures.1 c.requires _ c.class.ensures.0 c.if-class-le58.true

pub next-requires : goal.next-requires
next-requires c = let l = operator-line c.args.state c.requires in (l.low, l.high)

pub returns : goal.returns
returns c = second-next _ _ _ _ c.if-text-at.false refl c.class.ensures.1 c.requires _ c.next.ensures.0 c.next.ensures.1 c.next.ensures.2
