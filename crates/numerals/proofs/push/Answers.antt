-- `push` meets its contract, by case.
use Rattle.numerals.specs.Numbers.{pushed-same, pushed-full, pushed_more}
use Rattle.std.proofs.Common.{rules}
use Rattle.numerals.proofs.push.Goals as goal

pub returns-then-carry-eq0 : goal.returns-then-carry-eq0
returns-then-carry-eq0 c = pushed-same _ _ _ _ c.requires _ _ c.times-carry.ensures c.if-carry-eq0.true

pub returns-then-room-n : goal.returns-then-room-n
returns-then-room-n c = pushed-full _ _ _ _ c.requires _ _ c.times-carry.ensures c.if-carry-eq0.false (search rules) c.if-room-n.true

pub returns : goal.returns
returns c = pushed_more _ _ _ _ c.requires _ _ c.times-carry.ensures c.if-carry-eq0.false (search rules) c.if-room-n.false
