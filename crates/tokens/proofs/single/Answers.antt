-- `single` meets its contract: at each byte the table is computed.
use native.Mathlib.Omega.{arith}
use mathlib.Core.Path.{refl}
use Rattle.scan.specs.Bytes.{ascii}
use Rattle.scan.specs.Lexer.{punctuation}
use Rattle.scan.specs.Longest.{end, next}
use Rattle.tokens.specs.Pairs.{single-at, single-none}
use Rattle.tokens.proofs.single.Goals as goal

pub returns-in-59 : goal.returns-in-59
unfolding punctuation
returns-in-59 c = single-at 59 _ _ c.in-59.is refl

pub returns-in-44 : goal.returns-in-44
unfolding punctuation
returns-in-44 c = single-at 44 _ _ c.in-44.is refl

pub returns-in-58 : goal.returns-in-58
unfolding punctuation
returns-in-58 c = single-at 58 _ _ c.in-58.is refl

pub returns-in-46 : goal.returns-in-46
unfolding punctuation
returns-in-46 c = single-at 46 _ _ c.in-46.is refl

pub returns-in-36 : goal.returns-in-36
unfolding punctuation
returns-in-36 c = single-at 36 _ _ c.in-36.is refl

pub returns-in-123 : goal.returns-in-123
unfolding punctuation
returns-in-123 c = single-at 123 _ _ c.in-123.is refl

pub returns-in-125 : goal.returns-in-125
unfolding punctuation
returns-in-125 c = single-at 125 _ _ c.in-125.is refl

pub returns-in-40 : goal.returns-in-40
unfolding punctuation
returns-in-40 c = single-at 40 _ _ c.in-40.is refl

pub returns-in-41 : goal.returns-in-41
unfolding punctuation
returns-in-41 c = single-at 41 _ _ c.in-41.is refl

pub returns-in-91 : goal.returns-in-91
unfolding punctuation
returns-in-91 c = single-at 91 _ _ c.in-91.is refl

pub returns-in-93 : goal.returns-in-93
unfolding punctuation
returns-in-93 c = single-at 93 _ _ c.in-93.is refl

pub returns-in-61 : goal.returns-in-61
unfolding punctuation
returns-in-61 c = single-at 61 _ _ c.in-61.is refl

pub returns-in-43 : goal.returns-in-43
unfolding punctuation
returns-in-43 c = single-at 43 _ _ c.in-43.is refl

pub returns-in-45 : goal.returns-in-45
unfolding punctuation
returns-in-45 c = single-at 45 _ _ c.in-45.is refl

pub returns-in-42 : goal.returns-in-42
unfolding punctuation
returns-in-42 c = single-at 42 _ _ c.in-42.is refl

pub returns-in-47 : goal.returns-in-47
unfolding punctuation
returns-in-47 c = single-at 47 _ _ c.in-47.is refl

pub returns-in-37 : goal.returns-in-37
unfolding punctuation
returns-in-37 c = single-at 37 _ _ c.in-37.is refl

pub returns-in-60 : goal.returns-in-60
unfolding punctuation
returns-in-60 c = single-at 60 _ _ c.in-60.is refl

pub returns-in-62 : goal.returns-in-62
unfolding punctuation
returns-in-62 c = single-at 62 _ _ c.in-62.is refl

pub returns-in-33 : goal.returns-in-33
unfolding punctuation
returns-in-33 c = single-at 33 _ _ c.in-33.is refl

pub returns-in-38 : goal.returns-in-38
unfolding punctuation
returns-in-38 c = single-at 38 _ _ c.in-38.is refl

pub returns-in-124 : goal.returns-in-124
unfolding punctuation
returns-in-124 c = single-at 124 _ _ c.in-124.is refl

pub returns-in-94 : goal.returns-in-94
unfolding punctuation
returns-in-94 c = single-at 94 _ _ c.in-94.is refl

pub returns-in-126 : goal.returns-in-126
unfolding punctuation
returns-in-126 c = single-at 126 _ _ c.in-126.is refl

pub returns-in_default : goal.returns-in_default
unfolding punctuation
returns-in_default c = single-none (ascii ";,:.${}()[]=+-*/%<>!&|^~") c.args.b refl (next (omega arith) (next (omega arith) (next (omega arith) (next (omega arith) (next (omega arith) (next (omega arith) (next (omega arith) (next (omega arith) (next (omega arith) (next (omega arith) (next (omega arith) (next (omega arith) (next (omega arith) (next (omega arith) (next (omega arith) (next (omega arith) (next (omega arith) (next (omega arith) (next (omega arith) (next (omega arith) (next (omega arith) (next (omega arith) (next (omega arith) (next (omega arith) end))))))))))))))))))))))))
