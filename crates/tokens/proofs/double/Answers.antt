-- `double` meets its contract: at each two bytes the table is computed.
use native.Mathlib.Omega.{arith}
use mathlib.Core.Path.{refl}
use Rattle.scan.specs.Bytes.{ascii}
use Rattle.scan.specs.Lexer.{punctuation}
use Rattle.scan.specs.Longest.{end, next}
use Rattle.tokens.specs.Pairs.{double-at, double-none, double-other}
use Rattle.tokens.proofs.double.Goals as goal

pub returns-in-58-eq58 : goal.returns-in-58-eq58
unfolding punctuation
returns-in-58-eq58 c = double-at 58 58 _ _ _ c.in-58-eq58.is-0 c.in-58-eq58.is-1 refl

pub returns-in-61-eq62 : goal.returns-in-61-eq62
unfolding punctuation
returns-in-61-eq62 c = double-at 61 62 _ _ _ c.in-61-eq62.is-0 c.in-61-eq62.is-1 refl

pub returns-in-61-eq61 : goal.returns-in-61-eq61
unfolding punctuation
returns-in-61-eq61 c = double-at 61 61 _ _ _ c.in-61-eq61.is-0 c.in-61-eq61.is-1 refl

pub returns-in-43-eq37 : goal.returns-in-43-eq37
unfolding punctuation
returns-in-43-eq37 c = double-at 43 37 _ _ _ c.in-43-eq37.is-0 c.in-43-eq37.is-1 refl

pub returns-in-43-eq47 : goal.returns-in-43-eq47
unfolding punctuation
returns-in-43-eq47 c = double-at 43 47 _ _ _ c.in-43-eq47.is-0 c.in-43-eq47.is-1 refl

pub returns-in-45-eq37 : goal.returns-in-45-eq37
unfolding punctuation
returns-in-45-eq37 c = double-at 45 37 _ _ _ c.in-45-eq37.is-0 c.in-45-eq37.is-1 refl

pub returns-in-45-eq47 : goal.returns-in-45-eq47
unfolding punctuation
returns-in-45-eq47 c = double-at 45 47 _ _ _ c.in-45-eq47.is-0 c.in-45-eq47.is-1 refl

pub returns-in-42-eq37 : goal.returns-in-42-eq37
unfolding punctuation
returns-in-42-eq37 c = double-at 42 37 _ _ _ c.in-42-eq37.is-0 c.in-42-eq37.is-1 refl

pub returns-in-60-eq60 : goal.returns-in-60-eq60
unfolding punctuation
returns-in-60-eq60 c = double-at 60 60 _ _ _ c.in-60-eq60.is-0 c.in-60-eq60.is-1 refl

pub returns-in-60-eq47 : goal.returns-in-60-eq47
unfolding punctuation
returns-in-60-eq47 c = double-at 60 47 _ _ _ c.in-60-eq47.is-0 c.in-60-eq47.is-1 refl

pub returns-in-60-eq61 : goal.returns-in-60-eq61
unfolding punctuation
returns-in-60-eq61 c = double-at 60 61 _ _ _ c.in-60-eq61.is-0 c.in-60-eq61.is-1 refl

pub returns-in-62-eq62 : goal.returns-in-62-eq62
unfolding punctuation
returns-in-62-eq62 c = double-at 62 62 _ _ _ c.in-62-eq62.is-0 c.in-62-eq62.is-1 refl

pub returns-in-62-eq47 : goal.returns-in-62-eq47
unfolding punctuation
returns-in-62-eq47 c = double-at 62 47 _ _ _ c.in-62-eq47.is-0 c.in-62-eq47.is-1 refl

pub returns-in-62-eq61 : goal.returns-in-62-eq61
unfolding punctuation
returns-in-62-eq61 c = double-at 62 61 _ _ _ c.in-62-eq61.is-0 c.in-62-eq61.is-1 refl

pub returns-in-33-eq61 : goal.returns-in-33-eq61
unfolding punctuation
returns-in-33-eq61 c = double-at 33 61 _ _ _ c.in-33-eq61.is-0 c.in-33-eq61.is-1 refl

pub returns-in-38-eq38 : goal.returns-in-38-eq38
unfolding punctuation
returns-in-38-eq38 c = double-at 38 38 _ _ _ c.in-38-eq38.is-0 c.in-38-eq38.is-1 refl

pub returns-in-124-eq124 : goal.returns-in-124-eq124
unfolding punctuation
returns-in-124-eq124 c = double-at 124 124 _ _ _ c.in-124-eq124.is-0 c.in-124-eq124.is-1 refl

pub returns-in_default : goal.returns-in_default
unfolding punctuation
returns-in_default c = double-other 58 (ascii ":") _ _ c.in_default.is-0 refl (next (omega arith) end)

pub returns-in_default-2 : goal.returns-in_default-2
unfolding punctuation
returns-in_default-2 c = double-other 61 (ascii ">=") _ _ c.in_default.is-0 refl (next (omega arith) (next (omega arith) end))

pub returns-in_default-3 : goal.returns-in_default-3
unfolding punctuation
returns-in_default-3 c = double-other 43 (ascii "%/") _ _ c.in_default.is-0 refl (next (omega arith) (next (omega arith) end))

pub returns-in_default-4 : goal.returns-in_default-4
unfolding punctuation
returns-in_default-4 c = double-other 45 (ascii "%/") _ _ c.in_default.is-0 refl (next (omega arith) (next (omega arith) end))

pub returns-in_default-5 : goal.returns-in_default-5
unfolding punctuation
returns-in_default-5 c = double-other 42 (ascii "%") _ _ c.in_default.is-0 refl (next (omega arith) end)

pub returns-in_default-6 : goal.returns-in_default-6
unfolding punctuation
returns-in_default-6 c = double-other 60 (ascii "</=") _ _ c.in_default.is-0 refl (next (omega arith) (next (omega arith) (next (omega arith) end)))

pub returns-in_default-7 : goal.returns-in_default-7
unfolding punctuation
returns-in_default-7 c = double-other 62 (ascii ">/=") _ _ c.in_default.is-0 refl (next (omega arith) (next (omega arith) (next (omega arith) end)))

pub returns-in_default-8 : goal.returns-in_default-8
unfolding punctuation
returns-in_default-8 c = double-other 33 (ascii "=") _ _ c.in_default.is-0 refl (next (omega arith) end)

pub returns-in_default-9 : goal.returns-in_default-9
unfolding punctuation
returns-in_default-9 c = double-other 38 (ascii "&") _ _ c.in_default.is-0 refl (next (omega arith) end)

pub returns-in_default-10 : goal.returns-in_default-10
unfolding punctuation
returns-in_default-10 c = double-other 124 (ascii "|") _ _ c.in_default.is-0 refl (next (omega arith) end)

pub returns-in_default-11 : goal.returns-in_default-11
unfolding punctuation
returns-in_default-11 c = double-none (ascii ":=+-*<>!&|") c.args.b c.args.next refl (next (omega arith) (next (omega arith) (next (omega arith) (next (omega arith) (next (omega arith) (next (omega arith) (next (omega arith) (next (omega arith) (next (omega arith) (next (omega arith) end))))))))))
