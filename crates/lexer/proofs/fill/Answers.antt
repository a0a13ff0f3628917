-- `fill` meets its contract: the mark's word and those of the tokens behind it make the words of all tokens.
use native.Mathlib.Omega.{arith}
use Rattle.lexer.specs.Walk.{mark-inside, filled}
use Rattle.lexer.proofs.fill.Goals as goal

pub overflow_mul-first : goal.overflow_mul-first
overflow_mul-first g c = omega (arith, mark-inside _ _ c.put_mark-first.ensures.0, c.requires.short)

pub fill_from-requires-clause-bounds : goal.fill_from-requires-clause-bounds
fill_from-requires-clause-bounds g c = (c.requires.short, mark-inside _ _ c.put_mark-first.ensures.0, omega arith)

pub returns : goal.returns
returns g c = filled _ _ _ _ _ _ c.put_mark-first.ensures c.fill_from.ensures
