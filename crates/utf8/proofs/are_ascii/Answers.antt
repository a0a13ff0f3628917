-- `utf8::are_ascii` meets its contract.
use mathlib.Core.Bool.{true≢false}
use mathlib.Core.Path.{sym}
use native.Mathlib.Omega.{arith}
use borrow.Author.Tests.{ltb-true}
use Rattle.utf8.specs.Ascii.{eight}
use Rattle.utf8.proofs.are_ascii.Goals as goal

pub returns-then-text-at-lt8 : goal.returns-then-text-at-lt8
returns-then-text-at-lt8 c = λ e. absurd (true≢false (sym e))

pub returns : goal.returns
returns c = λ e. eight _ _ (omega (arith, c.if-text-at-lt8.false)) (ltb-true _ _ e)
