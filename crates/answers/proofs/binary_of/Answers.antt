-- `binary_of` meets its contract.
use mathlib.Core.Path.{◌∙◌}
use Rattle.definition.specs.Expressions.{binaries, binary_of}
use Rattle.answers.specs.Rules.{NoneOf, no-binary}
use Rattle.answers.proofs.binary_of.Goals as goal

pub returns-in-59 : goal.returns-in-59
unfolding binaries binary_of
returns-in-59 c = c.level.ensures ∙ rw c.in-59.is

pub returns-in-58 : goal.returns-in-58
unfolding binaries binary_of
returns-in-58 c = c.level-in-58.ensures ∙ rw c.in-58.is

pub returns-in-26 : goal.returns-in-26
unfolding binaries binary_of
returns-in-26 c = c.level-in-26.ensures ∙ rw c.in-26.is

pub returns-in-27 : goal.returns-in-27
unfolding binaries binary_of
returns-in-27 c = c.level-in-27.ensures ∙ rw c.in-27.is

pub returns-in-28 : goal.returns-in-28
unfolding binaries binary_of
returns-in-28 c = c.level-in-28.ensures ∙ rw c.in-28.is

pub returns-in-29 : goal.returns-in-29
unfolding binaries binary_of
returns-in-29 c = c.level-in-29.ensures ∙ rw c.in-29.is

pub returns-in-30 : goal.returns-in-30
unfolding binaries binary_of
returns-in-30 c = c.level-in-30.ensures ∙ rw c.in-30.is

pub returns-in-31 : goal.returns-in-31
unfolding binaries binary_of
returns-in-31 c = c.level-in-31.ensures ∙ rw c.in-31.is

pub returns-in-36 : goal.returns-in-36
unfolding binaries binary_of
returns-in-36 c = c.level-in-36.ensures ∙ rw c.in-36.is

pub returns-in-37 : goal.returns-in-37
unfolding binaries binary_of
returns-in-37 c = c.level-in-37.ensures ∙ rw c.in-37.is

pub returns-in-35 : goal.returns-in-35
unfolding binaries binary_of
returns-in-35 c = c.level-in-35.ensures ∙ rw c.in-35.is

pub returns-in-39 : goal.returns-in-39
unfolding binaries binary_of
returns-in-39 c = c.level-in-39.ensures ∙ rw c.in-39.is

pub returns-in-40 : goal.returns-in-40
unfolding binaries binary_of
returns-in-40 c = c.level-in-40.ensures ∙ rw c.in-40.is

pub returns-in-14 : goal.returns-in-14
unfolding binaries binary_of
returns-in-14 c = c.level-in-14.ensures ∙ rw c.in-14.is

pub returns-in-16 : goal.returns-in-16
unfolding binaries binary_of
returns-in-16 c = c.level-in-16.ensures ∙ rw c.in-16.is

pub returns-in-15 : goal.returns-in-15
unfolding binaries binary_of
returns-in-15 c = c.level-in-15.ensures ∙ rw c.in-15.is

pub returns-in-17 : goal.returns-in-17
unfolding binaries binary_of
returns-in-17 c = c.level-in-17.ensures ∙ rw c.in-17.is

pub returns-in-18 : goal.returns-in-18
unfolding binaries binary_of
returns-in-18 c = c.level-in-18.ensures ∙ rw c.in-18.is

pub returns-in-20 : goal.returns-in-20
unfolding binaries binary_of
returns-in-20 c = c.level-in-20.ensures ∙ rw c.in-20.is

pub returns-in-25 : goal.returns-in-25
unfolding binaries binary_of
returns-in-25 c = c.level-in-25.ensures ∙ rw c.in-25.is

pub returns-in-19 : goal.returns-in-19
unfolding binaries binary_of
returns-in-19 c = c.level-in-19.ensures ∙ rw c.in-19.is

pub returns-in-21 : goal.returns-in-21
unfolding binaries binary_of
returns-in-21 c = c.level-in-21.ensures ∙ rw c.in-21.is

pub returns-in-22 : goal.returns-in-22
unfolding binaries binary_of
returns-in-22 c = c.level-in-22.ensures ∙ rw c.in-22.is

pub returns-in-23 : goal.returns-in-23
unfolding binaries binary_of
returns-in-23 c = c.level-in-23.ensures ∙ rw c.in-23.is

pub returns-in-24 : goal.returns-in-24
unfolding binaries binary_of
returns-in-24 c = c.level-in-24.ensures ∙ rw c.in-24.is

pub returns-in_default : goal.returns-in_default
unfolding binaries NoneOf
returns-in_default c = let m = c.in_default.in_default-own.rest in no-binary binaries c.args.token (m.0.0.0.0.0.0.0.0.0.0.0.0.0.0.0.0.0.0.0.0.0.0.0.0.1, (m.0.0.0.0.0.0.0.0.0.0.0.0.0.0.0.0.0.0.0.0.0.0.0.1, (m.0.0.0.0.0.0.0.0.0.0.0.0.0.0.0.0.0.0.0.0.0.0.1, (m.0.0.0.0.0.0.0.0.0.0.0.0.0.0.0.0.0.0.0.0.0.1, (m.0.0.0.0.0.0.0.0.0.0.0.0.0.0.0.0.0.0.0.0.1, (m.0.0.0.0.0.0.0.0.0.0.0.0.0.0.0.0.0.0.0.1, (m.0.0.0.0.0.0.0.0.0.0.0.0.0.0.0.0.0.0.1, (m.0.0.0.0.0.0.0.0.0.0.0.0.0.0.0.0.0.1, (m.0.0.0.0.0.0.0.0.0.0.0.0.0.0.0.0.1, (m.0.0.0.0.0.0.0.0.0.0.0.0.0.0.0.1, (m.0.0.0.0.0.0.0.0.0.0.0.0.0.0.1, (m.0.0.0.0.0.0.0.0.0.0.0.0.0.1, (m.0.0.0.0.0.0.0.0.0.0.0.0.1, (m.0.0.0.0.0.0.0.0.0.0.0.1, (m.0.0.0.0.0.0.0.0.0.0.1, (m.0.0.0.0.0.0.0.0.0.1, (m.0.0.0.0.0.0.0.0.1, (m.0.0.0.0.0.0.0.1, (m.0.0.0.0.0.0.1, (m.0.0.0.0.0.1, (m.0.0.0.0.1, (m.0.0.0.1, (m.0.0.1, (m.0.1, (m.1, tt)))))))))))))))))))))))))
