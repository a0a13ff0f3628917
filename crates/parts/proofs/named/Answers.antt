-- `named` meets its contract.
use mathlib.Core.Path.{sym, ◌∙◌}
use Rattle.answers.specs.Rules.{or_some, or-none}
use Rattle.parts.proofs.named.Goals as goal

pub returns-then-is_some : goal.returns-then-is_some
returns-then-is_some c = let h = sym c.is_some.ensures ∙ c.if-is_some.true in or_some c.eat_as-own.result h (or_some c.eat_as-own.result h c.eat_as-own.ensures)

pub returns-then-is_some-2 : goal.returns-then-is_some-2
returns-then-is_some-2 c = or_some c.try_parse_ident-name.result (sym c.is_some-2.ensures ∙ c.if-is_some-2.true) (or-none c.eat_as-own.result (sym c.is_some.ensures ∙ c.if-is_some.false) c.eat_as-own.ensures c.try_parse_ident-name.ensures)

pub returns : goal.returns
returns c = or-none c.try_parse_ident-name.result (sym c.is_some-2.ensures ∙ c.if-is_some-2.false) (or-none c.eat_as-own.result (sym c.is_some.ensures ∙ c.if-is_some.false) c.eat_as-own.ensures c.try_parse_ident-name.ensures) c.try_parse_builtin_name.ensures
