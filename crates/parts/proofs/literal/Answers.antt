-- `literal` meets its contract.
use mathlib.Core.Path.{sym, ◌∙◌}
use Rattle.answers.specs.Rules.{or_some, or-none}
use Rattle.parts.proofs.literal.Goals as goal

pub returns-then-is_some : goal.returns-then-is_some
returns-then-is_some c = let h = sym c.is_some.ensures ∙ c.if-is_some.true in or_some c.boolean-yes.result h (or_some c.boolean-yes.result h c.boolean-yes.ensures)

pub returns-then-is_some-2 : goal.returns-then-is_some-2
returns-then-is_some-2 c = or_some c.num_literal-number.result (sym c.is_some-2.ensures ∙ c.if-is_some-2.true) (or-none c.boolean-yes.result (sym c.is_some.ensures ∙ c.if-is_some.false) c.boolean-yes.ensures c.num_literal-number.ensures)

pub returns : goal.returns
returns c = or-none c.num_literal-number.result (sym c.is_some-2.ensures ∙ c.if-is_some-2.false) (or-none c.boolean-yes.result (sym c.is_some.ensures ∙ c.if-is_some.false) c.boolean-yes.ensures c.num_literal-number.ensures) c.try_parse_string_literal.ensures
