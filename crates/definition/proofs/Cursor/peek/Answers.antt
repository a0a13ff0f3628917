-- `peek` meets its contract.
use mathlib.Core.Path.{sym, ◌∙◌, ap}
use Rattle.words.specs.Words.{token_kind}
use Rattle.definition.specs.Quiet.{kind-inside, kind-past, kind-over, word-inside}
use Rattle.definition.proofs.Cursor.peek.Goals as goal

pub returns-then-i-tokens : goal.returns-then-i-tokens
returns-then-i-tokens c = c.token_kind.ensures ∙ (ap token_kind (word-inside c.args.tokens.now _ c.if-i-tokens.true) ∙ sym (kind-inside _ _ c.if-at-self.true))

pub returns-else-i-tokens : goal.returns-else-i-tokens
returns-else-i-tokens c = kind-past _ _ c.if-i-tokens.false

pub returns-else-at-self : goal.returns-else-at-self
returns-else-at-self c = kind-over _ _ c.if-at-self.false
