-- `parse` meets its contract: too long a text is refused, any other is parsed, as it is or with a table.
use Rattle.std.proofs.Common.{◌∙◌}
use Rattle.parser.specs.Answers.{text-long, text-short}
use Rattle.parser.specs.Texts.{text-parsed}
use Rattle.parser.proofs.parse.Goals as goal

pub returns-then-text-gt-LONGEST_TEXT : goal.returns-then-text-gt-LONGEST_TEXT
returns-then-text-gt-LONGEST_TEXT c = rw (c.clear-then-text-gt-LONGEST_TEXT-2.ensures, c.clear-then-text-gt-LONGEST_TEXT.ensures, c.clear.ensures) (text-long _ _ _ _ _ _ c.at.ensures.0 c.at.ensures.1 c.if-text-gt-LONGEST_TEXT.true)

pub returns-then-tokens-le-FEW_TOKENS : goal.returns-then-tokens-le-FEW_TOKENS
returns-then-tokens-le-FEW_TOKENS c = text-parsed _ _ _ _ _ c.if-text-gt-LONGEST_TEXT.false c.parse_source.ensures ∙ text-short _ _ _ _ _ c.if-text-gt-LONGEST_TEXT.false

pub returns-then-text-le-SHORT_TEXT : goal.returns-then-text-le-SHORT_TEXT
returns-then-text-le-SHORT_TEXT c = c.parse_with_table.ensures ∙ text-short _ _ _ _ _ c.if-text-gt-LONGEST_TEXT.false

pub returns : goal.returns
returns c = c.parse_with_table-2.ensures ∙ text-short _ _ _ _ _ c.if-text-gt-LONGEST_TEXT.false
