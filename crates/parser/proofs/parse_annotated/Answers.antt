-- `parse_annotated` meets its contract: a source that was made stands for the text.
use Rattle.parser.specs.Texts.{source-parsed, text-parsed}
use Rattle.parser.proofs.parse_annotated.Goals as goal

pub returns-then-made : goal.returns-then-made
returns-then-made c = source-parsed _ _ _ _ _ _ (c.requires.1 c.if-made.true) c.parse_source.ensures

pub returns : goal.returns
returns c = text-parsed _ _ _ _ _ c.requires.0 c.parse_source-2.ensures
