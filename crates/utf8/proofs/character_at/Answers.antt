-- `utf8::character_at` meets its contract: what `sequence_at` found at the offset says which character is there.
use mathlib.Core.Path.{sym, ap, ◌∙◌}
use lib.ListN.{drop_of_length-le}
use Rattle.utf8.specs.Utf8.{character_at}
use Rattle.utf8.proofs.Walk.{fits, look-right, look-wrong}
use Rattle.utf8.proofs.character_at.Goals as goal

-- `utf8::character_at` meets its contract: what `sequence_at` found at the offset says which character is there.
-- Assumes nothing.
pub returns-then-text-at : goal.returns-then-text-at
unfolding character_at
returns-then-text-at c = sym (ap character_at (drop_of_length-le c.args.text.now c.if-text-at.true))

pub code_point-requires : goal.code_point-requires
code_point-requires c = let f = fits c.args.text.now c.args.at c.if-text-at.false c.in-Ok.length (sym c.sequence_at.ensures ∙ c.in-Ok.is) in (f.within, f.some, f.four)

pub returns-in_default : goal.returns-in_default
returns-in_default c = sym (look-wrong _ _ c.if-text-at.false _ (sym c.sequence_at.ensures ∙ c.in_default.is))

pub returns : goal.returns
returns c = rw c.code_point.ensures (sym (look-right _ _ c.if-text-at.false _ (sym c.sequence_at.ensures ∙ c.in-Ok.is)))
