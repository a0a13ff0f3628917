-- `utf8::sequence_at` meets its contract: each arm says which row has the byte, or that none has.
use mathlib.Core.Path.{refl, sym, ◌∙◌}
use native.Mathlib.Omega.{arith}
use Rattle.utf8.specs.Utf8.{table, follow}
use Rattle.utf8.proofs.Table.{in_row, no_row}
use Rattle.utf8.proofs.sequence_at.Goals as goal

pub returns-in-0-to-127 : goal.returns-in-0-to-127
unfolding table follow
returns-in-0-to-127 c = sym (in_row _ _ 0 table _ _ refl refl (omega arith) (omega arith))

pub returns-in-128-to-193 : goal.returns-in-128-to-193
unfolding table
returns-in-128-to-193 c = sym (no_row _ _ 0x80 0xC1 1 table refl refl (omega arith) (omega arith))

pub returns-in-194-to-223 : goal.returns-in-194-to-223
unfolding table
returns-in-194-to-223 c = c.following-in-194-to-223.ensures ∙ sym (in_row _ _ 1 table _ _ refl refl (omega arith) (omega arith))

pub returns-in-224 : goal.returns-in-224
unfolding table
returns-in-224 c = c.following.ensures ∙ sym (in_row _ _ 2 table _ _ refl refl (omega arith) (omega arith))

pub returns-in-225-to-236 : goal.returns-in-225-to-236
unfolding table
returns-in-225-to-236 c = c.following-in-225-to-236.ensures ∙ sym (in_row _ _ 3 table _ _ refl refl (omega arith) (omega arith))

pub returns-in-237 : goal.returns-in-237
unfolding table
returns-in-237 c = c.following-in-237.ensures ∙ sym (in_row _ _ 4 table _ _ refl refl (omega arith) (omega arith))

pub returns-in-238-to-239 : goal.returns-in-238-to-239
unfolding table
returns-in-238-to-239 c = c.following-in-238-to-239.ensures ∙ sym (in_row _ _ 5 table _ _ refl refl (omega arith) (omega arith))

pub returns-in-240 : goal.returns-in-240
unfolding table
returns-in-240 c = c.following-in-240.ensures ∙ sym (in_row _ _ 6 table _ _ refl refl (omega arith) (omega arith))

pub returns-in-241-to-243 : goal.returns-in-241-to-243
unfolding table
returns-in-241-to-243 c = c.following-in-241-to-243.ensures ∙ sym (in_row _ _ 7 table _ _ refl refl (omega arith) (omega arith))

pub returns-in-244 : goal.returns-in-244
unfolding table
returns-in-244 c = c.following-in-244.ensures ∙ sym (in_row _ _ 8 table _ _ refl refl (omega arith) (omega arith))

pub returns-in_default : goal.returns-in_default
unfolding table
returns-in_default c = let byte = c.type_inv.text c.args.at in sym (no_row _ _ 0xF5 0xFF 9 table refl refl (omega arith) (omega arith))
