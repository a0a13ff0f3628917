-- The part of a slice from an offset on, as it is lent, and what stands behind it.
use Rattle.std.specs.Prelude.{◌≡◌, List, [], ℕ, ◌-◌, length, take, drop}
use Rattle.std.proofs.Common.{arith, length-drop, drop_of_length-le, take_all}

pub part-whole : (a : ℕ) (vs : List ℕ) → take (length vs - a) (drop a vs) ≡ drop a vs
part-whole a vs = take_all (length vs - a) (drop a vs) (omega (arith, length-drop a vs))

pub part-rest : (a : ℕ) (vs : List ℕ) → drop (length vs - a) (drop a vs) ≡ []
part-rest a vs = drop_of_length-le (drop a vs) {i = length vs - a} (omega (arith, length-drop a vs))
