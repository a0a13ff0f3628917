-- The sequence at an offset of a text: what a walk of the text and a look at it find there.
use mathlib.Core.Path.{◌≡◌}
use mathlib.Core.List.{List, ◌∷◌}
use Prim.Native.Nat.{ℕ, ◌+◌, ◌≤◌, ◌<◌}
use native.Mathlib.Numerals.{add-one}
use native.Mathlib.Omega.{arith}
use lib.ListN.{length, get_or, take, drop, length-drop}
use lib.Seq.{drop-cons, drop-drop}
use Rattle.utf8.specs.Utf8.{Sequence, bad, character, sequence, checked_from, character_at, code_point}
use Rattle.utf8.specs.Laws.{right-fits, checked-right, checked-wrong, character-right, character-wrong}
use Rattle.std.specs.declared.result.Result.TheVariants.{Ok, Err}
use Rattle.std.specs.Prelude.{Some, None}
use Rattle.utf8.specs.declared.Way.{Way}

abbrev pub sequence_at : List ℕ → ℕ → Sequence
sequence_at t at = sequence (get_or t at 0) (drop (at + 1) t)

pub record Fits (t : List ℕ) (at n : ℕ) : Type 0 where
  pub within : at + n ≤ length t
  pub some : 1 ≤ n
  pub four : n ≤ 4

module _ (t : List ℕ) (at : ℕ) (h : at < length t) where
  front : drop at t ≡ get_or t at 0 ∷ drop (at + 1) t
  front = rw (add-one, drop-cons t at 0)

  module _ (n : ℕ) (e : sequence_at t at ≡ Ok n) where
    pub fits : Fits t at n
    fits =
        let f = right-fits (get_or t at 0) (drop (at + 1) t) n e in
        omega (arith, length-drop (at + 1) t)

    pub walk-right : checked_from at 0 (drop at t) ≡ checked_from (at + n) 0 (drop (at + n) t)
    walk-right =
        rw (← drop-drop n at t, front)
        (checked-right at (get_or t at 0) (drop (at + 1) t) n e)

    pub look-right : character_at (drop at t) ≡ Some (character (code_point (take n (drop at t))) n)
    look-right = rw front (character-right (get_or t at 0) (drop (at + 1) t) n e)

  module _ (w : Way) (e : sequence_at t at ≡ Err w) where
    pub walk-wrong : checked_from at 0 (drop at t) ≡ bad w at
    walk-wrong = rw front (checked-wrong at (get_or t at 0) (drop (at + 1) t) w e)

    pub look-wrong : character_at (drop at t) ≡ None
    look-wrong = rw front (character-wrong (get_or t at 0) (drop (at + 1) t) w e)
