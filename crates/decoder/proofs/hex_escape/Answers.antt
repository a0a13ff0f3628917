-- `hex_escape` meets its contract, by case.
use mathlib.Core.Path.{refl}
use Rattle.decoder.specs.Pieces.{told, no-escape, cut-x, cut-x-one, cut-no-digit, cut-no-second, cut-digits}
use Rattle.decoder.proofs.hex_escape.Goals as goal
use Rattle.decoder.proofs.hex_escape.Goals.{in_default-via-in-Some+in_default, in_default-via-in_default}

pub returns-then-w-j : goal.returns-then-w-j
returns-then-w-j c = told _ _ _ c.reported.result.event _ _ _ (cut-x _ _ _ c.requires.1.at _ _ c.requires.1.then no-escape refl c.if-w-j.true) c.reported.ensures

pub returns-then-w-k : goal.returns-then-w-k
returns-then-w-k c = told _ _ _ c.reported-then-w-k.result.event _ _ _ (cut-x-one _ _ _ c.requires.1.at _ _ c.requires.1.then no-escape refl _ _ c.char_at-first.ensures c.if-w-k.true) c.reported-then-w-k.ensures

pub returns-in-Some-Some : goal.returns-in-Some-Some
returns-in-Some-Some c = cut-digits _ _ _ c.requires.1.at _ _ c.requires.1.then no-escape refl _ _ c.char_at-first.ensures _ _ c.char_at-second.ensures _ (rw c.in-Some-Some.is-0 at c.nibble.ensures.0) _ (rw c.in-Some-Some.is-1 at c.nibble-2.ensures.0) (rw c.in-Some-Some.is-0 at c.nibble.ensures.1) (rw c.in-Some-Some.is-1 at c.nibble-2.ensures.1)

pub returns-in_default : goal.returns-in_default
returns-in_default c =
    elim c.in_default.branch [
      | in_default-via-in-Some+in_default w ↦ told _ _ _ c.reported-in_default.result.event _ _ _ (cut-no-second _ _ _ c.requires.1.at _ _ c.requires.1.then no-escape refl _ _ c.char_at-first.ensures _ _ c.char_at-second.ensures _ c.nibble.ensures.0 (rw w.in_default.is-1 at c.nibble-2.ensures.0)) c.reported-in_default.ensures
      | in_default-via-in_default w ↦ told _ _ _ c.reported-in_default.result.event _ _ _ (cut-no-digit _ _ _ c.requires.1.at _ _ c.requires.1.then no-escape refl _ _ c.char_at-first.ensures _ _ c.char_at-second.ensures (rw w.in_default.is-0 at c.nibble.ensures.0)) c.reported-in_default.ensures
    ]
