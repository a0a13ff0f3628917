-- Lists of bytes.
use Rattle.std.specs.Prelude.{List, [], ◌∷◌, ◌++◌, ℕ, zero, suc, ◌<◌, take, drop}

-- All of a list are bytes.
abbrev pub AreBytes : List ℕ → Type 0
AreBytes [] = Unit {0}
AreBytes (b ∷ s) = (b < 256) × AreBytes s

pub are-bytes-append : (a b : List ℕ) → AreBytes a → AreBytes b → AreBytes (a ++ b)
are-bytes-append [] b h g = g
are-bytes-append (x ∷ a) b h g = (h.0, are-bytes-append a b h.1 g)

pub are-bytes-drop : (n : ℕ) (s : List ℕ) → AreBytes s → AreBytes (drop n s)
are-bytes-drop zero s h = h
are-bytes-drop (suc n) [] h = tt
are-bytes-drop (suc n) (b ∷ s) h = are-bytes-drop n s h.1

pub are-bytes-take : (n : ℕ) (s : List ℕ) → AreBytes s → AreBytes (take n s)
are-bytes-take zero s h = tt
are-bytes-take (suc n) [] h = tt
are-bytes-take (suc n) (b ∷ s) h = (h.0, are-bytes-take n s h.1)
