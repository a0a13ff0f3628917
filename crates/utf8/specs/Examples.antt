-- The worked examples of RFC 3629, section 7, and texts that its sections 3, 4 and 10 rule out.
use Rattle.std.specs.Prelude.{◌≡◌, refl, List, [], ◌∷◌, ℕ, zero, suc, ◌-◌, Some, None}
use Rattle.std.specs.declared.result.Result.TheVariants.{Ok}
use Rattle.utf8.specs.Utf8.{Checked, bad, has, follow, sequence_by, table, checked_from, checked, lead_bits, joined, code_point, character_at}
use Rattle.utf8.specs.declared.Way.TheVariants.{NoStart, NotAllowed, Cut}

-- The code points of a text whose first `skip` bytes belong to a character that was read, up to what is no character.
characters_from : ℕ → List ℕ → List ℕ
characters_from skip [] = []
characters_from (suc skip) (b ∷ s) = characters_from skip s
characters_from zero (b ∷ s) = elim (character_at (b ∷ s)) [ Some c ↦ c.code_point ∷ characters_from (c.length - 1) s | None ↦ [] ]

found : List ℕ → Checked × List ℕ
unfolding has follow sequence_by table checked_from lead_bits joined code_point character_at characters_from
found s = (checked s, characters_from 0 s)

-- "A<NOT IDENTICAL TO><ALPHA>."
not-identical : found (0x41 ∷ 0xE2 ∷ 0x89 ∷ 0xA2 ∷ 0xCE ∷ 0x91 ∷ 0x2E ∷ []) ≡ (Ok tt, 0x41 ∷ 0x2262 ∷ 0x391 ∷ 0x2E ∷ [])
unfolding found
not-identical = refl

-- the Korean "hangugeo"
hangugeo : found (0xED ∷ 0x95 ∷ 0x9C ∷ 0xEA ∷ 0xB5 ∷ 0xAD ∷ 0xEC ∷ 0x96 ∷ 0xB4 ∷ []) ≡ (Ok tt, 0xD55C ∷ 0xAD6D ∷ 0xC5B4 ∷ [])
unfolding found
hangugeo = refl

-- the Japanese "nihongo"
nihongo : found (0xE6 ∷ 0x97 ∷ 0xA5 ∷ 0xE6 ∷ 0x9C ∷ 0xAC ∷ 0xE8 ∷ 0xAA ∷ 0x9E ∷ []) ≡ (Ok tt, 0x65E5 ∷ 0x672C ∷ 0x8A9E ∷ [])
unfolding found
nihongo = refl

-- U+233B4 behind a byte order mark
stump : found (0xEF ∷ 0xBB ∷ 0xBF ∷ 0xF0 ∷ 0xA3 ∷ 0x8E ∷ 0xB4 ∷ []) ≡ (Ok tt, 0xFEFF ∷ 0x233B4 ∷ [])
unfolding found
stump = refl

-- The first and the last code point of each length (section 3).
ends : found (0x00 ∷ 0x7F ∷ 0xC2 ∷ 0x80 ∷ 0xDF ∷ 0xBF ∷ 0xE0 ∷ 0xA0 ∷ 0x80 ∷ 0xEF ∷ 0xBF ∷ 0xBF ∷ 0xF0 ∷ 0x90 ∷ 0x80 ∷ 0x80 ∷ 0xF4 ∷ 0x8F ∷ 0xBF ∷ 0xBF ∷ []) ≡ (Ok tt, 0x00 ∷ 0x7F ∷ 0x80 ∷ 0x7FF ∷ 0x800 ∷ 0xFFFF ∷ 0x10000 ∷ 0x10FFFF ∷ [])
unfolding found
ends = refl

-- "the overlong UTF-8 sequence C0 80"
overlong : found (0xC0 ∷ 0x80 ∷ []) ≡ (bad NoStart 0, [])
unfolding found
overlong = refl

-- "the surrogate pair ED A1 8C ED BE B4"
surrogates : found (0xED ∷ 0xA1 ∷ 0x8C ∷ 0xED ∷ 0xBE ∷ 0xB4 ∷ []) ≡ (bad NotAllowed 0, [])
unfolding found
surrogates = refl

-- a "/../" that is hidden so (section 10)
dots : found (0x2F ∷ 0xC0 ∷ 0xAE ∷ 0x2E ∷ 0x2F ∷ []) ≡ (bad NoStart 1, 0x2F ∷ [])
unfolding found
dots = refl

-- a code point above U+10FFFF
past-the-last : found (0xF4 ∷ 0x90 ∷ 0x80 ∷ 0x80 ∷ []) ≡ (bad NotAllowed 0, [])
unfolding found
past-the-last = refl

-- "The octet values C0, C1, F5 to FF never appear."
never : found (0xF5 ∷ []) ≡ (bad NoStart 0, [])
unfolding found
never = refl

-- an overlong "/"
overlong-slash : found (0xE0 ∷ 0x80 ∷ 0xAF ∷ []) ≡ (bad NotAllowed 0, [])
unfolding found
overlong-slash = refl

-- a tail with no first byte
lone-tail : found (0x61 ∷ 0x80 ∷ []) ≡ (bad NoStart 1, 0x61 ∷ [])
unfolding found
lone-tail = refl

-- a sequence that the text ends in
cut : found (0x61 ∷ 0xE2 ∷ 0x89 ∷ []) ≡ (bad Cut 1, 0x61 ∷ [])
unfolding found
cut = refl

-- a byte that is no tail
no-tail : found (0xE2 ∷ 0x28 ∷ 0xA1 ∷ []) ≡ (bad NotAllowed 0, [])
unfolding found
no-tail = refl

-- the first wrong sequence counts, also where a later one is cut
first-counts : found (0xC2 ∷ 0xA9 ∷ 0xE2 ∷ 0x41 ∷ 0xE2 ∷ 0x89 ∷ []) ≡ (bad NotAllowed 2, 0xA9 ∷ [])
unfolding found
first-counts = refl
