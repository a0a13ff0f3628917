-- A string without a backslash has the very bytes that stand between its quotes, and no report (01, W7).
use Rattle.std.specs.Prelude.{◌≡◌, refl, List, [], ◌∷◌, map, ℕ, ◌+◌}
use Rattle.std.proofs.Common.{◌∙◌, ap, ne_eqb}
use Rattle.literals.specs.declared.Span.{Span}
use Rattle.literals.specs.Strings.{Event, byte, bytes_of, between, decoded_from, decode_string}

abbrev pub NoBackslash : List ℕ → Type 0
NoBackslash [] = Unit {0}
NoBackslash (b ∷ s) = (b ≡ 92 → ⊥) × NoBackslash s

verbatim-from : (at : ℕ) (s : List ℕ) → NoBackslash s → decoded_from at 0 s ≡ map byte s
unfolding decoded_from
verbatim-from at [] h = refl
verbatim-from at (b ∷ s) h = rw (ne_eqb b 92 h.0) (ap (λ (es : List Event). byte b ∷ es) (verbatim-from (at + 1) s h.1))

pub verbatim : (token : Span) (s : List ℕ) → NoBackslash (between 1 s) → decode_string token s ≡ map byte (between 1 s)
unfolding decode_string
verbatim token s h = verbatim-from (token.start + 1) (between 1 s) h

bytes-map : (s : List ℕ) → bytes_of (map byte s) ≡ s
unfolding bytes_of
bytes-map [] = refl
bytes-map (b ∷ s) = ap (λ (l : List ℕ). b ∷ l) (bytes-map s)

pub verbatim-bytes : (token : Span) (s : List ℕ) → NoBackslash (between 1 s) → bytes_of (decode_string token s) ≡ between 1 s
verbatim-bytes token s h = ap bytes_of (verbatim token s h) ∙ bytes-map (between 1 s)
