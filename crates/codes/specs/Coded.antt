-- An answer as numbers of 64 bits, for callers that take plain numbers.
use Rattle.std.specs.Prelude.{cond, List, [], ◌∷◌, ℕ, ◌+◌, ◌*◌, ◌^◌, leb, length, get_or}
use Rattle.std.proofs.lemmas.List.Edits.{sets}
use Rattle.words.specs.Answer.{Answer, done, refused}
use Rattle.looking.specs.View as View
use Rattle.looking.specs.declared.TokenSpan.{TokenSpan}

-- The first count, or the refusal's number above its place. A place is below 2 to the 32nd, and no refusal has number 0.
abbrev pub coded : Answer → ℕ
coded (done counts) = get_or counts 0 0
coded (refused number place) = number * 2 ^ 32 + place

-- The same where the counts are written into words that are lent for them: 0 in the place of a count.
abbrev pub outcome : Answer → ℕ
outcome (done counts) = 0
outcome (refused number place) = coded (refused number place)

-- The counts stand first in these words, where there are so many; a refusal writes none.
abbrev pub counted : Answer → List ℕ → List ℕ
counted (done counts) lent = cond (leb (length counts) (length lent)) (sets lent 0 counts) lent
counted (refused number place) lent = lent

-- ---- views

-- None, as a number: above every number of 32 bits and every refusal.
abbrev pub nothing : ℕ
nothing = 2 ^ 63

-- What a view tells: the number itself, none, or a refusal.
abbrev pub viewed : View.Seen ℕ → ℕ
viewed (View.is n) = n
viewed View.none = nothing
viewed (View.refused number place) = coded (refused number place)

-- The same where tokens are told, which are written into words that are lent for them: 0 in the place of a number.
abbrev pub spanned : View.Seen TokenSpan → ℕ
spanned (View.is span) = 0
spanned View.none = nothing
spanned (View.refused number place) = coded (refused number place)

-- The first token and the one past the last stand first in these words, where there are two; else nothing is written.
abbrev pub bounds : View.Seen TokenSpan → List ℕ → List ℕ
bounds (View.is span) lent = cond (leb 2 (length lent)) (sets lent 0 (span.start ∷ span.end ∷ [])) lent
bounds View.none lent = lent
bounds (View.refused number place) lent = lent
