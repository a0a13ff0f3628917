-- What each accessor tells, by its number: 32 numbers to a group.
use Rattle.std.specs.Prelude.{List, [], ◌∷◌, ℕ, ◌/◌}
use Rattle.looking.specs.View.{Seen, none}
use Rattle.looking.specs.declared.TokenSpan.{TokenSpan}
use Rattle.accessors.specs.Rows.{pick}
use Rattle.accessors.specs.Any
use Rattle.accessors.specs.Declarations
use Rattle.accessors.specs.Statements
use Rattle.accessors.specs.Functions
use Rattle.accessors.specs.Operators
use Rattle.accessors.specs.Structs
use Rattle.accessors.specs.Branches

abbrev pub numbers : ℕ → List ℕ → ℕ → List (ℕ × List (ℕ × Seen ℕ))
numbers i ns n =
    (0, Any.numbers i ns n) ∷
    (1, Declarations.numbers i ns n) ∷
    (2, Statements.numbers i ns n) ∷
    (3, Functions.numbers i ns n) ∷
    (4, Operators.numbers i ns n) ∷
    (5, Structs.numbers i ns n) ∷
    (6, Branches.numbers i ns n) ∷ []

-- The accessors that tell a number: a node, a name, a flag, an operator.
abbrev pub number_view : ℕ → ℕ → List ℕ → ℕ → Seen ℕ
number_view which i ns n = pick none (pick [] (numbers i ns n) (which / 32)) which

abbrev pub spans : List ℕ → ℕ → List (ℕ × List (ℕ × Seen TokenSpan))
spans ns n =
    (0, Any.spans ns n) ∷
    (1, Declarations.spans ns n) ∷
    (2, Statements.spans ns n) ∷
    (3, Functions.spans ns n) ∷
    (4, Operators.spans ns n) ∷
    (5, Structs.spans ns n) ∷
    (6, Branches.spans ns n) ∷ []

-- The accessors that tell the tokens of a node or of a path.
abbrev pub span_view : ℕ → List ℕ → ℕ → Seen TokenSpan
span_view which ns n = pick none (pick [] (spans ns n) (which / 32)) which

abbrev pub counts : List ℕ → ℕ → List (ℕ × List (ℕ × Seen ℕ))
counts ns n =
    (0, Any.counts ns n) ∷
    (1, Declarations.counts ns n) ∷
    (2, Statements.counts ns n) ∷
    (3, Functions.counts ns n) ∷
    (4, Operators.counts ns n) ∷
    (5, Structs.counts ns n) ∷
    (6, Branches.counts ns n) ∷ []

-- The accessors that tell how many there are.
abbrev pub count_view : ℕ → List ℕ → ℕ → Seen ℕ
count_view which ns n = pick none (pick [] (counts ns n) (which / 32)) which
