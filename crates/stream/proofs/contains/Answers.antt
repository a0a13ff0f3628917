-- `contains` meets its contract: the library's test of a list asks the same of each of its tokens.
use Rattle.std.specs.Prelude.{◌≡◌, refl, List, [], ◌∷◌, ℕ, eqb, nat_eq}
use Rattle.std.specs.List.{list_any}
use Rattle.std.proofs.Common.{◌∙◌, arith}
use Rattle.std.proofs.lemmas.Bool.Decides.{nat_tests}
use Rattle.definition.specs.Tokens.{contains}
use Rattle.stream.proofs.contains.Goals as goal

swapped : (a b : ℕ) → nat_eq a b ≡ eqb b a
swapped a b = grind (arith, nat_tests)

same : (list : List ℕ) (token : ℕ) → list_any (λ t. nat_eq t token) list ≡ contains list token
unfolding contains
same [] token = refl
same (t ∷ ts) token = rw (swapped t token, same ts token) refl

pub returns : goal.returns
returns c = c.contains.ensures.value ∙ same c.args.list.now c.args.token
