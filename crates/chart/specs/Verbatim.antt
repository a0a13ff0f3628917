-- A `"` string without a backslash is derived with the very bytes between its quotes (01, W7), whatever characters they are.
use Rattle.std.specs.Prelude.{◌≡◌, refl, true, List, [], ◌∷◌, ◌++◌, map, ℕ}
use Rattle.std.proofs.Common.{◌∙◌, ap, subst}
use Rattle.words.specs.Token
use Rattle.literals.specs.Spelling.{span}
use Rattle.literals.specs.Strings.{byte, between}
use Rattle.literals.proofs.Verbatim.{NoBackslash, verbatim, verbatim-bytes}
use Rattle.chart.specs.Row.{Lexeme, RowToken, token}
use Rattle.chart.specs.Tree.{quiet, string_tree}
use Rattle.chart.specs.Chart as Chart
use Rattle.chart.specs.Chart.{Derives, operand, strings}

quiet-bytes : (s : List ℕ) → quiet (map byte s) ≡ true
unfolding quiet
quiet-bytes [] = refl
quiet-bytes (b ∷ s) = quiet-bytes s

pub derived-verbatim : (v : Lexeme) {xs ys : List RowToken} {bs : List ℕ} → NoBackslash (between 1 v.spelling) → Derives strings xs ys (string_tree bs)
    → Derives operand (token Token.LooseStringLiteral v ∷ xs) ys (string_tree (between 1 v.spelling ++ bs))
derived-verbatim v {xs} {ys} {bs} h d =
    subst (λ (s : List ℕ). Derives operand (token Token.LooseStringLiteral v ∷ xs) ys (string_tree (s ++ bs))) (verbatim-bytes (span 0 0) v.spelling h)
    (Chart.string (ap quiet (verbatim (span 0 0) v.spelling h) ∙ quiet-bytes (between 1 v.spelling)) d)
