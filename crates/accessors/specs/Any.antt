-- Any node, which node an expression is, and where a node stands: the numbers of the accessors, and what each tells.
use Rattle.std.specs.Prelude.{List, [], ◌∷◌, ℕ}
use Rattle.looking.specs.View.{Seen, ident}
use Rattle.looking.specs.declared.TokenSpan.{TokenSpan}
use Rattle.looking.specs.Any.{kind, span, child, child_count, parent}
use Rattle.expr.specs.Expr.{expr, struct_body}
use Rattle.walking.specs.Walks.{enclosing_declaration, node_at_token}

abbrev pub numbers : ℕ → List ℕ → ℕ → List (ℕ × Seen ℕ)
numbers i ns n =
    (0, kind ns n) ∷
    (2, child i ns n) ∷
    (4, ident ns n) ∷
    (5, expr ns n) ∷
    (6, struct_body ns n) ∷
    (7, parent ns n) ∷
    (8, enclosing_declaration ns n) ∷
    (9, node_at_token i ns n) ∷ []

abbrev pub spans : List ℕ → ℕ → List (ℕ × Seen TokenSpan)
spans ns n =
    (1, span ns n) ∷ []

abbrev pub counts : List ℕ → ℕ → List (ℕ × Seen ℕ)
counts ns n =
    (3, child_count ns n) ∷ []
